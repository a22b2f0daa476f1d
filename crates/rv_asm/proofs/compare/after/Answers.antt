use Rattle.std.proofs.Common.{◌≡◌, ◌≢◌, ℕ, List, ◌++◌, MatchOption, Option, Some, None, Bor, ap, ◌∙◌}
use Rattle.std.proofs.lemmas.Slice.Eq.{strip_prefix_is}
use Rattle.std.proofs.lemmas.Bool.Decides.{Decides-eqb}
use Rattle.rv_asm.specs.Rest.{after}
use Rattle.rv_asm.proofs.Rest.{after_text, after_not}
use Rattle.rv_asm.proofs.compare.after.Goals as goal

told : (text line : List ℕ) (result : Option (Bor (List ℕ))) → MatchOption result ((rest : List ℕ) → line ≢ text ++ rest) (λ rest. line ≡ text ++ rest.now)
    → MatchOption result (after text line ≡ None) (λ rest. after text line ≡ Some rest.now)
told text line None h = after_not text line h
told text line (Some rest) h = ap (after text) h ∙ after_text text rest.now

pub returns : goal.returns
returns c = told c.args.text.now c.args.line.now c.strip_prefix.result (strip_prefix_is Decides-eqb c.args.line.now c.args.text.now c.strip_prefix.result c.strip_prefix.ensures.cases)
