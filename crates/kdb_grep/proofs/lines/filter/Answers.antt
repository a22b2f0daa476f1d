use Rattle.std.proofs.Common.{◌≡◌, List, ℕ, [], ◌++◌, length, sym, ap, ◌∙◌}
use Rattle.std.proofs.lemmas.Bool.{eqb-true}
use Rattle.std.proofs.lemmas.List.{nil_from_length, append-nil}
use Rattle.kdb_grep.specs.Filter.{filtered, pattern_of}
use Rattle.kdb_grep.proofs.Kept.{filtered-nil}
use Rattle.kdb_grep.proofs.lines.filter.Goals as goal

pub returns : goal.returns
returns c =
    let p = pattern_of c.args.pattern.now in
    let rest = c.loop-rest.rest.now in
    let out = c.loop-rest.out.items in
    let none : rest ≡ [] = nil_from_length rest (eqb-true (length rest) 0 (sym c.is_empty.ensures ∙ c.loop-rest-test.false)) in
    let nothing : filtered p rest ≡ [] = ap (filtered p) none ∙ filtered-nil p in
    sym (append-nil out) ∙ ap (λ (t : List ℕ). out ++ t) (sym nothing) ∙ c.loop-rest.invariant
