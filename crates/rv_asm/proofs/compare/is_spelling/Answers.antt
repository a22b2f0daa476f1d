use Rattle.std.proofs.Common.{◌≡◌, ℕ, Bool, true, false, List, [], Option, Some, None, ◌++◌, ◌==◌, length, sym, ap, ◌∙◌, append-nil}
use Rattle.std.proofs.lemmas.Bool.{eqb-true, eq-eqb, false≢true}
use Rattle.std.proofs.lemmas.List.{nil_from_length}
use Rattle.rv_asm.specs.Rest.{after}
use Rattle.rv_asm.specs.Spelling.{insn_text}
use Rattle.rv_asm.proofs.Rest.{after_text, after_is}
use Rattle.rv_asm.proofs.compare.is_spelling.Goals as goal

-- nothing follows a text in the line that is the text alone
after_whole : (text line : List ℕ) → line ≡ text → after text line ≡ Some []
after_whole text line e = ap (after text) (e ∙ sym (append-nil text)) ∙ after_text text []

whole_is : (text line rest : List ℕ) → after text line ≡ Some rest → rest ≡ [] → line ≡ text
whole_is text line rest e none = after_is text line rest e ∙ ap (λ r. text ++ r) none ∙ append-nil text

same_rest : (o : Option (List ℕ)) (a b : List ℕ) → o ≡ Some a → o ≡ Some b → a ≡ b
same_rest o a b e f = let same = sym e ∙ f in cc

no_rest : (o : Option (List ℕ)) (a : List ℕ) → o ≡ None → o ≡ Some a → false ≡ true
no_rest o a e f = let same = sym e ∙ f in absurd (cc)

tells : (text line rest : List ℕ) (empty : Bool) → empty ≡ (length rest == 0) → after text line ≡ Some rest
    → (empty ≡ true → line ≡ text) × (line ≡ text → empty ≡ true)
tells text line rest empty is some = (
  λ e. whole_is text line rest some (nil_from_length rest (eqb-true _ _ (sym is ∙ e))),
  λ e. is ∙ eq-eqb (length rest) 0 (ap length (same_rest (after text line) rest [] some (after_whole text line e))),
)

pub returns-in-Some : goal.returns-in-Some
returns-in-Some c = tells (insn_text c.args.word) c.args.line.now c.in-Some.rest.now c.is_empty.result c.is_empty.ensures c.in-Some.ensures

pub returns-in-None : goal.returns-in-None
returns-in-None c =
    (λ e. absurd (false≢true e), λ e. no_rest (after (insn_text c.args.word) c.args.line.now) [] c.in-None.ensures (after_whole (insn_text c.args.word) c.args.line.now e))
