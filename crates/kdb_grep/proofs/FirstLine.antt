-- The first line of a text, found by its LF.
use Rattle.std.proofs.Common.{◌≡◌, ℕ, zero, suc, ◌+◌, ◌<◌, inl, inr, Bool, true, false, not, ◌&&◌, List, [], ◌∷◌, ◌++◌, length, take, get_or, eqb, refl, ap, ◌∙◌, arith}
use Rattle.std.specs.List.{list_all}
use Rattle.std.proofs.lemmas.Bool.{eqb-true}
use Rattle.std.proofs.lemmas.List.{take_more}
use Rattle.kdb_grep.specs.Lines.{IsLine}
use Rattle.kdb_grep.specs.Ends.{EndsLine}

not_true : (b : Bool) → (b ≡ true → ⊥) → not b ≡ true
not_true true h = absurd (h refl)
not_true false h = refl

-- bytes of which none is LF
pub IsLine-take : (text : List ℕ) (k : ℕ) → ((j : ℕ) → j < k → eqb (get_or text j 0) 10 ≡ true → ⊥) → IsLine (take k text)
IsLine-take text zero h = refl
IsLine-take [] (suc k) h = refl
IsLine-take (b ∷ bs) (suc k) h =
    let lt : 0 < suc k = omega arith in
    let here : not (eqb b 10) ≡ true = not_true (eqb b 10) (h 0 lt) in
    let rest : IsLine (take k bs) = IsLine-take bs k (λ j below. h (suc j) (omega arith)) in
    ap (λ (t : Bool). t && list_all (λ x. not (eqb x 10)) (take k bs)) here ∙ rest

-- a line up to an LF
pub EndsLine-at : (text : List ℕ) (k : ℕ) → k < length text → eqb (get_or text k 0) 10 ≡ true → ((j : ℕ) → j < k → eqb (get_or text j 0) 10 ≡ true → ⊥) → EndsLine text k (k + 1)
EndsLine-at text k lt is none = record {
  is = IsLine-take text k none;
  ends = inl (refl, take_more text k 0 lt ∙ ap (λ (b : ℕ). take k text ++ b ∷ []) (eqb-true (get_or text k 0) 10 is));
}

-- a line up to the text's end
pub EndsLine-whole : (text : List ℕ) → ((j : ℕ) → j < length text → eqb (get_or text j 0) 10 ≡ true → ⊥) → EndsLine text (length text) (length text)
EndsLine-whole text none = record { is = IsLine-take text (length text) none; ends = inr (refl, refl) }
