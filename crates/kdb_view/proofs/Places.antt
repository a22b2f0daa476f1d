-- The place of a byte in a word.
use Rattle.std.proofs.Common.{◌≡◌, ℕ, ◌<◌, Bool, false, List, length, Option, None, Some, is_none, refl, sym}
use Rattle.std.specs.Prelude.{MatchOption, position}
use Rattle.std.proofs.lemmas.List.Quantifiers.{position-Some}

pub position_within : (p : ℕ → Bool) (word : List ℕ) (r : Option ℕ) → r ≡ position p word → MatchOption r (r ≡ None) (λ place. place < length word)
position_within p word None is = refl
position_within p word (Some place) is = (position-Some p word place 0 (sym is)).0

pub is_none_not : {A : Type 0} (o : Option A) → (o ≡ None → ⊥) → is_none o ≡ false
is_none_not None never = absurd (never refl)
is_none_not (Some x) never = refl
