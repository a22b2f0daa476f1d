-- Where the sign of an expression stands.
use Rattle.std.proofs.Common.{◌≡◌, ℕ, ◌+◌, ◌<◌, List, [], ◌∷◌, length, Option, None, Some, refl, sym, arith}
use Rattle.std.specs.Prelude.{MatchOption}
use Rattle.std.proofs.lemmas.List.Quantifiers.{position-Some}
use Rattle.kdb_expr.specs.Expression.{is_sign, sign_place}

-- the sign stands inside the word
within : (word : List ℕ) (place : ℕ) → sign_place word ≡ Some place → place + 1 < length word
within [] place is = absurd (cc)
within (b ∷ bs) place is =
    let inside : place < length bs = (position-Some is_sign bs place 0 is).0 in
    omega arith

pub sign_place_within : (word : List ℕ) (r : Option ℕ) → r ≡ sign_place word → MatchOption r (r ≡ None) (λ place. place + 1 < length word)
sign_place_within word None is = refl
sign_place_within word (Some place) is = within word place (sym is)
