-- What the condition of a call of the bus says.
use Rattle.std.proofs.Common.{◌≡◌, ◌||◌, true, false, inl, inr}
use Rattle.std.proofs.lemmas.Bool.{and_parts, or_cases, both_ways}
use Rattle.deck_core.specs.contract.Told.{Told}
use Rattle.deck_core.specs.contract.Allowed.{is_allowed, is_legal, names_are_there}
use Rattle.deck_core.specs.declared.plain.act.Act.{Act}

-- the harts and places that an allowed call names are there
pub allowed_names : (a : Act) (b : Told) → is_allowed a b ≡ true → names_are_there a b.harts ≡ true
unfolding is_allowed
allowed_names a b h = (and_parts (names_are_there a b.harts) (b.over || is_legal a b) h).0

-- an allowed call is legal while no ending stands
pub allowed_legal : (a : Act) (b : Told) → is_allowed a b ≡ true → b.over ≡ false → is_legal a b ≡ true
unfolding is_allowed
allowed_legal a b h w =
    elim (or_cases b.over (is_legal a b) ((and_parts (names_are_there a b.harts) (b.over || is_legal a b) h).1)) [
      | inl o ↦ absurd (both_ways b.over w o)
      | inr l ↦ l
    ]
