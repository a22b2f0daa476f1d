-- A place that was found is one of those that there are.
use Rattle.std.proofs.Common.{◌≡◌, ℕ, ◌<◌, ◌≤◌, Bool, List, length, Option, None, Some, refl, sym, subst}
use Rattle.std.specs.Prelude.{position, MatchOption}
use Rattle.std.proofs.lemmas.List.Quantifiers.{position-Some}
use Rattle.std.proofs.lemmas.List.{get_or_past}
use Rattle.mach_base.specs.Machine.{Place}
use Rattle.mach_base.specs.declared.limits.TheConstants.{PLACES}
use Rattle.kdb_bp.specs.Breaks.{place_at}

below : {X : Type 0} (test : X → Bool) (xs : List X) (d : X) (i : ℕ) → length xs ≡ PLACES → position test xs ≡ Some i → i < PLACES
below test xs d i all is = subst (λ n. i < n) all ((position-Some test xs i d is).0)

pub position_below : {X : Type 0} (test : X → Bool) (xs : List X) (d : X) (r : Option ℕ) → length xs ≡ PLACES → r ≡ position test xs → MatchOption r (r ≡ None) (λ i. i < PLACES)
position_below test xs d None all is = refl
position_below test xs d (Some i) all is = below test xs d i all (sym is)

-- there is nothing after the last place
pub place_past : (places : List (Option Place)) (i : ℕ) → length places ≤ i → place_at places i ≡ None
place_past places i out = get_or_past places i None out
