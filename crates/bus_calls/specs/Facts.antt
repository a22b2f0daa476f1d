-- Facts that every bus owes: a lost core counts as ended, and buses of one origin.
use Rattle.std.specs.Prelude.{◌≡◌, ℕ, ◌||◌, ◌++◌, Bool, true, false, List, [], Option, Some, None, is_some, if◌then◌else◌, refl}
use Rattle.std.proofs.Common.{sym, ap, ◌∙◌}
use Rattle.std.proofs.lemmas.List.{append-nil, append_assoc}
use Rattle.deck_core.specs.contract.Told.{Told}
use Rattle.plant_told.specs.Told.{told_of}
use Rattle.bus_core.specs.Core.{machine_of, entries_of, SameOrigin as SameCoreOrigin}
use Rattle.bus_calls.specs.declared.bus.CoreBus.{CoreBus}
use Rattle.bus_calls.specs.Bus.{counted_of, ending_of, told_lost, told}
use Rattle.bus_calls.specs.Calls.{SameOrigin}

-- what is true or false is true, or it is false
either_false : (b : Bool) → b ≡ (b || false)
either_false true = refl
either_false false = refl

-- an ending counts as standing where one stands, and where a line ran out of memory
pub over_is : (b : CoreBus) → (told b).over ≡ (is_some (ending_of b) || b.core.lost)
unfolding told told_of
over_is b = by_lost b.core.lost
  where
    by_lost : (l : Bool) → (if l then told_lost b else told_of (counted_of b)).over ≡ (is_some (if l then None else (machine_of b.core).ending) || l)
    by_lost true = refl
    by_lost false = either_false (is_some (machine_of b.core).ending)

-- a bus has the origin that it has
pub origin_here : (b : CoreBus) → SameOrigin b b
origin_here b = record { harts = refl; limit = refl; journal = ([], sym (append-nil (entries_of b.core))); origin = λ o from. from }

-- and what came of one that came of another came of that other
pub origin_on : (a b c : CoreBus) → SameOrigin a b → SameOrigin b c → SameOrigin a c
origin_on a b c ab bc = record {
  harts = bc.harts ∙ ab.harts;
  limit = bc.limit ∙ ab.limit;
  journal = (ab.journal.0 ++ bc.journal.0, bc.journal.1 ∙ ap (λ es. es ++ bc.journal.0) ab.journal.1 ∙ append_assoc (entries_of a.core) ab.journal.0 bc.journal.0);
  origin = λ o from. bc.origin o (ab.origin o from);
}
