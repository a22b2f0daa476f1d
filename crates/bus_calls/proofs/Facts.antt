-- What a bus tells, and buses of one origin.
use Rattle.std.proofs.Common.{◌≡◌, ℕ, suc, ◌+◌, ◌*◌, ◌^◌, ◌<◌, ◌≤◌, ◌&&◌, ◌||◌, Bool, true, false, not, cond, List, [], ◌++◌, Option, Some, None, is_some, is_none, refl, sym, ap, subst, ◌∙◌, arith}
use Rattle.std.proofs.Math.Logic.{∥∥₁_map, ∥∥₁_elim, ∥∥₁_prop}
use Rattle.std.proofs.lemmas.Bool.{false≢true}
use Rattle.mach_base.specs.declared.event.Entry.{Entry}
use Rattle.mach_base.specs.declared.event.Ending.{Ending}
use Rattle.deck_core.specs.contract.Told.{Told}
use Rattle.deck_core.specs.contract.Allowed.{is_allowed}
use Rattle.deck_core.specs.declared.plain.act.Act.{Act}
use Rattle.deck_core.specs.declared.plain.act.Answer.{Answer}
use Rattle.atom_mach.specs.State.{hart_count}
use Rattle.plant_mach.specs.Machine.{PlantedMachine}
use Rattle.plant_mach.specs.Order.{IsOrderly}
use Rattle.plant_mach.proofs.Ordered.{starts_are_orderly, entries_keep_order}
use Rattle.plant_told.specs.Told.{Counted, told_of}
use Rattle.plant_told.specs.Laws.{IsGoing, IsAllowed}
use Rattle.plant_room.specs.Room.{counted_after}
use Rattle.bus_core.specs.declared.outer.Core.{Core}
use Rattle.bus_core.specs.Core.{machine_of, entries_of, text_of}
use Rattle.bus_core.proofs.Lists.{orderly}
use Rattle.bus_calls.specs.declared.bus.Stood.{Stood}
use Rattle.bus_calls.specs.declared.bus.CoreBus.{CoreBus}
use Rattle.bus_calls.specs.Running.{counted_with, IsRunning, KeepsRunning}
use Rattle.bus_calls.specs.Bus.{counted_of, ending_of, is_over, told_lost, told}
use Rattle.bus_calls.specs.Calls.{IsLeft, IsMadeBy}

-- What is told.

pub over_told : (b : CoreBus) → (told b).over ≡ is_over b
unfolding told told_of
over_told b = by_lost b.core.lost
  where
    by_lost : (l : Bool) → (cond l (told_lost b) (told_of (counted_of b))).over ≡ (l || is_some (machine_of b.core).ending)
    by_lost true = refl
    by_lost false = refl

pub told_here : (b : CoreBus) → b.core.lost ≡ false → told b ≡ told_of (counted_of b)
unfolding told
told_here b here = ap (λ l. cond l (told_lost b) (told_of (counted_of b))) here

pub told_gone : (b : CoreBus) → b.core.lost ≡ true → told b ≡ told_lost b
unfolding told
told_gone b gone = ap (λ l. cond l (told_lost b) (told_of (counted_of b))) gone

none_of : (o : Option Ending) → is_some o ≡ false → o ≡ None
none_of None e = refl
none_of (Some x) e = absurd (false≢true (sym e))

neither : (a b : Bool) → (a || b) ≡ false → (a ≡ false) × (b ≡ false)
neither true b e = absurd (false≢true (sym e))
neither false b e = (refl, e)

-- a bus that isn't over is here, and has no ending
pub here_of : (b : CoreBus) → is_over b ≡ false → b.core.lost ≡ false
here_of b e = (neither b.core.lost _ e).0

pub none_ending : (b : CoreBus) → is_over b ≡ false → (machine_of b.core).ending ≡ None
none_ending b e = none_of (machine_of b.core).ending (neither b.core.lost _ e).1

-- the machine of a core that isn't lost is in order
pub order_of : (b : CoreBus) → b.core.lost ≡ false → ∥ IsOrderly (machine_of b.core) ∥₁
order_of b here = ∥∥₁_map b.core.made (λ h. orderly starts_are_orderly entries_keep_order (entries_of b.core) (text_of b.core) (machine_of b.core) b.core.lost here h)

pub going_of : (b : CoreBus) → is_over b ≡ false → ∥ IsGoing (counted_of b) ∥₁
going_of b e =
    ∥∥₁_elim (order_of b (here_of b e)) ∥∥₁_prop (λ o. ∥∥₁_map b.running (λ keeps.
    let runs = keeps (here_of b e) (none_ending b e) in
    record { order = o; awake = runs.awake; ending = none_ending b e; held = runs.held }))

-- an allowed call, by what the machine tells
pub allowed_here : (call : Act) (b : CoreBus) → is_over b ≡ false → is_allowed call (told b) ≡ true → IsAllowed call (counted_of b)
allowed_here call b e allowed = ap (is_allowed call) (sym (told_here b (here_of b e))) ∙ allowed

-- Buses that were left as they were.

abbrev told_by : Bool → PlantedMachine → ℕ → Bool → Bool → Stood → Told
told_by lost p sends stepped released stood =
    cond lost (record {
      harts = hart_count p.machine;
      mask = stood.mask;
      planted = 0;
      enabled = 0;
      step = None;
      session = None;
      lines = stood.lines;
      sends = sends;
      stepped = false;
      over = true;
      traps = 0;
      faults = 0;
      next = None;
      plantable = false;
    }) (told_of (record { machine = p; sends = sends; stepped = stepped; released = released }))

pub left_told : (a b : CoreBus) → IsLeft false a b → told b ≡ told a
unfolding told
left_told a b left =
    ap (λ l. told_by l (machine_of b.core) b.sends b.stepped b.released b.stood) left.core.lost
    ∙ ap (λ p. told_by a.core.lost p b.sends b.stepped b.released b.stood) left.core.machine
    ∙ ap (λ n. told_by a.core.lost (machine_of a.core) n b.stepped b.released b.stood) left.sends
    ∙ ap (λ s. told_by a.core.lost (machine_of a.core) a.sends s b.released b.stood) left.stepped
    ∙ ap (λ r. told_by a.core.lost (machine_of a.core) a.sends a.stepped r b.stood) left.released
    ∙ ap (λ s. told_by a.core.lost (machine_of a.core) a.sends a.stepped a.released s) left.stood

-- a closing after the end takes the mask away
pub released_told : (a b : CoreBus) → IsLeft true a b → told b ≡ record (told a) { mask = 0 }
unfolding told told_of
released_told a b left =
    ap (λ l. told_by l (machine_of b.core) b.sends b.stepped b.released b.stood) left.core.lost
    ∙ ap (λ p. told_by a.core.lost p b.sends b.stepped b.released b.stood) left.core.machine
    ∙ ap (λ n. told_by a.core.lost (machine_of a.core) n b.stepped b.released b.stood) left.sends
    ∙ ap (λ s. told_by a.core.lost (machine_of a.core) a.sends s b.released b.stood) left.stepped
    ∙ ap (λ r. told_by a.core.lost (machine_of a.core) a.sends a.stepped r b.stood) left.released
    ∙ ap (λ s. told_by a.core.lost (machine_of a.core) a.sends a.stepped true s) left.stood
    ∙ taken a.core.lost
  where
    taken : (l : Bool) → told_by l (machine_of a.core) a.sends a.stepped true (record a.stood { mask = 0 }) ≡ record (told_by l (machine_of a.core) a.sends a.stepped a.released a.stood) { mask = 0 }
    taken true = refl
    taken false = refl

pub made_told : (e : Entry) (a b : CoreBus) → IsMadeBy e a b → told b ≡ told_of (counted_after (counted_of a) e)
made_told e a b made = told_here b made.applied.after ∙ ap told_of made.counted
