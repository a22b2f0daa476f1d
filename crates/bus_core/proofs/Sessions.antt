-- What holds where a session may open, and where a line is read.
use Rattle.std.proofs.Common.{◌≡◌, ℕ, ◌<◌, ◌^◌, ◌&&◌, ◌==◌, Bool, true, false, not, ltb, List, [], ◌∷◌, Option, Some, None, is_some, refl, sym, subst}
use Rattle.std.proofs.lemmas.Bool.{false≢true, ltb-true}
use Rattle.mach_base.specs.Masks.{has_bit}
use Rattle.mach_base.specs.declared.event.Hart.{Hart}
use Rattle.mach_base.specs.declared.event.Reason.{Reason}
use Rattle.mach_base.specs.declared.event.Entry.TheVariants.{Open, Line}
use Rattle.deck_core.specs.declared.plain.notes.Sitting.{Sitting}
use Rattle.deck_core.specs.contract.Allowed.{in_session, is_of, is_lines}
use Rattle.atom_mach.specs.State.{hart_count}
use Rattle.atom_mach.specs.Session.{is_hart}
use Rattle.atom_mach.specs.Modes.{IsSitting}
use Rattle.atom_mach.proofs.Booleans.{and_true, not_is}
use Rattle.plant_mach.specs.Machine.{PlantedMachine, planted_of}
use Rattle.plant_mach.specs.Order.{IsSeated}
use Rattle.bus_core.specs.Seated.{IsGathered}
use Rattle.plant_mach.specs.Entries.{can_sit, reason_now, has_line, may}

-- Where a session may open: its harts are there, and there is a reason.
pub record IsOpening (p : PlantedMachine) (m : Hart) (late : ℕ) : Type 0 where
  pub sitting : IsSitting (hart_count p.machine) m late
  pub reason : is_some (reason_now p m.0 late) ≡ true

pub open_facts : (p : PlantedMachine) (m : Hart) (late : ℕ) → may p (Open m late) ≡ true → IsOpening p m late
unfolding may
open_facts p m late e =
    let a = and_true (can_sit p.machine m.0 late) _ e in
    let b = and_true (is_hart p.machine m.0) _ a.0 in
    let c = and_true _ (not (has_bit late m.0)) b.1 in
    record {
      sitting = record {
        master = ltb-true m.0 (hart_count p.machine) b.0;
        late_ones = ltb-true late (2 ^ hart_count p.machine) c.0;
        on_time = not_is (has_bit late m.0) c.1;
      };
      reason = a.1;
    }

-- Where a line may be read: there is one, and a session.
pub record IsReadable (p : PlantedMachine) (h : Hart) : Type 0 where
  pub line : has_line p.machine.unread ≡ true
  pub session : (p.session ≡ None) → ⊥

some_session : (test : Sitting → Bool) (session : Option Sitting) → in_session test session ≡ true → session ≡ None → ⊥
some_session test None e none = false≢true e
some_session test (Some s) e none = absurd (cc)

pub line_facts : (p : PlantedMachine) (h : Hart) → may p (Line h) ≡ true → IsReadable p h
unfolding may
line_facts p h e =
    let a = and_true (in_session (λ s. is_of h.0 s && is_lines s.stage) p.session) _ e in
    let b = and_true (planted_of p == 0) _ a.1 in
    record { line = b.1; session = some_session (λ s. is_of h.0 s && is_lines s.stage) p.session a.0 }

-- The open session.

-- its harts are there
pub seated_in : (session : Option Sitting) (s : Sitting) (harts : ℕ) → session ≡ Some s → IsSeated harts session → IsSitting harts s.master s.late
seated_in session s harts is seated = subst (IsSeated harts) is seated

-- the current processor isn't late
pub gathered_in : (session : Option Sitting) (s : Sitting) (current : ℕ) → session ≡ Some s → IsGathered session current → has_bit s.late current ≡ false
gathered_in session s current is gathered = subst (λ (o : Option Sitting). IsGathered o current) is gathered

pub gathered_by : (session : Option Sitting) (s : Sitting) (current : ℕ) → session ≡ Some s → has_bit s.late current ≡ false → IsGathered session current
gathered_by session s current is none = subst (λ (o : Option Sitting). IsGathered o current) (sym is) none
