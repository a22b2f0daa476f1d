-- What is seen of a bus by itself.
use Rattle.std.proofs.Common.{◌≡◌, ℕ, suc, ◌+◌, ◌-◌, ◌*◌, ◌<◌, ◌≤◌, ◌&&◌, ◌||◌, Bool, true, false, cond, List, length, Option, Some, None, is_some, nat_lt, refl, sym, ap, subst, ◌∙◌, arith}
use Rattle.std.proofs.Math.Logic.{∥∥₁_elim}
use Rattle.std.proofs.Math.Bool.{Bool-set}
use Rattle.std.proofs.lemmas.Bool.{ltb-true}
use Rattle.std.proofs.lemmas.List.FromFn.{length-map-range_with_len}
use Rattle.mach_base.specs.Machine.{Symbol}
use Rattle.mach_base.specs.declared.event.Hart.{Hart}
use Rattle.mach_base.specs.declared.event.Fault.{Fault}
use Rattle.mach_base.specs.declared.event.Entry.TheVariants as entry
use Rattle.mach_base.specs.declared.event.Ending.TheVariants.{ScriptEnd}
use Rattle.img_text.specs.Image.{ImageRecord}
use Rattle.img_text.specs.Boot.{first_context}
use Rattle.deck_core.specs.declared.plain.act.Act.TheVariants as act
use Rattle.deck_core.specs.declared.plain.notes.Notes.{Notes}
use Rattle.deck_core.specs.contract.Told.{Told, told_of as told_from}
use Rattle.deck_core.specs.contract.Allowed.{is_allowed}
use Rattle.atom_mach.specs.State.{hart_count, start_state}
use Rattle.atom_mach.specs.Traps.{fault_of}
use Rattle.atom_mach.proofs.Booleans.{and_true}
use Rattle.plant_mach.specs.Machine.{PlantedMachine, planted_start, held_of}
use Rattle.plant_mach.specs.Entries.{faults, has_line, may}
use Rattle.plant_told.specs.Told.{mask_of, told_of}
use Rattle.plant_told.specs.Laws.{IsAwake}
use Rattle.plant_told.proofs.Legal.{calls_legal}
use Rattle.plant_room.specs.Room.{bytes_left, text_left}
use Rattle.plant_room.specs.Laws.{StartsHaveRoom}
use Rattle.bus_core.specs.declared.outer.Core.{Core}
use Rattle.bus_core.specs.Core.{machine_of, journal_room, text_room}
use Rattle.bus_calls.specs.declared.bus.CoreBus.{CoreBus}
use Rattle.bus_calls.specs.Running.{counted_with, KeepsRunning}
use Rattle.bus_calls.specs.Bus.{counted_of, is_over, told_lost, told}
use Rattle.bus_calls.proofs.Facts.{told_here, told_gone, here_of, none_ending, going_of, allowed_here}

pub harts_told : (b : CoreBus) → (told b).harts ≡ hart_count (machine_of b.core).machine
unfolding told told_of
harts_told b = by_lost b.core.lost
  where
    by_lost : (l : Bool) → (cond l (told_lost b) (told_of (counted_of b))).harts ≡ hart_count (machine_of b.core).machine
    by_lost true = refl
    by_lost false = refl

pub mask_lost : (b : CoreBus) → b.core.lost ≡ true → b.stood.mask ≡ (told b).mask
mask_lost b gone = sym (ap (λ (t : Told). t.mask) (told_gone b gone))

pub mask_here : (b : CoreBus) → b.core.lost ≡ false → mask_of b.released (machine_of b.core) ≡ (told b).mask
unfolding told_of
mask_here b here = sym (ap (λ (t : Told). t.mask) (told_here b here))

pub mask_taken : (b : CoreBus) → b.core.lost ≡ false → b.released ≡ true → 0 ≡ (told b).mask
mask_taken b here taken = sym (ap (λ r. mask_of r (machine_of b.core)) taken) ∙ mask_here b here

pub mask_held : (b : CoreBus) → b.core.lost ≡ false → b.released ≡ false → held_of (machine_of b.core) ≡ (told b).mask
mask_held b here held = sym (ap (λ r. mask_of r (machine_of b.core)) held) ∙ mask_here b here

-- what is told, built again from the number of harts, the mask and the notes
pub rebuilt : (x : Told) (n m : ℕ) (notes : Notes) → x ≡ told_from n m notes → x ≡ told_from x.harts x.mask notes
rebuilt x n m notes e = e ∙ ap (λ k. told_from k m notes) (sym (ap (λ (t : Told). t.harts) e)) ∙ ap (λ k. told_from x.harts k notes) (sym (ap (λ (t : Told). t.mask) e))

-- the hart of a check is one of the machine's
pub check_there : (b : CoreBus) (h : Hart) → is_allowed (act.Check h) (told b) ≡ true → h.0 < hart_count (machine_of b.core).machine
unfolding is_allowed
check_there b h e = subst (λ n. h.0 < n) (harts_told b) (ltb-true h.0 (told b).harts (and_true (nat_lt h.0 (told b).harts) _ e).0)

-- the session isn't released while the run goes on
pub unreleased : (b : CoreBus) → is_over b ≡ false → b.released ≡ false
unreleased b going = ∥∥₁_elim b.running (Bool-set _ _) (λ keeps. (keeps (here_of b going) (none_ending b going)).held)

pub held_now : (b : CoreBus) → is_over b ≡ false → held_of (machine_of b.core) ≡ mask_of b.released (machine_of b.core)
held_now b going = sym (ap (λ r. mask_of r (machine_of b.core)) (unreleased b going))

-- Entries of calls that answer.

pub enter_may : (b : CoreBus) (h : Hart) (late : ℕ) → is_over b ≡ false → is_allowed (act.Enter h late) (told b) ≡ true → may (machine_of b.core) (entry.Open h late) ≡ true
enter_may b h late going may_be = ∥∥₁_elim (going_of b going) (Bool-set _ _) (λ goes. calls_legal.enter (counted_of b) h late goes (allowed_here (act.Enter h late) b going may_be))

pub line_may : (b : CoreBus) (h : Hart) → is_over b ≡ false → is_allowed (act.Line h) (told b) ≡ true → has_line (machine_of b.core).machine.unread ≡ true → may (machine_of b.core) (entry.Line h) ≡ true
line_may b h going may_be there = ∥∥₁_elim (going_of b going) (Bool-set _ _) (λ goes. calls_legal.line (counted_of b) h goes (allowed_here (act.Line h) b going may_be) there)

pub end_may : (b : CoreBus) (h : Hart) → is_over b ≡ false → is_allowed (act.Line h) (told b) ≡ true → has_line (machine_of b.core).machine.unread ≡ false → may (machine_of b.core) (entry.Off ScriptEnd) ≡ true
end_may b h going may_be none = ∥∥₁_elim (going_of b going) (Bool-set _ _) (λ goes. calls_legal.script_end (counted_of b) h goes (allowed_here (act.Line h) b going may_be) none)

none_of : (o : Option Fault) → is_some o ≡ false → o ≡ None
none_of None e = refl
none_of (Some x) e = absurd (cc)

pub pass_may : (b : CoreBus) (h : Hart) → is_over b ≡ false → is_allowed (act.PassStep h) (told b) ≡ true → faults (machine_of b.core) h.0 ≡ false → may (machine_of b.core) (entry.Step h) ≡ true
pass_may b h going may_be right = ∥∥₁_elim (going_of b going) (Bool-set _ _) (λ goes. calls_legal.pass_step (counted_of b) h goes (allowed_here (act.PassStep h) b going may_be) (none_of (fault_of (machine_of b.core).machine h.0) right))

-- The start.

pub start_running : StartsHaveRoom → (c : Core) (image : ImageRecord) (symbols : List Symbol) (lines : List (List ℕ)) (harts limit count journal text : ℕ) → count ≡ length lines → machine_of c ≡ planted_start image symbols lines harts limit →
    journal ≡ limit + 10 * (2 * ((harts - 1) * suc count) + 52 * count + 2) → text ≡ limit + 240 * (count + 2) → journal ≤ journal_room c → text ≤ text_room c → KeepsRunning c 0 false false
unfolding planted_start
start_running law c image symbols lines harts limit count journal text same start most longest enough wide here none =
    let most_here = most ∙ ap (λ n. limit + 10 * (2 * ((harts - 1) * suc n) + 52 * n + 2)) same in
    record {
      held = refl;
      awake = subst (λ (p : PlantedMachine). IsAwake p.session p.machine) (sym start) tt;
      journal = subst (λ (p : PlantedMachine). bytes_left (record { machine = p; sends = 0; stepped = false; released = false }) ≤ journal_room c) (sym start) (omega (arith, law.bytes image symbols lines harts limit, most_here, enough));
      text = subst (λ (p : PlantedMachine). text_left (record { machine = p; sends = 0; stepped = false; released = false }) ≤ text_room c) (sym start) (omega (arith, law.text image symbols lines harts limit, longest, same, wide));
    }

pub start_harts : (b : CoreBus) (image : ImageRecord) (symbols : List Symbol) (lines : List (List ℕ)) (harts limit : ℕ) → machine_of b.core ≡ planted_start image symbols lines harts limit → (told b).harts ≡ harts
unfolding planted_start start_state
start_harts b image symbols lines harts limit start = harts_told b ∙ ap (λ (p : PlantedMachine). hart_count p.machine) start ∙ length-map-range_with_len (first_context image) 0 harts
