-- What a bus tells is in range.
use Rattle.std.proofs.Common.{◌≡◌, ℕ, zero, suc, ◌+◌, ◌^◌, ◌<◌, ◌≤◌, Bool, true, false, cond, List, length, replicate, Option, Some, None, is_some, refl, sym, ap, subst, ◌∙◌, add-one, arith}
use Rattle.std.specs.Prelude.{slice_index_or}
use Rattle.std.proofs.lemmas.Nat.{or_lt, pow_pos}
use Rattle.kdb_bp.specs.Breaks.{place_at}
use Rattle.std.proofs.lemmas.List.{get_or-replicate}
use Rattle.mach_base.specs.Machine.{Place, Symbol}
use Rattle.mach_base.specs.Masks.{mask_with}
use Rattle.mach_base.proofs.Bits.{all_but-lt}
use Rattle.mach_base.specs.declared.limits.TheConstants.{MOST_HARTS, MOST_LINES, PLACES}
use Rattle.deck_core.specs.declared.plain.notes.Sitting.{Sitting}
use Rattle.deck_core.specs.contract.Told.{Told, IsTold, IsOpening}
use Rattle.img_text.specs.Image.{ImageRecord}
use Rattle.bus_plant.specs.Planted.{planted_mask}
use Rattle.atom_mach.specs.State.{hart_count, start_state}
use Rattle.plant_mach.specs.Machine.{PlantedMachine, planted_start, mask_where, enabled_address, enabled_mask, planted_of, enabled_of, held_by}
use Rattle.plant_mach.specs.Order.{IsSeated}
use Rattle.plant_mach.proofs.Places.{planted-where, enabled-where}
use Rattle.plant_told.specs.Told.{Counted, mask_of, told_of}
use Rattle.bus_core.specs.Core.{machine_of}
use Rattle.bus_calls.specs.declared.bus.CoreBus.{CoreBus}
use Rattle.bus_calls.specs.Bus.{counted_of, told_lost, told}
use Rattle.bus_calls.proofs.Facts.{told_here}

mask_below : (test : ℕ → Bool) (n : ℕ) → mask_where test n < 2 ^ n
unfolding mask_with
mask_below test zero = omega arith
mask_below test (suc n) = by_test (test n) (mask_below test n)
  where
    by_test : (b : Bool) → mask_where test n < 2 ^ n → cond b (mask_with (mask_where test n) n) (mask_where test n) < 2 ^ suc n
    by_test true lt = let some = pow_pos n in or_lt (suc n) (mask_where test n) (2 ^ n) (omega arith) (omega arith)
    by_test false lt = omega arith

planted_below : (p : PlantedMachine) → planted_of p < 2 ^ PLACES
planted_below p = subst (λ m. m < 2 ^ PLACES) (sym (planted-where p.places PLACES)) (mask_below (λ k. is_some (slice_index_or p.places k None)) PLACES)

enabled_below : (p : PlantedMachine) → enabled_of p < 2 ^ PLACES
enabled_below p = subst (λ m. m < 2 ^ PLACES) (sym (enabled-where p.machine.seen.places PLACES)) (mask_below (λ k. is_some (enabled_address (place_at p.machine.seen.places k))) PLACES)

pub held_below : (n : ℕ) (session : Option Sitting) → IsSeated n session → held_by n session < 2 ^ n
held_below n None seated = pow_pos n
held_below n (Some s) seated = all_but-lt n s.late seated.late_ones

pub in_range : (b : CoreBus) → 1 ≤ hart_count (machine_of b.core).machine → hart_count (machine_of b.core).machine ≤ MOST_HARTS → (machine_of b.core).machine.lines_read + length (machine_of b.core).machine.unread ≤ MOST_LINES → IsSeated (hart_count (machine_of b.core).machine) (machine_of b.core).session → IsTold (told b)
unfolding told told_of
in_range b some few short seated = by_lost b.core.lost
  where
    p : PlantedMachine
    p = machine_of b.core

    by_mask : (r : Bool) → cond r 0 (held_by (hart_count p.machine) p.session) < 2 ^ hart_count p.machine
    by_mask true = pow_pos (hart_count p.machine)
    by_mask false = held_below (hart_count p.machine) p.session seated

    by_lost : (l : Bool) → IsTold (cond l (told_lost b) (told_of (counted_of b)))
    by_lost true = record { some_harts = some; few_harts = omega arith; mask = b.stood_mask; planted = omega arith; enabled = omega arith; lines = b.stood_lines }
    by_lost false = record { some_harts = some; few_harts = omega arith; mask = by_mask b.released; planted = planted_below p; enabled = enabled_below p; lines = omega arith }

-- The start.

mask_none : (test : ℕ → Bool) (n : ℕ) → ((k : ℕ) → k < n → test k ≡ false) → mask_where test n ≡ 0
mask_none test zero none = refl
mask_none test (suc n) none = ap (λ b. cond b (mask_with (mask_where test n) n) (mask_where test n)) (none n (omega arith)) ∙ mask_none test n (λ k lt. none k (omega arith))

nothing_planted : planted_mask (replicate PLACES None) PLACES ≡ 0
nothing_planted = planted-where (replicate PLACES None) PLACES ∙ mask_none _ PLACES (λ k lt. ap is_some (get_or-replicate {A = Option ℕ} PLACES k None None lt))

nothing_enabled : enabled_mask (replicate PLACES None) PLACES ≡ 0
nothing_enabled = enabled-where (replicate PLACES None) PLACES ∙ mask_none _ PLACES (λ k lt. ap (λ o. is_some (enabled_address o)) (get_or-replicate {A = Option Place} PLACES k None None lt))

pub opens : (b : CoreBus) (image : ImageRecord) (symbols : List Symbol) (lines : List (List ℕ)) (harts limit : ℕ) → machine_of b.core ≡ planted_start image symbols lines harts limit → b.core.lost ≡ false → b.sends ≡ 0 → b.stepped ≡ false → b.released ≡ false → IsTold (told b) → IsOpening (told b)
unfolding told_of planted_start start_state
opens b image symbols lines harts limit start here none bare held fits =
    let c : Counted = record { machine = planted_start image symbols lines harts limit; sends = 0; stepped = false; released = false } in
    let e : told b ≡ told_of c =
    told_here b here
    ∙ ap (λ (p : PlantedMachine). told_of (record { machine = p; sends = b.sends; stepped = b.stepped; released = b.released })) start
    ∙ ap (λ n. told_of (record { machine = planted_start image symbols lines harts limit; sends = n; stepped = b.stepped; released = b.released })) none
    ∙ ap (λ x. told_of (record { machine = planted_start image symbols lines harts limit; sends = 0; stepped = x; released = b.released })) bare
    ∙ ap (λ x. told_of (record { machine = planted_start image symbols lines harts limit; sends = 0; stepped = false; released = x })) held in
    record {
      fits = fits;
      mask = ap (λ (t : Told). t.mask) e;
      planted = ap (λ (t : Told). t.planted) e ∙ nothing_planted;
      enabled = ap (λ (t : Told). t.enabled) e ∙ nothing_enabled;
      step = ap (λ (t : Told). t.step) e;
      session = ap (λ (t : Told). t.session) e;
      lines = ap (λ (t : Told). t.lines) e;
      sends = ap (λ (t : Told). t.sends) e;
      over = ap (λ (t : Told). t.over) e;
    }

-- a mask with one number more
pub mask_more : (test : ℕ → Bool) (k mask new : ℕ) → mask ≡ mask_where test k → new ≡ cond (test k) (mask_with mask k) mask → new ≡ mask_where test (k + 1)
mask_more test k mask new so_far e = e ∙ rw (so_far, add-one k) refl
