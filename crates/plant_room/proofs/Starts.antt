-- What is left at the start.
use Rattle.std.proofs.Common.{◌≡◌, ℕ, suc, ◌+◌, ◌-◌, ◌*◌, ◌≤◌, false, List, length, Option, None, is_some, replicate, sym, ap, subst, arith}
use Rattle.std.specs.Prelude.{slice_index_or}
use Rattle.mach_base.specs.Machine.{Symbol}
use Rattle.mach_base.specs.declared.limits.TheConstants.{PLACES}
use Rattle.img_text.specs.Image.{ImageRecord}
use Rattle.plant_room.specs.Room.{count_where, bytes_left, text_left}
use Rattle.plant_mach.specs.Machine.{planted_start}
use Rattle.atom_mach.specs.State.{start_state}
use Rattle.plant_room.specs.Laws.{counted_start, StartsHaveRoom}
use Rattle.plant_room.proofs.Counts.{count_none}
use Rattle.std.proofs.lemmas.List.{get_or-replicate}
use Rattle.std.proofs.lemmas.List.FromFn.{length-map-range_with_len}
use Rattle.img_text.specs.Boot.{first_context}
use Rattle.plant_room.specs.Room.{planted_count}

none_called : (harts n : ℕ) → n ≤ harts → count_where (λ h. slice_index_or (replicate harts false) h false) n ≡ 0
none_called harts n le = count_none _ n (λ k lt. get_or-replicate harts k false false (omega arith))

none_planted : planted_count (replicate PLACES None) ≡ 0
none_planted = count_none _ PLACES (λ k lt. ap is_some (get_or-replicate {A = Option ℕ} PLACES k None None lt))

start_sum : (limit m u : ℕ) → limit + 0 - 0 + 10 * (2 * (m - 0) + 0 + 52 * u + (0 + 2) + 0) ≤ limit + 10 * (2 * m + 52 * u + 2)
start_sum limit m u = omega arith

none_read : (u : ℕ) → 0 + u ≡ u
none_read u = omega arith

start-bytes : (image : ImageRecord) (symbols : List Symbol) (lines : List (List ℕ)) (harts limit : ℕ) → bytes_left (counted_start image symbols lines harts limit) ≤ limit + 10 * (2 * ((harts - 1) * suc (length lines)) + 52 * length lines + 2)
unfolding bytes_left planted_start start_state
start-bytes image symbols lines harts limit =
    let room : ℕ → ℕ → ℕ → ℕ = λ k p n. limit + 0 - 0 + 10 * (2 * ((k - 1) * suc (0 + length lines) - 0) + p + 52 * length lines + (n + 2) + 0) in
    let most = limit + 10 * (2 * ((harts - 1) * suc (length lines)) + 52 * length lines + 2) in
    let count = length-map-range_with_len (first_context image) 0 harts in
    let start : room harts 0 0 ≤ most =
    subst (λ v. limit + 0 - 0 + 10 * (2 * ((harts - 1) * suc v - 0) + 0 + 52 * length lines + (0 + 2) + 0) ≤ most) (sym (none_read (length lines)))
    (start_sum limit ((harts - 1) * suc (length lines)) (length lines)) in
    let placed : room harts 0 (planted_count (replicate PLACES None)) ≤ most = subst (λ n. room harts 0 n ≤ most) (sym none_planted) start in
    let called : room harts (count_where (λ h. slice_index_or (replicate harts false) h false) harts) (planted_count (replicate PLACES None)) ≤ most = subst (λ p. room harts p (planted_count (replicate PLACES None)) ≤ most) (sym (none_called harts harts (omega arith))) placed in
    subst (λ k. room k (count_where (λ h. slice_index_or (replicate harts false) h false) k) (planted_count (replicate PLACES None)) ≤ most) (sym count) called

start-text : (image : ImageRecord) (symbols : List Symbol) (lines : List (List ℕ)) (harts limit : ℕ) → text_left (counted_start image symbols lines harts limit) ≤ limit + 240 * (length lines + 2)
unfolding text_left planted_start start_state
start-text image symbols lines harts limit = omega arith

pub start_room : StartsHaveRoom
start_room = record { bytes = start-bytes; text = start-text }
