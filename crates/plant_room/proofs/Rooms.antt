-- The room that is left falls with every entry.
use Rattle.std.proofs.Common.{◌≡◌, ℕ, suc, ◌+◌, ◌-◌, ◌*◌, ◌<◌, ◌≤◌, eqb, ◌&&◌, Bool, true, false, not, cond, List, ◌∷◌, length, Option, Some, None, is_some, is_none, nat_lt, Result, Ok, Err, option_map, refl, sym, ap, subst, ◌∙◌, ◌⊎◌, inl, inr, arith}
use Rattle.std.specs.Prelude.{slice_index_or, slice_set}
use Rattle.std.specs.Option.{option_to_list}
use Rattle.std.proofs.lemmas.Bool.{false≢true, ltb-true, cases_lt}
use Rattle.std.proofs.lemmas.List.{get_or_past}
use Rattle.std.proofs.lemmas.List.Quantifiers.{position-Some}
use Rattle.mach_base.specs.Machine.{Place, Machine}
use Rattle.mach_base.specs.Packed.{entry_bytes}
use Rattle.mach_base.proofs.Packing.{entry_bytes_few}
use Rattle.mach_base.specs.declared.limits.TheConstants.{PLACES}
use Rattle.mach_base.specs.declared.event.Hart.{Hart}
use Rattle.mach_base.specs.declared.event.Fault.{Fault}
use Rattle.mach_base.specs.declared.event.Reason.{Reason}
use Rattle.mach_base.specs.declared.event.Reason.TheVariants.{Start, Breakpoint, Compiled, Step as StepReason, Fault as FaultReason}
use Rattle.mach_base.specs.declared.event.Entry.{Entry}
use Rattle.mach_base.specs.declared.event.Entry.TheVariants.{Step, Intr, Send, Take, Open, Pull, Line, Plant, PlantStep, PullStep, Close, Off}
use Rattle.rv_table.specs.declared.table.TheConstants.{EBREAK}
use Rattle.trap_ipi.specs.Interrupt.{is_takeable}
use Rattle.hart_step.specs.Execution.{byte_sent}
use Rattle.hart_step.specs.Faults.{word_fault}
use Rattle.kdb_bp.specs.Breaks.{is_enabled_at, first_enabled, place_at}
use Rattle.deck_core.specs.declared.plain.notes.Sitting.{Sitting}
use Rattle.deck_core.specs.declared.plain.notes.Stage.{Stage}
use Rattle.deck_core.specs.declared.plain.notes.Stage.TheVariants as stage
use Rattle.deck_core.specs.contract.Allowed.{in_session, is_of, is_lines, is_pass, is_leaving, is_address}
use Rattle.atom_mach.specs.State.{hart_count, context_at}
use Rattle.atom_mach.specs.Texts.{banner_text, HasByte}
use Rattle.atom_mach.specs.Traps.{fault_of, trap, breakpoint_or, trap_of_fetched, fetched_at, executed, console_text}
use Rattle.atom_mach.specs.Session.{is_hart, with_read, line_effect}
use Rattle.atom_mach.proofs.Booleans.{and_true, either_case, is_none-None}
use Rattle.atom_mach.proofs.Kept.{executed_kept, interrupted_kept, line_kept}
use Rattle.atom_mach.proofs.Lengths.{banners_short}
use Rattle.plant_mach.specs.Machine.{PlantedMachine, planted_at, enabled_address, enabled_at, planted_of, is_held}
use Rattle.plant_mach.specs.Entries.{Made, may_run, may_pass, after_pass, after_step, is_called, reason_again, reason_in, opened_for, stage_after, line_made, step_address, may, effect}
use Rattle.plant_mach.proofs.Sessions.{IsLineRead, reads_line, is_lines-Lines, is_leaving-Leaving, is_pass-Pass}
use Rattle.plant_mach.proofs.Opens.{open-opened}
use Rattle.plant_told.specs.Told.{Counted}
use Rattle.plant_room.specs.Room.{count_where, pending_calls, planted_count, most_sends, steps_left, stage_left, session_left, word_left, entries_left, bytes_left, opening_at, opening_left, text_left, counted_after}
use Rattle.plant_room.specs.Laws.{IsWithinCounts, IsBounded, is_end, is_line, EntriesLeaveRoom}
use Rattle.plant_room.proofs.Counts.{count_within, flag_set, flag_cleared, place_set, place_cleared}
use Rattle.plant_room.proofs.Falls.{entry_falls, step_falls, line_falls, step_prints, opening_prints}

-- Stages.

places_within : (places : List (Option ℕ)) → planted_count places ≤ 16
places_within places = count_within (λ i. is_some (slice_index_or places i None)) PLACES

pass_least : (stepped : Bool) → 35 ≤ cond stepped 35 37
pass_least true = omega arith
pass_least false = omega arith

pass_most : (stepped : Bool) → cond stepped 35 37 ≤ 37
pass_most true = omega arith
pass_most false = omega arith

stage_most : (g : Stage) (n : ℕ) (stepped : Bool) → n ≤ 16 → stage_left g n stepped ≤ 37
stage_most stage.Lines n stepped few = omega arith
stage_most (stage.Pass again) n stepped few = pass_most stepped
stage_most stage.Back n stepped few = omega arith
stage_most stage.Leaving n stepped few = omega arith

stage_least : (g : Stage) (n : ℕ) (stepped : Bool) → n ≤ 16 → 1 ≤ stage_left g n stepped
stage_least stage.Lines n stepped few = omega arith
stage_least (stage.Pass again) n stepped few = let least = pass_least stepped in omega (arith, least)
stage_least stage.Back n stepped few = omega arith
stage_least stage.Leaving n stepped few = omega arith

session_least : (session : Option Sitting) (n : ℕ) (stepped : Bool) → n ≤ 16 → 1 ≤ session_left session n stepped
session_least None n stepped few = omega arith
session_least (Some s) n stepped few = stage_least s.stage n stepped few

passed_stage : (g : Stage) (n : ℕ) (stepped : Bool) → stage_left (after_pass g) n stepped ≤ stage_left g n stepped
passed_stage stage.Lines n stepped = omega arith
passed_stage (stage.Pass true) n stepped = let least = pass_least stepped in omega (arith, least)
passed_stage (stage.Pass false) n stepped = let least = pass_least stepped in omega (arith, least)
passed_stage stage.Back n stepped = omega arith
passed_stage stage.Leaving n stepped = omega arith

passed_opening : (g : Stage) → opening_at (after_pass g) ≤ opening_at g
passed_opening stage.Lines = omega arith
passed_opening (stage.Pass true) = omega arith
passed_opening (stage.Pass false) = omega arith
passed_opening stage.Back = omega arith
passed_opening stage.Leaving = omega arith

stepped_session : (h : ℕ) (session : Option Sitting) (n : ℕ) (stepped : Bool) → session_left (option_map (after_step h) session) n stepped ≤ session_left session n stepped
stepped_session h None n stepped = omega arith
stepped_session h (Some s) n stepped = by_master (is_of h s)
  where
    by_master : (b : Bool) → session_left (Some (cond b (record s { stage = after_pass s.stage }) s)) n stepped ≤ stage_left s.stage n stepped
    by_master true = passed_stage s.stage n stepped
    by_master false = omega arith

stepped_opening : (h : ℕ) (session : Option Sitting) → opening_left (option_map (after_step h) session) ≤ opening_left session
stepped_opening h None = omega arith
stepped_opening h (Some s) = by_master (is_of h s)
  where
    by_master : (b : Bool) → opening_left (Some (cond b (record s { stage = after_pass s.stage }) s)) ≤ opening_at s.stage
    by_master true = passed_opening s.stage
    by_master false = omega arith

-- the stage of a session that passes a test of stages
at_stage : (test : Sitting → Bool) (session : Option Sitting) (g : Stage) → ((s : Sitting) → test s ≡ true → s.stage ≡ g) → in_session test session ≡ true → (n : ℕ) (stepped : Bool) → session_left session n stepped ≡ stage_left g n stepped
at_stage test None g is e n stepped = absurd (false≢true e)
at_stage test (Some s) g is e n stepped = ap (λ x. stage_left x n stepped) (is s e)

-- Steps.

one_step : (limit read steps : ℕ) → steps < limit + read → suc (limit + read - (steps + 1)) ≤ limit + read - steps
one_step limit read steps lt = omega arith

step-counts : (p : PlantedMachine) (h : Hart) → IsBounded p → may p (Step h) ≡ true → p.machine.steps < p.machine.limit + p.machine.lines_read
unfolding may
step-counts p h bounded e =
    let a = and_true (is_hart p.machine h.0) _ e in
    let b = and_true p.machine.opened _ a.1 in
    let c = and_true (not (context_at p.machine h.0).halted) _ b.1 in
    either_case (may_run p h.0) (may_pass p h.0) c.1 running passing
  where
    running : may_run p h.0 ≡ true → p.machine.steps < p.machine.limit + p.machine.lines_read
    running f =
        let lt = ltb-true p.machine.steps p.machine.limit (and_true (nat_lt p.machine.steps p.machine.limit) _ (and_true (not (is_held p h.0)) _ f).1).0 in
        omega (arith, lt)

    in_pass : (session : Option Sitting) → in_session (λ s. is_of h.0 s && is_pass s.stage) session ≡ true → in_session (λ s. is_pass s.stage) session ≡ true
    in_pass None f = f
    in_pass (Some s) f = (and_true (is_of h.0 s) (is_pass s.stage) f).1

    passing : may_pass p h.0 ≡ true → p.machine.steps < p.machine.limit + p.machine.lines_read
    passing f = bounded.steps (in_pass p.session (and_true (in_session (λ s. is_of h.0 s && is_pass s.stage) p.session) _ f).0)

intr-counts : (p : PlantedMachine) (h : Hart) → may p (Intr h) ≡ true → p.machine.steps < p.machine.limit + p.machine.lines_read
unfolding may
intr-counts p h e =
    let a = and_true (is_hart p.machine h.0) _ e in
    let b = and_true p.machine.opened _ a.1 in
    let c = and_true (not (is_held p h.0)) _ b.1 in
    let lt = ltb-true p.machine.steps p.machine.limit (and_true (is_takeable (context_at p.machine h.0)) _ c.1).1 in
    omega (arith, lt)

-- The journal's bytes.

step-bytes : (c : Counted) (h : Hart) → IsBounded c.machine → may c.machine (Step h) ≡ true → length (entry_bytes (Step h)) + bytes_left (counted_after c (Step h)) ≤ bytes_left c
unfolding entry_bytes bytes_left effect executed
step-bytes c h bounded e =
    let s = c.machine.machine in
    let n = planted_count c.machine.places in
    let session = session_left (option_map (after_step h.0) c.machine.session) n c.stepped in
    let word = word_left c.machine.step in
    subst (λ k. 1 + (s.limit + s.lines_read - (s.steps + 1) + 10 * (2 * ((k - 1) * suc (s.lines_read + length s.unread) - c.sends) + count_where (λ j. slice_index_or c.machine.calls j false) k + 52 * length s.unread + session + word)) ≤ bytes_left c)
    (sym (executed_kept s h.0).harts)
    (step_falls 1 (steps_left s) (s.limit + s.lines_read - (s.steps + 1)) (most_sends s - c.sends) (pending_calls c.machine) (length s.unread) (session_left c.machine.session n c.stepped) word session (omega arith) (one_step s.limit s.lines_read s.steps (step-counts c.machine h bounded e)) (stepped_session h.0 c.machine.session n c.stepped))

intr-bytes : (c : Counted) (h : Hart) → may c.machine (Intr h) ≡ true → length (entry_bytes (Intr h)) + bytes_left (counted_after c (Intr h)) ≤ bytes_left c
unfolding entry_bytes bytes_left effect
intr-bytes c h e =
    let s = c.machine.machine in
    let session = session_left c.machine.session (planted_count c.machine.places) c.stepped in
    let word = word_left c.machine.step in
    subst (λ k. 1 + (s.limit + s.lines_read - (s.steps + 1) + 10 * (2 * ((k - 1) * suc (s.lines_read + length s.unread) - c.sends) + count_where (λ j. slice_index_or c.machine.calls j false) k + 52 * length s.unread + session + word)) ≤ bytes_left c)
    (sym (interrupted_kept s h.0).harts)
    (step_falls 1 (steps_left s) (s.limit + s.lines_read - (s.steps + 1)) (most_sends s - c.sends) (pending_calls c.machine) (length s.unread) session word session (omega arith) (one_step s.limit s.lines_read s.steps (intr-counts c.machine h e)) (omega arith))

-- an entry that takes no step and changes neither harts nor lines
falls : (c : Counted) (e : Entry) (m p s w : ℕ) → suc (2 * m + p + 52 * length c.machine.machine.unread + s + w) ≤ entries_left c →
    length (entry_bytes e) + (steps_left c.machine.machine + 10 * (2 * m + p + 52 * length c.machine.machine.unread + s + w)) ≤ steps_left c.machine.machine + 10 * entries_left c
falls c e m p s w less =
    entry_falls (length (entry_bytes e)) (steps_left c.machine.machine) (most_sends c.machine.machine - c.sends) (pending_calls c.machine) (length c.machine.machine.unread) (session_left c.machine.session (planted_count c.machine.places) c.stepped) (word_left c.machine.step) m p s w (entry_bytes_few e) less

send_less : (m sends p p1 x s w : ℕ) → sends < m → p1 ≤ suc p → suc (2 * (m - suc sends) + p1 + x + s + w) ≤ 2 * (m - sends) + p + x + s + w
send_less m sends p p1 x s w lt few = omega arith

send-bytes : (c : Counted) (k : Hart) → c.sends < most_sends c.machine.machine → length (entry_bytes (Send k)) + bytes_left (counted_after c (Send k)) ≤ bytes_left c
unfolding bytes_left effect
send-bytes c k lt =
    let s = c.machine.machine in
    let session = session_left c.machine.session (planted_count c.machine.places) c.stepped in
    let pending = count_where (λ j. slice_index_or (slice_set c.machine.calls k.0 true) j false) (hart_count s) in
    falls c (Send k) (most_sends s - suc c.sends) pending session (word_left c.machine.step)
    (send_less (most_sends s) c.sends (pending_calls c.machine) pending (52 * length s.unread) session (word_left c.machine.step) lt (flag_set c.machine.calls (hart_count s) k.0 true))

take_less : (m p p1 x s w : ℕ) → p ≡ suc p1 → suc (2 * m + p1 + x + s + w) ≤ 2 * m + p + x + s + w
take_less m p p1 x s w e = omega arith

take-bytes : (c : Counted) (h : Hart) → IsBounded c.machine → may c.machine (Take h) ≡ true → length (entry_bytes (Take h)) + bytes_left (counted_after c (Take h)) ≤ bytes_left c
unfolding bytes_left effect may
take-bytes c h bounded e =
    let s = c.machine.machine in
    let a = and_true (is_hart s h.0) _ e in
    let b = and_true (is_called c.machine h.0) _ a.1 in
    let session = session_left c.machine.session (planted_count c.machine.places) c.stepped in
    let pending = count_where (λ j. slice_index_or (slice_set c.machine.calls h.0 false) j false) (hart_count s) in
    falls c (Take h) (most_sends s - c.sends) pending session (word_left c.machine.step)
    (take_less (most_sends s - c.sends) (pending_calls c.machine) pending (52 * length s.unread) session (word_left c.machine.step) (flag_cleared c.machine.calls (hart_count s) h.0 (ltb-true h.0 (hart_count s) a.0) bounded.order.calls b.0))

-- the session and the step word alone have fewer left
session_less : (a s w s1 w1 : ℕ) → suc (s1 + w1) ≤ s + w → suc (a + s1 + w1) ≤ a + s + w
session_less a s w s1 w1 less = omega arith

session_falls : (c : Counted) (e : Entry) (s1 w1 : ℕ) → suc (s1 + w1) ≤ session_left c.machine.session (planted_count c.machine.places) c.stepped + word_left c.machine.step →
    length (entry_bytes e) + (steps_left c.machine.machine + 10 * (2 * (most_sends c.machine.machine - c.sends) + pending_calls c.machine + 52 * length c.machine.machine.unread + s1 + w1)) ≤ steps_left c.machine.machine + 10 * entries_left c
session_falls c e s1 w1 less =
    falls c e (most_sends c.machine.machine - c.sends) (pending_calls c.machine) s1 w1
    (session_less (2 * (most_sends c.machine.machine - c.sends) + pending_calls c.machine + 52 * length c.machine.machine.unread) (session_left c.machine.session (planted_count c.machine.places) c.stepped) (word_left c.machine.step) s1 w1 less)

-- Openings.

reopened_least : (s : Machine) (m : ℕ) (g : Stage) (why : Reason) (n : ℕ) (stepped : Bool) → reason_again s m g ≡ Some why → n ≤ 16 → (n + 2 ≤ stage_left g n stepped) × (opening_at g ≡ 1)
reopened_least s m stage.Lines why n stepped e few = absurd (cc)
reopened_least s m (stage.Pass again) why n stepped e few = let least = pass_least stepped in (omega (arith, least), refl)
reopened_least s m stage.Back why n stepped e few = (omega arith, refl)
reopened_least s m stage.Leaving why n stepped e few = absurd (cc)

given : {A : Type 0} (b : Bool) (o : Option A) (x : A) → cond b o None ≡ Some x → o ≡ Some x
given true o x e = e
given false o x e = absurd (cc)

open_least : (p : PlantedMachine) (m late : ℕ) (why : Reason) (n : ℕ) (stepped : Bool) (session : Option Sitting) → reason_in session p m late ≡ Some why → n ≤ 16 → (n + 2 ≤ session_left session n stepped) × (opening_left session ≡ 1)
open_least p m late why n stepped None e few = (omega arith, refl)
open_least p m late why n stepped (Some s) e few = reopened_least p.machine m s.stage why n stepped (given (is_of m s && (eqb s.late late && is_none p.step)) _ why e) few

open_less : (n s w : ℕ) → n + 2 ≤ s → suc (n + 1 + w) ≤ s + w
open_less n s w least = omega arith

open-bytes : (c : Counted) (m : Hart) (late : ℕ) → may c.machine (Open m late) ≡ true → length (entry_bytes (Open m late)) + bytes_left (counted_after c (Open m late)) ≤ bytes_left c
unfolding bytes_left effect
open-bytes c m late e =
    let x = open-opened c.machine m late e in
    let n = planted_count c.machine.places in
    let with_made : Made → Counted = λ d. record { machine = d.next; sends = c.sends; stepped = c.stepped; released = c.released } in
    let least = open_least c.machine m.0 late x.why n c.stepped c.machine.session x.reason (places_within c.machine.places) in
    let fall : length (entry_bytes (Open m late)) + bytes_left (with_made (opened_for c.machine m late (Some x.why))) ≤ bytes_left c =
    session_falls c (Open m late) (n + 1) (word_left c.machine.step) (open_less n (session_left c.machine.session n c.stepped) (word_left c.machine.step) least.0) in
    subst (λ o. length (entry_bytes (Open m late)) + bytes_left (with_made (opened_for c.machine m late o)) ≤ bytes_left c) (sym x.reason) fall

-- Planted words.

within : {A : Type 0} (xs : List (Option A)) (n i : ℕ) → length xs ≡ n → is_some (slice_index_or xs i None) ≡ true → i < n
within xs n i count e = by_number (cases_lt i n)
  where
    by_number : (i < n) ⊎ (n ≤ i) → i < n
    by_number (inl lt) = lt
    by_number (inr ge) = absurd (false≢true (sym (ap is_some (get_or_past xs i None (omega arith))) ∙ e))

pull_less : (n n1 s w : ℕ) → s ≡ n + 1 → n ≡ suc n1 → suc (n1 + 1 + w) ≤ s + w
pull_less n n1 s w is e = omega arith

pull-bytes : (c : Counted) (i : ℕ) → IsBounded c.machine → may c.machine (Pull i) ≡ true → length (entry_bytes (Pull i)) + bytes_left (counted_after c (Pull i)) ≤ bytes_left c
unfolding bytes_left effect may
pull-bytes c i bounded e =
    let a = and_true (in_session (λ s. is_lines s.stage) c.machine.session) _ e in
    let places = c.machine.places in
    let n = planted_count places in
    let n1 = planted_count (slice_set places i None) in
    let lines = at_stage (λ s. is_lines s.stage) c.machine.session stage.Lines (λ s f. is_lines-Lines s.stage f) a.0 in
    let fewer = place_cleared places PLACES i (within places PLACES i bounded.order.words.places a.1) bounded.order.words.places a.1 in
    subst (λ x. length (entry_bytes (Pull i)) + (steps_left c.machine.machine + 10 * (2 * (most_sends c.machine.machine - c.sends) + pending_calls c.machine + 52 * length c.machine.machine.unread + x + word_left c.machine.step)) ≤ bytes_left c)
    (sym (lines n1 c.stepped))
    (session_falls c (Pull i) (n1 + 1) (word_left c.machine.step) (pull_less n n1 (session_left c.machine.session n c.stepped) (word_left c.machine.step) (lines n c.stepped) fewer))

plant_less : (n n1 s w : ℕ) → s ≡ 35 - n → n1 ≡ suc n → n1 ≤ 16 → suc (35 - n1 + w) ≤ s + w
plant_less n n1 s w is e few = omega arith

enabled_within : (places : List (Option Place)) (i : ℕ) → length places ≡ PLACES → is_some (enabled_address (place_at places i)) ≡ true → i < PLACES
enabled_within places i count e = within places PLACES i count (some_place (place_at places i) e)
  where
    some_place : (o : Option Place) → is_some (enabled_address o) ≡ true → is_some o ≡ true
    some_place None f = f
    some_place (Some x) f = refl

plant-bytes : (c : Counted) (i : ℕ) → IsBounded c.machine → may c.machine (Plant i) ≡ true → length (entry_bytes (Plant i)) + bytes_left (counted_after c (Plant i)) ≤ bytes_left c
unfolding bytes_left effect may
plant-bytes c i bounded e =
    let a = and_true (in_session (λ s. is_leaving s.stage) c.machine.session) _ e in
    let b = and_true (is_none c.machine.step) _ a.1 in
    let d = and_true (is_some (enabled_at c.machine i)) _ b.1 in
    let places = c.machine.places in
    let addr = enabled_at c.machine i in
    let n = planted_count places in
    let n1 = planted_count (slice_set places i addr) in
    let leaves = at_stage (λ s. is_leaving s.stage) c.machine.session stage.Leaving (λ s f. is_leaving-Leaving s.stage f) a.0 in
    let more = place_set places PLACES i addr (enabled_within c.machine.machine.seen.places i bounded.order.limits.places d.0) bounded.order.words.places d.0 (is_none-None (planted_at c.machine i) d.1) in
    subst (λ x. length (entry_bytes (Plant i)) + (steps_left c.machine.machine + 10 * (2 * (most_sends c.machine.machine - c.sends) + pending_calls c.machine + 52 * length c.machine.machine.unread + x + word_left c.machine.step)) ≤ bytes_left c)
    (sym (leaves n1 c.stepped))
    (session_falls c (Plant i) (35 - n1) (word_left c.machine.step) (plant_less n n1 (session_left c.machine.session n c.stepped) (word_left c.machine.step) (leaves n c.stepped) more (places_within (slice_set places i addr))))

plant_step_less : (step : Option ℕ) (s : ℕ) → s ≡ 37 → is_none step ≡ true → suc (35 + 1) ≤ s + word_left step
plant_step_less None s e none = omega arith
plant_step_less (Some a) s e none = absurd (false≢true none)

plant_step-bytes : (c : Counted) (addr : ℕ) → c.stepped ≡ false → may c.machine (PlantStep addr) ≡ true → length (entry_bytes (PlantStep addr)) + bytes_left (counted_after c (PlantStep addr)) ≤ bytes_left c
unfolding bytes_left effect may
plant_step-bytes c addr first e =
    let a = and_true (in_session (λ s. is_pass s.stage && is_address addr (step_address c.machine.machine s.master.0)) c.machine.session) _ e in
    let n = planted_count c.machine.places in
    let passes = in_pass c.machine.session a.0 n in
    subst (λ x. length (entry_bytes (PlantStep addr)) + (steps_left c.machine.machine + 10 * (2 * (most_sends c.machine.machine - c.sends) + pending_calls c.machine + 52 * length c.machine.machine.unread + x + 1)) ≤ bytes_left c)
    (sym (passes true))
    (session_falls c (PlantStep addr) 35 1 (plant_step_less c.machine.step (session_left c.machine.session n c.stepped) (passes c.stepped ∙ ap (λ b. cond b 35 37) first) a.1))
  where
    in_pass : (session : Option Sitting) → in_session (λ s. is_pass s.stage && is_address addr (step_address c.machine.machine s.master.0)) session ≡ true → (n : ℕ) (stepped : Bool) → session_left session n stepped ≡ cond stepped 35 37
    in_pass None f n stepped = absurd (false≢true f)
    in_pass (Some s) f n stepped = ap (λ g. stage_left g n stepped) (is_pass-Pass s.stage (and_true (is_pass s.stage) _ f).0).is

pull_step_less : (step : Option ℕ) (s : ℕ) → is_some step ≡ true → suc (s + 0) ≤ s + word_left step
pull_step_less None s some = absurd (false≢true some)
pull_step_less (Some a) s some = omega arith

pull_step-bytes : (c : Counted) → may c.machine PullStep ≡ true → length (entry_bytes PullStep) + bytes_left (counted_after c PullStep) ≤ bytes_left c
unfolding bytes_left effect may
pull_step-bytes c e =
    let session = session_left c.machine.session (planted_count c.machine.places) c.stepped in
    session_falls c PullStep session 0 (pull_step_less c.machine.step session (and_true (is_some c.machine.step) _ e).0)

close_less : (n s w : ℕ) → s ≡ 35 - n → n ≤ 16 → suc (n + 2 + w) ≤ s + w
close_less n s w is few = omega arith

close-bytes : (c : Counted) (h : Hart) → may c.machine (Close h) ≡ true → length (entry_bytes (Close h)) + bytes_left (counted_after c (Close h)) ≤ bytes_left c
unfolding bytes_left effect may
close-bytes c h e =
    let n = planted_count c.machine.places in
    let leaves = at_stage (λ s. is_of h.0 s && is_leaving s.stage) c.machine.session stage.Leaving (λ s f. is_leaving-Leaving s.stage (and_true (is_of h.0 s) (is_leaving s.stage) f).1) (and_true (in_session (λ s. is_of h.0 s && is_leaving s.stage) c.machine.session) _ e).0 in
    session_falls c (Close h) (n + 2) (word_left c.machine.step) (close_less n (session_left c.machine.session n c.stepped) (word_left c.machine.step) (leaves n c.stepped) (places_within c.machine.places))

-- Lines.

read_steps : (limit read steps : ℕ) → limit + (read + 1) - steps ≤ suc (limit + read - steps)
read_steps limit read steps = omega arith

read_lines : (read u : ℕ) → read + 1 + u ≡ read + suc u
read_lines read u = omega arith

-- the counted machine once a line has made this
abbrev counted_read : Counted → Made → Counted
counted_read c d = record { machine = d.next; sends = c.sends; stepped = false; released = c.released }

-- the line of a legal entry
legal_line : (c : Counted) (h : Hart) → may c.machine (Line h) ≡ true → IsLineRead c.machine
unfolding may
legal_line c h e =
    let a = and_true (in_session (λ s. is_of h.0 s && is_lines s.stage) c.machine.session) _ e in
    reads_line c.machine h.0 a.0 (and_true (eqb (planted_of c.machine) 0) _ a.1).1

line-read : (c : Counted) (x : Sitting) (line : List ℕ) (rest : List (List ℕ)) → c.machine.machine.unread ≡ line ∷ rest →
    1 + bytes_left (counted_read c (line_made c.machine x (line_effect x.master x.late line (with_read c.machine.machine rest)))) ≤ bytes_left c
unfolding bytes_left line_effect
line-read c x line rest unread =
    let s = c.machine.machine in
    let u = length rest in
    let n = planted_count c.machine.places in
    let cut = line_effect x.master x.late line (with_read s rest) in
    let left = stage_left (stage_after cut.left) n false in
    let session = session_left c.machine.session n c.stepped in
    let word = word_left c.machine.step in
    let room : ℕ → ℕ → ℕ = λ k l. 1 + (s.limit + (s.lines_read + 1) - s.steps + 10 * (2 * ((k - 1) * suc l - c.sends) + count_where (λ j. slice_index_or c.machine.calls j false) k + 52 * u + left + word)) in
    let before : ℕ → ℕ = λ v. steps_left s + 10 * (2 * ((hart_count s - 1) * suc (s.lines_read + v) - c.sends) + pending_calls c.machine + 52 * v + session + word) in
    let fall : room (hart_count s) (s.lines_read + suc u) ≤ before (suc u) =
    line_falls 1 (steps_left s) (s.limit + (s.lines_read + 1) - s.steps) ((hart_count s - 1) * suc (s.lines_read + suc u) - c.sends) (pending_calls c.machine) u session word left (omega arith) (read_steps s.limit s.lines_read s.steps) (session_least c.machine.session n c.stepped (places_within c.machine.places)) (stage_most (stage_after cut.left) n false (places_within c.machine.places)) in
    let by_script : room (hart_count s) (s.lines_read + 1 + u) ≤ before (suc u) = subst (λ l. room (hart_count s) l ≤ before (suc u)) (sym (read_lines s.lines_read u)) fall in
    let by_harts : room (hart_count cut.machine) (s.lines_read + 1 + u) ≤ before (suc u) = subst (λ k. room k (s.lines_read + 1 + u) ≤ before (suc u)) (sym (line_kept x.master x.late line rest s unread).harts) by_script in
    subst (λ v. room (hart_count cut.machine) (s.lines_read + 1 + u) ≤ before v) (sym (ap length unread)) by_harts

line-bytes : (c : Counted) (h : Hart) → may c.machine (Line h) ≡ true → length (entry_bytes (Line h)) + bytes_left (counted_after c (Line h)) ≤ bytes_left c
unfolding entry_bytes effect
line-bytes c h e =
    let l = legal_line c h e in
    subst (λ (d : Made). 1 + bytes_left (counted_read c d) ≤ bytes_left c) (sym l.made) (line-read c l.sitting l.line l.rest l.unread)

entry-bytes : (c : Counted) (e : Entry) → IsBounded c.machine → may c.machine e ≡ true → IsWithinCounts e c → is_end e ≡ false → length (entry_bytes e) + bytes_left (counted_after c e) ≤ bytes_left c
entry-bytes c (Step h) bounded legal counts no_end = step-bytes c h bounded legal
entry-bytes c (Intr h) bounded legal counts no_end = intr-bytes c h legal
entry-bytes c (Send k) bounded legal counts no_end = send-bytes c k counts
entry-bytes c (Take h) bounded legal counts no_end = take-bytes c h bounded legal
entry-bytes c (Open m late) bounded legal counts no_end = open-bytes c m late legal
entry-bytes c (Pull i) bounded legal counts no_end = pull-bytes c i bounded legal
entry-bytes c (Line h) bounded legal counts no_end = line-bytes c h legal
entry-bytes c (Plant i) bounded legal counts no_end = plant-bytes c i bounded legal
entry-bytes c (PlantStep addr) bounded legal counts no_end = plant_step-bytes c addr counts legal
entry-bytes c PullStep bounded legal counts no_end = pull_step-bytes c legal
entry-bytes c (Close h) bounded legal counts no_end = close-bytes c h legal
entry-bytes c (Off ending) bounded legal counts no_end = absurd (false≢true (sym no_end))

-- Text.

sent-few : (o : Option ℕ) → length (option_to_list o) ≤ 1
sent-few None = omega arith
sent-few (Some b) = omega arith

console-few : (s : Machine) (h : ℕ) → length (console_text s h) ≤ 1
unfolding console_text
console-few s h = by_fetched (fetched_at s h) refl
  where
    by_fetched : (r : Result ℕ Fault) → fetched_at s h ≡ r → length (console_text s h) ≤ 1
    by_fetched (Ok word) e = rw e (sent-few (byte_sent s.seen.harts h word))
    by_fetched (Err fault) e = rw e (omega arith)

step-text : (c : Counted) (h : Hart) → IsBounded c.machine → may c.machine (Step h) ≡ true → length (effect c.machine (Step h)).text + text_left (counted_after c (Step h)) ≤ text_left c
unfolding text_left effect executed
step-text c h bounded e =
    let s = c.machine.machine in
    step_prints (length (console_text s h.0)) (steps_left s) (s.limit + s.lines_read - (s.steps + 1)) (length s.unread) (opening_left c.machine.session) (opening_left (option_map (after_step h.0) c.machine.session)) (console-few s h.0) (one_step s.limit s.lines_read s.steps (step-counts c.machine h bounded e)) (stepped_opening h.0 c.machine.session)

intr-text : (c : Counted) (h : Hart) → may c.machine (Intr h) ≡ true → length (effect c.machine (Intr h)).text + text_left (counted_after c (Intr h)) ≤ text_left c
unfolding text_left effect
intr-text c h e =
    let s = c.machine.machine in
    step_prints 0 (steps_left s) (s.limit + s.lines_read - (s.steps + 1)) (length s.unread) (opening_left c.machine.session) (opening_left c.machine.session) (omega arith) (one_step s.limit s.lines_read s.steps (intr-counts c.machine h e)) (omega arith)

-- the place of a breakpoint is below the number of places

fault-byte : (f : Option Fault) (why : Reason) → option_map FaultReason f ≡ Some why → HasByte why
fault-byte None why e = absurd (cc)
fault-byte (Some x) why e = let same : FaultReason x ≡ why = cc in subst HasByte same tt

word-byte : (b : Bool) (f : Option Fault) (why : Reason) → cond b (Some Compiled) (option_map FaultReason f) ≡ Some why → HasByte why
word-byte true f why e = let same : Compiled ≡ why = cc in subst HasByte same tt
word-byte false f why e = fault-byte f why e

breakpoint-byte : (pc : ℕ) (places : List (Option Place)) (other : Option Reason) (why : Reason) → length places ≡ PLACES → ((e : other ≡ Some why) → HasByte why) → breakpoint_or (first_enabled pc places) other ≡ Some why → HasByte why
breakpoint-byte pc places other why count goes e = by_place (first_enabled pc places) refl e
  where
    by_place : (o : Option ℕ) → first_enabled pc places ≡ o → breakpoint_or o other ≡ Some why → HasByte why
    by_place None f g = goes g
    by_place (Some i) f g =
        let same : Breakpoint i ≡ why = cc in
        let lt = (position-Some (is_enabled_at pc) places i None f).0 in
        let low : i < 256 = omega (arith, lt, count) in
        subst HasByte same low

trap-byte : (s : Machine) (h : ℕ) (why : Reason) → length s.seen.places ≡ PLACES → trap s h ≡ Some why → HasByte why
unfolding trap
trap-byte s h why count e = by_start (not s.opened && (eqb h 0)) e
  where
    of_word : (r : Result ℕ Fault) → trap_of_fetched (context_at s h) (hart_count s) s.seen.memory r ≡ Some why → HasByte why
    of_word (Err fault) f = let same : FaultReason fault ≡ why = cc in subst HasByte same tt
    of_word (Ok word) f = word-byte (eqb word EBREAK) (word_fault (context_at s h) (hart_count s) s.seen.memory word) why f

    by_halt : (b : Bool) → cond b None (breakpoint_or (first_enabled (context_at s h).pc s.seen.places) (trap_of_fetched (context_at s h) (hart_count s) s.seen.memory (fetched_at s h))) ≡ Some why → HasByte why
    by_halt true f = absurd (cc)
    by_halt false f = breakpoint-byte (context_at s h).pc s.seen.places _ why count (of_word (fetched_at s h)) f

    by_start : (b : Bool) → cond b (Some Start) (cond (context_at s h).halted None (breakpoint_or (first_enabled (context_at s h).pc s.seen.places) (trap_of_fetched (context_at s h) (hart_count s) s.seen.memory (fetched_at s h)))) ≡ Some why → HasByte why
    by_start true f = let same : Start ≡ why = cc in subst HasByte same tt
    by_start false f = by_halt (context_at s h).halted f

again-byte : (s : Machine) (m : ℕ) (g : Stage) (why : Reason) → reason_again s m g ≡ Some why → HasByte why
again-byte s m stage.Lines why e = absurd (cc)
again-byte s m (stage.Pass again) why e = fault-byte (fault_of s m) why e
again-byte s m stage.Back why e = let same : StepReason ≡ why = cc in subst HasByte same tt
again-byte s m stage.Leaving why e = absurd (cc)

reason-byte : (p : PlantedMachine) (m late : ℕ) (why : Reason) (session : Option Sitting) → length p.machine.seen.places ≡ PLACES → reason_in session p m late ≡ Some why → HasByte why
reason-byte p m late why None count e = trap-byte p.machine m why count e
reason-byte p m late why (Some s) count e = again-byte p.machine m s.stage why (given (is_of m s && (eqb s.late late && is_none p.step)) _ why e)

open-text : (c : Counted) (m : Hart) (late : ℕ) → IsBounded c.machine → may c.machine (Open m late) ≡ true → length (effect c.machine (Open m late)).text + text_left (counted_after c (Open m late)) ≤ text_left c
unfolding text_left effect
open-text c m late bounded e =
    let s = c.machine.machine in
    let x = open-opened c.machine m late e in
    let least = open_least c.machine m.0 late x.why (planted_count c.machine.places) c.stepped c.machine.session x.reason (places_within c.machine.places) in
    let below = ltb-true m.0 (hart_count s) (and_true (is_hart s m.0) _ x.sits).0 in
    let short = banners_short late m.0 x.why (context_at s m.0).pc (omega (arith, below, bounded.harts)) (reason-byte c.machine m.0 late x.why c.machine.session bounded.order.limits.places x.reason) in
    let with_made : Made → Counted = λ d. record { machine = d.next; sends = c.sends; stepped = c.stepped; released = c.released } in
    let text = banner_text late m.0 x.why (context_at s m.0).pc in
    let prints : length text + (steps_left s + 240 * suc (length s.unread + 0)) ≤ steps_left s + 240 * suc (length s.unread + opening_left c.machine.session) =
    subst (λ o. length text + (steps_left s + 240 * suc (length s.unread + 0)) ≤ steps_left s + 240 * suc (length s.unread + o)) (sym least.1) (opening_prints (length text) (steps_left s) (length s.unread) short) in
    subst (λ o. length (opened_for c.machine m late o).text + text_left (with_made (opened_for c.machine m late o)) ≤ text_left c) (sym x.reason) prints

-- an entry that prints nothing, and opens nothing
same_text : (t u o : ℕ) → 0 + (t + 240 * suc (u + o)) ≤ t + 240 * suc (u + o)
same_text t u o = omega arith

close-text : (c : Counted) (h : Hart) → may c.machine (Close h) ≡ true → length (effect c.machine (Close h)).text + text_left (counted_after c (Close h)) ≤ text_left c
unfolding text_left effect may
close-text c h e =
    let s = c.machine.machine in
    subst (λ o. 0 + (steps_left s + 240 * suc (length s.unread + 1)) ≤ steps_left s + 240 * suc (length s.unread + o))
    (sym (leaving c.machine.session (and_true (in_session (λ x. is_of h.0 x && is_leaving x.stage) c.machine.session) _ e).0))
    (same_text (steps_left s) (length s.unread) 1)
  where
    leaving : (session : Option Sitting) → in_session (λ x. is_of h.0 x && is_leaving x.stage) session ≡ true → opening_left session ≡ 1
    leaving None f = absurd (false≢true f)
    leaving (Some x) f = ap opening_at (is_leaving-Leaving x.stage (and_true (is_of h.0 x) (is_leaving x.stage) f).1)

entry-text : (c : Counted) (e : Entry) → IsBounded c.machine → may c.machine e ≡ true → is_end e ≡ false → is_line e ≡ false → length (effect c.machine e).text + text_left (counted_after c e) ≤ text_left c
unfolding text_left effect
entry-text c (Step h) bounded legal no_end no_line = step-text c h bounded legal
entry-text c (Intr h) bounded legal no_end no_line = intr-text c h legal
entry-text c (Send k) bounded legal no_end no_line = same_text (steps_left c.machine.machine) (length c.machine.machine.unread) (opening_left c.machine.session)
entry-text c (Take h) bounded legal no_end no_line = same_text (steps_left c.machine.machine) (length c.machine.machine.unread) (opening_left c.machine.session)
entry-text c (Open m late) bounded legal no_end no_line = open-text c m late bounded legal
entry-text c (Pull i) bounded legal no_end no_line = same_text (steps_left c.machine.machine) (length c.machine.machine.unread) (opening_left c.machine.session)
entry-text c (Line h) bounded legal no_end no_line = absurd (false≢true (sym no_line))
entry-text c (Plant i) bounded legal no_end no_line = same_text (steps_left c.machine.machine) (length c.machine.machine.unread) (opening_left c.machine.session)
entry-text c (PlantStep addr) bounded legal no_end no_line = same_text (steps_left c.machine.machine) (length c.machine.machine.unread) (opening_left c.machine.session)
entry-text c PullStep bounded legal no_end no_line = same_text (steps_left c.machine.machine) (length c.machine.machine.unread) (opening_left c.machine.session)
entry-text c (Close h) bounded legal no_end no_line = close-text c h legal
entry-text c (Off ending) bounded legal no_end no_line = absurd (false≢true (sym no_end))

-- What is left of text after a line.

opening_most : (session : Option Sitting) → opening_left session ≤ 1
opening_most None = omega arith
opening_most (Some s) = by_stage s.stage
  where
    by_stage : (g : Stage) → opening_at g ≤ 1
    by_stage stage.Lines = omega arith
    by_stage (stage.Pass again) = omega arith
    by_stage stage.Back = omega arith
    by_stage stage.Leaving = omega arith

after_line : (limit read steps u o : ℕ) → o ≤ 1 → limit + (read + 1) - steps + 240 * suc (u + o) ≤ limit + read + 1 - steps + 240 * (suc u + 2)
after_line limit read steps u o few = omega arith

text-read : (c : Counted) (x : Sitting) (line : List ℕ) (rest : List (List ℕ)) → c.machine.machine.unread ≡ line ∷ rest →
    text_left (counted_read c (line_made c.machine x (line_effect x.master x.late line (with_read c.machine.machine rest))))
    ≤ c.machine.machine.limit + c.machine.machine.lines_read + 1 - c.machine.machine.steps + 240 * (length c.machine.machine.unread + 2)
unfolding text_left line_effect
text-read c x line rest unread =
    let s = c.machine.machine in
    let cut = line_effect x.master x.late line (with_read s rest) in
    let o = opening_at (stage_after cut.left) in
    subst (λ v. s.limit + (s.lines_read + 1) - s.steps + 240 * suc (length rest + o) ≤ s.limit + s.lines_read + 1 - s.steps + 240 * (v + 2)) (sym (ap length unread))
    (after_line s.limit s.lines_read s.steps (length rest) o (opening_most (Some (record x { stage = stage_after cut.left }))))

line-text : (c : Counted) (h : Hart) → may c.machine (Line h) ≡ true →
    text_left (counted_after c (Line h)) ≤ c.machine.machine.limit + c.machine.machine.lines_read + 1 - c.machine.machine.steps + 240 * (length c.machine.machine.unread + 2)
unfolding effect
line-text c h e =
    let l = legal_line c h e in
    let most = c.machine.machine.limit + c.machine.machine.lines_read + 1 - c.machine.machine.steps + 240 * (length c.machine.machine.unread + 2) in
    subst (λ (d : Made). text_left (counted_read c d) ≤ most) (sym l.made) (text-read c l.sitting l.line l.rest l.unread)

-- What is always left.

some_entry : (t a s w : ℕ) → 1 ≤ s → 10 ≤ t + 10 * (a + s + w)
some_entry t a s w some = omega arith

last_entry : (c : Counted) → 10 ≤ bytes_left c
unfolding bytes_left
last_entry c =
    let s = c.machine.machine in
    some_entry (steps_left s) (2 * (most_sends s - c.sends) + pending_calls c.machine + 52 * length s.unread) (session_left c.machine.session (planted_count c.machine.places) c.stepped) (word_left c.machine.step)
    (session_least c.machine.session (planted_count c.machine.places) c.stepped (places_within c.machine.places))

last_text : (c : Counted) → 240 ≤ text_left c
unfolding text_left
last_text c = omega arith

pub leaves_room : EntriesLeaveRoom
leaves_room = record { bytes = entry-bytes; text = entry-text; line = line-text; last_entry = last_entry; last_text = last_text }
