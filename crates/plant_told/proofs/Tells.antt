-- What is told after the entry of a call.
use Rattle.std.proofs.Common.{◌≡◌, ◌≢◌, ℕ, suc, ◌+◌, ◌%◌, ◌<◌, ◌≤◌, eqb, ◌==◌, ◌&&◌, Bool, true, false, not, cond, List, ◌∷◌, length, Option, Some, None, is_some, option_map, refl, sym, ap, subst, ◌∙◌, ◌⊎◌, inl, inr, arith}
use Rattle.std.specs.Prelude.{slice_index_or, slice_set}
use Rattle.std.proofs.lemmas.Bool.{false≢true, eqb-true, eqb-false, eq-eqb, ltb-true, cases_eq, cases_lt}
use Rattle.std.proofs.lemmas.List.{get_or-set_same, get_or-set_other}
use Rattle.mach_base.specs.Masks.{has_bit, mask_with, mask_without, all_but}
use Rattle.mach_base.specs.Machine.{Context, Machine, is_text_word, is_text_segment, segment_at}
use Rattle.mach_base.specs.declared.limits.TheConstants.{PLACES}
use Rattle.mach_base.proofs.Bits.{has_bit-with_same, has_bit-with_other, has_bit-without_same, has_bit-without_other, same_mask}
use Rattle.mach_base.specs.declared.event.Hart.{Hart}
use Rattle.mach_base.specs.declared.event.Ending.{Ending}
use Rattle.mach_base.specs.declared.event.Entry.{Entry}
use Rattle.mach_base.specs.declared.event.Entry.TheVariants.{Step, Intr, Send, Take, Open, Pull, Line, Plant, PlantStep, PullStep, Close, Off}
use Rattle.hart_step.specs.declared.control.After.{After}
use Rattle.hart_step.specs.declared.control.After.TheVariants.{At, Nowhere}
use Rattle.bus_plant.specs.Planted.{planted_mask}
use Rattle.deck_core.specs.declared.plain.act.Act.TheVariants as act
use Rattle.deck_core.specs.declared.plain.notes.Sitting.{Sitting}
use Rattle.deck_core.specs.declared.plain.notes.Stage.{Stage}
use Rattle.deck_core.specs.declared.plain.notes.Stage.TheVariants as stage
use Rattle.deck_core.specs.contract.Told.{Told}
use Rattle.deck_core.specs.contract.Allowed.{in_session, is_of, is_lines, is_leaving, may_open, is_legal}
use Rattle.deck_core.specs.contract.Calls.{sent, pulled, replanted, step_planted, step_pulled, mask_inside, opened, in_stage, line_read, executed as executed_told}
use Rattle.atom_mach.specs.State.{hart_count, context_at}
use Rattle.atom_mach.specs.Traps.{fault_of, next_pc, trap, executed, interrupted}
use Rattle.atom_mach.specs.Session.{with_read, line_effect}
use Rattle.atom_mach.specs.Frame.{IsLeft}
use Rattle.atom_mach.specs.Limits.{IsKept}
use Rattle.atom_mach.proofs.Booleans.{and_true, not_is}
use Rattle.atom_mach.proofs.Frame.{instructions_leave, interrupts_leave}
use Rattle.atom_mach.proofs.Kept.{executed_kept, interrupted_kept, line_kept}
use Rattle.plant_mach.specs.Machine.{PlantedMachine, mask_where, planted_at, enabled_at, enabled_mask, planted_of, enabled_of, held_by, held_of, is_held}
use Rattle.plant_mach.specs.Entries.{Made, faults, after_pass, after_step, has_line, stage_after, line_made, read_in, opened_for, step_address, text_elsewhere, effect}
use Rattle.plant_mach.specs.Order.{IsSeated, IsOrderly}
use Rattle.plant_mach.proofs.Sessions.{IsOpen, reads_line, is_lines-Lines}
use Rattle.plant_mach.proofs.Opens.{IsOpened, open-opened}
use Rattle.plant_mach.proofs.Places.{bit-past, bit-within, planted-where, planted-bit, enabled-bit}
use Rattle.plant_told.specs.Told.{Counted, address_of, next_in, plantable_in, mask_of, traps_of, faults_of, told_of}
use Rattle.plant_told.specs.Laws.{IsGoing, IsAllowed, after, stage_passed, TellsOfOne, CallsTell}
use Rattle.plant_told.proofs.Legal.{allowed, enter-legal}

-- Entries that change what they name alone.

send-tells : (c : Counted) (k : Hart) → told_of (after c (Send k) (suc c.sends) c.stepped) ≡ sent (told_of c)
unfolding told_of effect faults_of
send-tells c k = refl

take-tells : (c : Counted) (h : Hart) → told_of (after c (Take h) c.sends c.stepped) ≡ told_of c
unfolding told_of effect faults_of
take-tells c h = refl

ending-tells : (c : Counted) (ending : Ending) → told_of (after c (Off ending) c.sends c.stepped) ≡ record (told_of c) { over = true }
unfolding told_of effect faults_of
ending-tells c ending = refl

plant_step-tells : (c : Counted) (addr : ℕ) → told_of (after c (PlantStep addr) c.sends true) ≡ step_planted addr (told_of c)
unfolding told_of effect faults_of
plant_step-tells c addr = refl

pull_step-tells : (c : Counted) → told_of (after c PullStep c.sends c.stepped) ≡ step_pulled (told_of c)
unfolding told_of effect faults_of
pull_step-tells c = refl

-- Places.

planted-past : (places : List (Option ℕ)) (n k : ℕ) → n ≤ k → has_bit (planted_mask places n) k ≡ false
planted-past places n k ge = ap (λ m. has_bit m k) (planted-where places n) ∙ bit-past _ n k ge

-- another place has the bit that it had
set-other : (places : List (Option ℕ)) (n i k : ℕ) (x : Option ℕ) → k ≢ i → has_bit (planted_mask (slice_set places i x) n) k ≡ has_bit (planted_mask places n) k
set-other places n i k x ne = by_number (cases_lt k n)
  where
    by_number : (k < n) ⊎ (n ≤ k) → has_bit (planted_mask (slice_set places i x) n) k ≡ has_bit (planted_mask places n) k
    by_number (inl lt) = planted-bit (slice_set places i x) n k lt ∙ ap is_some (get_or-set_other places i k x None ne) ∙ sym (planted-bit places n k lt)
    by_number (inr ge) = planted-past (slice_set places i x) n k ge ∙ sym (planted-past places n k ge)

set-same : (places : List (Option ℕ)) (n i : ℕ) (x : Option ℕ) → i < n → length places ≡ n → has_bit (planted_mask (slice_set places i x) n) i ≡ is_some x
set-same places n i x lt count = planted-bit (slice_set places i x) n i lt ∙ ap is_some (get_or-set_same places i x None (omega arith))

pulled-mask : (places : List (Option ℕ)) (n i : ℕ) → i < n → length places ≡ n → has_bit (planted_mask places n) i ≡ true → planted_mask (slice_set places i None) n ≡ mask_without (planted_mask places n) i
pulled-mask places n i lt count there = same_mask _ _ (λ k. by_number k (cases_eq k i))
  where
    by_number : (k : ℕ) → (k ≡ i) ⊎ (k ≡ i → ⊥) → has_bit (planted_mask (slice_set places i None) n) k ≡ has_bit (mask_without (planted_mask places n) i) k
    by_number k (inl e) = ap (has_bit (planted_mask (slice_set places i None) n)) e ∙ set-same places n i None lt count ∙ sym (has_bit-without_same (planted_mask places n) i there) ∙ ap (has_bit (mask_without (planted_mask places n) i)) (sym e)
    by_number k (inr ne) = set-other places n i k None ne ∙ sym (has_bit-without_other (planted_mask places n) i k ne)

replanted-mask : (places : List (Option ℕ)) (n i : ℕ) (x : Option ℕ) → i < n → length places ≡ n → is_some x ≡ true → planted_mask (slice_set places i x) n ≡ mask_with (planted_mask places n) i
replanted-mask places n i x lt count some = same_mask _ _ (λ k. by_number k (cases_eq k i))
  where
    by_number : (k : ℕ) → (k ≡ i) ⊎ (k ≡ i → ⊥) → has_bit (planted_mask (slice_set places i x) n) k ≡ has_bit (mask_with (planted_mask places n) i) k
    by_number k (inl e) = ap (has_bit (planted_mask (slice_set places i x) n)) e ∙ set-same places n i x lt count ∙ some ∙ sym (has_bit-with_same (planted_mask places n) i) ∙ ap (has_bit (mask_with (planted_mask places n) i)) (sym e)
    by_number k (inr ne) = set-other places n i k x ne ∙ sym (has_bit-with_other (planted_mask places n) i k ne)

pull-tells : (c : Counted) (i : ℕ) → IsGoing c → IsAllowed (act.Pull i) c → told_of (after c (Pull i) c.sends c.stepped) ≡ pulled i (told_of c)
unfolding told_of effect faults_of
pull-tells c i going e =
    let a = allowed (act.Pull i) c going e in
    let there = (and_true (in_session (λ s. is_lines s.stage) c.machine.session) _ a.1).1 in
    ap (λ m. record (told_of c) { planted = m }) (pulled-mask c.machine.places PLACES i (ltb-true i PLACES a.0) going.order.words.places there)

plant-tells : (c : Counted) (i : ℕ) → IsGoing c → IsAllowed (act.Plant i) c → told_of (after c (Plant i) c.sends c.stepped) ≡ replanted i (told_of c)
unfolding told_of effect faults_of
plant-tells c i going e =
    let a = allowed (act.Plant i) c going e in
    let lt = ltb-true i PLACES a.0 in
    let b = and_true (in_session (λ s. is_leaving s.stage) c.machine.session) _ a.1 in
    let d = and_true _ _ b.1 in
    let there = (and_true (has_bit (enabled_of c.machine) i) _ d.1).0 in
    ap (λ m. record (told_of c) { planted = m }) (replanted-mask c.machine.places PLACES i (enabled_at c.machine i) lt going.order.words.places (sym (enabled-bit c.machine.machine.seen.places PLACES i lt) ∙ there))

-- Sessions.

close-tells : (c : Counted) (h : Hart) → IsGoing c → told_of (after c (Close h) c.sends c.stepped) ≡ record (told_of c) { mask = 0; session = None; next = None; plantable = false }
unfolding told_of effect faults_of
close-tells c h going = ap (λ m. record (told_of c) { mask = m; session = None; next = None; plantable = false }) (either c.released)
  where
    either : (b : Bool) → ◌≡◌ {A = ℕ} (cond b 0 0) 0
    either true = refl
    either false = refl

entered-mask : (c : Counted) (late : ℕ) (session : Option Sitting) → IsGoing c → c.machine.session ≡ session → ((s : Sitting) → session ≡ Some s → s.late ≡ late) →
    all_but (hart_count c.machine.machine) late ≡ mask_inside late (told_of c) session
unfolding told_of
entered-mask c late None going is same = refl
entered-mask c late (Some s) going is same =
    ap (all_but (hart_count c.machine.machine)) (sym (same s refl)) ∙ ap (held_by (hart_count c.machine.machine)) (sym is) ∙ ap (λ b. cond b 0 (held_of c.machine)) (sym going.held)

same_late : (c : Counted) (h : Hart) (late : ℕ) → IsGoing c → IsAllowed (act.Enter h late) c → (s : Sitting) → c.machine.session ≡ Some s → s.late ≡ late
unfolding told_of
same_late c h late going e s is =
    let a = (allowed (act.Enter h late) c going e).1 in
    by_session a
  where
    by_session : is_legal (act.Enter h late) (told_of c) ≡ true → s.late ≡ late
    by_session a =
        let b = subst (λ session. may_open h.0 late (told_of c) session ≡ true) is a in
        let d = and_true (is_of h.0 s && eqb s.late late) _ b in
        eqb-true s.late late (and_true (is_of h.0 s) (eqb s.late late) d.0).1

enter-tells : (c : Counted) (h : Hart) (late : ℕ) → IsGoing c → IsAllowed (act.Enter h late) c →
    told_of (after c (Open h late) c.sends c.stepped) ≡ opened h.0 late (told_of c) (told_of (after c (Open h late) c.sends c.stepped))
unfolding told_of effect faults_of
enter-tells c h late going e =
    let x = open-opened c.machine h late (enter-legal c h late going e) in
    let made = opened_for c.machine h late (Some x.why) in
    let with_made : Made → Counted = λ d. record { machine = d.next; sends = c.sends; stepped = c.stepped; released = c.released } in
    let mask = ap (λ b. cond b 0 (all_but (hart_count c.machine.machine) late)) going.held ∙ entered-mask c late c.machine.session going refl (λ s is. same_late c h late going e s is) in
    let told : told_of (with_made made) ≡ opened h.0 late (told_of c) (told_of (with_made made)) = ap (λ m. record (told_of (with_made made)) { mask = m }) mask in
    subst (λ o. told_of (with_made (opened_for c.machine h late o)) ≡ opened h.0 late (told_of c) (told_of (with_made (opened_for c.machine h late o)))) (sym x.reason) told

-- Lines.

lines_more : (n : ℕ) → n + 1 ≡ suc n
lines_more n = omega arith

line-parts : (m : Hart) (late : ℕ) (line : List ℕ) (rest : List (List ℕ)) (s : Machine) → (line_effect m late line (with_read s rest)).machine.lines_read ≡ s.lines_read + 1
unfolding line_effect
line-parts m late line rest s = refl

line-made : (c : Counted) (s : Sitting) (line : List ℕ) (rest : List (List ℕ)) (to : Stage) → c.machine.session ≡ Some s → c.machine.machine.unread ≡ line ∷ rest →
    (d : Made) → d ≡ line_made c.machine s (line_effect s.master s.late line (with_read c.machine.machine rest)) → to ≡ stage_after (line_effect s.master s.late line (with_read c.machine.machine rest)).left →
    told_of (record { machine = d.next; sends = c.sends; stepped = false; released = c.released }) ≡ line_read to (told_of c) (told_of (record { machine = d.next; sends = c.sends; stepped = false; released = c.released }))
unfolding told_of faults_of
line-made c s line rest to is unread d made stage_is =
    let cut = line_effect s.master s.late line (with_read c.machine.machine rest) in
    let kept = line_kept s.master s.late line rest c.machine.machine unread in
    let next : Counted = record { machine = (line_made c.machine s cut).next; sends = c.sends; stepped = false; released = c.released } in
    let build : ℕ → ℕ → Option Sitting → ℕ → Told = λ n m session l. record (told_of next) { harts = n; mask = m; session = session; lines = l } in
    let mask : mask_of c.released next.machine ≡ mask_of c.released c.machine = ap (λ n. cond c.released 0 (all_but n s.late)) kept.harts ∙ ap (λ session. cond c.released 0 (held_by (hart_count c.machine.machine) session)) (sym is) in
    let session : Some (record s { stage = stage_after cut.left }) ≡ in_stage to c.machine.session = ap (λ g. Some (record s { stage = g })) (sym stage_is) ∙ ap (in_stage to) (sym is) in
    let lines : cut.machine.lines_read ≡ suc c.machine.machine.lines_read = line-parts s.master s.late line rest c.machine.machine ∙ lines_more c.machine.machine.lines_read in
    let told : told_of next ≡ line_read to (told_of c) (told_of next) =
    ap (λ n. build n (mask_of c.released next.machine) next.machine.session next.machine.machine.lines_read) kept.harts
    ∙ ap (λ m. build (hart_count c.machine.machine) m next.machine.session next.machine.machine.lines_read) mask
    ∙ ap (λ x. build (hart_count c.machine.machine) (mask_of c.released c.machine) x next.machine.machine.lines_read) session
    ∙ ap (λ l. build (hart_count c.machine.machine) (mask_of c.released c.machine) (in_stage to c.machine.session) l) lines in
    subst (λ (x : Made). told_of (record { machine = x.next; sends = c.sends; stepped = false; released = c.released }) ≡ line_read to (told_of c) (told_of (record { machine = x.next; sends = c.sends; stepped = false; released = c.released }))) (sym made) told

stage_is : (s t : Sitting) (g : Stage) (session : Option Sitting) → session ≡ Some (record s { stage = g }) → session ≡ Some t → t.stage ≡ g
stage_is s t g session e f = ap stage_in (sym f ∙ e)
  where
    stage_in : Option Sitting → Stage
    stage_in None = stage.Lines
    stage_in (Some x) = x.stage

line-tells : (c : Counted) (h : Hart) (s : Sitting) → IsGoing c → IsAllowed (act.Line h) c → has_line c.machine.machine.unread ≡ true → (effect c.machine (Line h)).next.session ≡ Some s →
    told_of (after c (Line h) c.sends false) ≡ line_read s.stage (told_of c) (told_of (after c (Line h) c.sends false))
unfolding told_of effect
line-tells c h s going e there after_is =
    let a = (allowed (act.Line h) c going e).1 in
    let l = reads_line c.machine h.0 (and_true (in_session (λ x. is_of h.0 x && is_lines x.stage) c.machine.session) _ a).0 there in
    line-made c l.sitting l.line l.rest s.stage l.is l.unread (read_in c.machine.session c.machine.machine.unread c.machine) l.made (stage_is l.sitting s _ _ (ap (λ (d : Made). d.next.session) l.made) after_is)

-- Steps of a pass.

passed-session : (h : ℕ) (session : Option Sitting) (s : Sitting) (again : Bool) → session ≡ Some s → s.master.0 ≡ h → s.stage ≡ stage.Pass again → option_map (after_step h) session ≡ in_stage (stage_passed again) session
passed-session h session s again is own pass =
    ap (option_map (after_step h)) is
    ∙ ap (λ b. Some (cond b (record s { stage = after_pass s.stage }) s)) (eq-eqb s.master.0 h own)
    ∙ ap (λ g. Some (record s { stage = after_pass g })) pass
    ∙ ap (λ g. Some (record s { stage = g })) (passed again)
    ∙ ap (in_stage (stage_passed again)) (sym is)
  where
    passed : (b : Bool) → after_pass (stage.Pass b) ≡ stage_passed b
    passed true = refl
    passed false = refl

held-after_step : (n h : ℕ) (session : Option Sitting) → held_by n (option_map (after_step h) session) ≡ held_by n session
held-after_step n h None = refl
held-after_step n h (Some s) = by_master (is_of h s)
  where
    by_master : (b : Bool) → held_by n (Some (cond b (record s { stage = after_pass s.stage }) s)) ≡ all_but n s.late
    by_master true = refl
    by_master false = refl

pass_step-tells : (c : Counted) (h : Hart) (s : Sitting) (again : Bool) → IsGoing c → c.machine.session ≡ Some s → s.master.0 ≡ h.0 → s.stage ≡ stage.Pass again →
    told_of (after c (Step h) c.sends c.stepped) ≡ executed_told (stage_passed again) (told_of c) (told_of (after c (Step h) c.sends c.stepped))
unfolding told_of effect faults_of executed
pass_step-tells c h s again going is own pass =
    let kept = executed_kept c.machine.machine h.0 in
    let next = after c (Step h) c.sends c.stepped in
    let build : ℕ → ℕ → Option Sitting → Told = λ n m session. record (told_of next) { harts = n; mask = m; session = session } in
    let mask : mask_of c.released next.machine ≡ mask_of c.released c.machine = ap (λ n. cond c.released 0 (held_by n (option_map (after_step h.0) c.machine.session))) kept.harts ∙ ap (λ m. cond c.released 0 m) (held-after_step (hart_count c.machine.machine) h.0 c.machine.session) in
    ap (λ n. build n (mask_of c.released next.machine) next.machine.session) kept.harts
    ∙ ap (λ m. build (hart_count c.machine.machine) m next.machine.session) mask
    ∙ ap (λ x. build (hart_count c.machine.machine) (mask_of c.released c.machine) x) (passed-session h.0 c.machine.session s again is own pass)

-- Steps and interrupts of one hart.

masks-alike : (f g : ℕ → Bool) (n m k : ℕ) → n ≡ m → (k < m → f k ≡ g k) → has_bit (mask_where f n) k ≡ has_bit (mask_where g m) k
masks-alike f g n m k count same = ap (λ j. has_bit (mask_where f j) k) count ∙ by_number (cases_lt k m)
  where
    by_number : (k < m) ⊎ (m ≤ k) → has_bit (mask_where f m) k ≡ has_bit (mask_where g m) k
    by_number (inl lt) = bit-within f m k lt ∙ same lt ∙ sym (bit-within g m k lt)
    by_number (inr ge) = bit-past f m k ge ∙ sym (bit-past g m k ge)

text-alike : (s t : Machine) (pc at : ℕ) (x y : After) → t.seen.memory.segments ≡ s.seen.memory.segments → at ≡ pc → y ≡ x → text_elsewhere t at y ≡ text_elsewhere s pc x
text-alike s t pc at x y segments same next = ap (text_elsewhere t at) next ∙ by_next x
  where
    text : (a : ℕ) → is_text_word t.seen.memory a ≡ is_text_word s.seen.memory a
    text a = ap (λ g. (eqb (a % 4) 0) && is_text_segment (segment_at g a)) segments

    by_next : (z : After) → text_elsewhere t at z ≡ text_elsewhere s pc z
    by_next (At a) = ap (λ b. cond (b && not (eqb a at)) (Some a) None) (text a) ∙ ap (λ q. cond (is_text_word s.seen.memory a && not (eqb a q)) (Some a) None) same
    by_next Nowhere = refl

-- the machine after a step of one hart: its memory, contexts and count are other ones
module _ (c : Counted) (h : ℕ) (t : Machine) (session : Option Sitting) (kept : IsKept c.machine.machine t) (left : (k : ℕ) → k ≢ h → IsLeft k c.machine.machine t) (places : t.seen.places ≡ c.machine.machine.seen.places) (lines : t.lines_read ≡ c.machine.machine.lines_read) (same : session ≡ c.machine.session) where
  moved : Counted
  moved = record { machine = record c.machine { machine = t; session = session }; sends = c.sends; stepped = c.stepped; released = c.released }

  told : told_of moved ≡ record (told_of c) { traps = (told_of moved).traps; faults = (told_of moved).faults; next = (told_of moved).next; plantable = (told_of moved).plantable }
  unfolding told_of moved
  told =
      let build : ℕ → ℕ → ℕ → Option Sitting → ℕ → Told = λ n m e x l. record (told_of moved) { harts = n; mask = m; enabled = e; session = x; lines = l } in
      let n = hart_count c.machine.machine in
      let mask : mask_of c.released moved.machine ≡ mask_of c.released c.machine = ap (λ k. cond c.released 0 (held_by k session)) kept.harts ∙ ap (λ x. cond c.released 0 (held_by n x)) same in
      let enabled : enabled_of moved.machine ≡ enabled_of c.machine = ap (λ p. enabled_mask p PLACES) places in
      ap (λ k. build k (mask_of c.released moved.machine) (enabled_of moved.machine) session t.lines_read) kept.harts
      ∙ ap (λ m. build n m (enabled_of moved.machine) session t.lines_read) mask
      ∙ ap (λ e. build n (mask_of c.released c.machine) e session t.lines_read) enabled
      ∙ ap (λ x. build n (mask_of c.released c.machine) (enabled_of c.machine) x t.lines_read) same
      ∙ ap (λ l. build n (mask_of c.released c.machine) (enabled_of c.machine) c.machine.session l) lines

  traps_left : (k : ℕ) → k ≢ h → has_bit (told_of moved).traps k ≡ has_bit (told_of c).traps k
  unfolding told_of moved traps_of
  traps_left k ne = masks-alike (λ j. is_some (trap t j)) (λ j. is_some (trap c.machine.machine j)) (hart_count t) (hart_count c.machine.machine) k kept.harts (λ lt. ap is_some (left k ne).trap)

  faults_left : (k : ℕ) → k ≢ h → has_bit (told_of moved).faults k ≡ has_bit (told_of c).faults k
  unfolding told_of moved faults_of
  faults_left k ne = masks-alike (faults moved.machine) (faults c.machine) (hart_count t) (hart_count c.machine.machine) k kept.harts (λ lt. ap is_some (left k ne).fault)

  -- what is told of the master is told alike where the master is another hart
  of_master : {A : Type 0} (tells : Option Sitting → Machine → A) → tells None t ≡ tells None c.machine.machine → ((s : Sitting) → s.master.0 ≢ h → tells (Some s) t ≡ tells (Some s) c.machine.machine) → in_session (is_of h) c.machine.session ≡ false → tells session t ≡ tells c.machine.session c.machine.machine
  of_master tells none some other = ap (λ x. tells x t) same ∙ by_session c.machine.session other
    where
      by_session : (x : Option Sitting) → in_session (is_of h) x ≡ false → tells x t ≡ tells x c.machine.machine
      by_session None e = none
      by_session (Some s) e = some s (eqb-false s.master.0 h e)

  next_left : in_session (is_of h) (told_of c).session ≡ false → (told_of moved).next ≡ (told_of c).next
  unfolding told_of moved
  next_left other = of_master next_in refl (λ s ne. ap address_of (left s.master.0 ne).next) other

  plantable_left : in_session (is_of h) (told_of c).session ≡ false → (told_of moved).plantable ≡ (told_of c).plantable
  unfolding told_of moved
  plantable_left other =
      of_master plantable_in refl
      (λ s ne.
      let l = left s.master.0 ne in
      ap is_some (text-alike c.machine.machine t (context_at c.machine.machine s.master.0).pc (context_at t s.master.0).pc (next_pc c.machine.machine s.master.0) (next_pc t s.master.0) kept.segments (ap (λ (x : Context). x.pc) l.context.same) l.next)) other

  tells_of_one : TellsOfOne h (told_of c) (told_of moved)
  tells_of_one = record { told = told; traps = traps_left; faults = faults_left; next = next_left; plantable = plantable_left }

-- a hart that no session holds isn't its master
unheld-session : (harts h : ℕ) (session : Option Sitting) → IsSeated harts session → in_session (λ s. not (has_bit s.late h)) session ≡ false → option_map (after_step h) session ≡ session
unheld-session harts h None seated e = refl
unheld-session harts h (Some s) seated e = by_master (is_of h s) refl
  where
    late : (b : Bool) → not b ≡ false → b ≡ true
    late true f = refl
    late false f = absurd (false≢true (sym f))

    by_master : (b : Bool) → is_of h s ≡ b → Some (cond b (record s { stage = after_pass s.stage }) s) ≡ Some s
    by_master false f = refl
    by_master true f =
        let own = eqb-true s.master.0 h f in
        absurd (false≢true (sym seated.on_time ∙ ap (has_bit s.late) own ∙ late (has_bit s.late h) e))

step-tells : (c : Counted) (h : Hart) → IsGoing c → is_held c.machine h.0 ≡ false → fault_of c.machine.machine h.0 ≡ None → TellsOfOne h.0 (told_of c) (told_of (after c (Step h) c.sends c.stepped))
unfolding effect moved executed
step-tells c h going free right =
    tells_of_one c h.0 (executed c.machine.machine h.0) (option_map (after_step h.0) c.machine.session) (executed_kept c.machine.machine h.0) (λ k ne. instructions_leave c.machine.machine h.0 k ne right) refl refl
    (unheld-session (hart_count c.machine.machine) h.0 c.machine.session going.order.seated free)

intr-tells : (c : Counted) (h : Hart) → TellsOfOne h.0 (told_of c) (told_of (after c (Intr h) c.sends c.stepped))
unfolding effect moved
intr-tells c h =
    tells_of_one c h.0 (interrupted c.machine.machine h.0) c.machine.session (interrupted_kept c.machine.machine h.0) (λ k ne. interrupts_leave c.machine.machine h.0 k ne) refl refl refl

pub calls_tell : CallsTell
calls_tell = record {
  send = send-tells;
  take = take-tells;
  ending = ending-tells;
  plant_step = plant_step-tells;
  pull_step = pull_step-tells;
  pull = pull-tells;
  plant = plant-tells;
  close = close-tells;
  enter = enter-tells;
  line = line-tells;
  pass_step = pass_step-tells;
  step = step-tells;
  intr = intr-tells;
}
