-- What each call does, in the words of the protocol's contract.
use Rattle.std.proofs.Common.{◌≡◌, ◌≢◌, ℕ, suc, ◌<◌, eqb, ◌==◌, ◌&&◌, ◌||◌, Bool, true, false, not, cond, List, [], ◌∷◌, Option, Some, None, is_some, is_none, option_map, refl, sym, ap, subst, ◌∙◌}
use Rattle.std.proofs.Math.Logic.{∥∥₁_elim}
use Rattle.std.proofs.Math.Bool.{Bool-set}
use Rattle.std.proofs.Math.Nat.{ℕ_set}
use Rattle.std.specs.Coded.{le_prop}
use Rattle.std.proofs.lemmas.Bool.{false≢true, ltb-true, eqb-true, eq-eqb}
use Rattle.mach_base.specs.Machine.{Machine, is_text_word}
use Rattle.mach_base.specs.Masks.{has_bit}
use Rattle.mach_base.proofs.Bits.{has_bit-all_but_inside}
use Rattle.mach_base.specs.declared.event.Hart.{Hart}
use Rattle.mach_base.specs.declared.event.Reason.{Reason}
use Rattle.mach_base.specs.declared.event.Ending.{Ending}
use Rattle.mach_base.specs.declared.event.Ending.TheVariants.{ScriptEnd}
use Rattle.mach_base.specs.declared.event.Entry.{Entry}
use Rattle.mach_base.specs.declared.event.Entry.TheVariants as entry
use Rattle.hart_step.specs.declared.control.After.{After}
use Rattle.hart_step.specs.declared.control.After.TheVariants.{At, Nowhere}
use Rattle.deck_core.specs.declared.plain.act.Act.{Act}
use Rattle.deck_core.specs.declared.plain.act.Act.TheVariants as act
use Rattle.deck_core.specs.declared.plain.act.Answer.{Answer}
use Rattle.deck_core.specs.declared.plain.act.Answer.TheVariants as answer
use Rattle.deck_core.specs.declared.plain.act.Turned.{Turned}
use Rattle.deck_core.specs.declared.plain.act.Turned.TheVariants as turned
use Rattle.deck_core.specs.declared.plain.act.Entered.{Entered}
use Rattle.deck_core.specs.declared.plain.act.Entered.TheVariants as entered
use Rattle.deck_core.specs.declared.plain.act.Lined.{Lined}
use Rattle.deck_core.specs.declared.plain.act.Lined.TheVariants as lined
use Rattle.deck_core.specs.declared.plain.act.Passed.{Passed}
use Rattle.deck_core.specs.declared.plain.act.Passed.TheVariants as passed
use Rattle.deck_core.specs.declared.plain.notes.Sitting.{Sitting}
use Rattle.deck_core.specs.declared.plain.notes.Stage.{Stage}
use Rattle.deck_core.specs.declared.plain.notes.Stage.TheVariants as stage
use Rattle.deck_core.specs.contract.Told.{Told}
use Rattle.deck_core.specs.contract.Allowed.{in_session, is_of, is_lines, is_pass, is_allowed}
use Rattle.deck_core.specs.contract.Calls.{is_again, HartStepGives, CheckGives, EnterGives, LineGives, LineLeaves, Lost, PassGives, PassLeaves, CloseGives, Changes, IsStepAddress, opened, line_read, executed as executed_told, sent, pulled, replanted, step_planted, step_pulled, is_off, is_lost_line}
use Rattle.atom_mach.specs.State.{hart_count, context_at}
use Rattle.atom_mach.specs.Traps.{fault_of, next_pc, trap, executed}
use Rattle.atom_mach.specs.declared.step.Mode.{Mode}
use Rattle.atom_mach.specs.declared.step.Mode.TheVariants as mode
use Rattle.atom_mach.specs.Session.{with_read, line_effect}
use Rattle.atom_mach.proofs.Booleans.{and_true, not_is}
use Rattle.plant_mach.specs.Machine.{PlantedMachine, planted_of, enabled_of, held_by, held_of, is_held}
use Rattle.plant_mach.specs.Entries.{faults, after_pass, after_step, stage_after, read_in, step_address, text_elsewhere, has_line, effect}
use Rattle.plant_mach.proofs.Places.{bit-within}
use Rattle.plant_mach.proofs.Sessions.{in_session-open, is_pass-Pass}
use Rattle.plant_told.specs.Told.{Counted, address_of, next_in, plantable_in, mask_of, traps_of, faults_of, told_of}
use Rattle.plant_told.specs.Laws.{IsGoing, IsAllowed, TellsOfOne, stage_passed}
use Rattle.plant_told.proofs.Legal.{allowed}
use Rattle.plant_told.proofs.Tells.{calls_tell}
use Rattle.plant_room.specs.Room.{counted_after}
use Rattle.bus_core.specs.Core.{machine_of}
use Rattle.bus_core.specs.Inner.{is_legal}
use Rattle.bus_calls.specs.declared.bus.Stood.{Stood}
use Rattle.bus_calls.specs.declared.bus.CoreBus.{CoreBus}
use Rattle.bus_calls.specs.Bus.{counted_of, is_over, told}
use Rattle.bus_calls.specs.Calls.{Call, quietly, making, call_of, turn_of, is_close, lined_at, lined_in, passed_at, passed_in, IsLeft, IsMadeBy, IsMade, IsLost, Does, SameOrigin}
use Rattle.bus_calls.proofs.Facts.{over_told, told_here, told_gone, here_of, none_ending, going_of, allowed_here, left_told, released_told, made_told}
use Rattle.bus_calls.proofs.Sets.{told_set, address_set}
use Rattle.bus_calls.proofs.Turns.{turn_cases, step-legal}

-- what is told after an entry, from what was told before it
told_after : (e : Entry) (a b : CoreBus) (to : Told → Told) → is_over a ≡ false → IsMadeBy e a b → told_of (counted_after (counted_of a) e) ≡ to (told_of (counted_of a)) → told b ≡ to (told a)
told_after e a b to going made is = made_told e a b made ∙ is ∙ ap to (sym (told_here a (here_of a going)))

-- the same of a call whose change names what is told after it
told_both : (e : Entry) (a b : CoreBus) (to : Told → Told → Told) → is_over a ≡ false → IsMadeBy e a b → told_of (counted_after (counted_of a) e) ≡ to (told_of (counted_of a)) (told_of (counted_after (counted_of a) e)) → told b ≡ to (told a) (told b)
told_both e a b to going made is =
    subst (λ t. told b ≡ to t (told b)) (sym (told_here a (here_of a going)))
    (subst (λ t. t ≡ to (told_of (counted_of a)) t) (sym (made_told e a b made)) is)

-- Calls that answer nothing.

changes : (call : Act) (a b : CoreBus) (r : Answer) (to : Told) → Does call a r b → is_close call ≡ false → (is_over a ≡ false → told b ≡ to) → Changes (told a) (told b) to
changes call a b r to does stays goes = record {
  ended = λ over. left_told a b (subst (λ c. IsLeft c a b) stays (does.over (sym (over_told a) ∙ over)).1);
  working = λ over. goes (sym (over_told a) ∙ over);
}

pub gives_send : (k : Hart) (a b : CoreBus) → Does (act.Send k) a answer.Send b → Changes (told a) (told b) (sent (told a))
gives_send k a b does = changes (act.Send k) a b answer.Send (sent (told a)) does refl (λ going. told_after (entry.Send k) a b sent going (does.going going refl).1 (calls_tell.send (counted_of a) k))

pub gives_plant_step : (at : ℕ) (a b : CoreBus) → Does (act.PlantStep at) a answer.PlantStep b → Changes (told a) (told b) (step_planted at (told a))
gives_plant_step at a b does = changes (act.PlantStep at) a b answer.PlantStep (step_planted at (told a)) does refl (λ going. told_after (entry.PlantStep at) a b (step_planted at) going (does.going going refl).1 (calls_tell.plant_step (counted_of a) at))

pub gives_pull_step : (a b : CoreBus) → Does act.PullStep a answer.PullStep b → Changes (told a) (told b) (step_pulled (told a))
gives_pull_step a b does = changes act.PullStep a b answer.PullStep (step_pulled (told a)) does refl (λ going. told_after entry.PullStep a b step_pulled going (does.going going refl).1 (calls_tell.pull_step (counted_of a)))

pub gives_pull : (i : ℕ) (a b : CoreBus) → is_allowed (act.Pull i) (told a) ≡ true → Does (act.Pull i) a answer.Pull b → Changes (told a) (told b) (pulled i (told a))
gives_pull i a b may_be does =
    changes (act.Pull i) a b answer.Pull (pulled i (told a)) does refl (λ going. ∥∥₁_elim (going_of a going) (told_set _ _) (λ goes.
    told_after (entry.Pull i) a b (pulled i) going (does.going going refl).1 (calls_tell.pull (counted_of a) i goes (allowed_here (act.Pull i) a going may_be))))

pub gives_plant : (i : ℕ) (a b : CoreBus) → is_allowed (act.Plant i) (told a) ≡ true → Does (act.Plant i) a answer.Plant b → Changes (told a) (told b) (replanted i (told a))
gives_plant i a b may_be does =
    changes (act.Plant i) a b answer.Plant (replanted i (told a)) does refl (λ going. ∥∥₁_elim (going_of a going) (told_set _ _) (λ goes.
    told_after (entry.Plant i) a b (replanted i) going (does.going going refl).1 (calls_tell.plant (counted_of a) i goes (allowed_here (act.Plant i) a going may_be))))

abbrev closed : Told → Told → Told
closed t after = record t { mask = 0; session = None; next = after.next; plantable = after.plantable }

pub gives_close : (h : Hart) (a b : CoreBus) → Does (act.Close h) a answer.Close b → CloseGives (told a) (told b)
gives_close h a b does = record {
  ended = λ over. released_told a b (does.over (sym (over_told a) ∙ over)).1;
  working = λ over. shut (sym (over_told a) ∙ over);
}
  where
    shut : is_over a ≡ false → told b ≡ closed (told a) (told b)
    shut going =
        ∥∥₁_elim (going_of a going) (told_set _ _) (λ goes.
        subst (λ t. t ≡ closed (told a) t)
        (sym (told_after (entry.Close h) a b (λ t. record t { mask = 0; session = None; next = None; plantable = false }) going (does.going going refl).1 (calls_tell.close (counted_of a) h goes)))
        refl)

-- Openings.

abbrev entered_in : Answer → Entered
entered_in (answer.Enter r) = r
entered_in other = entered.Off

planted_told : (a : CoreBus) → is_over a ≡ false → planted_of (machine_of a.core) ≡ (told a).planted
unfolding told_of
planted_told a going = sym (ap (λ (t : Told). t.planted) (told_here a (here_of a going)))

pub gives_enter : (h : Hart) (late : ℕ) (a b : CoreBus) (r : Entered) → is_allowed (act.Enter h late) (told a) ≡ true → Does (act.Enter h late) a (answer.Enter r) b → EnterGives h.0 late (told a) r (told b)
gives_enter h late a b r may_be does = record {
  ended = λ over. let left = does.over (sym (over_told a) ∙ over) in (ap entered_in left.0, left_told a b left.1);
  working = λ over. inside (sym (over_told a) ∙ over);
}
  where
    inside : is_over a ≡ false → (r ≡ entered.Inside (told a).planted) × (told b ≡ opened h.0 late (told a) (told b))
    inside going =
        let made = does.going going refl in (
          ap entered_in made.0 ∙ ap entered.Inside (planted_told a going),
          ∥∥₁_elim (going_of a going) (told_set _ _) (λ goes.
              told_both (entry.Open h late) a b (opened h.0 late) going made.1 (calls_tell.enter (counted_of a) h late goes (allowed_here (act.Enter h late) a going may_be))),
        )

-- Traps.

abbrev reason_in_answer : Answer → Option Reason
reason_in_answer (answer.Check r) = r
reason_in_answer other = None

trap_told : (a : CoreBus) (h : ℕ) → is_over a ≡ false → h < hart_count (machine_of a.core).machine → is_some (trap (machine_of a.core).machine h) ≡ has_bit (told a).traps h
unfolding told_of traps_of
trap_told a h going lt =
    sym (bit-within (λ k. is_some (trap (machine_of a.core).machine k)) (hart_count (machine_of a.core).machine) h lt)
    ∙ sym (ap (λ (t : Told). has_bit t.traps h) (told_here a (here_of a going)))

fault_told : (a : CoreBus) (h : ℕ) → is_over a ≡ false → h < hart_count (machine_of a.core).machine → faults (machine_of a.core) h ≡ has_bit (told a).faults h
unfolding told_of faults_of
fault_told a h going lt =
    sym (bit-within (faults (machine_of a.core)) (hart_count (machine_of a.core).machine) h lt)
    ∙ sym (ap (λ (t : Told). has_bit t.faults h) (told_here a (here_of a going)))

pub gives_check : (h : Hart) (a b : CoreBus) (r : Option Reason) → h.0 < hart_count (machine_of a.core).machine → Does (act.Check h) a (answer.Check r) b → CheckGives h.0 (told a) r (told b)
gives_check h a b r lt does = by_over (is_over a) refl
  where
    by_over : (o : Bool) → is_over a ≡ o → CheckGives h.0 (told a) r (told b)
    by_over true over =
        let left = does.over over in
        record {
          told = left_told a b left.1;
          some = ap (λ x. is_some (reason_in_answer x)) left.0 ∙ sym (ap (λ o. not o && has_bit (told a).traps h.0) (over_told a ∙ over));
        }
    by_over false going =
        let made = does.going going refl in
        record {
          told = left_told a b made.1;
          some = ap (λ x. is_some (reason_in_answer x)) made.0 ∙ trap_told a h.0 going lt ∙ sym (ap (λ o. not o && has_bit (told a).traps h.0) (over_told a ∙ going));
        }

-- What a hart does by itself.

abbrev turned_in : Answer → Turned
turned_in (answer.HartStep r) = r
turned_in other = turned.Off

same_gives : (h : ℕ) (t : Told) (r : Turned) → is_off r ≡ t.over → HartStepGives h t r t
same_gives h t r off = record { told = refl; stays_over = λ e. e; off = off; traps = λ k ne. refl; faults = λ k ne. refl; next = λ e. refl; plantable = λ e. refl }

ended_gives : (h : ℕ) (t : Told) → HartStepGives h t turned.Off (record t { over = true })
ended_gives h t = record { told = refl; stays_over = λ e. refl; off = refl; traps = λ k ne. refl; faults = λ k ne. refl; next = λ e. refl; plantable = λ e. refl }

one_gives : (h : ℕ) (t after : Told) (r : Turned) → t.over ≡ false → is_off r ≡ false → TellsOfOne h t after → HartStepGives h t r after
one_gives h t after r going on tells = record {
  told = tells.told ∙ ap (λ o. record t { over = o; traps = after.traps; faults = after.faults; next = after.next; plantable = after.plantable }) (sym (ap (λ (x : Told). x.over) tells.told));
  stays_over = λ e. absurd (false≢true (sym going ∙ e));
  off = on ∙ sym (ap (λ (x : Told). x.over) tells.told ∙ going);
  traps = tells.traps;
  faults = tells.faults;
  next = tells.next;
  plantable = tells.plantable;
}

-- a hart that isn't in the mask isn't held
pub free_of : (a : CoreBus) (h : Hart) → is_over a ≡ false → is_allowed (act.HartStep h) (told a) ≡ true → (h.0 < hart_count (machine_of a.core).machine) × (is_held (machine_of a.core) h.0 ≡ false)
unfolding told_of
free_of a h going may_be =
    ∥∥₁_elim (going_of a going) (hlevel (le_prop, Bool-set)) (λ goes.
    let e = allowed (act.HartStep h) (counted_of a) goes (allowed_here (act.HartStep h) a going may_be) in
    let lt = ltb-true h.0 (hart_count (machine_of a.core).machine) e.0 in
    (lt, held (machine_of a.core) lt (unmasked goes e.1)))
  where
    unmasked : (goes : IsGoing (counted_of a)) → not (has_bit (told_of (counted_of a)).mask h.0) ≡ true → has_bit (held_of (machine_of a.core)) h.0 ≡ false
    unmasked goes e = ap (λ r. has_bit (cond r 0 (held_of (machine_of a.core))) h.0) (sym goes.held) ∙ not_is (has_bit (mask_of a.released (machine_of a.core)) h.0) e

    held : (p : PlantedMachine) → h.0 < hart_count p.machine → has_bit (held_of p) h.0 ≡ false → is_held p h.0 ≡ false
    held p lt e = by_session p.session refl
      where
        by_session : (session : Option Sitting) → p.session ≡ session → in_session (λ s. not (has_bit s.late h.0)) session ≡ false
        by_session None is = refl
        by_session (Some s) is = sym (has_bit-all_but_inside (hart_count p.machine) s.late h.0 lt) ∙ ap (λ session. has_bit (held_by (hart_count p.machine) session) h.0) (sym is) ∙ e

-- the told of a bus whose entry was made, in what was told before
module _ (h : Hart) (a b : CoreBus) (r : Turned) (going : is_over a ≡ false) (there : h.0 < hart_count (machine_of a.core).machine) (free : is_held (machine_of a.core) h.0 ≡ false) where
  abbrev p : PlantedMachine
  p = machine_of a.core

  abbrev Turns : Call → Type 0
  Turns t = (answer.HartStep r ≡ t.answer) × IsMade t.entry a b → HartStepGives h.0 (told a) r (told b)

  not_over : (told a).over ≡ false
  not_over = over_told a ∙ going

  as_before : (x : Turned) → is_off x ≡ false → (answer.HartStep r ≡ answer.HartStep x) × IsLeft false a b → HartStepGives h.0 (told a) r (told b)
  as_before x on t =
      subst (λ after. HartStepGives h.0 (told a) r after) (sym (left_told a b t.1)) (same_gives h.0 (told a) r (ap (λ y. is_off (turned_in y)) t.0 ∙ on ∙ sym not_over))

  one : (e : Entry) (x : Turned) → is_off x ≡ false → TellsOfOne h.0 (told_of (counted_of a)) (told_of (counted_after (counted_of a) e)) → (answer.HartStep r ≡ answer.HartStep x) × IsMadeBy e a b → HartStepGives h.0 (told a) r (told b)
  one e x on tells t =
      subst (λ after. HartStepGives h.0 (told a) r after) (sym (made_told e a b t.1))
      (one_gives h.0 (told a) _ r not_over (ap (λ y. is_off (turned_in y)) t.0 ∙ on) (subst (λ t. TellsOfOne h.0 t (told_of (counted_after (counted_of a) e))) (sym (told_here a (here_of a going))) tells))

  turn_gives : IsGoing (counted_of a) → Turns (turn_of p h)
  turn_gives goes =
      turn_cases p h Turns
      (λ ending quiet legal t. subst (λ x. HartStepGives h.0 (told a) x (told b)) (sym (ap turned_in t.0))
      (subst (λ after. HartStepGives h.0 (told a) turned.Off after) (sym (told_after (entry.Off ending) a b (λ t. record t { over = true }) going t.1 (calls_tell.ending (counted_of a) ending))) (ended_gives h.0 (told a))))
      (λ legal t. subst (λ after. HartStepGives h.0 (told a) r after) (sym (told_after (entry.Take h) a b (λ t. t) going t.1 (calls_tell.take (counted_of a) h)))
      (same_gives h.0 (told a) r (ap (λ y. is_off (turned_in y)) t.0 ∙ sym not_over)))
      (as_before turned.Idle refl)
      (as_before turned.Trapped refl)
      (λ idle opened takeable. one (entry.Intr h) turned.Took refl (calls_tell.intr (counted_of a) h))
      (λ idle opened none untrapped. one (entry.Step h) turned.Stepped refl (calls_tell.step (counted_of a) h goes free (fault_none (fault_of p.machine h.0) (either_false_second _ _ untrapped))))
    where
      either_false_second : (x y : Bool) → (x || y) ≡ false → y ≡ false
      either_false_second true y e = absurd (false≢true (sym e))
      either_false_second false y e = e

      fault_none : {A : Type 0} (o : Option A) → is_some o ≡ false → o ≡ None
      fault_none None e = refl
      fault_none (Some x) e = absurd (false≢true (sym e))

gives_prop : (h : ℕ) (t : Told) (r : Turned) (after : Told) → IsProp (HartStepGives h t r after)
gives_prop h t r after = hlevel (told_set, Bool-set, address_set)

pub gives_hart_step : (h : Hart) (a b : CoreBus) (r : Turned) → is_allowed (act.HartStep h) (told a) ≡ true → Does (act.HartStep h) a (answer.HartStep r) b → HartStepGives h.0 (told a) r (told b)
gives_hart_step h a b r may_be does = by_over (is_over a) refl
  where
    by_over : (o : Bool) → is_over a ≡ o → HartStepGives h.0 (told a) r (told b)
    by_over true over =
        let left = does.over over in
        subst (λ after. HartStepGives h.0 (told a) r after) (sym (left_told a b left.1)) (same_gives h.0 (told a) r (ap (λ y. is_off (turned_in y)) left.0 ∙ sym (over_told a ∙ over)))
    by_over false going =
        let f = free_of a h going may_be in
        ∥∥₁_elim (going_of a going) (gives_prop h.0 (told a) r (told b)) (λ goes. turn_gives h a b r going f.0 f.1 goes (does.going going refl))

-- Lines.

abbrev lined_answer : Answer → Lined
lined_answer (answer.Line r) = r
lined_answer other = lined.Ended

-- the step address that a line answers is the next address that is told, where that is plantable
address-told : (s : Machine) (pc : ℕ) (next : After) (t : Told) → t.next ≡ address_of next → t.plantable ≡ is_some (text_elsewhere s pc next) → IsStepAddress (text_elsewhere s pc next) t
address-told s pc Nowhere t next plantable = plantable
address-told s pc (At addr) t next plantable = by_test (is_text_word s.seen.memory addr && not (eqb addr pc)) plantable
  where
    by_test : (b : Bool) → t.plantable ≡ is_some (cond b (Some addr) None) → IsStepAddress (cond b (Some addr) None) t
    by_test true f = (next, f)
    by_test false f = f

-- a line leaves its session in a stage that isn't Back
abbrev IsAfterLine : Stage → Type 0
IsAfterLine stage.Back = ⊥
IsAfterLine other = Unit {0}

after_line_stage : (o : Option Mode) → IsAfterLine (stage_after o)
after_line_stage None = tt
after_line_stage (Some (mode.Pass m late again)) = tt
after_line_stage (Some mode.Free) = tt
after_line_stage (Some (mode.Hold m late)) = tt
after_line_stage (Some (mode.Back m late)) = tt
after_line_stage (Some (mode.Leave m late)) = tt
after_line_stage (Some (mode.Over ending)) = tt

-- what stands after a line of a session: the session, in the stage after the line
record IsRead (p : PlantedMachine) (h : Hart) : Type 0 where
  sitting : Sitting
  is : (effect p (entry.Line h)).next.session ≡ Some sitting
  after : IsAfterLine sitting.stage

line-session : (p : PlantedMachine) (h : Hart) → has_line p.machine.unread ≡ true → in_session (λ s. is_of h.0 s && is_lines s.stage) p.session ≡ true → IsRead p h
unfolding effect
line-session p h there e =
    let found = in_session-open (λ s. is_of h.0 s && is_lines s.stage) p.session e in
    by_unread found.sitting found.is p.machine.unread refl there
  where
    by_unread : (x : Sitting) → p.session ≡ Some x → (unread : List (List ℕ)) → p.machine.unread ≡ unread → has_line unread ≡ true → IsRead p h
    by_unread x is [] unread f = absurd (false≢true f)
    by_unread x is (line ∷ rest) unread f =
        let cut = line_effect x.master x.late line (with_read p.machine rest) in
        record {
          sitting = record x { stage = stage_after cut.left };
          is = ap (λ session. (read_in session p.machine.unread p).next.session) is ∙ ap (λ u. (read_in (Some x) u p).next.session) unread;
          after = after_line_stage cut.left;
        }

line_leaves : (p : PlantedMachine) (s : Sitting) (t after : Told) → IsAfterLine s.stage → p.session ≡ Some s → after ≡ line_read s.stage t after → after.next ≡ next_in p.session p.machine → after.plantable ≡ plantable_in p.session p.machine → after.enabled ≡ enabled_of p → LineLeaves t (lined_at p s.master s.stage) after
line_leaves p s t after fits is told next plantable enabled = by_stage s.stage refl fits told
  where
    by_stage : (g : Stage) → s.stage ≡ g → IsAfterLine g → after ≡ line_read g t after → LineLeaves t (lined_at p s.master g) after
    by_stage stage.Lines e fits told = told
    by_stage (stage.Pass again) e fits told = (told, address-told p.machine (context_at p.machine s.master.0).pc (next_pc p.machine s.master.0) after (next ∙ ap (λ session. next_in session p.machine) is) (plantable ∙ ap (λ session. plantable_in session p.machine) is))
    by_stage stage.Back e fits told = absurd fits
    by_stage stage.Leaving e fits told = (told, sym enabled)

lined_is : (p : PlantedMachine) (s : Sitting) (session : Option Sitting) → session ≡ Some s → lined_in p session ≡ lined_at p s.master s.stage
lined_is p s session is = ap (lined_in p) is

next_told : (c : Counted) → (told_of c).next ≡ next_in c.machine.session c.machine.machine
unfolding told_of
next_told c = refl

plantable_told : (c : Counted) → (told_of c).plantable ≡ plantable_in c.machine.session c.machine.machine
unfolding told_of
plantable_told c = refl

enabled_told : (c : Counted) → (told_of c).enabled ≡ enabled_of c.machine
unfolding told_of
enabled_told c = refl

is_lost_lined : (r : Lined) → is_lost_line (answer.Line r) ≡ true → r ≡ lined.Lost
is_lost_lined lined.Stay e = absurd (false≢true e)
is_lost_lined (lined.Pass at again) e = absurd (false≢true e)
is_lost_lined (lined.Free enabled) e = absurd (false≢true e)
is_lost_lined lined.Ended e = absurd (false≢true e)
is_lost_lined lined.Lost e = refl

lost_leaves : (a b : CoreBus) → is_over a ≡ false → hart_count (machine_of b.core).machine ≡ hart_count (machine_of a.core).machine → IsLost a b → Lost (told a) (told b)
unfolding told_of
lost_leaves a b going harts lost =
    let gone = told_gone b lost.lost in
    let here = told_here a (here_of a going) in
    record {
      over = ap (λ (t : Told). t.over) gone;
      harts = ap (λ (t : Told). t.harts) gone ∙ harts ∙ sym (ap (λ (t : Told). t.harts) here);
      mask = ap (λ (t : Told). t.mask) gone ∙ ap (λ (s : Stood). s.mask) lost.stood ∙ sym (ap (λ (t : Told). t.mask) here);
      lines = ap (λ (t : Told). t.lines) gone ∙ ap (λ (s : Stood). s.lines) lost.stood ∙ sym (ap (λ (t : Told). t.lines) here);
      sends = ap (λ (t : Told). t.sends) gone ∙ lost.sends ∙ sym (ap (λ (t : Told). t.sends) here);
    }

-- a line that is there was read
module _ (h : Hart) (a b : CoreBus) (r : Lined) (going : is_over a ≡ false) (may_be : is_allowed (act.Line h) (told a) ≡ true) where
  read_leaves : IsGoing (counted_of a) → (there : has_line (machine_of a.core).machine.unread ≡ true) → answer.Line r ≡ answer.Line (lined_in (effect (machine_of a.core) (entry.Line h)).next (effect (machine_of a.core) (entry.Line h)).next.session) → IsMadeBy (entry.Line h) a b → LineLeaves (told a) r (told b)
  unfolding told_of
  read_leaves goes there says made =
      let c = counted_of a in
      let q = (effect (machine_of a.core) (entry.Line h)).next in
      let ok = allowed_here (act.Line h) a going may_be in
      let read = line-session (machine_of a.core) h there (line-allowed c goes ok) in
      let told_is = told_both (entry.Line h) a b (line_read read.sitting.stage) going made (calls_tell.line c h read.sitting goes ok there read.is) in
      let after = made_told (entry.Line h) a b made in
      let leaves = line_leaves q read.sitting (told a) (told b) read.after read.is told_is
      (ap (λ (t : Told). t.next) after ∙ next_told (counted_after c (entry.Line h)))
      (ap (λ (t : Told). t.plantable) after ∙ plantable_told (counted_after c (entry.Line h)))
      (ap (λ (t : Told). t.enabled) after ∙ enabled_told (counted_after c (entry.Line h))) in
      subst (λ x. LineLeaves (told a) x (told b)) (sym (ap lined_answer says ∙ lined_is q read.sitting q.session read.is)) leaves
    where
      line-allowed : (c : Counted) → IsGoing c → IsAllowed (act.Line h) c → in_session (λ s. is_of h.0 s && is_lines s.stage) c.machine.session ≡ true
      line-allowed c goes ok = (and_true (in_session (λ s. is_of h.0 s && is_lines s.stage) c.machine.session) _ (allowed (act.Line h) c goes ok).1).0

  none_leaves : answer.Line r ≡ answer.Line lined.Ended → IsMadeBy (entry.Off ScriptEnd) a b → LineLeaves (told a) r (told b)
  none_leaves says made = subst (λ x. LineLeaves (told a) x (told b)) (sym (ap lined_answer says)) (told_after (entry.Off ScriptEnd) a b (λ t. record t { over = true }) going made (calls_tell.ending (counted_of a) ScriptEnd))

  by_line : IsGoing (counted_of a) → (l : Bool) → has_line (machine_of a.core).machine.unread ≡ l →
      (answer.Line r ≡ (cond l (making (entry.Line h) (answer.Line (lined_in (effect (machine_of a.core) (entry.Line h)).next (effect (machine_of a.core) (entry.Line h)).next.session))) (making (entry.Off ScriptEnd) (answer.Line lined.Ended))).answer)
      × IsMade (cond l (making (entry.Line h) (answer.Line (lined_in (effect (machine_of a.core) (entry.Line h)).next (effect (machine_of a.core) (entry.Line h)).next.session))) (making (entry.Off ScriptEnd) (answer.Line lined.Ended))).entry a b → LineLeaves (told a) r (told b)
  by_line goes true there made = read_leaves goes there made.0 made.1
  by_line goes false there made = none_leaves made.0 made.1

leaves_prop : (t : Told) (r : Lined) (after : Told) → IsProp (LineLeaves t r after)
leaves_prop t lined.Stay after = hlevel told_set
leaves_prop t (lined.Pass None again) after = hlevel (told_set, Bool-set)
leaves_prop t (lined.Pass (Some at) again) after = hlevel (told_set, Bool-set, address_set)
leaves_prop t (lined.Free enabled) after = hlevel (told_set, ℕ_set)
leaves_prop t lined.Ended after = hlevel told_set
leaves_prop t lined.Lost after = hlevel (Bool-set, ℕ_set)

pub gives_line : (h : Hart) (a b : CoreBus) (r : Lined) → is_allowed (act.Line h) (told a) ≡ true → hart_count (machine_of b.core).machine ≡ hart_count (machine_of a.core).machine → Does (act.Line h) a (answer.Line r) b → LineGives (told a) r (told b)
gives_line h a b r may_be harts does = record {
  ended = λ over. let left = does.over (sym (over_told a) ∙ over) in (ap lined_answer left.0, left_told a b left.1);
  working = λ over. leaves (sym (over_told a) ∙ over) (is_lost_line (answer.Line r)) refl;
}
  where
    leaves : is_over a ≡ false → (l : Bool) → is_lost_line (answer.Line r) ≡ l → LineLeaves (told a) r (told b)
    leaves going true lost = subst (λ x. LineLeaves (told a) x (told b)) (sym (is_lost_lined r lost)) (lost_leaves a b going harts (does.lost going lost))
    leaves going false kept = ∥∥₁_elim (going_of a going) (leaves_prop (told a) r (told b)) (λ goes. by_line h a b r going may_be goes (has_line (machine_of a.core).machine.unread) refl (does.going going kept))

-- Steps of a pass.

abbrev passed_answer : Answer → Passed
passed_answer (answer.PassStep r) = r
passed_answer other = passed.Faulted

-- the session of a pass
record IsInPass (p : PlantedMachine) (h : Hart) : Type 0 where
  sitting : Sitting
  again : Bool
  is : p.session ≡ Some sitting
  own : sitting.master.0 ≡ h.0
  stage_is : sitting.stage ≡ stage.Pass again

pass-session : (c : Counted) (h : Hart) → IsGoing c → IsAllowed (act.PassStep h) c → IsInPass c.machine h
unfolding told_of
pass-session c h goes ok =
    let e = (and_true (in_session (λ s. is_of h.0 s && is_pass s.stage) c.machine.session) _ (allowed (act.PassStep h) c goes ok).1).0 in
    let found = in_session-open (λ s. is_of h.0 s && is_pass s.stage) c.machine.session e in
    let b = and_true (is_of h.0 found.sitting) (is_pass found.sitting.stage) found.passes in
    let passing = is_pass-Pass found.sitting.stage b.1 in
    record { sitting = found.sitting; again = passing.again; is = found.is; own = eqb-true found.sitting.master.0 h.0 b.0; stage_is = passing.is }

again_in : (p : PlantedMachine) (h : Hart) (x : IsInPass p h) → in_session (λ s. is_again s.stage) p.session ≡ x.again
again_in p h x = ap (in_session (λ s. is_again s.stage)) x.is ∙ ap is_again x.stage_is

session_after : (p : PlantedMachine) (h : Hart) (x : IsInPass p h) → (effect p (entry.Step h)).next.session ≡ Some (record x.sitting { stage = stage_passed x.again })
unfolding effect
session_after p h x =
    ap (option_map (after_step h.0)) x.is
    ∙ ap (λ b. Some (cond b (record x.sitting { stage = after_pass x.sitting.stage }) x.sitting)) (eq-eqb x.sitting.master.0 h.0 x.own)
    ∙ ap (λ g. Some (record x.sitting { stage = after_pass g })) x.stage_is
    ∙ ap (λ g. Some (record x.sitting { stage = g })) (passed_stage x.again)
  where
    passed_stage : (b : Bool) → after_pass (stage.Pass b) ≡ stage_passed b
    passed_stage true = refl
    passed_stage false = refl

enabled_after : (p : PlantedMachine) (h : Hart) → enabled_of (effect p (entry.Step h)).next ≡ enabled_of p
unfolding effect executed
enabled_after p h = refl

pass_leaves : (h : ℕ) (p q : PlantedMachine) (t after : Told) (again : Bool) → has_bit t.faults h ≡ false → in_session (λ s. is_again s.stage) t.session ≡ again → enabled_of q ≡ t.enabled → after ≡ executed_told (stage_passed again) t after → PassLeaves h t (passed_at q (stage_passed again)) after
pass_leaves h p q t after true right is enabled told = ((right, is), told)
pass_leaves h p q t after false right is enabled told = ((right, is), (enabled, told))

session_told : (a : CoreBus) → is_over a ≡ false → (told a).session ≡ (machine_of a.core).session
unfolding told_of
session_told a going = ap (λ (t : Told). t.session) (told_here a (here_of a going))

enabled_here : (a : CoreBus) → is_over a ≡ false → (told a).enabled ≡ enabled_of (machine_of a.core)
unfolding told_of
enabled_here a going = ap (λ (t : Told). t.enabled) (told_here a (here_of a going))

module _ (h : Hart) (a b : CoreBus) (r : Passed) (going : is_over a ≡ false) (there : h.0 < hart_count (machine_of a.core).machine) where
  step_leaves : IsGoing (counted_of a) → IsAllowed (act.PassStep h) (counted_of a) → faults (machine_of a.core) h.0 ≡ false → answer.PassStep r ≡ answer.PassStep (passed_in (effect (machine_of a.core) (entry.Step h)).next (effect (machine_of a.core) (entry.Step h)).next.session) → IsMadeBy (entry.Step h) a b → PassLeaves h.0 (told a) r (told b)
  step_leaves goes ok right says made =
      let p = machine_of a.core in
      let q = (effect p (entry.Step h)).next in
      let x = pass-session (counted_of a) h goes ok in
      let told_is = told_both (entry.Step h) a b (executed_told (stage_passed x.again)) going made (calls_tell.pass_step (counted_of a) h x.sitting x.again goes x.is x.own x.stage_is) in
      subst (λ y. PassLeaves h.0 (told a) y (told b)) (sym (ap passed_answer says ∙ ap (passed_in q) (session_after p h x)))
      (pass_leaves h.0 p q (told a) (told b) x.again (sym (fault_told a h.0 going there) ∙ right) (ap (in_session (λ s. is_again s.stage)) (session_told a going) ∙ again_in p h x) (enabled_after p h ∙ sym (enabled_here a going)) told_is)

  fault_leaves : faults (machine_of a.core) h.0 ≡ true → answer.PassStep r ≡ answer.PassStep passed.Faulted → IsLeft false a b → PassLeaves h.0 (told a) r (told b)
  fault_leaves wrong says left = subst (λ y. PassLeaves h.0 (told a) y (told b)) (sym (ap passed_answer says)) (sym (fault_told a h.0 going there) ∙ wrong, left_told a b left)

  by_fault : IsGoing (counted_of a) → IsAllowed (act.PassStep h) (counted_of a) → (f : Bool) → faults (machine_of a.core) h.0 ≡ f →
      (answer.PassStep r ≡ (cond f (quietly (answer.PassStep passed.Faulted)) (making (entry.Step h) (answer.PassStep (passed_in (effect (machine_of a.core) (entry.Step h)).next (effect (machine_of a.core) (entry.Step h)).next.session)))).answer)
      × IsMade (cond f (quietly (answer.PassStep passed.Faulted)) (making (entry.Step h) (answer.PassStep (passed_in (effect (machine_of a.core) (entry.Step h)).next (effect (machine_of a.core) (entry.Step h)).next.session)))).entry a b → PassLeaves h.0 (told a) r (told b)
  by_fault goes ok true wrong made = fault_leaves wrong made.0 made.1
  by_fault goes ok false right made = step_leaves goes ok right made.0 made.1

passes_prop : (h : ℕ) (t : Told) (r : Passed) (after : Told) → IsProp (PassLeaves h t r after)
passes_prop h t passed.Back after = hlevel (told_set, Bool-set)
passes_prop h t (passed.Free enabled) after = hlevel (told_set, Bool-set, ℕ_set)
passes_prop h t passed.Faulted after = hlevel (told_set, Bool-set)

pub pass_there : (a : CoreBus) (h : Hart) → is_over a ≡ false → is_allowed (act.PassStep h) (told a) ≡ true → h.0 < hart_count (machine_of a.core).machine
pass_there a h going may_be = ∥∥₁_elim (going_of a going) le_prop (λ goes. ltb-true h.0 (hart_count (machine_of a.core).machine) (allowed (act.PassStep h) (counted_of a) goes (allowed_here (act.PassStep h) a going may_be)).0)

pub gives_pass : (h : Hart) (a b : CoreBus) (r : Passed) → is_allowed (act.PassStep h) (told a) ≡ true → Does (act.PassStep h) a (answer.PassStep r) b → PassGives h.0 (told a) r (told b)
gives_pass h a b r may_be does = record {
  ended = λ over. let left = does.over (sym (over_told a) ∙ over) in (ap passed_answer left.0, left_told a b left.1);
  working = λ over. leaves (sym (over_told a) ∙ over);
}
  where
    leaves : is_over a ≡ false → PassLeaves h.0 (told a) r (told b)
    leaves going = ∥∥₁_elim (going_of a going) (passes_prop h.0 (told a) r (told b)) (λ goes. by_fault h a b r going (pass_there a h going may_be) goes (allowed_here (act.PassStep h) a going may_be) (faults (machine_of a.core) h.0) refl (does.going going refl))
