-- Lines that are left, and what a line leaves.
use Rattle.std.proofs.Common.{◌≡◌, ℕ, zero, suc, ◌≤◌, ◌==◌, ltb, Bool, true, false, cond, List, [], ◌∷◌, length, drop, Option, Some, None, refl, sym, ap, ◌∙◌, arith}
use Rattle.std.proofs.lemmas.Bool.Decides.{nat_tests}
use Rattle.mach_base.specs.Machine.{LineState, Machine}
use Rattle.mach_base.specs.declared.event.Hart.{Hart}
use Rattle.mach_base.specs.declared.event.Entry.TheVariants.{Line}
use Rattle.kdb_cmd.specs.Answer.{Answer}
use Rattle.kdb_cmd.specs.declared.outcomes.Outcome.{Outcome}
use Rattle.kdb_cmd.specs.declared.outcomes.Outcome.TheVariants as outcome
use Rattle.deck_core.specs.declared.plain.notes.Sitting.{Sitting}
use Rattle.deck_core.specs.declared.plain.notes.Stage.{Stage}
use Rattle.deck_core.specs.declared.plain.notes.Stage.TheVariants as stage
use Rattle.atom_mach.specs.declared.step.Mode.{Mode}
use Rattle.atom_mach.specs.declared.step.Mode.TheVariants.{Free, Pass, Leave}
use Rattle.atom_mach.specs.Traps.{trap}
use Rattle.atom_mach.specs.Modes.{after_go}
use Rattle.atom_mach.specs.Session.{stops_again, mode_left, with_seen, with_read, line_effect, answer_effect}
use Rattle.plant_mach.specs.Machine.{PlantedMachine}
use Rattle.plant_mach.specs.Entries.{has_line, stage_after, line_made, read_in, effect}
use Rattle.bus_core.specs.Inner.{stage_left}

-- a line is left while not all are read
pub line_left : (lines : List (List ℕ)) (i : ℕ) → i ≤ length lines → ltb i (length lines) ≡ has_line (drop i lines)
line_left [] zero le = refl
line_left [] (suc i) le = absurd (omega arith)
line_left (x ∷ xs) zero le = grind (arith, nat_tests)
line_left (x ∷ xs) (suc i) le =
    let fewer : i ≤ length xs = omega arith in
    let same : ltb (suc i) (length (x ∷ xs)) ≡ ltb i (length xs) = grind (arith, nat_tests) in
    same ∙ line_left xs i fewer

-- the stage after a session is left with no step owed
leaving : (b : Bool) (m : Hart) (late : ℕ) → ◌≡◌ {A = Stage} (stage_after (Some (cond b Free (Leave m late)))) stage.Leaving
leaving true m late = refl
leaving false m late = refl

-- the stage after `go`
gone : (b : Bool) (m : Hart) (late : ℕ) → ◌≡◌ {A = Stage} (stage_after (Some (cond b (Pass m late false) (after_go m late)))) (cond b (stage.Pass false) stage.Leaving)
gone true m late = refl
gone false m late = leaving (late == 0) m late

-- the stage after a line is that of the mode in which the line left
pub stage_of_mode : (o : Outcome) (s : Machine) (m : Hart) (late : ℕ) → stage_after (mode_left o s m late) ≡ stage_left o s m.0
stage_of_mode outcome.Stay s m late = refl
stage_of_mode outcome.Go s m late = gone (stops_again (trap s m.0)) m late
stage_of_mode outcome.Step s m late = refl

-- what a line leaves, put together from what it says, from what is seen after it and from the stage
pub line_is_made : (p q : PlantedMachine) (s : Sitting) (read : Machine) (seen : LineState) (answer : Answer) (said : Outcome) (after : Stage) (line : List ℕ) →
    q ≡ record p { machine = with_seen read seen } → answer.state ≡ seen → answer.outcome ≡ said → after ≡ stage_left said q.machine s.master.0 →
    record q { session = Some (record s { stage = after }) } ≡ (line_made p s (answer_effect s.master s.late line read answer)).next
line_is_made p q s read seen answer said after line e f g h =
    let machine : q.machine ≡ with_seen read answer.state = ap (λ (x : PlantedMachine). x.machine) e ∙ ap (with_seen read) (sym f) in
    let stays : after ≡ stage_after (mode_left answer.outcome (with_seen read answer.state) s.master s.late) =
    h
    ∙ sym (stage_of_mode said q.machine s.master s.late)
    ∙ ap (λ (o : Outcome). stage_after (mode_left o q.machine s.master s.late)) (sym g)
    ∙ ap (λ (x : Machine). stage_after (mode_left answer.outcome x s.master s.late)) machine in
    ap (λ (x : PlantedMachine). record x { session = Some (record s { stage = after }) }) (e ∙ ap (λ (t : LineState). record p { machine = with_seen read t }) (sym f))
    ∙ ap (λ (x : Stage). record p { machine = with_seen read answer.state; session = Some (record s { stage = x }) }) stays

-- what a line gives in this session, where it is the next
pub read_is : (p : PlantedMachine) (h : Hart) (s : Sitting) (line : List ℕ) (rest : List (List ℕ)) → p.session ≡ Some s → p.machine.unread ≡ line ∷ rest →
    effect p (Line h) ≡ line_made p s (line_effect s.master s.late line (with_read p.machine rest))
unfolding effect
read_is p h s line rest e f = ap (λ (o : Option Sitting). read_in o p.machine.unread p) e ∙ ap (λ (ls : List (List ℕ)). read_in (Some s) ls p) f
