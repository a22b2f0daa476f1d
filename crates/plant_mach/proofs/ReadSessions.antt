-- Entries of sessions: their openings, lines and closings, and the endings.
use Rattle.std.proofs.Common.{◌≡◌, ℕ, suc, ◌+◌, eqb, ◌==◌, ◌&&◌, Bool, true, false, not, cond, List, [], ◌∷◌, ◌++◌, append_assoc, Option, Some, None, refl, sym, ap, subst, ◌∙◌, arith}
use Rattle.std.specs.Option.{unwrap_or}
use Rattle.std.proofs.lemmas.Bool.{false≢true, eqb-true, eq-eqb}
use Rattle.mach_base.specs.Machine.{Machine}
use Rattle.mach_base.specs.declared.event.Hart.{Hart}
use Rattle.mach_base.specs.declared.event.Entry.TheVariants as entry
use Rattle.deck_core.specs.declared.plain.notes.Sitting.{Sitting}
use Rattle.deck_core.specs.declared.plain.notes.Stage.TheVariants as stage
use Rattle.deck_core.specs.contract.Allowed.{is_of, is_leaving}
use Rattle.atom_mach.specs.declared.step.Mode.{Mode}
use Rattle.atom_mach.specs.declared.step.Mode.TheVariants.{Free, Hold, Leave}
use Rattle.atom_mach.specs.declared.step.AStep.{AStep}
use Rattle.atom_mach.specs.declared.step.AStep.TheVariants.{Enter, Line, End}
use Rattle.atom_mach.specs.State.{State}
use Rattle.atom_mach.specs.Modes.{after_go}
use Rattle.atom_mach.specs.Session.{Cut, before_cut, is_hart, opening_reason, session_opening, with_read, line_effect, cut_session}
use Rattle.atom_mach.specs.Step.{does, can_be_late, held_for}
use Rattle.atom_mach.specs.Run.{CutAt}
use Rattle.atom_mach.proofs.Booleans.{cond_true, and_true, both}
use Rattle.atom_mach.proofs.Cuts.{cuts_begin, cuts_grow}
use Rattle.plant_mach.specs.Machine.{PlantedMachine, mode_at, mode_in_session, mode_shown, planted_of}
use Rattle.plant_mach.specs.Entries.{can_sit, opened_for, stage_after, line_made, may, effect}
use Rattle.plant_mach.specs.Reading.{Reading, settled, with_opening, with_line_in, with_closing, with_entry}
use Rattle.plant_mach.proofs.Sessions.{in_session-open, reads_line, is_leaving-Leaving}
use Rattle.plant_mach.proofs.Settled.{RunsTo, done_as, one_more, settle}
use Rattle.plant_mach.proofs.Shown.{shown-session}
use Rattle.plant_mach.proofs.Opens.{IsOpened, open-opened, left-shown}
use Rattle.plant_mach.proofs.Agreeing.{Agrees, made_as, LateFits, append-nothing, settled-is, agrees-run}

-- Openings.

entered : (s : State) (m : Hart) (late : ℕ) (why : _) → can_be_late s m late ≡ true → opening_reason s.mode s.machine m.0 late ≡ Some why →
    does s (Enter m late) ≡ Some (done_as (session_opening s.machine m late why).text (session_opening s.machine m late why).machine (Hold m late))
unfolding does
entered s m late why e f = cond_true (can_be_late s m late) _ _ e ∙ ap (held_for s m late) f

late-sits : (s : State) (m : Hart) (late : ℕ) → can_sit s.machine m.0 late ≡ true → eqb late 0 ≡ false → can_be_late s m late ≡ true
late-sits s m late e f =
    let a = and_true (is_hart s.machine m.0) _ e in
    both (is_hart s.machine m.0) _ a.0 (both (not (eqb late 0)) _ (ap not f) a.1)

module _ (start : State) (r : Reading) (text : List ℕ) (p : PlantedMachine) (m : Hart) (late : ℕ) (a : Agrees start r (made_as text p)) (ending : p.ending ≡ None) (x : IsOpened p m late) where
  opening : Cut
  opening = session_opening p.machine m late x.why

  opened : PlantedMachine
  opened = (opened_for p m late (Some x.why)).next

  run : RunsTo start (settled r).steps text p.machine x.mode
  run = settle start r (made_as text p) x.mode a.reading (shown-session p ending ∙ x.shown)

  -- a session with no late harts begins
  begun : eqb late 0 ≡ true → Agrees start (record { steps = (settled r).steps; cut = Some (record { master = m; lines = 0 }); late = false }) (made_as (text ++ opening.text) opened)
  unfolding opening opened
  begun none =
      let zero : late ≡ 0 = eqb-true late 0 none in
      let opens : opening_reason x.mode p.machine m.0 0 ≡ Some x.why = ap (λ l. opening_reason x.mode p.machine m.0 l) (sym zero) ∙ x.opens in
      let there = (and_true (is_hart p.machine m.0) _ x.sits).0 in
      let cut : cut_session (record { machine = p.machine; mode = x.mode }) m 0 ≡ Some opening =
      cuts_begin (record { machine = p.machine; mode = x.mode }) m x.why there opens ∙ ap (λ l. Some (session_opening p.machine m l x.why)) (sym zero) in
      let shown : None ≡ mode_shown opened = sym (shown-session opened ending ∙ ap (λ b. cond b None (Some (Hold m late))) none) in
      record {
        reading = record { last = done_as text p.machine x.mode; run = run; stands = (opening, cut, refl, refl, shown) };
        late = sym (ap not none);
        cut = (record { master = m; late = late; stage = stage.Lines }, refl, refl, zero);
      }

  -- one with late harts opens
  joined : eqb late 0 ≡ false → Agrees start (record { steps = (settled r).steps ++ (Enter m late ∷ []); cut = None; late = true }) (made_as (text ++ opening.text) opened)
  unfolding opening opened
  joined some =
      let done = entered (record { machine = p.machine; mode = x.mode }) m late x.why (late-sits (record { machine = p.machine; mode = x.mode }) m late x.sits some) x.opens in
      agrees-run start ((settled r).steps ++ (Enter m late ∷ [])) true (text ++ opening.text) opened opening.machine (Hold m late)
      (one_more start (settled r).steps text opening.text p.machine opening.machine x.mode (Hold m late) (Enter m late) run done)
      refl (shown-session opened ending ∙ ap (λ b. cond b None (Some (Hold m late))) some) (sym (ap not some))

  either_opened : (b : Bool) → eqb late 0 ≡ b →
      Agrees start (cond b (record { steps = (settled r).steps; cut = Some (record { master = m; lines = 0 }); late = false }) (record { steps = (settled r).steps ++ (Enter m late ∷ []); cut = None; late = true })) (made_as (text ++ opening.text) opened)
  either_opened true e = begun e
  either_opened false e = joined e

pub reads-Open : (start : State) (r : Reading) (text : List ℕ) (p : PlantedMachine) (m : Hart) (late : ℕ) → Agrees start r (made_as text p) → p.ending ≡ None → may p (entry.Open m late) ≡ true → Agrees start (with_entry r (entry.Open m late)) (made_as (text ++ (effect p (entry.Open m late)).text) (effect p (entry.Open m late)).next)
unfolding effect opening opened
reads-Open start r text p m late a ending e =
    let x = open-opened p m late e in
    let is = either_opened start r text p m late a ending x (eqb late 0) refl in
    subst (λ o. Agrees start (with_opening (settled r) m late) (made_as (text ++ (opened_for p m late o).text) (opened_for p m late o).next)) (sym x.reason) is

-- Lines.

some_left : (m : Hart) (late : ℕ) (line : List ℕ) (s : Machine) (o : Option Mode) → (line_effect m late line s).left ≡ o → mode_at m late stage.Lines ≡ None → o ≡ mode_at m late (stage_after (line_effect m late line s).left)
some_left m late line s None e none = sym (ap (λ left. mode_at m late (stage_after left)) e ∙ none)
some_left m late line s (Some mode) e none = sym (left-shown m late line s mode e)

held_left : (m : Hart) (late : ℕ) (line : List ℕ) (s : Machine) (o : Option Mode) → (line_effect m late line s).left ≡ o → mode_at m late stage.Lines ≡ Some (Hold m late) → mode_at m late (stage_after (line_effect m late line s).left) ≡ Some (unwrap_or o (Hold m late))
held_left m late line s None e some = ap (λ left. mode_at m late (stage_after left)) e ∙ some
held_left m late line s (Some mode) e some = left-shown m late line s mode e

line-done : (s : State) (m : Hart) (late : ℕ) (line : List ℕ) (rest : List (List ℕ)) → s.mode ≡ Hold m late → s.machine.unread ≡ line ∷ rest →
    does s Line ≡ Some (done_as (line_effect m late line (with_read s.machine rest)).text (line_effect m late line (with_read s.machine rest)).machine (unwrap_or (line_effect m late line (with_read s.machine rest)).left (Hold m late)))
unfolding does
line-done s m late line rest e f = rw (e, f) refl

same_sitting : (session : Option Sitting) (s t : Sitting) → session ≡ Some s → session ≡ Some t → t ≡ s
same_sitting session s t e f = let q : Some t ≡ Some s = sym f ∙ e in cc

-- a session in which lines are read, beside a run that isn't cut off, is held with late harts
pub record IsHeldIn (start : State) (steps : List AStep) (text : List ℕ) (p : PlantedMachine) (s : Sitting) : Type 0 where
  pub mode : mode_at s.master s.late stage.Lines ≡ Some (Hold s.master s.late)
  pub run : RunsTo start steps text p.machine (Hold s.master s.late)

pub held-in : (start : State) (steps : List AStep) (flag : Bool) (text : List ℕ) (p : PlantedMachine) (s : Sitting) → Agrees start (record { steps = steps; cut = None; late = flag }) (made_as text p) →
    p.ending ≡ None → p.session ≡ Some s → s.stage ≡ stage.Lines → IsHeldIn start steps text p s
held-in start steps flag text p s a ending is lines = by_late (eqb s.late 0) refl
  where
    shown : mode_shown p ≡ mode_at s.master s.late stage.Lines
    shown = shown-session p ending ∙ ap mode_in_session is ∙ ap (mode_at s.master s.late) lines

    by_late : (b : Bool) → eqb s.late 0 ≡ b → IsHeldIn start steps text p s
    by_late true e =
        let none : mode_at s.master s.late stage.Lines ≡ None = ap (λ b. cond b None (Some (Hold s.master s.late))) e in
        let some = a.reading.stands.2 ∙ shown ∙ none in
        absurd (cc)
    by_late false e =
        let held : mode_at s.master s.late stage.Lines ≡ Some (Hold s.master s.late) = ap (λ b. cond b None (Some (Hold s.master s.late))) e in
        record {
          mode = held;
          run = settle start (record { steps = steps; cut = None; late = flag }) (made_as text p) (Hold s.master s.late) a.reading (shown ∙ held);
        }

line-read : (start : State) (steps : List _) (at : Option CutAt) (flag : Bool) (text : List ℕ) (p : PlantedMachine) (s : Sitting) (line : List ℕ) (rest : List (List ℕ)) → Agrees start (record { steps = steps; cut = at; late = flag }) (made_as text p) →
    p.ending ≡ None → p.session ≡ Some s → s.stage ≡ stage.Lines → p.machine.unread ≡ line ∷ rest →
    Agrees start (with_line_in at (record { steps = steps; cut = at; late = flag })) (made_as (text ++ (line_effect s.master s.late line (with_read p.machine rest)).text) (line_made p s (line_effect s.master s.late line (with_read p.machine rest))).next)
line-read start steps None flag text p s line rest a ending is lines unread =
    let held = held-in start steps flag text p s a ending is lines in
    let c = line_effect s.master s.late line (with_read p.machine rest) in
    let next = (line_made p s c).next in
    let mode = unwrap_or c.left (Hold s.master s.late) in
    let done = line-done (record { machine = p.machine; mode = Hold s.master s.late }) s.master s.late line rest refl unread in
    agrees-run start (steps ++ (Line ∷ [])) flag (text ++ c.text) next c.machine mode
    (one_more start steps text c.text p.machine c.machine (Hold s.master s.late) mode Line held.run done)
    refl (shown-session next ending ∙ held_left s.master s.late line (with_read p.machine rest) c.left refl held.mode) (subst (λ session. LateFits session flag) is a.late)
line-read start steps (Some at) flag text p s line rest a ending is lines unread =
    let (c0, cut, whole, machine, left) = a.reading.stands in
    let (t, seated, master, none) = a.cut in
    let same : t ≡ s = same_sitting p.session s t is seated in
    let zero : s.late ≡ 0 = ap (λ (x : Sitting). x.late) (sym same) ∙ none in
    let own : at.master ≡ s.master = sym master ∙ ap (λ (x : Sitting). x.master) same in
    let lines_none : mode_at s.master s.late stage.Lines ≡ None = ap (λ b. cond b None (Some (Hold s.master s.late))) (eq-eqb s.late 0 zero) in
    let inside : c0.left ≡ None = left ∙ shown-session p ending ∙ ap mode_in_session is ∙ ap (mode_at s.master s.late) lines ∙ lines_none in
    let effect0 = line_effect at.master 0 line (with_read c0.machine rest) in
    let c = line_effect s.master s.late line (with_read p.machine rest) in
    let alike : effect0 ≡ c = ap (λ m. line_effect m 0 line (with_read c0.machine rest)) own ∙ ap (λ l. line_effect s.master l line (with_read c0.machine rest)) (sym zero) ∙ ap (λ (x : Machine). line_effect s.master s.late line (with_read x rest)) machine in
    let last = a.reading.last in
    let more : at.lines + 1 ≡ suc at.lines = omega arith in
    let grown = ap (λ n. cut_session last.next at.master n) more ∙ cuts_grow last.next at.master at.lines c0 line rest cut inside (ap (λ (x : Machine). x.unread) machine ∙ unread) ∙ ap (λ (x : Cut). Some (before_cut c0.text x)) alike in
    let next = (line_made p s c).next in
    let printed : last.text ++ (c0.text ++ c.text) ≡ text ++ c.text = sym (append_assoc last.text c0.text c.text) ∙ ap (λ t. t ++ c.text) whole in
    let left_shown = some_left s.master s.late line (with_read p.machine rest) c.left refl lines_none ∙ sym (shown-session next ending) in
    record {
      reading = record { last = last; run = a.reading.run; stands = (before_cut c0.text c, grown, printed, refl, left_shown) };
      late = subst (λ session. LateFits session flag) is a.late;
      cut = (record s { stage = stage_after c.left }, refl, sym own, zero);
    }

pub reads-Line : (start : State) (r : Reading) (text : List ℕ) (p : PlantedMachine) (h : Hart) → Agrees start r (made_as text p) → p.ending ≡ None → may p (entry.Line h) ≡ true → Agrees start (with_entry r (entry.Line h)) (made_as (text ++ (effect p (entry.Line h)).text) (effect p (entry.Line h)).next)
unfolding effect may
reads-Line start r text p h a ending e =
    let b = and_true _ _ e in
    let l = reads_line p h.0 b.0 (and_true (planted_of p == 0) _ b.1).1 in
    subst (λ d. Agrees start (with_line_in r.cut r) (made_as (text ++ d.text) d.next)) (sym l.made) (line-read start r.steps r.cut r.late text p l.sitting l.line l.rest a ending l.is l.lines l.unread)

-- Closings.

closed-done : (s : State) (m : Hart) (late : ℕ) → s.mode ≡ Leave m late → does s End ≡ Some (done_as [] s.machine Free)
unfolding does
closed-done s m late e = rw e refl

pub reads-Close : (start : State) (r : Reading) (text : List ℕ) (p : PlantedMachine) (h : Hart) → Agrees start r (made_as text p) → p.ending ≡ None → may p (entry.Close h) ≡ true → Agrees start (with_entry r (entry.Close h)) (made_as (text ++ (effect p (entry.Close h)).text) (effect p (entry.Close h)).next)
unfolding effect may
reads-Close start r text p h a ending e =
    let test : Sitting → Bool = λ s. is_of h.0 s && is_leaving s.stage in
    let found = in_session-open test p.session (and_true _ _ e).0 in
    let s = found.sitting in
    let leaving = is_leaving-Leaving s.stage (and_true (is_of h.0 s) _ found.passes).1 in
    let shown : mode_shown p ≡ Some (after_go s.master s.late) = shown-session p ending ∙ ap mode_in_session found.is ∙ ap (mode_at s.master s.late) leaving in
    let run = settle start r (made_as text p) (after_go s.master s.late) a.reading shown in
    subst (λ (x : Reading). Agrees start (with_closing x) (made_as (text ++ []) next)) (sym (settled-is r))
    (by_late s run (eqb s.late 0) refl r.late (subst (λ session. LateFits session r.late) found.is a.late))
  where
    next : PlantedMachine
    next = record p { session = None }

    by_late : (s : Sitting) → RunsTo start (settled r).steps text p.machine (after_go s.master s.late) → (b : Bool) → eqb s.late 0 ≡ b → (late : Bool) → late ≡ not (eqb s.late 0) → Agrees start (with_closing (record { steps = (settled r).steps; cut = None; late = late })) (made_as (text ++ []) next)
    by_late s done true is true fits = absurd (false≢true (sym (fits ∙ ap not is)))
    by_late s done true is false fits =
        subst (λ (t : List ℕ). Agrees start (record { steps = (settled r).steps; cut = None; late = false }) (made_as t next)) (sym (append-nothing text))
        (agrees-run start (settled r).steps false text next p.machine Free (subst (λ b. RunsTo start (settled r).steps text p.machine (cond b Free (Leave s.master s.late))) is done) refl (shown-session next ending) refl)
    by_late s done false is true fits =
        agrees-run start ((settled r).steps ++ (End ∷ [])) false (text ++ []) next p.machine Free
        (one_more start (settled r).steps text [] p.machine p.machine (Leave s.master s.late) Free End (subst (λ b. RunsTo start (settled r).steps text p.machine (cond b Free (Leave s.master s.late))) is done) (closed-done (record { machine = p.machine; mode = Leave s.master s.late }) s.master s.late refl))
        refl (shown-session next ending) refl
    by_late s done false is false fits = absurd (false≢true (fits ∙ ap not is))
