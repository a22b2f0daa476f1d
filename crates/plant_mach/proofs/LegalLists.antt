-- Every legal list of entries reads as a run.
use Rattle.std.proofs.Common.{◌≡◌, ℕ, ◌==◌, ◌&&◌, Bool, true, not, cond, List, [], ◌∷◌, ◌++◌, append_assoc, Option, Some, None, is_none, option_map, refl, sym, ap, subst, ◌∙◌}
use Rattle.std.proofs.lemmas.Bool.{false≢true, eq-eqb}
use Rattle.mach_base.specs.Machine.{Machine, Symbol}
use Rattle.mach_base.specs.Texts.{newline}
use Rattle.mach_base.specs.declared.event.Ending.{Ending}
use Rattle.mach_base.specs.declared.event.Ending.TheVariants.{ScriptEnd, AllHalted, StepLimit, PlanEnd}
use Rattle.mach_base.specs.declared.event.Entry.{Entry}
use Rattle.mach_base.specs.declared.event.Entry.TheVariants as entry
use Rattle.img_text.specs.Image.{ImageRecord}
use Rattle.deck_core.specs.declared.plain.notes.Sitting.{Sitting}
use Rattle.deck_core.specs.declared.plain.notes.Stage.TheVariants as stage
use Rattle.deck_core.specs.contract.Allowed.{is_lines}
use Rattle.bus_plant.specs.Laws.{RawFetches}
use Rattle.bus_plant.proofs.Raw.{raw_fetches-in}
use Rattle.atom_mach.specs.declared.step.Mode.TheVariants.{Free, Hold, Over}
use Rattle.atom_mach.specs.declared.step.AStep.TheVariants.{Session, Off}
use Rattle.atom_mach.specs.State.{State, Done, start_state}
use Rattle.atom_mach.specs.Texts.{ending_line}
use Rattle.atom_mach.specs.Session.{Cut, prompt_text}
use Rattle.atom_mach.specs.Step.{does, is_true_ending}
use Rattle.atom_mach.specs.Run.{CutAt, run_of, transcript, with_last_text}
use Rattle.atom_mach.proofs.Booleans.{and_true, is_none-None, taken}
use Rattle.atom_mach.proofs.Runs.{run_of-snoc}
use Rattle.atom_mach.proofs.Cuts.{cuts_end}
use Rattle.plant_mach.specs.Machine.{PlantedMachine, mode_at, mode_in_session, mode_shown, planted_of, planted_start}
use Rattle.plant_mach.specs.Entries.{Made, prefixed, has_line, may, effect, makes, then_made, made_by}
use Rattle.plant_mach.specs.Reading.{Reading, unread, settled, with_step, with_script_end, with_entry, with_entries, reading, Stands, LegalListsAreRuns, LegalListsPrintTranscripts}
use Rattle.plant_mach.specs.Order.{IsOrderly}
use Rattle.plant_mach.proofs.Sessions.{in_session-open, is_lines-Lines}
use Rattle.plant_mach.proofs.Settled.{done_as, one_more, settle}
use Rattle.plant_mach.proofs.Shown.{shown-session}
use Rattle.plant_mach.proofs.Agreeing.{Agrees, made_as, append-nothing, agrees-run, agrees-step}
use Rattle.plant_mach.proofs.ReadSteps.{reads-Step, reads-Intr, reads-Send, reads-Take, reads-Pull, reads-PlantStep, reads-PullStep, reads-Plant}
use Rattle.plant_mach.proofs.ReadSessions.{held-in, reads-Open, reads-Line, reads-Close}
use Rattle.plant_mach.proofs.Ordered.{entries_keep_order, starts_are_orderly}

-- Endings.

script-done : (s : State) (m : _) (late : ℕ) → s.mode ≡ Hold m late → s.machine.unread ≡ [] → does s (Off ScriptEnd) ≡ Some (done_as (prompt_text s.machine ++ newline) s.machine (Over ScriptEnd))
unfolding does
script-done s m late e f = rw (e, f) refl

free-done : (s : State) (ending : Ending) → s.mode ≡ Free → is_true_ending s.machine ending ≡ true → does s (Off ending) ≡ Some (done_as [] s.machine (Over ending))
unfolding does
free-done s ScriptEnd e f = absurd (false≢true f)
free-done s AllHalted e f = rw (e, f) refl
free-done s StepLimit e f = rw (e, f) refl
free-done s PlanEnd e f = absurd (false≢true f)

script-read : (start : State) (steps : List _) (at : Option CutAt) (flag : Bool) (text : List ℕ) (p : PlantedMachine) (s : Sitting) → Agrees start (record { steps = steps; cut = at; late = flag }) (made_as text p) →
    p.ending ≡ None → p.session ≡ Some s → s.stage ≡ stage.Lines → p.machine.unread ≡ [] →
    Agrees start (with_script_end at (record { steps = steps; cut = at; late = flag })) (made_as (text ++ (prompt_text p.machine ++ newline)) (record p { ending = Some ScriptEnd }))
script-read start steps None flag text p s a ending is lines none =
    let held = held-in start steps flag text p s a ending is lines in
    let done = script-done (record { machine = p.machine; mode = Hold s.master s.late }) s.master s.late refl none in
    agrees-run start (steps ++ (Off ScriptEnd ∷ [])) flag (text ++ (prompt_text p.machine ++ newline)) (record p { ending = Some ScriptEnd }) p.machine (Over ScriptEnd)
    (one_more start steps text (prompt_text p.machine ++ newline) p.machine p.machine (Hold s.master s.late) (Over ScriptEnd) (Off ScriptEnd) held.run done) refl refl a.late
script-read start steps (Some at) flag text p s a ending is lines none =
    let (c, cut, whole, machine, left) = a.reading.stands in
    let (t, seated, master, zero) = a.cut in
    let same : Some t ≡ Some s = sym seated ∙ is in
    let late : s.late ≡ 0 = ap late_of (sym same) ∙ zero in
    let lines_none : mode_at s.master s.late stage.Lines ≡ None = ap (λ b. cond b None (Some (Hold s.master s.late))) (eq-eqb s.late 0 late) in
    let inside : c.left ≡ None = left ∙ shown-session p ending ∙ ap mode_in_session is ∙ ap (mode_at s.master s.late) lines ∙ lines_none in
    let last = a.reading.last in
    let done = cuts_end last.next at.master at.lines c cut inside (ap (λ (x : Machine). x.unread) machine ∙ none) in
    let run = run_of-snoc start steps last (Session at.master) _ a.reading.run done in
    let printed : last.text ++ (c.text ++ (prompt_text c.machine ++ newline)) ≡ text ++ (prompt_text p.machine ++ newline) =
    sym (append_assoc last.text c.text (prompt_text c.machine ++ newline)) ∙ ap (λ t. t ++ (prompt_text c.machine ++ newline)) whole ∙ ap (λ (x : Machine). text ++ (prompt_text x ++ newline)) machine in
    agrees-run start (steps ++ (Session at.master ∷ [])) flag (text ++ (prompt_text p.machine ++ newline)) (record p { ending = Some ScriptEnd }) p.machine (Over ScriptEnd)
    (run ∙ ap (λ t. Some (done_as t c.machine (Over ScriptEnd))) printed ∙ ap (λ (x : Machine). Some (done_as (text ++ (prompt_text p.machine ++ newline)) x (Over ScriptEnd))) machine)
    refl refl a.late
  where
    late_of : Option Sitting → ℕ
    late_of None = 0
    late_of (Some x) = x.late

free-read : (start : State) (r : Reading) (text : List ℕ) (p : PlantedMachine) (ending : Ending) → Agrees start r (made_as text p) → p.ending ≡ None → p.session ≡ None → is_true_ending p.machine ending ≡ true →
    Agrees start (with_step (settled r) (Off ending)) (made_as (text ++ []) (record p { ending = Some ending }))
free-read start r text p ending a none free e =
    let shown : mode_shown p ≡ Some Free = shown-session p none ∙ ap mode_in_session free in
    let run = settle start r (made_as text p) Free a.reading shown in
    agrees-step start r (Off ending) (text ++ []) (record p { ending = Some ending }) p.machine (Over ending)
    (one_more start (settled r).steps text [] p.machine p.machine Free (Over ending) (Off ending) run (free-done (record { machine = p.machine; mode = Free }) ending refl e)) refl refl a.late

pub reads-Off : (start : State) (r : Reading) (text : List ℕ) (p : PlantedMachine) (ending : Ending) → Agrees start r (made_as text p) → p.ending ≡ None → may p (entry.Off ending) ≡ true → Agrees start (with_entry r (entry.Off ending)) (made_as (text ++ (effect p (entry.Off ending)).text) (effect p (entry.Off ending)).next)
unfolding effect may
reads-Off start r text p ScriptEnd a ending e =
    let b = and_true _ _ e in
    let found = in_session-open (λ s. is_lines s.stage) p.session b.0 in
    script-read start r.steps r.cut r.late text p found.sitting a ending found.is (is_lines-Lines found.sitting.stage found.passes) (no_line p.machine.unread (and_true (planted_of p == 0) _ b.1).1)
  where
    no_line : (lines : List (List ℕ)) → not (has_line lines) ≡ true → lines ≡ []
    no_line [] f = refl
    no_line (line ∷ rest) f = absurd (false≢true f)
reads-Off start r text p AllHalted a ending e = let b = and_true _ _ e in free-read start r text p AllHalted a ending (is_none-None p.session b.0) b.1
reads-Off start r text p StepLimit a ending e = let b = and_true _ _ e in free-read start r text p StepLimit a ending (is_none-None p.session b.0) b.1
reads-Off start r text p PlanEnd a ending e = absurd (false≢true e)

-- Entries.

raw : RawFetches
raw = raw_fetches-in

reads_effect : (start : State) (r : Reading) (text : List ℕ) (p : PlantedMachine) (e : Entry) → IsOrderly p → Agrees start r (made_as text p) → p.ending ≡ None → may p e ≡ true → Agrees start (with_entry r e) (made_as (text ++ (effect p e).text) (effect p e).next)
reads_effect start r text p (entry.Step h) ordered a none e = reads-Step raw start r text p h ordered a none e
reads_effect start r text p (entry.Intr h) ordered a none e = reads-Intr start r text p h a none e
reads_effect start r text p (entry.Send h) ordered a none e = reads-Send start r text p h a none e
reads_effect start r text p (entry.Take h) ordered a none e = reads-Take start r text p h a none e
reads_effect start r text p (entry.Open m late) ordered a none e = reads-Open start r text p m late a none e
reads_effect start r text p (entry.Pull i) ordered a none e = reads-Pull start r text p i a
reads_effect start r text p (entry.Line h) ordered a none e = reads-Line start r text p h a none e
reads_effect start r text p (entry.Plant i) ordered a none e = reads-Plant start r text p i a none e
reads_effect start r text p (entry.PlantStep addr) ordered a none e = reads-PlantStep start r text p addr a none e
reads_effect start r text p entry.PullStep ordered a none e = reads-PullStep start r text p ordered a none e
reads_effect start r text p (entry.Close h) ordered a none e = reads-Close start r text p h a none e
reads_effect start r text p (entry.Off ending) ordered a none e = reads-Off start r text p ending a none e

reads_entry : (start : State) (r : Reading) (text : List ℕ) (p : PlantedMachine) (e : Entry) (d : Made) → IsOrderly p → Agrees start r (made_as text p) → makes p e ≡ Some d → Agrees start (with_entry r e) (made_as (text ++ d.text) d.next)
unfolding makes
reads_entry start r text p e d ordered a is =
    let t = taken (is_none p.ending && may p e) (effect p e) d is in
    let both = and_true (is_none p.ending) (may p e) t.0 in
    subst (λ (x : Made). Agrees start (with_entry r e) (made_as (text ++ x.text) x.next)) t.1 (reads_effect start r text p e ordered a (is_none-None p.ending both.0) both.1)

-- Lists.

reads_list : (start : State) (r : Reading) (text : List ℕ) (p : PlantedMachine) (es : List Entry) (d : Made) → IsOrderly p → Agrees start r (made_as text p) → made_by p es ≡ Some d → Agrees start (with_entries r es) (made_as (text ++ d.text) d.next)
unfolding made_by
reads_list start r text p [] d ordered a is =
    let same : made_as [] p ≡ d = cc in
    subst (λ (x : Made). Agrees start r (made_as (text ++ x.text) x.next)) same (subst (λ (t : List ℕ). Agrees start r (made_as t p)) (sym (append-nothing text)) a)
reads_list start r text p (e ∷ es) d ordered a is = by_entry (λ first rest next b g. reads_list start (with_entry r e) (text ++ first.text) first.next es rest next b g) (makes p e) refl is
  where
    by_rest : (first : Made) → ((rest : Made) → made_by first.next es ≡ Some rest → Agrees start (with_entries (with_entry r e) es) (made_as ((text ++ first.text) ++ rest.text) rest.next)) →
        (o : Option Made) → made_by first.next es ≡ o → option_map (prefixed first.text) o ≡ Some d → Agrees start (with_entries (with_entry r e) es) (made_as (text ++ d.text) d.next)
    by_rest first goes_on None g f = absurd (cc)
    by_rest first goes_on (Some rest) g f =
        let same : prefixed first.text rest ≡ d = cc in
        subst (λ (x : Made). Agrees start (with_entries (with_entry r e) es) (made_as (text ++ x.text) x.next)) same
        (subst (λ (t : List ℕ). Agrees start (with_entries (with_entry r e) es) (made_as t rest.next)) (append_assoc text first.text rest.text) (goes_on rest g))

    by_entry : ((first rest : Made) → IsOrderly first.next → Agrees start (with_entry r e) (made_as (text ++ first.text) first.next) → made_by first.next es ≡ Some rest → Agrees start (with_entries (with_entry r e) es) (made_as ((text ++ first.text) ++ rest.text) rest.next)) →
        (o : Option Made) → makes p e ≡ o → then_made o (λ next. made_by next es) ≡ Some d → Agrees start (with_entries (with_entry r e) es) (made_as (text ++ d.text) d.next)
    by_entry goes_on None g f = absurd (cc)
    by_entry goes_on (Some first) g f =
        by_rest first (λ rest made. goes_on first rest (entries_keep_order p e first ordered g) (reads_entry start r text p e first ordered a g) made) (made_by first.next es) refl f

begins : (image : ImageRecord) (symbols : List Symbol) (lines : List (List ℕ)) (harts limit : ℕ) → Agrees (start_state image symbols lines harts limit) unread (made_as [] (planted_start image symbols lines harts limit))
unfolding planted_start run_of start_state
begins image symbols lines harts limit = record {
  reading = record { last = done_as [] (start_state image symbols lines harts limit).machine Free; run = refl; stands = (refl, refl, refl) };
  late = refl;
  cut = tt;
}

pub legal_lists_run : LegalListsAreRuns
unfolding reading
legal_lists_run image symbols lines harts limit es d is made =
    (reads_list (start_state image symbols lines harts limit) unread [] (planted_start image symbols lines harts limit) es d (starts_are_orderly image symbols lines harts limit is) (begins image symbols lines harts limit) made).reading

-- Transcripts.

whole-text : (start : State) (steps : List _) (at : Option CutAt) (last : Done) (d : Made) (ending : Ending) → run_of start steps ≡ Some last → Stands at last d → transcript start steps at ending ≡ Some (d.text ++ ending_line ending d.next.machine.steps)
unfolding transcript
whole-text start steps None last d ending run (text, machine, shown) =
    ap (λ o. with_last_text o None ending) run
    ∙ ap (λ t. Some (t ++ ending_line ending last.next.machine.steps)) text
    ∙ ap (λ (x : Machine). Some (d.text ++ ending_line ending x.steps)) machine
whole-text start steps (Some at) last d ending run (c, cut, text, machine, left) =
    ap (λ o. with_last_text o (Some at) ending) run
    ∙ ap (λ o. option_map (λ rest. last.text ++ rest) (option_map (λ (x : Cut). x.text ++ ending_line ending x.machine.steps) o)) cut
    ∙ ap Some (sym (append_assoc last.text c.text (ending_line ending c.machine.steps)))
    ∙ ap (λ t. Some (t ++ ending_line ending c.machine.steps)) text
    ∙ ap (λ (x : Machine). Some (d.text ++ ending_line ending x.steps)) machine

pub legal_lists_print : LegalListsPrintTranscripts
legal_lists_print image symbols lines harts limit es d ending is made =
    let x = legal_lists_run image symbols lines harts limit es d is made in
    whole-text (start_state image symbols lines harts limit) (reading es).steps (reading es).cut x.last d ending x.run x.stands
