-- Runs of the atomic machine, and their transcripts.
use Rattle.std.specs.Prelude.{◌≡◌, ℕ, List, [], ◌∷◌, ◌++◌, Option, Some, None, is_some, option_map, find}
use Rattle.mach_base.specs.declared.event.Hart.{Hart}
use Rattle.mach_base.specs.declared.event.Ending.{Ending}
use Rattle.mach_base.specs.declared.event.Ending.TheVariants.{AllHalted, StepLimit}
use Rattle.atom_mach.specs.declared.step.Mode.TheVariants.{Over}
use Rattle.atom_mach.specs.declared.step.AStep.{AStep}
use Rattle.atom_mach.specs.declared.step.AStep.TheVariants.{Instr, Intr, Session, Off}
use Rattle.atom_mach.specs.State.{State, Done, prefixed}
use Rattle.atom_mach.specs.Texts.{ending_line}
use Rattle.atom_mach.specs.Session.{cut_session}
use Rattle.atom_mach.specs.Step.{does}

-- Runs.

-- what a step prints, then what the run after it prints
abbrev pub then_run : Option Done → (State → Option Done) → Option Done
then_run None rest = None
then_run (Some d) rest = option_map (prefixed d.text) (rest d.next)

-- What these steps print, in order, and the state after them; None where one isn't allowed after those before.
unfoldable pub run_of : State → List AStep → Option Done
run_of s [] = Some (record { text = []; next = s })
run_of s (step ∷ steps) = then_run (does s step) (λ next. run_of next steps)

-- Transcripts.

-- where a run is cut off: in a session of this hart, after so many lines
pub record CutAt : Type 0 where
  pub master : Hart
  pub lines : ℕ

-- what follows the steps of a run: a session that was cut off, if there is one, then the ending line
abbrev pub last_text : State → Option CutAt → Ending → Option (List ℕ)
last_text s None ending = Some (ending_line ending s.machine.steps)
last_text s (Some cut) ending = option_map (λ c. c.text ++ ending_line ending c.machine.steps) (cut_session s cut.master cut.lines)

-- what a run printed, then what follows its steps
abbrev pub with_last_text : Option Done → Option CutAt → Ending → Option (List ℕ)
with_last_text None cut ending = None
with_last_text (Some d) cut ending = option_map (λ rest. d.text ++ rest) (last_text d.next cut ending)

-- The transcript of a run of these steps, at its end possibly a session that was cut off, under this ending; None where the
-- steps or the session aren't allowed.
unfoldable pub transcript : State → List AStep → Option CutAt → Ending → Option (List ℕ)
transcript s steps cut ending = with_last_text (run_of s steps) cut ending

-- Rules.

-- each of the steps is the one that the rule chooses in the state in which it is made
abbrev pub Follows : (State → Option AStep) → State → List AStep → Type 0
Follows rule s [] = Unit {0}
Follows rule s (step ∷ steps) = (rule s ≡ Some step) × ((d : Done) → does s step ≡ Some d → Follows rule d.next steps)

-- The text is the transcript of the run by this rule from this state, and the run is over by this ending.
pub record IsTranscript (rule : State → Option AStep) (start : State) (ending : Ending) (text : List ℕ) : Type 0 where
  pub steps : List AStep
  pub last : Done
  pub run : run_of start steps ≡ Some last
  pub ruled : Follows rule start steps
  pub over : last.next.mode ≡ Over ending
  pub whole : transcript start steps None ending ≡ Some text

-- The rule of a machine with one hart: the first that is allowed of taking the interrupt, opening the session, executing,
-- and the two endings of a free machine.
unfoldable pub first_allowed : State → Option AStep
first_allowed s =
    find (λ step. is_some (does s step))
    (Intr (record { 0 = 0 }) ∷ Session (record { 0 = 0 }) ∷ Instr (record { 0 = 0 }) ∷ Off AllHalted ∷ Off StepLimit ∷ [])

-- the first allowed step leads there and prints this
abbrev pub Turns : State → List ℕ → State → Type 0
Turns s text next = (step : AStep) × (first_allowed s ≡ Some step) × (does s step ≡ Some (record { text = text; next = next }))

-- Laws.

-- a run of two lists of steps is the run of the first, then that of the second
abbrev pub RunsJoin : Type 0
RunsJoin = (s : State) (before after : List AStep) → run_of s (before ++ after) ≡ then_run (run_of s before) (λ next. run_of next after)

-- once a run is over, no step is allowed
abbrev pub NothingAfterTheEnd : Type 0
NothingAfterTheEnd = (s : State) (ending : Ending) (step : AStep) → s.mode ≡ Over ending → does s step ≡ None

-- by one rule from one state there is at most one run that comes to its end: one ending, one transcript
abbrev pub RuledRunsAreUnique : Type 0
RuledRunsAreUnique =
    (rule : State → Option AStep) (start : State) (ending other : Ending) (text also : List ℕ) →
    IsTranscript rule start ending text → IsTranscript rule start other also → (ending ≡ other) × (text ≡ also)
