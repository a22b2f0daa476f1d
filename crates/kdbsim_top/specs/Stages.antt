-- What the stages of a command answer.
use Rattle.std.specs.Prelude.{◌≡◌, ℕ, ◌⊎◌, List, [], ◌∷◌, Option, Some, None}
use Rattle.mach_base.specs.declared.event.Ending.{Ending}
use Rattle.mach_base.specs.declared.event.Entry.{Entry}
use Rattle.plan_text.specs.Ticks.{Run, ticks_of}
use Rattle.jrn_text.specs.Journal.{journal_text}
use Rattle.io_edge.specs.Edge.{FileMap}
use Rattle.hart_prog.specs.Plan.{hart_numbers}
use Rattle.bus_core.specs.Core.{entries_of}
use Rattle.bus_core.specs.Origin.{Origin}
use Rattle.bus_calls.specs.declared.bus.CoreBus.{CoreBus}
use Rattle.kdbsim_runs.specs.Record.{IsRecord, ending_in}
use Rattle.kdbsim_runs.specs.Lockstep.{IsTicked}
use Rattle.program_words.specs.Words.{Text}
use Rattle.program_words.specs.Commands.{replay}
use Rattle.program_words.specs.declared.request.Options.{Options}
use Rattle.kdbsim_files.specs.Files.{FailsAt}
use Rattle.kdbsim_files.specs.declared.status.Status.{Status}
use Rattle.kdbsim_files.specs.declared.status.Status.TheVariants.{BadStep}
use Rattle.kdbsim_top.specs.declared.inputs.Start.{Start}
use Rattle.kdbsim_top.specs.Runs.{Outcome, IsIllegalAt, inputs_of}

-- an outcome without a journal
abbrev pub outcome : Ending → List ℕ → Outcome
outcome ending text = record { ending = ending; text = text; journal = None }

-- an outcome with the text of a journal, to be written under this name
abbrev pub journaled : Ending → List ℕ → Text → List ℕ → Outcome
journaled ending text name journal = record { ending = ending; text = text; journal = Some (name, journal) }

-- why a journal isn't replayed: a file fails, or an entry isn't legal
abbrev pub FailsReplay : Option FileMap → Text → Text → Text → Text → ℕ → ℕ → Status → Type 0
FailsReplay files image map script journal before after status =
    FailsAt files (inputs_of (replay image map script journal)) before after status
    ⊎ ((index : ℕ) × (status ≡ BadStep index) × IsIllegalAt files image map script journal index)

-- the start that was read, with the options of a run
abbrev pub origin_of : Start → Options → Origin
origin_of s options = record { image = s.image; symbols = s.names; lines = s.script; harts = options.harts; limit = options.steps }

-- the record of the bus after the plan's ticks, and its journal's text
pub record IsTickedRecord (start : Origin) (options : Options) (plan : List Run) (ending : Ending) (text journal : List ℕ) : Type 0 where
  pub bus : CoreBus
  pub ticked : IsTicked start options.rounds (hart_numbers (ticks_of plan)) bus
  pub recorded : IsRecord start (entries_of bus.core) ending text
  pub text_is : journal ≡ journal_text options.harts options.steps (entries_of bus.core)

-- the record of a run of threads, which has ended, and its journal's text
pub record IsThreadedRecord (start : Origin) (options : Options) (ending : Ending) (text journal : List ℕ) : Type 0 where
  pub entries : List Entry
  pub recorded : IsRecord start entries ending text
  pub ends : ending_in entries ≡ Some ending
  pub text_is : journal ≡ journal_text options.harts options.steps entries
