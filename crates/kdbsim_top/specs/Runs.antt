-- What each command runs: its files, and the outcome that they give.
use Rattle.std.specs.Prelude.{◌≡◌, ℕ, Bool, true, false, List, [], ◌∷◌, Option, Some, None}
use Rattle.mach_base.specs.Machine.{Symbol}
use Rattle.mach_base.specs.declared.event.Ending.{Ending}
use Rattle.mach_base.specs.declared.event.Entry.{Entry}
use Rattle.img_text.specs.Image.{ImageRecord}
use Rattle.plan_text.specs.Ticks.{Run, ticks_of}
use Rattle.jrn_text.specs.Journal.{journal_text}
use Rattle.io_edge.specs.Edge.{FileMap}
use Rattle.atom_mach.specs.State.{start_state}
use Rattle.atom_mach.specs.Run.{IsTranscript, first_allowed}
use Rattle.hart_prog.specs.Plan.{hart_numbers}
use Rattle.bus_core.specs.Core.{entries_of}
use Rattle.bus_core.specs.Origin.{Origin}
use Rattle.bus_calls.specs.declared.bus.CoreBus.{CoreBus}
use Rattle.kdbsim_runs.specs.Record.{IsRecord, ending_in}
use Rattle.kdbsim_runs.specs.Replay.{IsBadStep}
use Rattle.kdbsim_runs.specs.Lockstep.{IsTicked}
use Rattle.program_words.specs.Words.{Text}
use Rattle.program_words.specs.Commands.{Command, uni, replay, run, lockstep, asm, elf, load}
use Rattle.program_words.specs.declared.request.Options.{Options}
use Rattle.kdbsim_files.specs.Files.{Input, HasFile, image_file, map_file, script_file, plan_file, journal_file, source_file, elf_file}
use Rattle.kdbsim_load.specs.declared.told.LoadTold.{LoadTold}
use Rattle.kdbsim_load.specs.Load.{IsLoad}
use Rattle.kdbsim_load.specs.Counts.{load_line}
use Rattle.kdbsim_builds.specs.Stored.{Product}
use Rattle.kdbsim_builds.specs.Builds.{IsAssembled, IsConverted}

-- the limit of steps of uni
abbrev pub uni_limit : ℕ
uni_limit = 1000000

-- the files that say what a machine starts from
abbrev pub start_inputs : Text → Text → Text → List Input → List Input
start_inputs image map script more =
    record { kind = image_file; name = image } ∷ record { kind = map_file; name = map } ∷ record { kind = script_file; name = script } ∷ more

-- the files of a command, in the order in which they are read
abbrev pub inputs_of : Command → List Input
inputs_of (uni image script) = record { kind = image_file; name = image } ∷ record { kind = script_file; name = script } ∷ []
inputs_of (replay image map script journal) = start_inputs image map script (record { kind = journal_file; name = journal } ∷ [])
inputs_of (run image map script journal options) = start_inputs image map script []
inputs_of (lockstep image map script plan journal options) = start_inputs image map script (record { kind = plan_file options.harts; name = plan } ∷ [])
inputs_of (asm source image) = record { kind = source_file; name = source } ∷ []
inputs_of (elf executable image map) = record { kind = elf_file; name = executable } ∷ []
inputs_of (load number) = []

-- What a run comes to: how it ended, its transcript, and the journal that is to be written, if one is, with its name.
pub record Outcome : Type 0 where
  pub ending : Ending
  pub text : List ℕ
  pub journal : Option (Text × List ℕ)

-- the files say this image, these symbols and these lines
pub record HasStart (files : Option FileMap) (image map script : Text) (value : ImageRecord) (symbols : List Symbol) (lines : List (List ℕ)) : Type 0 where
  pub read_image : HasFile files image_file image value
  pub read_map : HasFile files map_file map symbols
  pub read_script : HasFile files script_file script lines

-- the files say this start
abbrev pub IsStart : Option FileMap → Text → Text → Text → Origin → Type 0
IsStart files image map script start = HasStart files image map script start.image start.symbols start.lines

-- The text is the transcript of the one run, by the rule of a machine with one hart, from the start state of the image
-- and the script that the shelf tells, and the run ends so. No journal is written.
pub record IsUniRun (files : Option FileMap) (image script : Text) (out : Outcome) : Type 0 where
  pub value : ImageRecord
  pub lines : List (List ℕ)
  pub read_image : HasFile files image_file image value
  pub read_script : HasFile files script_file script lines
  pub transcript : IsTranscript first_allowed (start_state value [] lines 1 uni_limit) out.ending out.text
  pub silent : out.journal ≡ None

-- the files say this start and these entries; the journal's numbers are the start's
pub record IsJournaled (files : Option FileMap) (image map script journal : Text) (start : Origin) (entries : List Entry) : Type 0 where
  pub inputs : IsStart files image map script start
  pub read_journal : HasFile files journal_file journal (record { harts = start.harts; limit = start.limit; entries = entries })

-- The journal that the shelf tells is legal from the start that the image, the map and the script give, and its record is
-- the outcome. No journal is written.
pub record IsReplayed (files : Option FileMap) (image map script journal : Text) (out : Outcome) : Type 0 where
  pub start : Origin
  pub entries : List Entry
  pub inputs : IsJournaled files image map script journal start entries
  pub recorded : IsRecord start entries out.ending out.text
  pub silent : out.journal ≡ None

-- the entry of this index is the first of the journal that isn't legal
pub record IsIllegalAt (files : Option FileMap) (image map script journal : Text) (index : ℕ) : Type 0 where
  pub start : Origin
  pub entries : List Entry
  pub inputs : IsJournaled files image map script journal start entries
  pub bad : IsBadStep start entries index

-- The entries are a legal journal from the start that the image, the map, the script and the options give; their record is
-- the outcome, and their text is to be written under the journal's name.
pub record IsRecorded (files : Option FileMap) (image map script journal : Text) (options : Options) (start : Origin) (entries : List Entry) (out : Outcome) : Type 0 where
  pub inputs : IsStart files image map script start
  pub harts : start.harts ≡ options.harts
  pub limit : start.limit ≡ options.steps
  pub recorded : IsRecord start entries out.ending out.text
  pub written : out.journal ≡ Some (journal, journal_text options.harts options.steps entries)

-- The same, of the entries of the bus after exactly the plan's ticks.
pub record IsLockstep (files : Option FileMap) (image map script plan journal : Text) (options : Options) (out : Outcome) : Type 0 where
  pub start : Origin
  pub runs : List Run
  pub read_plan : HasFile files (plan_file options.harts) plan runs
  pub bus : CoreBus
  pub ticked : IsTicked start options.rounds (hart_numbers (ticks_of runs)) bus
  pub recorded : IsRecorded files image map script journal options start (entries_of bus.core) out

-- The same, of a journal that ends by itself.
pub record IsRun (files : Option FileMap) (image map script journal : Text) (options : Options) (out : Outcome) : Type 0 where
  pub start : Origin
  pub entries : List Entry
  pub recorded : IsRecorded files image map script journal options start entries out
  pub ends : ending_in entries ≡ Some out.ending

-- the outcome of load: no journal, and for a text the line that tells of the run of the input that the number says
pub record IsLoaded (number : ℕ) (out : Outcome) : Type 0 where
  pub told : LoadTold
  pub loaded : IsLoad number told
  pub ending_is : out.ending ≡ told.ending
  pub text_is : out.text ≡ load_line number told
  pub no_journal : out.journal ≡ None

-- the outcome of a command; one that runs no machine has none
abbrev pub IsOutcome : Option FileMap → Command → Outcome → Type 0
IsOutcome files (uni image script) out = IsUniRun files image script out
IsOutcome files (replay image map script journal) out = IsReplayed files image map script journal out
IsOutcome files (run image map script journal options) out = IsRun files image map script journal options out
IsOutcome files (lockstep image map script plan journal options) out = IsLockstep files image map script plan journal options out
IsOutcome files (asm source image) out = ⊥
IsOutcome files (elf executable image map) out = ⊥
IsOutcome files (load number) out = IsLoaded number out

-- what a command that makes files is to write; the others make none
abbrev pub AreProducts : Option FileMap → Command → List Product → Type 0
AreProducts files (asm source image) products = IsAssembled files source image products
AreProducts files (elf executable image map) products = IsConverted files executable image map products
AreProducts files other products = ⊥

-- the command replays a journal of which the entry of this index is the first that isn't legal
abbrev pub IsIllegal : Option FileMap → Command → ℕ → Type 0
IsIllegal files (replay image map script journal) index = IsIllegalAt files image map script journal index
IsIllegal files other index = ⊥

-- whether the command is run, which needs threads
abbrev pub is_run : Command → Bool
is_run (run image map script journal options) = true
is_run other = false
