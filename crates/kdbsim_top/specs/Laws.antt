-- What the causes of the top call exclude, and what they leave.
use Rattle.std.specs.Prelude.{◌≡◌, ℕ, List, [], ◌∷◌, Option, Some}
use Rattle.io_edge.specs.Edge.{FileMap, HasRisen}
use Rattle.mach_base.specs.declared.event.Entry.{Entry}
use Rattle.plant_mach.specs.Entries.{Made, made_by}
use Rattle.bus_core.specs.Origin.{Origin, start_of}
use Rattle.program_words.specs.Words.{Text}
use Rattle.program_words.specs.Commands.{Command, replay, asm, elf}
use Rattle.kdbsim_files.specs.Files.{Input, Value, HasFile}
use Rattle.kdbsim_files.specs.Laws.{IsRefusal}
use Rattle.kdbsim_files.specs.declared.status.Status.{Status}
use Rattle.kdbsim_files.specs.declared.status.Status.TheVariants.{Done, Made as MadeFiles, BadStep, OutOfMemory}
use Rattle.kdbsim_top.specs.Runs.{IsJournaled, inputs_of}
use Rattle.kdbsim_top.specs.Causes.{Outside, Explains}

-- the answers that the files alone give
abbrev pub IsOfFiles : Status → Type 0
IsOfFiles (Done ending) = Unit {0}
IsOfFiles MadeFiles = Unit {0}
IsOfFiles (BadStep index) = Unit {0}
IsOfFiles status = IsRefusal status

-- Where the shelf tells its files, a refusal excludes every other answer that the files give.
abbrev pub RefusalsExclude : Type 0
RefusalsExclude =
    (o : Outside) (command : Command) (files : FileMap) (refused other : Status) → o.files_before ≡ Some files
    → IsRefusal refused → IsOfFiles other → Explains o command refused → Explains o command other → refused ≡ other

-- each of the files was read, and nothing is wrong with it
abbrev pub AreRight : Option FileMap → List Input → Type 0
AreRight files [] = Unit {0}
AreRight files (input ∷ inputs) = ((value : Value input.kind) × HasFile files input.kind input.name value) × AreRight files inputs

-- the answers of a run in which nothing was wrong with a file
abbrev pub IsEndOfRun : Status → Type 0
IsEndOfRun (Done ending) = Unit {0}
IsEndOfRun (BadStep index) = Unit {0}
IsEndOfRun OutOfMemory = Unit {0}
IsEndOfRun other = ⊥

-- the answers of a command that makes files, where nothing was wrong with the file that it reads
abbrev pub IsEndOfMaking : Status → Type 0
IsEndOfMaking MadeFiles = Unit {0}
IsEndOfMaking OutOfMemory = Unit {0}
IsEndOfMaking other = ⊥

-- the answers of a command in which nothing was wrong with a file
abbrev pub IsEnd : Command → Status → Type 0
IsEnd (asm source image) status = IsEndOfMaking status
IsEnd (elf executable image map) status = IsEndOfMaking status
IsEnd other status = IsEndOfRun status

-- Right files, and counts that don't rise, leave the end of the run, a journal of which an entry isn't legal, or that memory
-- ran out; and of a command that makes files, that they are made, or that memory ran out.
abbrev pub RightFilesEnd : Type 0
RightFilesEnd =
    (o : Outside) (command : Command) (files : FileMap) (status : Status) → o.files_before ≡ Some files → AreRight (Some files) (inputs_of command)
    → ¬ (HasRisen o.shelf_before o.shelf_after) → ¬ (HasRisen o.sink_before o.sink_after) → Explains o command status → IsEnd command status

-- Where the shelf tells its files: a legal journal is not answered by a bad step; and a journal has one bad step at most.
pub record JournalsEndInOneWay : Type 0 where
  pub legal : (o : Outside) (image map script journal : Text) (files : FileMap) (start : Origin) (entries : List Entry) (last : Made) (index : ℕ) → o.files_before ≡ Some files
      → IsJournaled (Some files) image map script journal start entries → made_by (start_of start) entries ≡ Some last → ¬ (Explains o (replay image map script journal) (BadStep index))
  pub first : (o : Outside) (command : Command) (files : FileMap) (index other : ℕ) → o.files_before ≡ Some files → Explains o command (BadStep index) → Explains o command (BadStep other) → index ≡ other
