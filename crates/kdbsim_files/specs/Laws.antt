-- What a file means it means alone, and it is refused in one way at most.
use Rattle.std.specs.Prelude.{◌≡◌, ℕ, List, Some}
use Rattle.io_edge.specs.Edge.{FileMap}
use Rattle.kdbsim_files.specs.Files.{Kind, Value, Input, HasFile, IsRefused, FailsAt}
use Rattle.kdbsim_files.specs.declared.status.Status.{Status}
use Rattle.kdbsim_files.specs.declared.status.Status.TheVariants.{BadImage, BadMap, BadScript, BadPlan, BadJournal, BadSource, BadElf, TooLarge}

-- the answers that say what is wrong with a file
abbrev pub IsRefusal : Status → Type 0
IsRefusal (BadImage line why) = Unit {0}
IsRefusal (BadMap line) = Unit {0}
IsRefusal (BadScript line) = Unit {0}
IsRefusal (BadPlan line) = Unit {0}
IsRefusal (BadJournal line) = Unit {0}
IsRefusal (BadSource line) = Unit {0}
IsRefusal (BadElf why) = Unit {0}
IsRefusal (TooLarge what size) = Unit {0}
IsRefusal other = ⊥

-- Where the shelf tells its files, the file of a name says one thing at most, and where it says something it isn't refused.
pub record FilesMeanOneThing : Type 0 where
  pub value : (files : FileMap) (kind : Kind) (name : List ℕ) (value other : Value kind)
      → HasFile (Some files) kind name value → HasFile (Some files) kind name other → value ≡ other
  pub right : (files : FileMap) (kind : Kind) (name : List ℕ) (value : Value kind) (status : Status) → IsRefusal status
      → HasFile (Some files) kind name value → ¬ (IsRefused (Some files) kind name status)

-- Where the shelf tells its files, the files of a command are refused in one way at most, by the first one that is.
abbrev pub RefusalsAreOne : Type 0
RefusalsAreOne =
    (files : FileMap) (inputs : List Input) (before after : ℕ) (refused other : Status) → IsRefusal refused → IsRefusal other
    → FailsAt (Some files) inputs before after refused → FailsAt (Some files) inputs before after other → refused ≡ other
