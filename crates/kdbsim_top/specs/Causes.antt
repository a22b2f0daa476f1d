-- The cause of each answer of the top call.
use Rattle.std.specs.Prelude.{◌≡◌, ℕ, ◌⊎◌, true, false, List, [], ◌∷◌, ◌++◌, Option, Some, None}
use Rattle.std.specs.Option.{option_map}
use Rattle.std.specs.FinMap.{insert}
use Rattle.io_edge.specs.Edge.{FileMap, HasRisen, HasTakenPart, KeepsOthers}
use Rattle.program_words.specs.Words.{Text}
use Rattle.program_words.specs.Commands.{Command}
use Rattle.kdbsim_files.specs.Files.{Input, FailsAt}
use Rattle.kdbsim_files.specs.declared.status.Status.{Status}
use Rattle.kdbsim_files.specs.declared.status.Status.TheVariants.{Done, Usage, BadStep, WriteFault, OutOfMemory}
use Rattle.kdbsim_builds.specs.Stored.{Product, ShelfCall, IsStored}
use Rattle.kdbsim_top.specs.Runs.{Outcome, IsOutcome, AreProducts, IsIllegal, inputs_of, is_run}

-- what the shelf and the sink tell before and after a call: the shelf's files and its count of faults; the bytes that the
-- sink took and its count of faults
pub record Outside : Type 0 where
  pub files_before : Option FileMap
  pub files_after : Option FileMap
  pub shelf_before : ℕ
  pub shelf_after : ℕ
  pub taken_before : Option (List ℕ)
  pub taken_after : Option (List ℕ)
  pub sink_before : ℕ
  pub sink_after : ℕ

-- the same from a shelf and a sink before and after the call, by what each tells of its bytes and of its faults
abbrev pub outside : {S T : Type 0} → (S → Option FileMap) → (S → ℕ) → S → S → (T → Option (List ℕ)) → (T → ℕ) → T → T → Outside
outside contents shelf_faults shelf_before shelf_after taken sink_faults sink_before sink_after = record {
  files_before = contents shelf_before;
  files_after = contents shelf_after;
  shelf_before = shelf_faults shelf_before;
  shelf_after = shelf_faults shelf_after;
  taken_before = taken sink_before;
  taken_after = taken sink_after;
  sink_before = sink_faults sink_before;
  sink_after = sink_faults sink_after;
}

-- nothing was written
pub record IsQuiet (o : Outside) : Type 0 where
  pub files : o.files_after ≡ o.files_before
  pub taken : o.taken_after ≡ o.taken_before

-- the journal stands under its name, if there is one, and every other name keeps its bytes
abbrev pub HasJournal : Outside → Option (Text × List ℕ) → Type 0
HasJournal o None = o.files_after ≡ o.files_before
HasJournal o (Some journal) = o.files_after ≡ option_map (λ files. insert files journal.0 journal.1) o.files_before

-- all is out: the journal, and just this text more in the sink
pub record IsOut (o : Outside) (out : Outcome) : Type 0 where
  pub journal : HasJournal o out.journal
  pub taken : o.taken_after ≡ option_map (λ before. before ++ out.text) o.taken_before

-- the shelf failed at the journal: its count rose, every name but the journal's keeps its bytes, and no text is out
pub record HasLostJournal (o : Outside) (out : Outcome) : Type 0 where
  pub name : Text
  pub text : List ℕ
  pub journal : out.journal ≡ Some (name, text)
  pub others : KeepsOthers name o.files_before o.files_after
  pub count : HasRisen o.shelf_before o.shelf_after
  pub taken : o.taken_after ≡ o.taken_before

-- the sink failed at the text: its count rose, the journal is out, and a first part of the text
pub record HasLostText (o : Outside) (out : Outcome) : Type 0 where
  pub journal : HasJournal o out.journal
  pub taken : HasTakenPart o.taken_before out.text o.taken_after
  pub count : HasRisen o.sink_before o.sink_after

-- the answer to an outcome: it is out, a write failed, or memory ran out before the first
abbrev pub IsPublished : Outside → Outcome → Status → Type 0
IsPublished o out status =
    ((status ≡ Done out.ending) × IsOut o out)
    ⊎ ((status ≡ WriteFault) × (HasLostJournal o out ⊎ HasLostText o out))
    ⊎ ((status ≡ OutOfMemory) × IsQuiet o)

-- what the shelf tells
abbrev pub shelf_call : Outside → ShelfCall
shelf_call o = record {
  files_before = o.files_before;
  files_after = o.files_after;
  count_before = o.shelf_before;
  count_after = o.shelf_after;
}

-- the answer to files that are to be written: they are, and nothing else; the shelf failed at one; or memory ran out before
-- the first. The sink took nothing.
abbrev pub IsMade : Outside → List Product → Status → Type 0
IsMade o products status = IsStored (shelf_call o) products status × (o.taken_after ≡ o.taken_before)

-- why a command came to nothing: one of its files fails; one that reads none only lacks memory
abbrev pub FailsReading : Option FileMap → List Input → ℕ → ℕ → Status → Type 0
FailsReading files [] before after status = status ≡ OutOfMemory
FailsReading files (input ∷ inputs) before after status = FailsAt files (input ∷ inputs) before after status

-- The cause of each answer to a command, what must have been so for it to come: the outcome of its run was to be written, or
-- the files that it makes were; or nothing was written, and an entry of the journal that it replays isn't legal, or one of
-- the files that it reads fails. A command that reads no file may lack memory in place of that.
abbrev pub Explains : Outside → Command → Status → Type 0
Explains o command status =
    ((out : Outcome) × IsOutcome o.files_before command out × IsPublished o out status)
    ⊎ ((products : List Product) × AreProducts o.files_before command products × IsMade o products status)
    ⊎ ((index : ℕ) × (status ≡ BadStep index) × IsIllegal o.files_before command index × IsQuiet o)
    ⊎ (FailsReading o.files_before (inputs_of command) o.shelf_before o.shelf_after status × IsQuiet o)

-- the answer to words that are no command
abbrev pub IsNoCommand : Outside → Status → Type 0
IsNoCommand o status = ((status ≡ Usage) ⊎ (status ≡ OutOfMemory)) × IsQuiet o

-- the cause of an answer, by the command that the words ask for, if they ask for one
abbrev pub IsAnswer : Outside → Option Command → Status → Type 0
IsAnswer o None status = IsNoCommand o status
IsAnswer o (Some command) status = Explains o command status

-- the same, where the command isn't run; for that only a lack of memory is answered
abbrev pub IsAnswerAlone : Outside → Option Command → Status → Type 0
IsAnswerAlone o None status = IsNoCommand o status
IsAnswerAlone o (Some command) status = ((is_run command ≡ false) ⊎ (status ≡ OutOfMemory)) × Explains o command status

-- the command is run, and nothing was written
abbrev pub IsForThreads : Outside → Option Command → Type 0
IsForThreads o None = ⊥
IsForThreads o (Some command) = (is_run command ≡ true) × IsQuiet o
