-- The cause of an answer, by what the stages before it did.
use Rattle.std.proofs.Common.{◌≡◌, ◌≢◌, ℕ, ◌≤◌, inl, inr, Bool, true, false, not, List, [], ◌∷◌, Option, Some, None, refl, sym, subst}
use Rattle.std.specs.Str.{bytes_eq}
use Rattle.std.proofs.lemmas.Slice.Eq.{bytes_eq-Decides}
use Rattle.io_edge.specs.Edge.{FileMap}
use Rattle.program_words.specs.Words.{Text}
use Rattle.program_words.specs.Commands.{Command, uni, replay, run, lockstep, asm, elf, load}
use Rattle.kdbsim_files.specs.declared.status.Status.{Status}
use Rattle.kdbsim_files.specs.declared.status.Status.TheVariants.{Usage, OutOfMemory}
use Rattle.kdbsim_files.specs.Files.{Input, FailsAt, source_file, elf_file}
use Rattle.kdbsim_builds.specs.Stored.{ShelfCall}
use Rattle.kdbsim_builds.specs.Builds.{ExplainsBuild, IsAssembled, IsConverted}
use Rattle.kdbsim_top.specs.Runs.{Outcome, IsOutcome, inputs_of, is_run}
use Rattle.kdbsim_top.specs.Stages.{FailsReplay}
use Rattle.kdbsim_top.specs.Causes.{Outside, FailsReading, IsQuiet, IsPublished, Explains, IsAnswer, IsAnswerAlone}

-- the parts of what a call changes, one by one
abbrev pub parts : Option FileMap → Option FileMap → ℕ → ℕ → Option (List ℕ) → Option (List ℕ) → ℕ → ℕ → Outside
parts f0 f1 n0 n1 t0 t1 k0 k1 = record {
  files_before = f0;
  files_after = f1;
  shelf_before = n0;
  shelf_after = n1;
  taken_before = t0;
  taken_after = t1;
  sink_before = k0;
  sink_after = k1;
}

pub printed : (command : Command) (f0 f1 : Option FileMap) (n0 n1 : ℕ) (t0 t1 : Option (List ℕ)) (k0 k1 : ℕ) (out : Outcome) (status : Status) → f1 ≡ f0 → IsOutcome f0 command out
    → ((files : Option FileMap) (before after : ℕ) → IsPublished (parts files files before after t0 t1 k0 k1) out status) → Explains (parts f0 f1 n0 n1 t0 t1 k0 k1) command status
printed command f0 f1 n0 n1 t0 t1 k0 k1 out status same ran p = inl (out, ran, subst (λ f. IsPublished (parts f0 f n0 n1 t0 t1 k0 k1) out status) (sym same) (p f0 n0 n1))

pub published : (command : Command) (f0 f1 f2 : Option FileMap) (n0 n1 n2 : ℕ) (t0 t1 : Option (List ℕ)) (k0 k1 : ℕ) (out : Outcome) (status : Status) → f1 ≡ f0 → n0 ≤ n1 → IsOutcome f0 command out
    → ((before : ℕ) → before ≤ n1 → IsPublished (parts f1 f2 before n2 t0 t1 k0 k1) out status) → Explains (parts f0 f2 n0 n2 t0 t1 k0 k1) command status
published command f0 f1 f2 n0 n1 n2 t0 t1 k0 k1 out status same le ran p = inl (out, ran, subst (λ f. IsPublished (parts f f2 n0 n2 t0 t1 k0 k1) out status) same (p n0 le))

fails_reading : (files : Option FileMap) (inputs : List Input) (before after : ℕ) (status : Status) → FailsAt files inputs before after status → FailsReading files inputs before after status
fails_reading files [] before after status h = absurd h
fails_reading files (input ∷ inputs) before after status h = h

pub failed : (command : Command) (f0 f1 : Option FileMap) (n0 n1 : ℕ) (t : Option (List ℕ)) (k : ℕ) (status : Status) → f1 ≡ f0 → FailsAt f0 (inputs_of command) n0 n1 status → Explains (parts f0 f1 n0 n1 t t k k) command status
failed command f0 f1 n0 n1 t k status same h = inr (inr (inr (fails_reading f0 (inputs_of command) n0 n1 status h, record { files = same; taken = refl })))

pub replay_failed : (image map script journal : Text) (f0 f1 : Option FileMap) (n0 n1 : ℕ) (t : Option (List ℕ)) (k : ℕ) (status : Status) → f1 ≡ f0 → FailsReplay f0 image map script journal n0 n1 status
    → Explains (parts f0 f1 n0 n1 t t k k) (replay image map script journal) status
replay_failed image map script journal f0 f1 n0 n1 t k status same (inl h) = failed (replay image map script journal) f0 f1 n0 n1 t k status same h
replay_failed image map script journal f0 f1 n0 n1 t k status same (inr h) = inr (inr (inl (h.0, h.1, h.2, record { files = same; taken = refl })))

abbrev pub shelf_only : Option FileMap → Option FileMap → ℕ → ℕ → ShelfCall
shelf_only f0 f1 n0 n1 = record { files_before = f0; files_after = f1; count_before = n0; count_after = n1 }

-- the commands that make files
pub assembled : (source image : Text) (f0 f1 : Option FileMap) (n0 n1 : ℕ) (t : Option (List ℕ)) (k : ℕ) (status : Status) → ExplainsBuild (IsAssembled f0 source image) source_file source (shelf_only f0 f1 n0 n1) status
    → Explains (parts f0 f1 n0 n1 t t k k) (asm source image) status
assembled source image f0 f1 n0 n1 t k status (inl h) = inr (inl (h.0, h.1, (h.2, refl)))
assembled source image f0 f1 n0 n1 t k status (inr h) = inr (inr (inr (inl h.0, record { files = h.1; taken = refl })))

pub converted : (executable image map : Text) (f0 f1 : Option FileMap) (n0 n1 : ℕ) (t : Option (List ℕ)) (k : ℕ) (status : Status) → ExplainsBuild (IsConverted f0 executable image map) elf_file executable (shelf_only f0 f1 n0 n1) status
    → Explains (parts f0 f1 n0 n1 t t k k) (elf executable image map) status
converted executable image map f0 f1 n0 n1 t k status (inl h) = inr (inl (h.0, h.1, (h.2, refl)))
converted executable image map f0 f1 n0 n1 t k status (inr h) = inr (inr (inr (inl h.0, record { files = h.1; taken = refl })))

-- two names that differ
pub names_apart : (image map : Text) → not (bytes_eq image map) ≡ true → map ≢ image
names_apart image map apart same = differs (bytes_eq image map) apart ((bytes_eq-Decides image map).1 (sym same))
  where
    differs : (b : Bool) → not b ≡ true → b ≡ true → ⊥
    differs true e f = absurd (cc)
    differs false e f = absurd (cc)

lacks_memory : (files : Option FileMap) (command : Command) (before after : ℕ) → FailsReading files (inputs_of command) before after OutOfMemory
lacks_memory files (uni image script) before after = inl (inr (inr refl))
lacks_memory files (replay image map script journal) before after = inl (inr (inr refl))
lacks_memory files (run image map script journal options) before after = inl (inr (inr refl))
lacks_memory files (lockstep image map script plan journal options) before after = inl (inr (inr refl))
lacks_memory files (asm source image) before after = inl (inr (inr refl))
lacks_memory files (elf executable image map) before after = inl (inr (inr refl))
lacks_memory files (load number) before after = refl

-- a command that reads no file lacks memory
pub lacking : (number : ℕ) (f : Option FileMap) (n : ℕ) (t : Option (List ℕ)) (k : ℕ) → Explains (parts f f n n t t k k) (load number) OutOfMemory
lacking number f n t k = inr (inr (inr (refl, record { files = refl; taken = refl })))

-- memory may run out before anything is read
pub memory_answer : (o : Outside) (command : Option Command) → IsQuiet o → IsAnswer o command OutOfMemory
memory_answer o None quiet = (inr refl, quiet)
memory_answer o (Some command) quiet = inr (inr (inr (lacks_memory o.files_before command o.shelf_before o.shelf_after, quiet)))

pub usage_answer : (o : Outside) (command : Option Command) → command ≡ None → IsQuiet o → IsAnswer o command Usage
usage_answer o command is quiet = subst (λ c. IsAnswer o c Usage) (sym is) (inl refl, quiet)

-- the same of a call that makes no threads
pub memory_alone : (o : Outside) (command : Option Command) → IsQuiet o → IsAnswerAlone o command OutOfMemory
memory_alone o None quiet = (inr refl, quiet)
memory_alone o (Some command) quiet = (inr refl, inr (inr (inr (lacks_memory o.files_before command o.shelf_before o.shelf_after, quiet))))

-- a command has the cause of the one that it is
pub explained : {one other : Command} (o : Outside) (status : Status) → one ≡ other → Explains o other status → Explains o one status
explained o status is cause = subst (λ command. Explains o command status) (sym is) cause

pub answered : (o : Outside) (words : Option Command) (command : Command) (status : Status) → words ≡ Some command → Explains o command status → IsAnswer o words status
answered o words command status is cause = subst (λ c. IsAnswer o c status) (sym is) cause

pub answered_alone : (o : Outside) (words : Option Command) (command : Command) (status : Status) → words ≡ Some command → is_run command ≡ false → Explains o command status → IsAnswerAlone o words status
answered_alone o words command status is alone cause = subst (λ c. IsAnswerAlone o c status) (sym is) (inl alone, cause)
