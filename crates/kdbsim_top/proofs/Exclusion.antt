-- The causes exclude each other, and right files leave the end of the run.
use Rattle.std.proofs.Common.{◌≡◌, ℕ, ◌⊎◌, inl, inr, List, [], ◌∷◌, Option, Some, refl, sym, subst}
use Rattle.io_edge.specs.Edge.{FileMap, HasRisen}
use Rattle.program_words.specs.Commands.{Command, uni, replay, run, lockstep, asm, elf, load}
use Rattle.kdbsim_files.specs.declared.status.Status.{Status}
use Rattle.kdbsim_files.specs.declared.status.Status.TheVariants.{Done, Made, Usage, ReadFault, BadImage, BadMap, BadScript, BadPlan, BadJournal, BadSource, BadElf, TooLarge, BadStep, WriteFault, OutOfMemory}
use Rattle.kdbsim_files.specs.Faults.{status_of_image, status_of_map, status_of_script, status_of_plan, status_of_journal, status_of_source, status_of_elf}
use Rattle.img_text.specs.declared.fault.ImageFault.{ImageFault}
use Rattle.img_text.specs.declared.fault.ImageFault.TheVariants as image_faults
use Rattle.sym_map.specs.declared.fault.MapFault.{MapFault}
use Rattle.sym_map.specs.declared.fault.MapFault.TheVariants as map_faults
use Rattle.atom_mach.specs.declared.script.ScriptFault.{ScriptFault}
use Rattle.atom_mach.specs.declared.script.ScriptFault.TheVariants as script_faults
use Rattle.plan_text.specs.declared.fault.PlanFault.{PlanFault}
use Rattle.plan_text.specs.declared.fault.PlanFault.TheVariants as plan_faults
use Rattle.jrn_text.specs.declared.fault.JournalFault.{JournalFault}
use Rattle.jrn_text.specs.declared.fault.JournalFault.TheVariants as journal_faults
use Rattle.asm_text.specs.declared.fault.SourceFault.{SourceFault}
use Rattle.asm_text.specs.declared.fault.SourceFault.TheVariants as source_faults
use Rattle.elf_img.specs.declared.fault.ElfFault.{ElfFault}
use Rattle.elf_img.specs.declared.fault.ElfFault.TheVariants as elf_faults
use Rattle.kdbsim_files.specs.Files.{Input, Kind, image_file, map_file, script_file, plan_file, journal_file, source_file, elf_file, Value, HasFile, FailsAt, FailsAtFile, Refuses, RefusesText}
use Rattle.kdbsim_files.specs.Laws.{IsRefusal, FilesMeanOneThing, RefusalsAreOne}
use Rattle.kdbsim_files.proofs.Meaning.{refused_by}
use Rattle.kdbsim_builds.specs.Stored.{Product}
use Rattle.kdbsim_top.specs.Runs.{Outcome, IsOutcome, AreProducts, IsIllegal, inputs_of}
use Rattle.kdbsim_top.specs.Causes.{Outside, FailsReading, Explains, IsMade, IsPublished}
use Rattle.kdbsim_top.specs.Laws.{AreRight, IsEnd, IsEndOfMaking, IsEndOfRun, IsOfFiles, RefusalsExclude, RightFilesEnd}

-- a run's files are right
outcome_right : (files : Option FileMap) (command : Command) (out : Outcome) → IsOutcome files command out → AreRight files (inputs_of command)
outcome_right files (uni image script) out h = ((h.value, h.read_image), ((h.lines, h.read_script), tt))
outcome_right files (replay image map script journal) out h =
    let s = h.inputs.inputs in
    ((h.start.image, s.read_image), ((h.start.symbols, s.read_map), ((h.start.lines, s.read_script), ((record { harts = h.start.harts; limit = h.start.limit; entries = h.entries }, h.inputs.read_journal), tt))))
outcome_right files (run image map script journal options) out h =
    let s = h.recorded.inputs in
    ((h.start.image, s.read_image), ((h.start.symbols, s.read_map), ((h.start.lines, s.read_script), tt)))
outcome_right files (lockstep image map script plan journal options) out h =
    let s = h.recorded.inputs in
    ((h.start.image, s.read_image), ((h.start.symbols, s.read_map), ((h.start.lines, s.read_script), ((h.runs, h.read_plan), tt))))
outcome_right files (asm source image) out h = absurd h
outcome_right files (elf executable image map) out h = absurd h
outcome_right files (load number) out h = tt

-- the file is right of which a command makes files
products_right : (files : Option FileMap) (command : Command) (products : List Product) → AreProducts files command products → AreRight files (inputs_of command)
products_right files (uni image script) products h = absurd h
products_right files (replay image map script journal) products h = absurd h
products_right files (run image map script journal options) products h = absurd h
products_right files (lockstep image map script plan journal options) products h = absurd h
products_right files (asm source image) products h = ((h.of.value, h.of.read), tt)
products_right files (elf executable image map) products h = ((h.of.value, h.of.read), tt)
products_right files (load number) products h = absurd h

illegal_right : (files : Option FileMap) (command : Command) (index : ℕ) → IsIllegal files command index → AreRight files (inputs_of command)
illegal_right files (uni image script) index h = absurd h
illegal_right files (replay image map script journal) index h =
    let s = h.inputs.inputs in
    ((h.start.image, s.read_image), ((h.start.symbols, s.read_map), ((h.start.lines, s.read_script), ((record { harts = h.start.harts; limit = h.start.limit; entries = h.entries }, h.inputs.read_journal), tt))))
illegal_right files (run image map script journal options) index h = absurd h
illegal_right files (lockstep image map script plan journal options) index h = absurd h
illegal_right files (asm source image) index h = absurd h
illegal_right files (elf executable image map) index h = absurd h
illegal_right files (load number) index h = absurd h

-- right files are not refused
no_refusal : FilesMeanOneThing → (files : FileMap) (inputs : List Input) (before after : ℕ) (s : Status) → IsRefusal s → AreRight (Some files) inputs → FailsAt (Some files) inputs before after s → ⊥
no_refusal law files [] before after s is right h = h
no_refusal law files (input ∷ inputs) before after s is right (inl h) =
    law.right files input.kind input.name right.0.0 s is right.0.1 (refused_by (Some files) input.kind input.name before after s is h)
no_refusal law files (input ∷ inputs) before after s is right (inr h) = no_refusal law files inputs before after s is right.1 h.2

-- a refusal is that of a file
published_not : (o : Outside) (out : Outcome) (s : Status) → IsRefusal s → IsPublished o out s → ⊥
published_not o out s is (inl h) = subst IsRefusal h.0 is
published_not o out s is (inr (inl h)) = subst IsRefusal h.0 is
published_not o out s is (inr (inr h)) = subst IsRefusal h.0 is

made_not : (o : Outside) (products : List Product) (s : Status) → IsRefusal s → IsMade o products s → ⊥
made_not o products s is (inl h, quiet) = subst IsRefusal h.0 is
made_not o products s is (inr (inl h), quiet) = subst IsRefusal h.0 is
made_not o products s is (inr (inr h), quiet) = subst IsRefusal h.0 is

-- what a refusal says of reading is that a file fails
refused_reading_file : (files : Option FileMap) (inputs : List Input) (before after : ℕ) (s : Status) → IsRefusal s → FailsReading files inputs before after s → FailsAt files inputs before after s
refused_reading_file files [] before after s is h = absurd (subst IsRefusal h is)
refused_reading_file files (input ∷ inputs) before after s is h = h

fails_of : (o : Outside) (command : Command) (s : Status) → IsRefusal s → Explains o command s → FailsAt o.files_before (inputs_of command) o.shelf_before o.shelf_after s
fails_of o command s is (inl h) = absurd (published_not o h.0 s is h.2)
fails_of o command s is (inr (inl h)) = absurd (made_not o h.0 s is h.2)
fails_of o command s is (inr (inr (inl h))) = absurd (subst IsRefusal h.1 is)
fails_of o command s is (inr (inr (inr h))) = refused_reading_file o.files_before (inputs_of command) o.shelf_before o.shelf_after s is h.0

told_fails : (o : Outside) (command : Command) (files : FileMap) (s : Status) → o.files_before ≡ Some files → IsRefusal s → Explains o command s → FailsAt (Some files) (inputs_of command) o.shelf_before o.shelf_after s
told_fails o command files s told is h = subst (λ fs. FailsAt fs (inputs_of command) o.shelf_before o.shelf_after s) told (fails_of o command s is h)

-- a refusal of a file, or that memory ran out
abbrev IsOfReading : Status → Type 0
IsOfReading OutOfMemory = Unit {0}
IsOfReading other = IsRefusal other

image_reading : (fault : ImageFault) → IsOfReading (status_of_image fault)
image_reading (image_faults.Bad line why) = tt
image_reading (image_faults.TooLarge what size) = tt
image_reading image_faults.OutOfMemory = tt

map_reading : (fault : MapFault) → IsOfReading (status_of_map fault)
map_reading (map_faults.Bad line) = tt
map_reading (map_faults.TooLarge what size) = tt
map_reading map_faults.OutOfMemory = tt

script_reading : (fault : ScriptFault) → IsOfReading (status_of_script fault)
script_reading (script_faults.Bad line) = tt
script_reading (script_faults.TooLarge what size) = tt
script_reading script_faults.OutOfMemory = tt

plan_reading : (fault : PlanFault) → IsOfReading (status_of_plan fault)
plan_reading (plan_faults.Bad line) = tt
plan_reading (plan_faults.TooLarge what size) = tt
plan_reading plan_faults.OutOfMemory = tt

journal_reading : (fault : JournalFault) → IsOfReading (status_of_journal fault)
journal_reading (journal_faults.Bad line) = tt
journal_reading (journal_faults.TooLarge what size) = tt
journal_reading journal_faults.OutOfMemory = tt

source_reading : (fault : SourceFault) → IsOfReading (status_of_source fault)
source_reading (source_faults.Bad line) = tt
source_reading (source_faults.TooLarge what size) = tt
source_reading source_faults.OutOfMemory = tt

elf_reading : (fault : ElfFault) → IsOfReading (status_of_elf fault)
elf_reading (elf_faults.Bad why) = tt
elf_reading (elf_faults.TooLarge what size) = tt
elf_reading elf_faults.OutOfMemory = tt

text_reading : (kind : Kind) (bytes : List ℕ) (s : Status) → RefusesText kind bytes s → IsOfReading s
text_reading image_file bytes s h = subst IsOfReading (sym h.2) (image_reading h.0)
text_reading map_file bytes s h = subst IsOfReading (sym h.2) (map_reading h.0)
text_reading script_file bytes s h = subst IsOfReading (sym h.2) (script_reading h.0)
text_reading (plan_file harts) bytes s h = subst IsOfReading (sym h.2) (plan_reading h.0)
text_reading journal_file bytes s h = subst IsOfReading (sym h.2) (journal_reading h.0)
text_reading source_file bytes s h = subst IsOfReading (sym h.2) (source_reading h.0)
text_reading elf_file bytes s h = subst IsOfReading (sym h.2) (elf_reading h.0)

refused_reading : (kind : Kind) (bytes : List ℕ) (s : Status) → Refuses kind bytes s → IsOfReading s
refused_reading kind bytes s (inl h) = subst IsOfReading (sym h.0) tt
refused_reading kind bytes s (inr h) = text_reading kind bytes s h.1

refusal_of : (s : Status) → IsOfReading s → IsRefusal s ⊎ (s ≡ OutOfMemory)
refusal_of (Done ending) h = inl h
refusal_of Made h = inl h
refusal_of (BadSource line) h = inl h
refusal_of (BadElf why) h = inl h
refusal_of (BadStep index) h = inl h
refusal_of Usage h = inl h
refusal_of (ReadFault file) h = inl h
refusal_of (BadImage line why) h = inl h
refusal_of (BadMap line) h = inl h
refusal_of (BadScript line) h = inl h
refusal_of (BadPlan line) h = inl h
refusal_of (BadJournal line) h = inl h
refusal_of (TooLarge what size) h = inl h
refusal_of WriteFault h = inl h
refusal_of OutOfMemory h = inr refl

-- an answer that the files give, where a file fails, is a refusal
file_refusal : (files : Option FileMap) (input : Input) (before after : ℕ) (s : Status) → IsOfFiles s → FailsAtFile files input.kind input.name before after s → IsRefusal s
file_refusal files input before after s is (inl h) = absurd (subst IsOfFiles h.0 is)
file_refusal files input before after s is (inr (inr h)) = absurd (subst IsOfFiles h is)
file_refusal files input before after s is (inr (inl h)) =
    elim (refusal_of s (refused_reading input.kind h.bytes s h.refused)) [
      | inl refusal ↦ refusal
      | inr memory ↦ absurd (subst IsOfFiles memory is)
    ]

pub refusal_in : (files : Option FileMap) (inputs : List Input) (before after : ℕ) (s : Status) → IsOfFiles s → FailsAt files inputs before after s → IsRefusal s
refusal_in files [] before after s is h = absurd h
refusal_in files (input ∷ inputs) before after s is (inl h) = file_refusal files input before after s is h
refusal_in files (input ∷ inputs) before after s is (inr h) = refusal_in files inputs before after s is h.2

-- so does an answer that the files give
pub told_reading_file : (files : Option FileMap) (inputs : List Input) (before after : ℕ) (s : Status) → IsOfFiles s → FailsReading files inputs before after s → FailsAt files inputs before after s
told_reading_file files [] before after s is h = absurd (subst IsOfFiles h is)
told_reading_file files (input ∷ inputs) before after s is h = h

pub refusals_exclude : FilesMeanOneThing → RefusalsAreOne → RefusalsExclude
refusals_exclude law one o command files s t told is it hs (inl ran) =
    absurd (no_refusal law files (inputs_of command) o.shelf_before o.shelf_after s is (subst (λ fs. AreRight fs (inputs_of command)) told (outcome_right o.files_before command ran.0 ran.1)) (told_fails o command files s told is hs))
refusals_exclude law one o command files s t told is it hs (inr (inl made)) =
    absurd (no_refusal law files (inputs_of command) o.shelf_before o.shelf_after s is (subst (λ fs. AreRight fs (inputs_of command)) told (products_right o.files_before command made.0 made.1)) (told_fails o command files s told is hs))
refusals_exclude law one o command files s t told is it hs (inr (inr (inl illegal))) =
    absurd (no_refusal law files (inputs_of command) o.shelf_before o.shelf_after s is (subst (λ fs. AreRight fs (inputs_of command)) told (illegal_right o.files_before command illegal.0 illegal.2)) (told_fails o command files s told is hs))
refusals_exclude law one o command files s t told is it hs (inr (inr (inr other))) =
    let fails : FailsAt (Some files) (inputs_of command) o.shelf_before o.shelf_after t =
    subst (λ fs. FailsAt fs (inputs_of command) o.shelf_before o.shelf_after t) told (told_reading_file o.files_before (inputs_of command) o.shelf_before o.shelf_after t it other.0) in
    one files (inputs_of command) o.shelf_before o.shelf_after s t is (refusal_in (Some files) (inputs_of command) o.shelf_before o.shelf_after t it fails) (told_fails o command files s told is hs) fails

-- where no count rises and the files are right, only memory fails
right_file : FilesMeanOneThing → (files : FileMap) (input : Input) (value : Value input.kind) (before after : ℕ) (s : Status) → ¬ (HasRisen before after) → HasFile (Some files) input.kind input.name value → FailsAtFile (Some files) input.kind input.name before after s → s ≡ OutOfMemory
right_file law files input value before after s still right (inl h) = absurd (still h.1)
right_file law files input value before after s still right (inr (inr h)) = h
right_file law files input value before after s still right (inr (inl h)) =
    elim (refusal_of s (refused_reading input.kind h.bytes s h.refused)) [
      | inl is ↦ absurd (law.right files input.kind input.name value s is right h)
      | inr memory ↦ memory
    ]

only_memory : FilesMeanOneThing → (files : FileMap) (inputs : List Input) (before after : ℕ) (s : Status) → ¬ (HasRisen before after) → AreRight (Some files) inputs → FailsAt (Some files) inputs before after s → s ≡ OutOfMemory
only_memory law files [] before after s still right h = absurd h
only_memory law files (input ∷ inputs) before after s still right (inl h) = right_file law files input right.0.0 before after s still right.0.1 h
only_memory law files (input ∷ inputs) before after s still right (inr h) = only_memory law files inputs before after s still right.1 h.2

memory_reading : FilesMeanOneThing → (files : FileMap) (inputs : List Input) (before after : ℕ) (s : Status) → ¬ (HasRisen before after) → AreRight (Some files) inputs → FailsReading (Some files) inputs before after s → s ≡ OutOfMemory
memory_reading law files [] before after s still right h = h
memory_reading law files (input ∷ inputs) before after s still right h = only_memory law files (input ∷ inputs) before after s still right h

written_end : (o : Outside) (out : Outcome) (s : Status) → ¬ (HasRisen o.shelf_before o.shelf_after) → ¬ (HasRisen o.sink_before o.sink_after) → IsPublished o out s → IsEndOfRun s
written_end o out s shelf sink (inl h) = subst IsEndOfRun (sym h.0) tt
written_end o out s shelf sink (inr (inl (is, inl lost))) = absurd (shelf lost.count)
written_end o out s shelf sink (inr (inl (is, inr lost))) = absurd (sink lost.count)
written_end o out s shelf sink (inr (inr h)) = subst IsEndOfRun (sym h.0) tt

made_end : (o : Outside) (products : List Product) (s : Status) → ¬ (HasRisen o.shelf_before o.shelf_after) → IsMade o products s → IsEndOfMaking s
made_end o products s shelf (inl h, quiet) = subst IsEndOfMaking (sym h.0) tt
made_end o products s shelf (inr (inl h), quiet) = absurd (shelf h.1.count)
made_end o products s shelf (inr (inr h), quiet) = subst IsEndOfMaking (sym h.0) tt

-- the end of a run is that of a command that has an outcome, and so on
run_ends : (files : Option FileMap) (command : Command) (out : Outcome) (s : Status) → IsOutcome files command out → IsEndOfRun s → IsEnd command s
run_ends files (uni image script) out s h e = e
run_ends files (replay image map script journal) out s h e = e
run_ends files (run image map script journal options) out s h e = e
run_ends files (lockstep image map script plan journal options) out s h e = e
run_ends files (asm source image) out s h e = absurd h
run_ends files (elf executable image map) out s h e = absurd h
run_ends files (load number) out s h e = e

making_ends : (files : Option FileMap) (command : Command) (products : List Product) (s : Status) → AreProducts files command products → IsEndOfMaking s → IsEnd command s
making_ends files (uni image script) products s h e = absurd h
making_ends files (replay image map script journal) products s h e = absurd h
making_ends files (run image map script journal options) products s h e = absurd h
making_ends files (lockstep image map script plan journal options) products s h e = absurd h
making_ends files (asm source image) products s h e = e
making_ends files (elf executable image map) products s h e = e
making_ends files (load number) products s h e = absurd h

bad_step_ends : (files : Option FileMap) (command : Command) (index : ℕ) → IsIllegal files command index → IsEnd command (BadStep index)
bad_step_ends files (uni image script) index h = absurd h
bad_step_ends files (replay image map script journal) index h = tt
bad_step_ends files (run image map script journal options) index h = absurd h
bad_step_ends files (lockstep image map script plan journal options) index h = absurd h
bad_step_ends files (asm source image) index h = absurd h
bad_step_ends files (elf executable image map) index h = absurd h
bad_step_ends files (load number) index h = absurd h

memory_ends : (command : Command) → IsEnd command OutOfMemory
memory_ends (uni image script) = tt
memory_ends (replay image map script journal) = tt
memory_ends (run image map script journal options) = tt
memory_ends (lockstep image map script plan journal options) = tt
memory_ends (asm source image) = tt
memory_ends (elf executable image map) = tt
memory_ends (load number) = tt

pub right_files_end : FilesMeanOneThing → RightFilesEnd
right_files_end law o command files s told right shelf sink (inl h) = run_ends o.files_before command h.0 s h.1 (written_end o h.0 s shelf sink h.2)
right_files_end law o command files s told right shelf sink (inr (inl h)) = making_ends o.files_before command h.0 s h.1 (made_end o h.0 s shelf h.2)
right_files_end law o command files s told right shelf sink (inr (inr (inl h))) = subst (IsEnd command) (sym h.1) (bad_step_ends o.files_before command h.0 h.2)
right_files_end law o command files s told right shelf sink (inr (inr (inr h))) =
    subst (IsEnd command) (sym (memory_reading law files (inputs_of command) o.shelf_before o.shelf_after s shelf right (subst (λ fs. FailsReading fs (inputs_of command) o.shelf_before o.shelf_after s) told h.0))) (memory_ends command)
