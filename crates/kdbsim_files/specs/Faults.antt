-- The status of each reader's refusal.
use Rattle.img_text.specs.declared.fault.ImageFault.{ImageFault}
use Rattle.img_text.specs.declared.fault.ImageFault.TheVariants as image_faults
use Rattle.sym_map.specs.declared.fault.MapFault.{MapFault}
use Rattle.sym_map.specs.declared.fault.MapFault.TheVariants as map_faults
use Rattle.atom_mach.specs.declared.script.ScriptFault.{ScriptFault}
use Rattle.atom_mach.specs.declared.script.ScriptFault.TheVariants as script_faults
use Rattle.plan_text.specs.declared.fault.PlanFault.{PlanFault}
use Rattle.plan_text.specs.declared.fault.PlanFault.TheVariants as plan_faults
use Rattle.jrn_text.specs.declared.fault.JournalFault.{JournalFault}
use Rattle.jrn_text.specs.declared.fault.JournalFault.TheVariants as journal_faults
use Rattle.asm_text.specs.declared.fault.SourceFault.{SourceFault}
use Rattle.asm_text.specs.declared.fault.SourceFault.TheVariants as source_faults
use Rattle.elf_img.specs.declared.fault.ElfFault.{ElfFault}
use Rattle.elf_img.specs.declared.fault.ElfFault.TheVariants as elf_faults
use Rattle.kdbsim_files.specs.declared.status.Status.{Status}
use Rattle.kdbsim_files.specs.declared.status.Status.TheVariants.{BadImage, BadMap, BadScript, BadPlan, BadJournal, BadSource, BadElf, TooLarge, OutOfMemory}

-- the status of a refused image
abbrev pub status_of_image : ImageFault → Status
status_of_image (image_faults.Bad line why) = BadImage line why
status_of_image (image_faults.TooLarge what size) = TooLarge what size
status_of_image image_faults.OutOfMemory = OutOfMemory

-- the status of a refused map
abbrev pub status_of_map : MapFault → Status
status_of_map (map_faults.Bad line) = BadMap line
status_of_map (map_faults.TooLarge what size) = TooLarge what size
status_of_map map_faults.OutOfMemory = OutOfMemory

-- the status of a refused script
abbrev pub status_of_script : ScriptFault → Status
status_of_script (script_faults.Bad line) = BadScript line
status_of_script (script_faults.TooLarge what size) = TooLarge what size
status_of_script script_faults.OutOfMemory = OutOfMemory

-- the status of a refused plan
abbrev pub status_of_plan : PlanFault → Status
status_of_plan (plan_faults.Bad line) = BadPlan line
status_of_plan (plan_faults.TooLarge what size) = TooLarge what size
status_of_plan plan_faults.OutOfMemory = OutOfMemory

-- the status of a refused journal
abbrev pub status_of_journal : JournalFault → Status
status_of_journal (journal_faults.Bad line) = BadJournal line
status_of_journal (journal_faults.TooLarge what size) = TooLarge what size
status_of_journal journal_faults.OutOfMemory = OutOfMemory

-- the status of a refused source
abbrev pub status_of_source : SourceFault → Status
status_of_source (source_faults.Bad line) = BadSource line
status_of_source (source_faults.TooLarge what size) = TooLarge what size
status_of_source source_faults.OutOfMemory = OutOfMemory

-- the status of a refused executable
abbrev pub status_of_elf : ElfFault → Status
status_of_elf (elf_faults.Bad why) = BadElf why
status_of_elf (elf_faults.TooLarge what size) = TooLarge what size
status_of_elf elf_faults.OutOfMemory = OutOfMemory
