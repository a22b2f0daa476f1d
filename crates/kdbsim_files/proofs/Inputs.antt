-- What a file's reading gives is what the shelf's file gives.
use Rattle.std.proofs.Common.{◌≡◌, ℕ, ◌≤◌, inl, inr, true, List, [], ◌∷◌, map, Option, None, Ok, Err, refl, sym, ap, ◌∙◌, subst, arith}
use Rattle.io_edge.specs.Edge.{FileMap, HasRisen, IsTold}
use Rattle.kdbsim_files.specs.declared.status.Status.{Status}
use Rattle.img_text.specs.Reading as images
use Rattle.img_text.specs.declared.fault.ImageFault.{ImageFault}
use Rattle.img_text.specs.declared.fault.ImageFault.TheVariants as image_faults
use Rattle.sym_map.specs.Reading as maps
use Rattle.sym_map.specs.declared.fault.MapFault.{MapFault}
use Rattle.sym_map.specs.declared.fault.MapFault.TheVariants as map_faults
use Rattle.atom_mach.specs.Script as scripts
use Rattle.atom_mach.specs.declared.script.ScriptFault.{ScriptFault}
use Rattle.atom_mach.specs.declared.script.ScriptFault.TheVariants as script_faults
use Rattle.plan_text.specs.Reading as plans
use Rattle.plan_text.specs.declared.fault.PlanFault.{PlanFault}
use Rattle.plan_text.specs.declared.fault.PlanFault.TheVariants as plan_faults
use Rattle.jrn_text.specs.Journal as journals
use Rattle.jrn_text.specs.declared.fault.JournalFault.{JournalFault}
use Rattle.jrn_text.specs.declared.fault.JournalFault.TheVariants as journal_faults
use Rattle.mach_base.specs.Machine.{Part}
use Rattle.mem_map.specs.Parts.{segments_of}
use Rattle.img_text.specs.Image.{ImageRecord, filled}
use Rattle.img_text.specs.Reading.{has_text}
use Rattle.img_text.specs.Grammar.{parts_in}
use Rattle.asm_text.specs.Grammar.{IsWhatTheLinesMean}
use Rattle.asm_text.specs.Reading as sources
use Rattle.asm_text.specs.declared.fault.SourceFault.{SourceFault}
use Rattle.asm_text.specs.declared.fault.SourceFault.TheVariants as source_faults
use Rattle.elf_img.specs.Causes.{IsFirst, first_fault}
use Rattle.elf_img.specs.Segments.{elf_image}
use Rattle.elf_img.specs.Symbols as elf_symbols
use Rattle.elf_img.specs.MapText.{map_text, named}
use Rattle.elf_img.specs.declared.reading.Loaded.{Loaded}
use Rattle.elf_img.specs.Reading.{causes}
use Rattle.elf_img.specs.declared.fault.ElfFault.{ElfFault}
use Rattle.elf_img.specs.declared.fault.ElfFault.TheVariants as elf_faults
use Rattle.kdbsim_files.specs.Faults.{status_of_image, status_of_map, status_of_script, status_of_plan, status_of_journal, status_of_source, status_of_elf}
use Rattle.kdbsim_files.specs.Files.{Kind, image_file, map_file, script_file, plan_file, journal_file, source_file, elf_file, RefusesText, IsShort, IsLoaded, FailsAtFile, FailsBefore, file_of}

-- a file that isn't there to be read isn't there to be used
pub fails_before : (files : Option FileMap) (kind : Kind) (name : List ℕ) (before after : ℕ) (status : Status) → FailsBefore files (file_of kind) name before after status → FailsAtFile files kind name before after status
fails_before files kind name before after status (inl h) = inl h
fails_before files kind name before after status (inr (inl h)) = inr (inl (record { bytes = h.0; told = h.1; refused = inl h.2 }))
fails_before files kind name before after status (inr (inr h)) = inr (inr h)

refused_so : (files : Option FileMap) (kind : Kind) (name bytes : List ℕ) (before after : ℕ) (status : Status) → IsTold files name bytes → IsShort kind bytes → RefusesText kind bytes status → FailsAtFile files kind name before after status
refused_so files kind name bytes before after status told short refuses = inr (inl (record { bytes = bytes; told = told; refused = inr (short, refuses) }))

-- each reader's refusal is the file's
pub image_fails : (files : Option FileMap) (name bytes : List ℕ) (before after : ℕ) (fault : ImageFault) → IsTold files name bytes → IsShort image_file bytes → images.IsFault fault (images.image_of bytes) → FailsAtFile files image_file name before after (status_of_image fault)
image_fails files name bytes before after (image_faults.Bad line why) told short h = refused_so files image_file name bytes before after _ told short (image_faults.Bad line why, h, refl)
image_fails files name bytes before after (image_faults.TooLarge what size) told short h = refused_so files image_file name bytes before after _ told short (image_faults.TooLarge what size, h, refl)
image_fails files name bytes before after image_faults.OutOfMemory told short h = inr (inr refl)

pub map_fails : (files : Option FileMap) (name bytes : List ℕ) (before after : ℕ) (fault : MapFault) → IsTold files name bytes → IsShort map_file bytes → maps.IsFault fault (maps.symbols_of bytes) → FailsAtFile files map_file name before after (status_of_map fault)
map_fails files name bytes before after (map_faults.Bad line) told short h = refused_so files map_file name bytes before after _ told short (map_faults.Bad line, h, refl)
map_fails files name bytes before after (map_faults.TooLarge what size) told short h = refused_so files map_file name bytes before after _ told short (map_faults.TooLarge what size, h, refl)
map_fails files name bytes before after map_faults.OutOfMemory told short h = inr (inr refl)

pub script_fails : (files : Option FileMap) (name bytes : List ℕ) (before after : ℕ) (fault : ScriptFault) → IsTold files name bytes → IsShort script_file bytes → scripts.Answers (Err fault) (scripts.checked_script bytes) → FailsAtFile files script_file name before after (status_of_script fault)
script_fails files name bytes before after (script_faults.Bad line) told short h = refused_so files script_file name bytes before after _ told short (script_faults.Bad line, h, refl)
script_fails files name bytes before after (script_faults.TooLarge what size) told short h = refused_so files script_file name bytes before after _ told short (script_faults.TooLarge what size, h, refl)
script_fails files name bytes before after script_faults.OutOfMemory told short h = inr (inr refl)

pub plan_fails : (files : Option FileMap) (harts : ℕ) (name bytes : List ℕ) (before after : ℕ) (fault : PlanFault) → IsTold files name bytes → IsShort (plan_file harts) bytes → plans.IsFault fault (plans.plan_of harts bytes) → FailsAtFile files (plan_file harts) name before after (status_of_plan fault)
plan_fails files harts name bytes before after (plan_faults.Bad line) told short h = refused_so files (plan_file harts) name bytes before after _ told short (plan_faults.Bad line, h, refl)
plan_fails files harts name bytes before after (plan_faults.TooLarge what size) told short h = refused_so files (plan_file harts) name bytes before after _ told short (plan_faults.TooLarge what size, h, refl)
plan_fails files harts name bytes before after plan_faults.OutOfMemory told short h = inr (inr refl)

pub journal_fails : (files : Option FileMap) (name bytes : List ℕ) (before after : ℕ) (fault : JournalFault) → IsTold files name bytes → IsShort journal_file bytes → journals.Explains bytes fault → FailsAtFile files journal_file name before after (status_of_journal fault)
journal_fails files name bytes before after (journal_faults.Bad line) told short h = refused_so files journal_file name bytes before after _ told short (journal_faults.Bad line, h, refl)
journal_fails files name bytes before after (journal_faults.TooLarge what size) told short h = refused_so files journal_file name bytes before after _ told short (journal_faults.TooLarge what size, h, refl)
journal_fails files name bytes before after journal_faults.OutOfMemory told short h = inr (inr refl)

pub source_fails : (files : Option FileMap) (name bytes : List ℕ) (before after : ℕ) (fault : SourceFault) → IsTold files name bytes → IsShort source_file bytes → sources.IsFault fault (sources.source_of bytes) → FailsAtFile files source_file name before after (status_of_source fault)
source_fails files name bytes before after (source_faults.Bad line) told short h = refused_so files source_file name bytes before after _ told short (source_faults.Bad line, h, refl)
source_fails files name bytes before after (source_faults.TooLarge what size) told short h = refused_so files source_file name bytes before after _ told short (source_faults.TooLarge what size, h, refl)
source_fails files name bytes before after source_faults.OutOfMemory told short h = inr (inr refl)

pub elf_fails : (files : Option FileMap) (name bytes : List ℕ) (before after : ℕ) (fault : ElfFault) → IsTold files name bytes → IsShort elf_file bytes → IsFirst fault (causes bytes) → FailsAtFile files elf_file name before after (status_of_elf fault)
elf_fails files name bytes before after (elf_faults.Bad why) told short h = refused_so files elf_file name bytes before after _ told short (elf_faults.Bad why, h, refl)
elf_fails files name bytes before after (elf_faults.TooLarge what size) told short h = refused_so files elf_file name bytes before after _ told short (elf_faults.TooLarge what size, h, refl)
elf_fails files name bytes before after elf_faults.OutOfMemory told short h = inr (inr refl)

-- a count that rose later rose from the start on
pub HasRisen-from : (before between after : ℕ) → before ≤ between → HasRisen between after → HasRisen before after
HasRisen-from before between after le (inl lt) = inl (omega arith)
HasRisen-from before between after le (inr e) = inr e

-- the same of why a file isn't there
pub FailsAtFile-from : (files : Option FileMap) (kind : Kind) (name : List ℕ) (before between after : ℕ) (status : Status) → before ≤ between → FailsAtFile files kind name between after status → FailsAtFile files kind name before after status
FailsAtFile-from files kind name before between after status le (inl h) = inl (h.0, HasRisen-from before between after le h.1)
FailsAtFile-from files kind name before between after status le (inr h) = inr h

segments_of-filled : (ps : List Part) → segments_of (map (λ (p : Part). filled p.segment p.bytes) ps) ≡ segments_of ps
segments_of-filled [] = refl
segments_of-filled (p ∷ ps) = ap (λ rest. p.segment ∷ rest) (segments_of-filled ps)

-- the image of a source has text
pub source_text : IsWhatTheLinesMean → (bytes : List ℕ) (image : ImageRecord) → sources.source_of bytes ≡ Ok image → has_text (segments_of image.parts) ≡ true
source_text law bytes image is =
    let of = law bytes image is in
    ap (λ ps. has_text (segments_of ps)) of.2.parts ∙ ap has_text (segments_of-filled (parts_in of.0)) ∙ of.2.text

-- what reading an executable gives is what the shelf's file gives
pub loaded_so : (files : Option FileMap) (name bytes file : List ℕ) (loaded : Loaded) → file ≡ bytes → IsTold files name bytes → IsShort elf_file bytes → first_fault (causes file) ≡ None → loaded.image ≡ elf_image file
    → loaded.map ≡ map_text (elf_symbols.symbols file) → maps.symbols_of loaded.map ≡ Ok (map named (elf_symbols.symbols file)) → IsLoaded files name loaded
loaded_so files name bytes file loaded same told short right image_is map_is reads = record {
  value = record { image = elf_image file; symbols = elf_symbols.symbols file };
  read = record {
    bytes = file;
    told = subst (IsTold files name) (sym same) told;
    short = subst (IsShort elf_file) (sym same) short;
    means = record { right = right; image_is = refl; symbols_are = refl };
  };
  image_is = image_is;
  map_is = map_is;
  reads = reads;
}
