-- The files of a command, in the order in which they are read: what each means, and what is wrong with one.
use Rattle.std.specs.Prelude.{◌≡◌, ℕ, ◌<◌, ◌≤◌, ◌⊎◌, List, [], ◌∷◌, length, map, Option, Some, None, Result, Ok, Err, MatchResult}
use Rattle.mach_base.specs.Machine.{Symbol}
use Rattle.mach_base.specs.declared.event.Entry.{Entry}
use Rattle.mach_base.specs.declared.event.What.{What}
use Rattle.mach_base.specs.declared.event.What.TheVariants.{ImageBytes, MapBytes, ScriptBytes, PlanBytes, JournalBytes, SourceBytes, ElfBytes}
use Rattle.mach_base.specs.declared.limits.TheConstants.{IMAGE_BYTES, MAP_BYTES, SCRIPT_BYTES, PLAN_BYTES, JOURNAL_BYTES, SOURCE_BYTES, ELF_BYTES}
use Rattle.img_text.specs.Image.{ImageRecord}
use Rattle.img_text.specs.Reading.{image_of}
use Rattle.img_text.specs.declared.fault.ImageFault.{ImageFault}
use Rattle.sym_map.specs.Reading.{symbols_of}
use Rattle.sym_map.specs.declared.fault.MapFault.{MapFault}
use Rattle.atom_mach.specs.Script.{checked_script}
use Rattle.atom_mach.specs.declared.script.ScriptFault.{ScriptFault}
use Rattle.plan_text.specs.Ticks.{Run}
use Rattle.plan_text.specs.Reading.{plan_of}
use Rattle.plan_text.specs.declared.fault.PlanFault.{PlanFault}
use Rattle.jrn_text.specs.Journal as journals
use Rattle.jrn_text.specs.declared.fault.JournalFault.{JournalFault}
use Rattle.jrn_text.specs.declared.journal.Journal as journal_structs
use Rattle.asm_text.specs.Reading.{source_of}
use Rattle.asm_text.specs.declared.fault.SourceFault.{SourceFault}
use Rattle.elf_img.specs.Causes.{first_fault}
use Rattle.elf_img.specs.Reading.{causes}
use Rattle.elf_img.specs.Segments.{elf_image}
use Rattle.elf_img.specs.Symbols as elf_symbols
use Rattle.elf_img.specs.MapText.{MapSymbol, map_text, named}
use Rattle.elf_img.specs.declared.fault.ElfFault.{ElfFault}
use Rattle.elf_img.specs.declared.reading.Loaded.{Loaded}
use Rattle.io_edge.specs.Edge.{FileMap, IsTold, HasRisen}
use Rattle.kdbsim_files.specs.declared.status.File.{File}
use Rattle.kdbsim_files.specs.declared.status.File.TheVariants.{Image, Map, Script, Plan, Journal, Source, Elf}
use Rattle.kdbsim_files.specs.declared.status.Status.{Status}
use Rattle.kdbsim_files.specs.declared.status.Status.TheVariants.{ReadFault, TooLarge, OutOfMemory}
use Rattle.kdbsim_files.specs.Faults.{status_of_image, status_of_map, status_of_script, status_of_plan, status_of_journal, status_of_source, status_of_elf}

-- the most bytes of a file
abbrev pub size_limit : File → ℕ
size_limit Image = IMAGE_BYTES
size_limit Map = MAP_BYTES
size_limit Script = SCRIPT_BYTES
size_limit Plan = PLAN_BYTES
size_limit Journal = JOURNAL_BYTES
size_limit Source = SOURCE_BYTES
size_limit Elf = ELF_BYTES

-- what a file of more bytes has too much of
abbrev pub bytes_of_file : File → What
bytes_of_file Image = ImageBytes
bytes_of_file Map = MapBytes
bytes_of_file Script = ScriptBytes
bytes_of_file Plan = PlanBytes
bytes_of_file Journal = JournalBytes
bytes_of_file Source = SourceBytes
bytes_of_file Elf = ElfBytes

-- what a file is read as; a plan is read for so many harts
pub data Kind : Type 0 where
  image_file : Kind
  map_file : Kind
  script_file : Kind
  plan_file : ℕ → Kind
  journal_file : Kind
  source_file : Kind
  elf_file : Kind

-- the file of the words that is read so
abbrev pub file_of : Kind → File
file_of image_file = Image
file_of map_file = Map
file_of script_file = Script
file_of (plan_file harts) = Plan
file_of journal_file = Journal
file_of source_file = Source
file_of elf_file = Elf

-- what a journal says: the number of harts, the limit of steps, the entries
pub record Recording : Type 0 where
  pub harts : ℕ
  pub limit : ℕ
  pub entries : List Entry

-- what an executable says: the image of its memory, and the symbols of its map
pub record Executable : Type 0 where
  pub image : ImageRecord
  pub symbols : List MapSymbol

-- nothing is wrong with the executable, and it says this
pub record IsExecutable (bytes : List ℕ) (value : Executable) : Type 0 where
  pub right : first_fault (causes bytes) ≡ None
  pub image_is : value.image ≡ elf_image bytes
  pub symbols_are : value.symbols ≡ elf_symbols.symbols bytes

-- what a file of each kind says
abbrev pub Value : Kind → Type 0
Value image_file = ImageRecord
Value map_file = List Symbol
Value script_file = List (List ℕ)
Value (plan_file harts) = List Run
Value journal_file = Recording
Value source_file = ImageRecord
Value elf_file = Executable

-- the bytes say this
abbrev pub Means : (kind : Kind) → List ℕ → Value kind → Type 0
Means image_file bytes value = image_of bytes ≡ Ok value
Means map_file bytes value = symbols_of bytes ≡ Ok value
Means script_file bytes value = checked_script bytes ≡ Ok value
Means (plan_file harts) bytes value = plan_of harts bytes ≡ Ok value
Means journal_file bytes value = journals.IsRead bytes value.harts value.limit value.entries
Means source_file bytes value = source_of bytes ≡ Ok value
Means elf_file bytes value = IsExecutable bytes value

-- The bytes are refused so by the grammar and the counts of their kind: reading them gives a fault, whose status this is.
abbrev pub RefusesText : Kind → List ℕ → Status → Type 0
RefusesText image_file bytes status = (fault : ImageFault) × (image_of bytes ≡ Err fault) × (status ≡ status_of_image fault)
RefusesText map_file bytes status = (fault : MapFault) × (symbols_of bytes ≡ Err fault) × (status ≡ status_of_map fault)
RefusesText script_file bytes status = (fault : ScriptFault) × (checked_script bytes ≡ Err fault) × (status ≡ status_of_script fault)
RefusesText (plan_file harts) bytes status = (fault : PlanFault) × (plan_of harts bytes ≡ Err fault) × (status ≡ status_of_plan fault)
RefusesText journal_file bytes status = (fault : JournalFault) × journals.Explains bytes fault × (status ≡ status_of_journal fault)
RefusesText source_file bytes status = (fault : SourceFault) × (source_of bytes ≡ Err fault) × (status ≡ status_of_source fault)
RefusesText elf_file bytes status = (fault : ElfFault) × (first_fault (causes bytes) ≡ Some fault) × (status ≡ status_of_elf fault)

-- the status says that these are too many bytes for the file
abbrev pub IsTooLong : File → List ℕ → Status → Type 0
IsTooLong file bytes status = (status ≡ TooLarge (bytes_of_file file) (length bytes)) × (size_limit file < length bytes)

-- these are no more bytes than the file may have
abbrev pub IsShort : Kind → List ℕ → Type 0
IsShort kind bytes = length bytes ≤ size_limit (file_of kind)

-- The bytes are refused so: by their number, else by their first faulty line, else by a count.
abbrev pub Refuses : Kind → List ℕ → Status → Type 0
Refuses kind bytes status = IsTooLong (file_of kind) bytes status ⊎ (IsShort kind bytes × RefusesText kind bytes status)

-- the file of this name was read to its end, nothing is wrong with it, and it says this
pub record HasFile (contents : Option FileMap) (kind : Kind) (name : List ℕ) (value : Value kind) : Type 0 where
  pub bytes : List ℕ
  pub told : IsTold contents name bytes
  pub short : IsShort kind bytes
  pub means : Means kind bytes value

-- The executable of this name was read: this is its image, and this the text of its map, which reads as its symbols.
pub record IsLoaded (contents : Option FileMap) (name : List ℕ) (loaded : Loaded) : Type 0 where
  pub value : Executable
  pub read : HasFile contents elf_file name value
  pub image_is : loaded.image ≡ value.image
  pub map_is : loaded.map ≡ map_text value.symbols
  pub reads : symbols_of loaded.map ≡ Ok (map named value.symbols)

-- the journal of this name was read to its end, nothing is wrong with it, and it is this
abbrev pub IsReadJournal : Option FileMap → List ℕ → journal_structs.Journal → Type 0
IsReadJournal contents name journal = HasFile contents journal_file name (record { harts = journal.harts; limit = journal.limit; entries = journal.entries.entries })

-- the file of this name was read, and is refused so
pub record IsRefused (contents : Option FileMap) (kind : Kind) (name : List ℕ) (status : Status) : Type 0 where
  pub bytes : List ℕ
  pub told : IsTold contents name bytes
  pub refused : Refuses kind bytes status

-- the shelf failed at this file: its count of faults rose
abbrev pub HasFailed : File → ℕ → ℕ → Status → Type 0
HasFailed file before after status = (status ≡ ReadFault file) × HasRisen before after

-- why a file isn't there to be used: the shelf failed at it, it is refused, or memory ran out
abbrev pub FailsAtFile : Option FileMap → Kind → List ℕ → ℕ → ℕ → Status → Type 0
FailsAtFile contents kind name before after status =
    HasFailed (file_of kind) before after status ⊎ IsRefused contents kind name status ⊎ (status ≡ OutOfMemory)

-- what reading the file of a name answers: what it says, or why it isn't there to be used
abbrev pub IsInput : Option FileMap → (kind : Kind) → List ℕ → ℕ → ℕ → Result (Value kind) Status → Type 0
IsInput contents kind name before after result = MatchResult result (HasFile contents kind name) (FailsAtFile contents kind name before after)

-- a file of a command: what it is read as, and its name
pub record Input : Type 0 where
  pub kind : Kind
  pub name : List ℕ

-- why the files of a command aren't there to be used: one of them fails, after those before it were read
abbrev pub FailsAt : Option FileMap → List Input → ℕ → ℕ → Status → Type 0
FailsAt contents [] before after status = ⊥
FailsAt contents (input ∷ inputs) before after status =
    FailsAtFile contents input.kind input.name before after status
    ⊎ ((value : Value input.kind) × HasFile contents input.kind input.name value × FailsAt contents inputs before after status)

-- why a file isn't there to be read by its grammar: the shelf failed at it, it has too many bytes, or memory ran out
abbrev pub FailsBefore : Option FileMap → File → List ℕ → ℕ → ℕ → Status → Type 0
FailsBefore contents file name before after status =
    HasFailed file before after status ⊎ ((bytes : List ℕ) × IsTold contents name bytes × IsTooLong file bytes status) ⊎ (status ≡ OutOfMemory)
