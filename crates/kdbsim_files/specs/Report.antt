-- The line and the number of a status.
use Rattle.std.specs.Prelude.{ℕ, List, [], ◌++◌, codes}
use Rattle.mach_base.specs.Number.{dec_text}
use Rattle.mach_base.specs.declared.event.What.{What}
use Rattle.mach_base.specs.declared.event.What.TheVariants.{ImageBytes, Segments, Memory, MapBytes, Symbols, ScriptBytes, Lines, PlanBytes, Ticks, JournalBytes, Entries, SourceBytes, ElfBytes, FileBytes}
use Rattle.img_text.specs.declared.fault.Why.{Why}
use Rattle.img_text.specs.declared.fault.Why.TheVariants.{Header, Word, Number, Bounds, Order, Overrun, Hart, NoText}
use Rattle.elf_img.specs.declared.fault.ElfWhy.{ElfWhy}
use Rattle.elf_img.specs.declared.fault.ElfWhy.TheVariants as elf_whys
use Rattle.kdbsim_files.specs.declared.status.File.{File}
use Rattle.kdbsim_files.specs.declared.status.File.TheVariants.{Image, Map, Script, Plan, Journal, Source, Elf}
use Rattle.kdbsim_files.specs.declared.status.Status.{Status}
use Rattle.kdbsim_files.specs.declared.status.Status.TheVariants.{Done, Made, Usage, ReadFault, BadImage, BadMap, BadScript, BadPlan, BadJournal, BadSource, BadElf, TooLarge, BadStep, WriteFault, OutOfMemory}

-- the number with which the program ends
abbrev pub code_of : Status → ℕ
code_of (Done ending) = 0
code_of Made = 0
code_of Usage = 2
code_of (ReadFault file) = 3
code_of (BadImage line why) = 4
code_of (BadMap line) = 5
code_of (BadScript line) = 6
code_of (BadPlan line) = 7
code_of (BadJournal line) = 8
code_of (TooLarge what size) = 9
code_of (BadStep index) = 10
code_of WriteFault = 11
code_of OutOfMemory = 12
code_of (BadSource line) = 14
code_of (BadElf why) = 15

-- the word for a file by its kind, in the line of a status
abbrev pub file_name : File → List ℕ
file_name Image = codes "image"
file_name Map = codes "map"
file_name Script = codes "script"
file_name Plan = codes "plan"
file_name Journal = codes "journal"
file_name Source = codes "source"
file_name Elf = codes "elf"

-- the word for what is wrong with a line of an image
abbrev pub why_name : Why → List ℕ
why_name Header = codes "header"
why_name Word = codes "word"
why_name Number = codes "number"
why_name Bounds = codes "bounds"
why_name Order = codes "order"
why_name Overrun = codes "overrun"
why_name Hart = codes "hart"
why_name NoText = codes "notext"

-- the word for what is wrong with an executable
abbrev pub elf_why_name : ElfWhy → List ℕ
elf_why_name elf_whys.Short = codes "short"
elf_why_name elf_whys.Magic = codes "magic"
elf_why_name elf_whys.FileType = codes "filetype"
elf_why_name elf_whys.Machine = codes "machine"
elf_why_name elf_whys.Compressed = codes "compressed"
elf_why_name elf_whys.HeaderSize = codes "headersize"
elf_why_name elf_whys.Dynamic = codes "dynamic"
elf_why_name elf_whys.Bounds = codes "bounds"
elf_why_name elf_whys.WriteExec = codes "writeexec"
elf_why_name elf_whys.Order = codes "order"
elf_why_name elf_whys.NoText = codes "notext"

-- the word for what is over its limit
abbrev pub what_name : What → List ℕ
what_name ImageBytes = codes "imagebytes"
what_name Segments = codes "segments"
what_name Memory = codes "memory"
what_name MapBytes = codes "mapbytes"
what_name Symbols = codes "symbols"
what_name ScriptBytes = codes "scriptbytes"
what_name Lines = codes "lines"
what_name PlanBytes = codes "planbytes"
what_name Ticks = codes "ticks"
what_name JournalBytes = codes "journalbytes"
what_name Entries = codes "entries"
what_name SourceBytes = codes "sourcebytes"
what_name ElfBytes = codes "elfbytes"
what_name FileBytes = codes "filebytes"

-- what stands after `kdbsim: ` in the line of a status
unfoldable pub words_of_status : Status → List ℕ
words_of_status (Done ending) = []
words_of_status Made = []
words_of_status Usage = codes "usage"
words_of_status (ReadFault file) = codes "cannot read " ++ file_name file
words_of_status (BadImage line why) = codes "bad image, line " ++ (dec_text line ++ (codes ": " ++ why_name why))
words_of_status (BadMap line) = codes "bad map, line " ++ dec_text line
words_of_status (BadScript line) = codes "bad script, line " ++ dec_text line
words_of_status (BadPlan line) = codes "bad plan, line " ++ dec_text line
words_of_status (BadJournal line) = codes "bad journal, line " ++ dec_text line
words_of_status (BadSource line) = codes "bad source, line " ++ dec_text line
words_of_status (BadElf why) = codes "bad elf, " ++ elf_why_name why
words_of_status (TooLarge what size) = codes "too large: " ++ (what_name what ++ (codes " " ++ dec_text size))
words_of_status (BadStep index) = codes "bad step " ++ dec_text index
words_of_status WriteFault = codes "cannot write"
words_of_status OutOfMemory = codes "out of memory"

-- The line of a status; none for Done and Made.
unfoldable pub line_of : Status → List ℕ
line_of (Done ending) = []
line_of Made = []
line_of status = codes "kdbsim: " ++ words_of_status status
