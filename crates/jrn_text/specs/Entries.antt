-- The lines of a journal's entries. docs/formats.md has the grammar.
use Rattle.std.specs.Prelude.{◌≡◌, ℕ, zero, suc, ◌^◌, ◌==◌, ◌&&◌, Bool, true, false, nat_lt, List, [], ◌∷◌, ◌++◌, codes, if◌then◌else◌}
use Rattle.std.specs.Fmt.{digits}
use Rattle.mach_base.specs.Number.{dec_text}
use Rattle.mach_base.specs.Texts.{newline}
use Rattle.mach_base.specs.Masks.{has_bit}
use Rattle.mach_base.specs.declared.limits.TheConstants.{MOST_HARTS, PLACES}
use Rattle.mach_base.specs.declared.event.Hart.{Hart}
use Rattle.mach_base.specs.declared.event.Ending.{Ending}
use Rattle.mach_base.specs.declared.event.Ending.TheVariants.{ScriptEnd, AllHalted, StepLimit, PlanEnd}
use Rattle.mach_base.specs.declared.event.Entry.{Entry}
use Rattle.mach_base.specs.declared.event.Entry.TheVariants.{Step, Intr, Send, Take, Open, Pull, Line, Plant, PlantStep, PullStep, Close, Off}

-- the numbers below n that the mask has, ascending
unfoldable pub numbers_in : ℕ → ℕ → List ℕ
numbers_in zero mask = []
numbers_in (suc n) mask = if has_bit mask n then numbers_in n mask ++ n ∷ [] else numbers_in n mask

-- numbers in decimal, joined by commas
abbrev pub list_text : List ℕ → List ℕ
list_text [] = []
list_text (h ∷ []) = dec_text h
list_text (h ∷ k ∷ hs) = dec_text h ++ (44 ∷ list_text (k ∷ hs))

-- a mask of late harts: a dash for nobody
unfoldable pub late_text : ℕ → List ℕ
late_text mask = if mask == 0 then codes "-" else list_text (numbers_in MOST_HARTS mask)

-- an address: 0x and its hexadecimal digits, lower case, without leading zeros
unfoldable pub short_address : ℕ → List ℕ
short_address addr = codes "0x" ++ digits 16 false addr

-- the word of an ending
abbrev pub ending_word : Ending → List ℕ
ending_word ScriptEnd = codes "script"
ending_word AllHalted = codes "halted"
ending_word StepLimit = codes "limit"
ending_word PlanEnd = []

-- a letter, a blank and what follows
abbrev pub lettered : ℕ → List ℕ → List ℕ
lettered letter text = letter ∷ 32 ∷ text

-- an entry's line without its line feed
unfoldable pub entry_text : Entry → List ℕ
entry_text (Step h) = lettered 83 (dec_text h.0)
entry_text (Intr h) = lettered 73 (dec_text h.0)
entry_text (Send h) = lettered 67 (dec_text h.0)
entry_text (Take h) = lettered 84 (dec_text h.0)
entry_text (Open h late) = lettered 79 (dec_text h.0 ++ (32 ∷ late_text late))
entry_text (Pull i) = lettered 85 (dec_text i)
entry_text (Line h) = lettered 76 (dec_text h.0)
entry_text (Plant i) = lettered 80 (dec_text i)
entry_text (PlantStep addr) = lettered 65 (short_address addr)
entry_text PullStep = 66 ∷ []
entry_text (Close h) = lettered 69 (dec_text h.0)
entry_text (Off ending) = lettered 70 (ending_word ending)

-- whether it is an entry of a journal of so many harts: harts, also those of masks, and places are there, and the end
-- isn't a plan's
abbrev pub is_entry : ℕ → Entry → Bool
is_entry harts (Step h) = nat_lt h.0 harts
is_entry harts (Intr h) = nat_lt h.0 harts
is_entry harts (Send h) = nat_lt h.0 harts
is_entry harts (Take h) = nat_lt h.0 harts
is_entry harts (Open h late) = nat_lt h.0 harts && nat_lt late (2 ^ harts)
is_entry harts (Pull i) = nat_lt i PLACES
is_entry harts (Line h) = nat_lt h.0 harts
is_entry harts (Plant i) = nat_lt i PLACES
is_entry harts (PlantStep addr) = nat_lt addr (2 ^ 64)
is_entry harts PullStep = true
is_entry harts (Close h) = nat_lt h.0 harts
is_entry harts (Off ScriptEnd) = true
is_entry harts (Off AllHalted) = true
is_entry harts (Off StepLimit) = true
is_entry harts (Off PlanEnd) = false

-- an entry that a journal of this many harts may have
abbrev pub IsEntry : ℕ → Entry → Type 0
IsEntry harts e = is_entry harts e ≡ true

-- an entry's line
abbrev pub entry_line : Entry → List ℕ
entry_line e = entry_text e ++ newline

-- the lines of a list of entries
abbrev pub lines_text : List Entry → List ℕ
lines_text [] = []
lines_text (e ∷ es) = entry_line e ++ lines_text es
