-- A journal's entries as bytes. docs/formats.md has the table.
use Rattle.std.specs.Prelude.{◌≡◌, ◌≢◌, ℕ, zero, suc, ◌+◌, ◌*◌, ◌/◌, ◌%◌, ◌^◌, ◌<◌, ◌==◌, List, [], ◌∷◌, ◌++◌, length, take, drop, nat_lt, if◌then◌else◌}
use Rattle.std.specs.List.{AllByRecursion}
use Rattle.std.specs.Int.{to_le_bytes, from_le_bytes, w64}
use Rattle.mach_base.specs.declared.limits.TheConstants.{MASK_HARTS}
use Rattle.mach_base.specs.declared.event.Hart.{Hart}
use Rattle.mach_base.specs.declared.event.Ending.{Ending}
use Rattle.mach_base.specs.declared.event.Ending.TheVariants.{ScriptEnd, AllHalted, StepLimit, PlanEnd}
use Rattle.mach_base.specs.declared.event.Entry.{Entry}
use Rattle.mach_base.specs.declared.event.Entry.TheVariants.{Step, Intr, Send, Take, Open, Pull, Line, Plant, PlantStep, PullStep, Close, Off}

-- the hart of this number
abbrev pub hart : ℕ → Hart
hart n = record { 0 = n }

-- the one byte of an entry that names a hart alone, by its kind
abbrev pub short_bytes : ℕ → ℕ → List ℕ
short_bytes kind h = (kind * 32 + h) ∷ []

-- the one byte of an ending; a plan's end is no entry of a journal
abbrev pub ending_bytes : Ending → List ℕ
ending_bytes ScriptEnd = 0xc5 ∷ []
ending_bytes AllHalted = 0xc6 ∷ []
ending_bytes StepLimit = 0xc7 ∷ []
ending_bytes PlanEnd = []

-- the bytes of an entry
unfoldable pub entry_bytes : Entry → List ℕ
entry_bytes (Step h) = short_bytes 0 h.0
entry_bytes (Intr h) = short_bytes 1 h.0
entry_bytes (Send h) = short_bytes 2 h.0
entry_bytes (Take h) = short_bytes 3 h.0
entry_bytes (Line h) = short_bytes 4 h.0
entry_bytes (Close h) = short_bytes 5 h.0
entry_bytes (Open h late) = 0xc0 ∷ h.0 ∷ to_le_bytes w64 late
entry_bytes (Pull i) = 0xc1 ∷ i ∷ []
entry_bytes (Plant i) = 0xc2 ∷ i ∷ []
entry_bytes (PlantStep addr) = 0xc3 ∷ to_le_bytes w64 addr
entry_bytes PullStep = 0xc4 ∷ []
entry_bytes (Off ending) = ending_bytes ending

-- the entries that have bytes: their hart has room in them, and they aren't a plan's end
abbrev pub IsPackable : Entry → Type 0
IsPackable (Step h) = h.0 < MASK_HARTS
IsPackable (Intr h) = h.0 < MASK_HARTS
IsPackable (Send h) = h.0 < MASK_HARTS
IsPackable (Take h) = h.0 < MASK_HARTS
IsPackable (Line h) = h.0 < MASK_HARTS
IsPackable (Close h) = h.0 < MASK_HARTS
IsPackable (Open h late) = (h.0 < MASK_HARTS) × (late < 2 ^ 64)
IsPackable (Pull i) = i < 256
IsPackable (Plant i) = i < 256
IsPackable (PlantStep addr) = addr < 2 ^ 64
IsPackable PullStep = Unit {0}
IsPackable (Off ending) = ending ≢ PlanEnd

-- the bytes of a list of entries
abbrev pub packed_bytes : List Entry → List ℕ
packed_bytes [] = []
packed_bytes (e ∷ es) = entry_bytes e ++ packed_bytes es

-- the entry that names a hart alone, by its kind
abbrev pub short_entry : ℕ → ℕ → Entry
short_entry zero h = Step (hart h)
short_entry (suc zero) h = Intr (hart h)
short_entry (suc (suc zero)) h = Send (hart h)
short_entry (suc (suc (suc zero))) h = Take (hart h)
short_entry (suc (suc (suc (suc zero)))) h = Line (hart h)
short_entry (suc (suc (suc (suc (suc kind))))) h = Close (hart h)

-- the entry of one byte from 0xc4 on
abbrev pub last_entry : ℕ → Entry
last_entry first =
    if first == 0xc4 then PullStep
    else (if first == 0xc5 then Off ScriptEnd
    else (if first == 0xc6 then Off AllHalted
    else Off StepLimit))

-- the first byte, 0 where there is none, and the bytes after it
abbrev pub first_byte : List ℕ → ℕ × List ℕ
first_byte [] = (0, [])
first_byte (b ∷ bs) = (b, bs)

-- the number in the first 8 bytes, 0 where there are fewer, and the bytes after it
abbrev pub first_number : List ℕ → ℕ × List ℕ
first_number bs = if nat_lt (length bs) 8 then (0, []) else (from_le_bytes w64 (take 8 bs), drop 8 bs)

-- the entry of a first byte and of the bytes after it, and what follows the entry
unfoldable pub first_entry : ℕ → List ℕ → Entry × List ℕ
first_entry first bs =
    if nat_lt first 0xc0 then (short_entry (first / 32) (first % 32), bs)
    else (if first == 0xc0 then (Open (hart (first_byte bs).0) (first_number (first_byte bs).1).0, (first_number (first_byte bs).1).1)
    else (if first == 0xc1 then (Pull (first_byte bs).0, (first_byte bs).1)
    else (if first == 0xc2 then (Plant (first_byte bs).0, (first_byte bs).1)
    else (if first == 0xc3 then (PlantStep (first_number bs).0, (first_number bs).1)
    else (last_entry first, bs)))))

-- at most so many entries, one after the other
abbrev pub unpacked_in : ℕ → List ℕ → List Entry
unpacked_in zero bs = []
unpacked_in (suc n) [] = []
unpacked_in (suc n) (b ∷ bs) = (first_entry b bs).0 ∷ unpacked_in n (first_entry b bs).1

-- the entries that the bytes are
unfoldable pub unpacked : List ℕ → List Entry
unpacked bs = unpacked_in (length bs) bs

-- the bytes are those of entries
pub record ArePacked (bs : List ℕ) : Type 0 where
  pub packable : AllByRecursion IsPackable (unpacked bs)
  pub bytes : packed_bytes (unpacked bs) ≡ bs

-- a packed list as contracts see it: its entries, and how many bytes more it has room for
pub record PackedList : Type 0 where
  pub entries : List Entry
  pub spare : ℕ
