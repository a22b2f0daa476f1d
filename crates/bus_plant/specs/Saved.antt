-- How planted words are kept: the bytes with `ebreak` in them, and the words that were there before.
use Rattle.std.specs.Prelude.{◌≡◌, ℕ, ◌-◌, ◌%◌, ◌^◌, ◌<◌, ◌==◌, Bool, List, [], ◌∷◌, length, map, slice_set, Option, Some, None, refl, if◌then◌else◌}
use Rattle.std.specs.Int.{w32, to_le_bytes, from_le_bytes}
use Rattle.std.specs.Coded.{Coded, code_by, coded×, coded_ℕ, coded_bool, coded_list, coded_option}
use Rattle.mach_base.specs.Bytes.{byte_of}
use Rattle.mach_base.specs.Codes.{memory_code}
use Rattle.mach_base.specs.declared.limits.TheConstants.{PLACES}
use Rattle.mach_base.specs.Machine.{Memory}
use Rattle.mem_map.specs.Access.{access_fault, after_store}
use Rattle.mem_map.specs.declared.rights.Access.TheVariants.{Fetch}
use Rattle.rv_table.specs.Rows.{ebreak_word}
use Rattle.bus_plant.specs.Planted.{PlantedMemory, PlantedPages, AreText, AreDistinct}
use Rattle.bus_plant.specs.declared.saved.Saved.{Saved}

-- the address of a saved word
abbrev pub address_of : Option Saved → Option ℕ
address_of None = None
address_of (Some s) = Some s.addr

-- the addresses of the saved words
abbrev pub addresses : List (Option Saved) → List (Option ℕ)
addresses saved = map address_of saved

-- memory with the saved words in it
abbrev pub with_words : Memory → List (Option Saved) → Memory
with_words m [] = m
with_words m (None ∷ rest) = with_words m rest
with_words m (Some s ∷ rest) = after_store (with_words m rest) s.addr 4 s.word

-- the word of a slot, if it is that of the address
abbrev pub word_for : Option Saved → ℕ → Option ℕ
word_for None addr = None
word_for (Some s) addr = if s.addr == addr then Some s.word else None

-- the word that is saved for the address, if any
abbrev pub saved_word : List (Option Saved) → ℕ → Option ℕ
saved_word [] addr = None
saved_word (None ∷ rest) addr = saved_word rest addr
saved_word (Some s ∷ rest) addr = if s.addr == addr then Some s.word else saved_word rest addr

-- the word with another byte in this place, counted from the lowest
abbrev pub with_byte : ℕ → ℕ → ℕ → ℕ
with_byte word place byte = from_le_bytes w32 (slice_set (to_le_bytes w32 word) place byte)

-- the byte that is seen at an address: that of the word which is saved there, or else the one in memory
abbrev pub byte_seen : Option ℕ → ℕ → Option ℕ → Option ℕ
byte_seen None addr byte = byte
byte_seen (Some word) addr byte = Some (byte_of word (addr % 4))

-- a saved word after a write of a byte, which may be one of its own
abbrev pub after_poke : ℕ → ℕ → Option Saved → Option Saved
after_poke addr byte None = None
after_poke addr byte (Some s) =
    if s.addr == addr - addr % 4 then Some (record s { word = with_byte s.word (addr % 4) byte }) else Some s

-- where a word is saved memory holds `ebreak`, and the saved word has 32 bits
abbrev pub HoldEbreaks : Memory → List (Option Saved) → Type 0
HoldEbreaks m [] = Unit {0}
HoldEbreaks m (None ∷ rest) = HoldEbreaks m rest
HoldEbreaks m (Some s ∷ rest) = (after_store m s.addr 4 ebreak_word ≡ m) × (s.word < 2 ^ 32) × HoldEbreaks m rest

-- the memory that is kept as these bytes and these saved words
abbrev pub planted_memory : Memory → List (Option Saved) → Option Saved → PlantedMemory
planted_memory raw places step = record { memory = with_words raw (step ∷ places); places = addresses places; step = address_of step }

-- a word of text is saved, and `ebreak` is written over it
pub record IsSaved (raw : Memory) (s : Saved) (after : Memory) : Type 0 where
  pub text : access_fault raw Fetch s.addr 4 ≡ None
  pub before : after_store raw s.addr 4 s.word ≡ raw
  pub small : s.word < 2 ^ 32
  pub written : after ≡ after_store raw s.addr 4 ebreak_word

-- bytes and saved words that go together
pub record IsKept (raw : Memory) (saved : List (Option Saved)) : Type 0 where
  pub text : AreText raw (addresses saved)
  pub distinct : AreDistinct (addresses saved)
  pub ebreaks : HoldEbreaks raw saved

-- what holds of the fields of a planted memory
pub record AreKept (raw : Memory) (places : List (Option Saved)) (step : Option Saved) : Type 0 where
  pub count : length places ≡ PLACES
  pub kept : IsKept raw (step ∷ places)

-- a planted memory as the tuple of its fields
abbrev planted_memory_code : Coded PlantedMemory
planted_memory_code = code_by (Memory × (List (Option ℕ) × Option ℕ)) (coded× memory_code (coded× (coded_list (coded_option coded_ℕ)) (coded_option coded_ℕ))) (λ p. (p.memory, (p.places, p.step))) (λ t. record { memory = t.0; places = t.1.0; step = t.1.1 }) (λ _. refl)

-- the same with the marks of its pages
abbrev pub planted_code : Coded PlantedPages
planted_code = code_by (PlantedMemory × List Bool) (coded× planted_memory_code (coded_list coded_bool)) (λ p. (p.planted, p.changed)) (λ t. record { planted = t.0; changed = t.1 }) (λ _. refl)
