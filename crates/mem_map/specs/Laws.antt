-- What a store has to do with fetches, loads and single bytes.
use Rattle.std.specs.Prelude.{◌≡◌, ◌≢◌, ℕ, ◌+◌, ◌-◌, ◌%◌, ◌^◌, ◌<◌, ◌&&◌, true, Option, Some, None, Ok, nat_lt, nat_le, if◌then◌else◌}
use Rattle.mach_base.specs.Machine.{Memory, byte_at}
use Rattle.mem_map.specs.declared.rights.Access.{Access}
use Rattle.mem_map.specs.declared.rights.Access.TheVariants.{Fetch}
use Rattle.mach_base.specs.Bytes.{all_bytes, is_mapped, number_in, byte_of}
use Rattle.mem_map.specs.Access.{access_fault, fetch_result, load_result, store_fault, after_store}

-- the byte at an address after a store: the number's own within the access, else the old one
abbrev pub byte_after : Memory → ℕ → ℕ → ℕ → ℕ → Option ℕ
byte_after m addr width value at =
    if nat_le addr at && nat_lt at (addr + width) then Some (byte_of value (at - addr)) else byte_at m at

-- a store changes exactly its bytes, and no segment
abbrev pub StoreChangesItsBytes : Type 0
StoreChangesItsBytes =
    (m : Memory) (addr width value : ℕ) → ((after_store m addr width value).segments ≡ m.segments) × ((at : ℕ) → byte_at (after_store m addr width value) at ≡ byte_after m addr width value at)

-- after a write to mapped bytes each access faults as before
abbrev pub WriteKeepsFaults : Type 0
WriteKeepsFaults =
    (m : Memory) (addr width value : ℕ) → all_bytes (is_mapped m) addr width ≡ true → (access : Access) (at size : ℕ) → access_fault (after_store m addr width value) access at size ≡ access_fault m access at size

-- and so after a store that doesn't fault
abbrev pub StoreKeepsFaults : Type 0
StoreKeepsFaults =
    (m : Memory) (addr width value : ℕ) → store_fault m addr width ≡ None → (access : Access) (at size : ℕ) → access_fault (after_store m addr width value) access at size ≡ access_fault m access at size

-- and each fetch gives what it gave before
abbrev pub StoreKeepsText : Type 0
StoreKeepsText =
    (m : Memory) (addr width value : ℕ) → store_fault m addr width ≡ None → (at : ℕ) → fetch_result (after_store m addr width value) at ≡ fetch_result m at

-- and a load gives the lowest bytes of the number that was stored there
abbrev pub StoredIsLoaded : Type 0
StoredIsLoaded =
    (m : Memory) (addr width value : ℕ) → store_fault m addr width ≡ None → load_result (after_store m addr width value) addr width ≡ Ok (value % 256 ^ width)

-- the bytes of the first access and those of the second are different ones
abbrev pub AreApart : ℕ → ℕ → ℕ → ℕ → Type 0
AreApart addr width at size = (k j : ℕ) → k < width → j < size → addr + k ≡ at + j → ⊥

-- where a fetch and a load or store don't fault, they are apart
abbrev pub TextIsApart : Type 0
TextIsApart =
    (m : Memory) (access : Access) (addr width at size : ℕ) → access ≢ Fetch → access_fault m Fetch addr width ≡ None → access_fault m access at size ≡ None → AreApart addr width at size

-- stores to bytes apart commute
abbrev pub StoresCommute : Type 0
StoresCommute =
    (m : Memory) (addr width value at size other : ℕ) → AreApart addr width at size →
    after_store (after_store m addr width value) at size other ≡ after_store (after_store m at size other) addr width value

-- the second of two stores to the same bytes remains
abbrev pub LastStoreRemains : Type 0
LastStoreRemains =
    (m : Memory) (addr width value other : ℕ) → after_store (after_store m addr width value) addr width other ≡ after_store m addr width other

-- a store of what the bytes are changes nothing
abbrev pub StoreOfSameBytes : Type 0
StoreOfSameBytes =
    (m : Memory) (addr width value : ℕ) → ((k : ℕ) → k < width → byte_at m (addr + k) ≡ Some (byte_of value k)) → after_store m addr width value ≡ m

-- a store leaves the number of bytes apart
abbrev pub StoreKeepsNumbers : Type 0
StoreKeepsNumbers =
    (m : Memory) (addr width value at size : ℕ) → AreApart addr width at size → number_in (after_store m addr width value) at size ≡ number_in m at size
