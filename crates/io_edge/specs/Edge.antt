-- What a shelf and a sink tell of their bytes and of their faults.
use Rattle.std.specs.Prelude.{◌≡◌, ◌≢◌, ℕ, ◌-◌, ◌^◌, ◌<◌, ◌≤◌, ◌⊎◌, List, [], ◌++◌, length, take, Option, Some, None, unwrap_or, codes}
use Rattle.std.specs.Ordering.{nat_cmp}
use Rattle.std.specs.Cmp.Lexicographic.{slice_cmp}
use Rattle.std.specs.FinMap.{FinMap, get}
use Rattle.io_edge.specs.declared.shelf.ReadFail.{ReadFail}
use Rattle.io_edge.specs.declared.shelf.ReadFail.TheVariants.{Failed, OutOfMemory}

-- byte strings by name
abbrev pub FileMap : Type 0
FileMap = FinMap (slice_cmp nat_cmp) (List ℕ)

-- the bytes of a name; none where the map lacks it
abbrev pub bytes_of : FileMap → List ℕ → List ℕ
bytes_of files name = unwrap_or (get files name) []

-- the last value of a counter, where it stays
abbrev pub last_count : ℕ
last_count = 2 ^ 64 - 1

-- a count rose, or stands at its last value
abbrev pub HasRisen : ℕ → ℕ → Type 0
HasRisen before after = (before < after) ⊎ (after ≡ last_count)

-- where the shelf tells its files, these are the bytes of that name
abbrev pub IsTold : Option FileMap → List ℕ → List ℕ → Type 0
IsTold None name bytes = Unit {0}
IsTold (Some files) name bytes = bytes ≡ bytes_of files name

-- there is room for a write of this size, where room is for this many bytes at most, or none
abbrev pub HasRoom : Option ℕ → ℕ → Type 0
HasRoom None size = ⊥
HasRoom (Some most) size = size ≤ most

-- the most bytes of a write for which there is room, by name
abbrev pub Rooms : Type 0
Rooms = List ℕ → Option ℕ

-- under every name there is room for each size for which there was
abbrev pub KeepsRoom : Rooms → Rooms → Type 0
KeepsRoom before after = (name : List ℕ) (size : ℕ) → HasRoom (before name) size → HasRoom (after name) size

-- the same under every name but this one
abbrev pub KeepsOtherRoom : List ℕ → Rooms → Rooms → Type 0
KeepsOtherRoom name before after = (other : List ℕ) (size : ℕ) → other ≢ name → HasRoom (before other) size → HasRoom (after other) size

-- where the shelf tells its files, every name but this one keeps its bytes
abbrev pub KeepsOthers : List ℕ → Option FileMap → Option FileMap → Type 0
KeepsOthers name None after = Unit {0}
KeepsOthers name (Some before) after =
    (files : FileMap) × (after ≡ Some files) × ((other : List ℕ) → other ≢ name → get files other ≡ get before other)

-- where the sink tells what it took, it took some first part of the bytes
abbrev pub HasTakenPart : Option (List ℕ) → List ℕ → Option (List ℕ) → Type 0
HasTakenPart None bytes new = Unit {0}
HasTakenPart (Some before) bytes new = (n : ℕ) × (n ≤ length bytes) × (new ≡ Some (before ++ take n bytes))

-- the text of a failed read
abbrev pub read_fail_text : ReadFail → List ℕ
read_fail_text Failed = codes "reading failed"
read_fail_text OutOfMemory = codes "out of memory"
