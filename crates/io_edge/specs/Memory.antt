-- Shelves and sinks in memory.
use Rattle.std.specs.Prelude.{ℕ, zero, suc, ◌+◌, ◌==◌, Bool, List, ◌++◌, map, filter_map, take, min, nat_lt, Option, Some, is_none, vec_capacity, ◌||◌, if◌then◌else◌, refl}
use Rattle.std.specs.List.{list_any}
use Rattle.std.specs.Option.{option_map}
use Rattle.std.specs.Ordering.{nat_cmp}
use Rattle.std.specs.Cmp.Lexicographic.{slice_cmp}
use Rattle.std.specs.FinMap.{FinMap, get, insert, from_entries, code}
use Rattle.std.specs.Coded.{Coded, code_by, coded×, coded_list, coded_ℕ}
use Rattle.io_edge.specs.Edge.{FileMap, last_count}
use Rattle.io_edge.specs.declared.named.Named.{Named}
use Rattle.io_edge.specs.declared.slot.Slot.{Slot}

-- the files by name; of several of one name the first
abbrev pub file_map : List Named → FileMap
file_map files = from_entries (map (λ f. (f.name, f.bytes)) files)

-- the most bytes of a write for which there is room, by name
abbrev pub RoomMap : Type 0
RoomMap = FinMap (slice_cmp nat_cmp) ℕ

-- the code of a map of rooms
abbrev pub coded_room_map : Coded RoomMap
coded_room_map = code (coded_list coded_ℕ) coded_ℕ

-- the code of a map of files
abbrev pub coded_file_map : Coded FileMap
coded_file_map = code (coded_list coded_ℕ) (coded_list coded_ℕ)

-- one more, but a counter stays at its last value
abbrev pub counted : ℕ → ℕ
counted n = min (n + 1) last_count

-- how many calls were made, and the numbers, from 0, of those that are to fail
pub record Calls : Type 0 where
  pub made : ℕ
  pub failing : List ℕ

-- whether the next call is to fail
abbrev pub next_fails : Calls → Bool
next_fails calls = list_any (λ k. k == calls.made) calls.failing

-- one call later
abbrev pub after_call : Calls → Calls
after_call calls = record calls { made = counted calls.made }

-- how many of the first n calls are to fail
abbrev pub failing_before : List ℕ → ℕ → ℕ
failing_before failing zero = 0
failing_before failing (suc n) = failing_before failing n + (if list_any (λ k. k == n) failing then 1 else 0)

-- how many of the calls made were to fail; the last value of a counter once the calls are no longer counted
abbrev pub failed_calls : Calls → ℕ
failed_calls calls = if nat_lt calls.made last_count then failing_before calls.failing calls.made else last_count

-- byte strings by name in memory: the bytes by name, and by name the most bytes of a write for which there is room
pub record StoreState : Type 0 where
  pub files : FileMap
  pub rooms : RoomMap

-- the code of such a store
abbrev pub coded_store : Coded StoreState
coded_store = code_by (FileMap × RoomMap) (coded× coded_file_map coded_room_map) (λ s. (s.files, s.rooms)) (λ p. record { files = p.0; rooms = p.1 }) (λ _. refl)

-- by name what the slots have, in their order, without those that have nothing
abbrev pub slot_entries : {X : Type 0} → (Slot → Option X) → List Slot → List (List ℕ × X)
slot_entries has slots = filter_map (λ s. option_map (λ x. (s.name, x)) (has s)) slots

-- what was written in a slot last, if anything
abbrev pub slot_bytes : Slot → Option (List ℕ)
slot_bytes s = s.bytes

-- the room of a slot
abbrev pub slot_room : Slot → Option ℕ
slot_room s = Some (vec_capacity s.spare)

-- the files by name: what was written, else what was there from the start
abbrev pub store_files : List Named → List Slot → FileMap
store_files given slots = from_entries (slot_entries slot_bytes slots ++ map (λ f. (f.name, f.bytes)) given)

-- the room by name
abbrev pub store_rooms : List Slot → RoomMap
store_rooms slots = from_entries (slot_entries slot_room slots)

-- a shelf in memory: its files, the room made, its calls, and how many reads were of a name that isn't there
pub record MemShelfState : Type 0 where
  pub files : FileMap
  pub rooms : RoomMap
  pub calls : Calls
  pub missing : ℕ

-- its count of faults
abbrev pub shelf_faults : MemShelfState → ℕ
shelf_faults shelf = min (failed_calls shelf.calls + shelf.missing) last_count

-- whether the next read fails, of this name
abbrev pub read_fails : MemShelfState → List ℕ → Bool
read_fails shelf name = next_fails shelf.calls || is_none (get shelf.files name)

-- the shelf after a read of this name: one call later, and with one missing name more where it came to that
abbrev pub after_read : MemShelfState → List ℕ → MemShelfState
after_read shelf name = record shelf {
  calls = after_call shelf.calls;
  missing = if next_fails shelf.calls then shelf.missing else if is_none (get shelf.files name) then counted shelf.missing else shelf.missing;
}

-- the files after the next write, of these bytes under this name
abbrev pub after_write : MemShelfState → List ℕ → List ℕ → FileMap
after_write shelf name bytes = if next_fails shelf.calls then shelf.files else insert shelf.files name bytes

-- the code of a shelf in memory
abbrev pub coded_mem_shelf : Coded MemShelfState
coded_mem_shelf =
    code_by ((FileMap × RoomMap) × ((ℕ × List ℕ) × ℕ)) (coded× (coded× coded_file_map coded_room_map) (coded× (coded× coded_ℕ (coded_list coded_ℕ)) coded_ℕ)) (λ s. ((s.files, s.rooms), ((s.calls.made, s.calls.failing), s.missing))) (λ p. record { files = p.0.0; rooms = p.0.1; calls = record { made = p.1.0.0; failing = p.1.0.1 }; missing = p.1.1 }) (λ _. refl)

-- a sink in memory: the bytes taken, its calls, how many bytes a failing put takes, and the room
pub record MemSinkState : Type 0 where
  pub taken : List ℕ
  pub calls : Calls
  pub part : ℕ
  pub spare : ℕ

-- the bytes taken after the next put, of these
abbrev pub after_put : MemSinkState → List ℕ → List ℕ
after_put sink bytes = sink.taken ++ (if next_fails sink.calls then take sink.part bytes else bytes)

-- a sink in memory that doesn't fail: the bytes taken, and the room
pub record SureSinkState : Type 0 where
  pub taken : List ℕ
  pub spare : ℕ
