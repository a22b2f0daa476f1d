-- Loads that have their bounds, and the segments that they become.
use Rattle.std.proofs.Common.{◌≡◌, ℕ, ◌+◌, ◌-◌, ◌<◌, ◌≤◌, ◌==◌, ◌&&◌, Bool, true, false, cond, List, [], ◌∷◌, map, refl, arith}
use Rattle.std.specs.Prelude.{nat_le, nat_lt}
use Rattle.std.specs.List.{list_all, filter, AllByRecursion}
use Rattle.std.proofs.lemmas.Bool.{and_parts, leb-true, ltb-true}
use Rattle.std.proofs.lemmas.List.Sums.{sum_by-cons}
use Rattle.mach_base.specs.Machine.{HasBounds, memory_size}
use Rattle.mach_base.specs.declared.memory_range.Segment.{Segment}
use Rattle.elf_img.specs.declared.program.ProgramHeader.{ProgramHeader}
use Rattle.elf_img.specs.Bytes.{is_inside}
use Rattle.elf_img.specs.Segments.{has_bounds, is_load, segment_of, base_of, end_of, file_bytes}

-- the bounds of a load in a file of this length
pub record LoadBounds (len : ℕ) (h : ProgramHeader) : Type 0 where
  pub inside : is_inside len h.offset h.file_size ≡ true
  pub in_file : h.file_size ≤ h.memory_size
  pub end : h.address + h.memory_size ≤ 0x7fff_ffff_ffff_fff8

pub bounds_of : (len : ℕ) (h : ProgramHeader) → has_bounds len h ≡ true → LoadBounds len h
bounds_of len h bounds =
    let both = and_parts (is_inside len h.offset h.file_size && nat_le h.file_size h.memory_size) (nat_le (h.address + h.memory_size) 0x7fff_ffff_ffff_fff8) bounds in
    let front = and_parts (is_inside len h.offset h.file_size) (nat_le h.file_size h.memory_size) both.0 in
    record {
      inside = front.0;
      in_file = leb-true h.file_size h.memory_size front.1;
      end = leb-true (h.address + h.memory_size) 0x7fff_ffff_ffff_fff8 both.1;
    }

-- what is kept passes the test
pub all_kept : {A : Type 0} (p : A → Bool) (xs : List A) → list_all p (filter p xs) ≡ true
all_kept p [] = refl
all_kept p (x ∷ xs) = by_test (all_kept p xs) (p x) refl
  where
    by_test : list_all p (filter p xs) ≡ true → (b : Bool) → p x ≡ b → list_all p (cond b (x ∷ filter p xs) (filter p xs)) ≡ true
    by_test rest true e = rw e rest
    by_test rest false e = rest

-- a load has memory
pub load_size : (h : ProgramHeader) → is_load h ≡ true → 0 < h.memory_size
load_size h load = ltb-true 0 h.memory_size (and_parts (h.kind == 1) (nat_lt 0 h.memory_size) load).1

-- the segment that a load becomes has bounds
pub HasBounds-segment : (len : ℕ) (h : ProgramHeader) → 0 < h.memory_size → LoadBounds len h → HasBounds (segment_of h)
HasBounds-segment len h some bounds =
    let end : h.address + h.memory_size ≤ 0x7fff_ffff_ffff_fff8 = bounds.end in
    (omega arith, omega arith, omega arith, omega arith)

pub segments_bounds : (len : ℕ) (hs : List ProgramHeader) → list_all is_load hs ≡ true → list_all (has_bounds len) hs ≡ true → AllByRecursion HasBounds (map segment_of hs)
segments_bounds len [] load bounds = tt
segments_bounds len (h ∷ hs) load bounds =
    let l = and_parts (is_load h) (list_all is_load hs) load in
    let b = and_parts (has_bounds len h) (list_all (has_bounds len) hs) bounds in
    (HasBounds-segment len h (load_size h l.0) (bounds_of len h b.0), segments_bounds len hs l.1 b.1)

-- the file has no more bytes for loads than their segments have
pub file_bytes_le : (len : ℕ) (hs : List ProgramHeader) → list_all (has_bounds len) hs ≡ true → file_bytes hs ≤ memory_size (map segment_of hs)
file_bytes_le len [] bounds = omega arith
file_bytes_le len (h ∷ hs) bounds =
    let b = and_parts (has_bounds len h) (list_all (has_bounds len) hs) bounds in
    let in_file = (bounds_of len h b.0).in_file in
    let rest = file_bytes_le len hs b.1 in
    let files = sum_by-cons (λ (g : ProgramHeader). g.file_size) h hs in
    let sizes = sum_by-cons (λ (s : Segment). s.len) (segment_of h) (map segment_of hs) in
    let here : h.file_size ≤ end_of h - base_of h = omega arith in
    omega arith
