-- Segments in order.
use Rattle.std.proofs.Common.{◌≡◌, ℕ, zero, suc, ◌+◌, ◌^◌, ◌<◌, ◌≤◌, true, List, [], ◌∷◌, length, get_or, sym, subst, arith}
use Rattle.std.specs.Prelude.{nat_le}
use Rattle.std.specs.List.{AllByRecursion}
use Rattle.std.proofs.lemmas.Bool.{and_parts, leb-true}
use Rattle.std.proofs.lemmas.List.Sums.{sum_by-cons}
use Rattle.mach_base.specs.Machine.{AreSegments, AreInOrder, HasBounds, memory_size}
use Rattle.mach_base.specs.declared.memory_range.Segment.{Segment}
use Rattle.elf_img.specs.Segments.{are_in_order}

-- the segment at an index has bounds
pub HasBounds-at : (ss : List Segment) (i : ℕ) (s : Segment) → i < length ss → s ≡ get_or ss i s → AllByRecursion HasBounds ss → HasBounds s
HasBounds-at [] i s within found all = absurd (omega arith)
HasBounds-at (t ∷ ss) zero s within found all = subst HasBounds (sym found) all.0
HasBounds-at (t ∷ ss) (suc i) s within found all = HasBounds-at ss i s (omega arith) found all.1

in_order : (end : ℕ) (ss : List Segment) → are_in_order end ss ≡ true → AreInOrder end ss
in_order end [] order = tt
in_order end (s ∷ ss) order =
    let both = and_parts (nat_le end s.base) (are_in_order (s.base + s.len) ss) order in
    (leb-true end s.base both.0, in_order (s.base + s.len) ss both.1)

-- segments in order don't overlap, so they have no more bytes than there are addresses
size_from : (end : ℕ) (ss : List Segment) → end ≤ 2 ^ 63 → AllByRecursion HasBounds ss → AreInOrder end ss → end + memory_size ss ≤ 2 ^ 63
size_from end [] low bounds order = omega arith
size_from end (s ∷ ss) low bounds order =
    let top : s.base + s.len ≤ 2 ^ 63 = bounds.0.3 in
    let begins : end ≤ s.base = order.0 in
    let rest = size_from (s.base + s.len) ss top bounds.1 order.1 in
    let whole = sum_by-cons (λ (t : Segment). t.len) s ss in
    omega arith

pub size_fits : (ss : List Segment) → AllByRecursion HasBounds ss → are_in_order 0 ss ≡ true → memory_size ss < 2 ^ 64
size_fits ss bounds order = let top = size_from 0 ss (omega arith) bounds (in_order 0 ss order) in omega arith

-- segments in order within the limits are those of an image
pub are_segments : (ss : List Segment) → AllByRecursion HasBounds ss → are_in_order 0 ss ≡ true → length ss ≤ 64 → memory_size ss ≤ 16777216 → AreSegments ss
are_segments ss bounds order few small = record { bounds = bounds; order = in_order 0 ss order; few = few; small = small }
