-- What every draft keeps, and that its segments make an image.
use Rattle.std.proofs.Common.{◌≡◌, ℕ, zero, suc, ◌+◌, ◌≤◌, ◌<◌, ◌^◌, List, [], ◌∷◌, ◌++◌, length, get_or, take, map, reverse, refl, sym, ap, ◌∙◌, subst, append_assoc, arith}
use Rattle.std.proofs.lemmas.List.{reverse-append, reverse-reverse, map-append, take_more, take-map, length-map}
use Rattle.std.proofs.lemmas.List.Sums.{sum_by-append, sum_by-take-le}
use Rattle.std.specs.List.{AllByRecursion}
use Rattle.mach_base.specs.declared.memory_range.Segment.{Segment}
use Rattle.mach_base.specs.Machine.{AreSegments, AreInOrder, HasBounds, memory_size, Part}
use Rattle.img_text.specs.declared.blocks.Block.{Block}
use Rattle.mem_map.specs.Parts.{segments_of}
use Rattle.img_text.specs.Image.{filled}
use Rattle.img_text.specs.Blocks.{part_of, parts_of}
use Rattle.img_text.specs.Reading.{AreSound, IsShort, end_of}
use Rattle.img_text.proofs.Parts.{AllByRecursion-push}

reverse-cons : {A : Type 0} (x : A) (xs : List A) → reverse (x ∷ xs) ≡ reverse xs ++ x ∷ []
reverse-cons x xs = reverse-append (x ∷ []) xs

append_nil : {A : Type 0} (xs : List A) → xs ++ [] ≡ xs
append_nil [] = refl
append_nil (x ∷ xs) = ap (λ ys. x ∷ ys) (append_nil xs)

-- one more segment after those of the parts before
segments_of-latest : (p : Part) (ps : List Part) → segments_of (reverse (p ∷ ps)) ≡ segments_of (reverse ps) ++ p.segment ∷ []
segments_of-latest p ps = ap segments_of (reverse-cons p ps) ∙ map-append (λ (q : Part). q.segment) (reverse ps) (p ∷ [])

have_bounds : (ps : List Part) → AreSound ps → AllByRecursion HasBounds (segments_of (reverse ps))
have_bounds [] sound = tt
have_bounds (p ∷ ps) sound = rw (segments_of-latest p ps) (AllByRecursion-push HasBounds (segments_of (reverse ps)) p.segment (have_bounds ps sound.3) sound.0)

are_short : (ps : List Part) → AreSound ps → AllByRecursion IsShort (reverse ps)
are_short [] sound = tt
are_short (p ∷ ps) sound = rw (reverse-cons p ps) (AllByRecursion-push IsShort (reverse ps) p (are_short ps sound.3) sound.2)

in_order : (ps : List Part) (rest : List Segment) → AreSound ps → AreInOrder (end_of ps) rest → AreInOrder 0 (segments_of (reverse ps) ++ rest)
in_order [] rest sound order = order
in_order (p ∷ ps) rest sound order =
    rw (segments_of-latest p ps, append_assoc) (in_order ps (p.segment ∷ rest) sound.3 (sound.1, order))

-- the segments of sound parts don't overlap, so they are no larger than the addresses up to the end
pub memory_size-le : (ps : List Part) → AreSound ps → memory_size (segments_of (reverse ps)) ≤ end_of ps
memory_size-le [] sound = omega arith
memory_size-le (p ∷ ps) sound =
    let before = memory_size-le ps sound.3 in
    let order : end_of ps ≤ p.segment.base = sound.1 in
    rw (segments_of-latest p ps, sum_by-append (λ (s : Segment). s.len) (segments_of (reverse ps)) (p.segment ∷ [])) (omega arith)

pub end_of-le : (ps : List Part) → AreSound ps → end_of ps ≤ 2 ^ 63
end_of-le [] sound = omega arith
end_of-le (p ∷ ps) sound = sound.0.3

-- sound parts within the limits are the segments of an image
pub AreSegments-sound : (ps : List Part) → AreSound (reverse ps) → length ps ≤ 64 → memory_size (segments_of ps) ≤ 16777216 → AreSegments (segments_of ps)
AreSegments-sound ps sound few small =
    let twice : reverse (reverse ps) ≡ ps = reverse-reverse ps in
    record {
      bounds = subst (λ (qs : List Part). AllByRecursion HasBounds (segments_of qs)) twice (have_bounds (reverse ps) sound);
      order = subst (λ (qs : List Part). AreInOrder 0 (segments_of qs)) twice (rw append_nil at (in_order (reverse ps) [] sound tt));
      few = rw length-map few;
      small = small;
    }

pub AllShort-sound : (ps : List Part) → AreSound (reverse ps) → AllByRecursion IsShort ps
AllShort-sound ps sound = subst (λ (qs : List Part). AllByRecursion IsShort qs) (reverse-reverse ps) (are_short (reverse ps) sound)

pub memory_size-lt : (ps : List Part) → AreSound (reverse ps) → memory_size (segments_of ps) < 2 ^ 64
memory_size-lt ps sound =
    let size : memory_size (segments_of ps) ≤ end_of (reverse ps) = subst (λ (qs : List Part). memory_size (segments_of qs) ≤ end_of (reverse ps)) (reverse-reverse ps) (memory_size-le (reverse ps) sound) in
    let end : end_of (reverse ps) ≤ 2 ^ 63 = end_of-le (reverse ps) sound in
    omega arith

-- the first segments of an image are those of an image
AllByRecursion-take : {A : Type 0} (P : A → Type 0) (n : ℕ) (xs : List A) → AllByRecursion P xs → AllByRecursion P (take n xs)
AllByRecursion-take P zero xs all = tt
AllByRecursion-take P (suc n) [] all = tt
AllByRecursion-take P (suc n) (x ∷ xs) all = (all.0, AllByRecursion-take P n xs all.1)

AreInOrder-take : (end n : ℕ) (ss : List Segment) → AreInOrder end ss → AreInOrder end (take n ss)
AreInOrder-take end zero ss order = tt
AreInOrder-take end (suc n) [] order = tt
AreInOrder-take end (suc n) (s ∷ ss) order = (order.0, AreInOrder-take (s.base + s.len) n ss order.1)

length-take-le : {A : Type 0} (n : ℕ) (xs : List A) → length (take n xs) ≤ length xs
length-take-le zero xs = omega arith
length-take-le (suc n) [] = omega arith
length-take-le (suc n) (x ∷ xs) = omega (arith, length-take-le n xs)

AreSegments-take : (n : ℕ) (ss : List Segment) → AreSegments ss → AreSegments (take n ss)
AreSegments-take n ss all = record {
  bounds = AllByRecursion-take HasBounds n ss all.bounds;
  order = AreInOrder-take 0 n ss all.order;
  few = few (length-take-le n ss) all.few;
  small = small (sum_by-take-le (λ (s : Segment). s.len) ss n) all.small;
}
  where
    few : length (take n ss) ≤ length ss → length ss ≤ 64 → length (take n ss) ≤ 64
    few a b = omega arith

    small : memory_size (take n ss) ≤ memory_size ss → memory_size ss ≤ 16777216 → memory_size (take n ss) ≤ 16777216
    small a b = omega arith

-- filling up changes no segment
segments_of-filled : (ps : List Part) → segments_of (map (λ (p : Part). filled p.segment p.bytes) ps) ≡ segments_of ps
segments_of-filled [] = refl
segments_of-filled (p ∷ ps) = ap (λ rest. p.segment ∷ rest) (segments_of-filled ps)

-- the next of the parts
parts_of-more : (blocks : List Block) (i : ℕ) (b : Block) → i < length blocks → b ≡ get_or blocks i b → parts_of (take (i + 1) blocks) ≡ parts_of (take i blocks) ++ part_of b ∷ []
parts_of-more blocks i b within found =
    ap parts_of (take_more blocks i b within) ∙ (map-append part_of (take i blocks) (get_or blocks i b ∷ []) ∙ ap (λ (x : Block). parts_of (take i blocks) ++ part_of x ∷ []) (sym found))

-- the segments of the next part too are those of an image
pub AreSegments-next : (blocks : List Block) (i : ℕ) (b : Block) → i < length blocks → b ≡ get_or blocks i b → AreSegments (segments_of (parts_of blocks)) → AreSegments (segments_of (map (λ (p : Part). filled p.segment p.bytes) (parts_of (take i blocks))) ++ b.segment ∷ [])
AreSegments-next blocks i b within found all =
    rw (segments_of-filled (parts_of (take i blocks))) (subst AreSegments joined_up (AreSegments-take (i + 1) (segments_of (parts_of blocks)) all))
  where
    joined_up : take (i + 1) (segments_of (parts_of blocks)) ≡ segments_of (parts_of (take i blocks)) ++ b.segment ∷ []
    joined_up = take-map (λ (p : Part). p.segment) (i + 1) (parts_of blocks) ∙ (ap segments_of (take-map part_of (i + 1) blocks) ∙ (ap segments_of (parts_of-more blocks i b within found) ∙ map-append (λ (p : Part). p.segment) (parts_of (take i blocks)) (part_of b ∷ [])))

-- the next of the parts that are filled up
pub filled-next : (blocks : List Block) (i : ℕ) (b : Block) → i < length blocks → b ≡ get_or blocks i b → map (λ (p : Part). filled p.segment p.bytes) (parts_of (take (i + 1) blocks)) ≡ map (λ (p : Part). filled p.segment p.bytes) (parts_of (take i blocks)) ++ filled b.segment b.bytes.items ∷ []
filled-next blocks i b within found =
    ap (map (λ (p : Part). filled p.segment p.bytes)) (parts_of-more blocks i b within found) ∙ map-append (λ (p : Part). filled p.segment p.bytes) (parts_of (take i blocks)) (part_of b ∷ [])

-- what holds of each part holds of the block at an index
pub IsShort-at : (blocks : List Block) (i : ℕ) (b : Block) → i < length blocks → b ≡ get_or blocks i b → AllByRecursion IsShort (parts_of blocks) → IsShort (part_of b)
IsShort-at [] i b within found all = absurd (omega arith)
IsShort-at (x ∷ blocks) zero b within found all = subst (λ (y : Block). IsShort (part_of y)) (sym found) all.0
IsShort-at (x ∷ blocks) (suc i) b within found all = IsShort-at blocks i b (omega arith) found all.1
