-- The first segments of an image are those of an image.
use Rattle.std.proofs.Common.{◌≡◌, ℕ, zero, suc, ◌+◌, ◌-◌, ◌<◌, add-one, List, [], ◌∷◌, ◌++◌, length, get_or, take, map, refl, sym, ap, ◌∙◌, subst, arith, length-append}
use Rattle.std.proofs.lemmas.List.{map-append, take_more, take-append-drop}
use Rattle.std.proofs.lemmas.List.Sums.{sum_by-append}
use Rattle.std.specs.Prelude.{drop, replicate, slice_set}
use Rattle.std.specs.List.{AllByRecursion}
use Rattle.mach_base.specs.Machine.{AreSegments, AreInOrder, HasBounds}
use Rattle.mach_base.specs.declared.memory_range.Segment.{Segment}
use Rattle.mem_map.specs.Parts.{segments_of}
use Rattle.elf_img.specs.declared.program.ProgramHeader.{ProgramHeader}
use Rattle.elf_img.specs.Segments.{segment_of, part_of}

all_front : {A : Type 0} (P : A → Type 0) (xs ys : List A) → AllByRecursion P (xs ++ ys) → AllByRecursion P xs
all_front P [] ys all = tt
all_front P (x ∷ xs) ys all = (all.0, all_front P xs ys all.1)

order_front : (end : ℕ) (ss ts : List Segment) → AreInOrder end (ss ++ ts) → AreInOrder end ss
order_front end [] ts order = tt
order_front end (s ∷ ss) ts order = (order.0, order_front (s.base + s.len) ss ts order.1)

AreSegments-front : (ss ts : List Segment) → AreSegments (ss ++ ts) → AreSegments ss
AreSegments-front ss ts all =
    let lengths = length-append ss ts in
    let sizes = sum_by-append (λ (s : Segment). s.len) ss ts in
    let few = all.few in
    let small = all.small in
    record { bounds = all_front HasBounds ss ts all.bounds; order = order_front 0 ss ts all.order; few = omega arith; small = omega arith }

-- filling up changes no segment
pub segments_parts : (file : List ℕ) (hs : List ProgramHeader) → segments_of (map (part_of file) hs) ≡ map segment_of hs
segments_parts file [] = refl
segments_parts file (h ∷ hs) = ap (λ rest. segment_of h ∷ rest) (segments_parts file hs)

-- the segments of the first loads and of the next one are those of an image
pub next_segment : (file : List ℕ) (hs : List ProgramHeader) (i : ℕ) (d : ProgramHeader) (s : Segment) → i < length hs → s ≡ segment_of (get_or hs i d) → AreSegments (map segment_of hs) → AreSegments (segments_of (map (part_of file) (take i hs)) ++ s ∷ [])
next_segment file hs i d s within found all =
    rw (segments_parts file (take i hs)) (AreSegments-front (map segment_of (take i hs) ++ s ∷ []) (map segment_of (drop (i + 1) hs)) (subst AreSegments whole all))
  where
    front : map segment_of (take (i + 1) hs) ≡ map segment_of (take i hs) ++ s ∷ []
    front = ap (map segment_of) (take_more hs i d within) ∙ (map-append segment_of (take i hs) (get_or hs i d ∷ []) ∙ ap (λ (x : Segment). map segment_of (take i hs) ++ x ∷ []) (sym found))

    whole : map segment_of hs ≡ (map segment_of (take i hs) ++ s ∷ []) ++ map segment_of (drop (i + 1) hs)
    whole = ap (map segment_of) (sym (take-append-drop (i + 1) hs)) ∙ (map-append segment_of (take (i + 1) hs) (drop (i + 1) hs) ∙ ap (λ (front : List Segment). front ++ map segment_of (drop (i + 1) hs)) front)

-- the first place without a start is given one
start_more : {A : Type 0} (n m : ℕ) (a b : A) → slice_set (replicate n a ++ replicate (suc m) b) n a ≡ replicate (suc n) a ++ replicate m b
start_more zero m a b = refl
start_more (suc n) m a b = ap (λ rest. a ∷ rest) (start_more n m a b)

pub start_next : {A : Type 0} (n : ℕ) (a b : A) → n < 16 → slice_set (replicate n a ++ replicate (16 - n) b) n a ≡ replicate (n + 1) a ++ replicate (16 - (n + 1)) b
start_next n a b below =
    let left : 16 - n ≡ suc (15 - n) = omega arith in
    let less : 16 - (n + 1) ≡ 15 - n = omega arith in
    rw (left, less, add-one n) (start_more n (15 - n) a b)
