-- The parts of an image, the latest first while it is read and in order afterwards.
use Rattle.std.proofs.Common.{◌≡◌, ℕ, zero, suc, ◌+◌, ◌-◌, ◌≤◌, ◌<◌, false, ◌||◌, drop, List, [], ◌∷◌, ◌++◌, length, get_or, map, Option, Some, refl, sym, ap, ◌∙◌, arith, length-append}
use Rattle.std.proofs.lemmas.List.{length-replicate, at_drop_more, at_drop_all}
use Rattle.std.specs.Prelude.{slice_get, option_map, replicate}
use Rattle.std.specs.List.{AllByRecursion}
use Rattle.mach_base.specs.declared.memory_range.Segment.{Segment}
use Rattle.mach_base.specs.Machine.{AreSegments, Part, is_text_segment}
use Rattle.mem_map.specs.Parts.{IsWhole, segments_of, parts_of as joined}
use Rattle.img_text.specs.declared.blocks.Block.{Block}
use Rattle.img_text.specs.Blocks.{parts_of}
use Rattle.img_text.specs.Reading.{has_text}
use Rattle.img_text.specs.Image.{HasBytes, IsImage, filled}

-- whether text is among the segments from a place on
pub has_text-at : (blocks : List Block) (i : ℕ) (b : Block) → i < length blocks → b ≡ get_or blocks i b → has_text (segments_of (parts_of (drop i blocks))) ≡ (is_text_segment (Some b.segment) || has_text (segments_of (parts_of (drop (i + 1) blocks))))
has_text-at blocks i b within found =
    at_drop_more (λ xs. has_text (segments_of (parts_of xs))) blocks i b within ∙ ap (λ (x : Block). is_text_segment (Some x.segment) || has_text (segments_of (parts_of (drop (i + 1) blocks)))) (sym found)

pub has_text-end : (blocks : List Block) (i : ℕ) → length blocks ≤ i → has_text (segments_of (parts_of (drop i blocks))) ≡ false
has_text-end blocks i all = at_drop_all (λ xs. has_text (segments_of (parts_of xs))) blocks i all

-- the segments are those that were joined
pub segments_of-joined : (ss : List Segment) (cs : List (List ℕ)) → length cs ≡ length ss → segments_of (joined ss cs) ≡ ss
segments_of-joined [] cs h = refl
segments_of-joined (s ∷ ss) [] h = absurd (omega arith)
segments_of-joined (s ∷ ss) (c ∷ cs) h = ap (λ rest. s ∷ rest) (segments_of-joined ss cs (omega arith))

-- one more segment with its bytes
pub joined-push : (ss : List Segment) (cs : List (List ℕ)) (s : Segment) (c : List ℕ) → length cs ≡ length ss → joined (ss ++ s ∷ []) (cs ++ c ∷ []) ≡ joined ss cs ++ record { segment = s; bytes = c } ∷ []
joined-push [] [] s c h = refl
joined-push [] (d ∷ cs) s c h = absurd (omega arith)
joined-push (t ∷ ss) [] s c h = absurd (omega arith)
joined-push (t ∷ ss) (d ∷ cs) s c h = ap (λ rest. record { segment = t; bytes = d } ∷ rest) (joined-push ss cs s c (omega arith))

pub length-joined : (ss : List Segment) (cs : List (List ℕ)) → length cs ≡ length ss → length (joined ss cs) ≡ length cs
length-joined [] [] h = refl
length-joined [] (d ∷ cs) h = absurd (omega arith)
length-joined (s ∷ ss) [] h = absurd (omega arith)
length-joined (s ∷ ss) (c ∷ cs) h = ap (λ n. suc n) (length-joined ss cs (omega arith))

-- the bytes of the part at an index
pub joined-at : {V : Type 0} (items : V → List ℕ) (ss : List Segment) (vs : List V) (i : ℕ) (v : V) → length vs ≡ length ss → i < length vs → v ≡ get_or vs i v → option_map (λ (p : Part). p.bytes) (slice_get (joined ss (map items vs)) i) ≡ Some (items v)
joined-at items [] [] i v same within found = absurd (omega arith)
joined-at items [] (w ∷ vs) i v same within found = absurd (omega arith)
joined-at items (s ∷ ss) [] i v same within found = absurd (omega arith)
joined-at items (s ∷ ss) (w ∷ vs) zero v same within found = ap (λ x. Some (items x)) (sym found)
joined-at items (s ∷ ss) (w ∷ vs) (suc i) v same within found = joined-at items ss vs i v (omega arith) (omega arith) found

-- what holds of each, and of one more
pub AllByRecursion-push : {A : Type 0} (P : A → Type 0) (xs : List A) (y : A) → AllByRecursion P xs → P y → AllByRecursion P (xs ++ y ∷ [])
AllByRecursion-push P [] y all last = (last, tt)
AllByRecursion-push P (x ∷ xs) y all last = (all.0, AllByRecursion-push P xs y all.1 last)

pub AllByRecursion-both : {A : Type 0} (P : A → Type 0) (xs ys : List A) → AllByRecursion P xs → AllByRecursion P ys → AllByRecursion P (xs ++ ys)
AllByRecursion-both P [] ys front back = back
AllByRecursion-both P (x ∷ xs) ys front back = (front.0, AllByRecursion-both P xs ys front.1 back)

are_bytes : (bs : List ℕ) → ((k : ℕ) → get_or bs k 0 < 256) → AllByRecursion (λ b. b < 256) bs
are_bytes [] h = tt
are_bytes (b ∷ bs) h = (h 0, are_bytes bs (λ k. h (suc k)))

are_zeros : (n : ℕ) → AllByRecursion (λ b. b < 256) (replicate n 0)
are_zeros zero = tt
are_zeros (suc n) = (omega arith, are_zeros n)

-- a segment that is filled up has all its bytes
IsWhole-filled : (s : Segment) (bytes : List ℕ) → length bytes ≤ s.len → IsWhole (filled s bytes)
IsWhole-filled s bytes fits = rw (length-append, length-replicate) (omega arith)

HasBytes-filled : (s : Segment) (bytes : List ℕ) → ((k : ℕ) → get_or bytes k 0 < 256) → HasBytes (filled s bytes)
HasBytes-filled s bytes each =
    AllByRecursion-both (λ b. b < 256) bytes (replicate (s.len - length bytes) 0) (are_bytes bytes each) (are_zeros (s.len - length bytes))

-- an image with one more segment
pub IsImage-add : (ss : List Segment) (cs : List (List ℕ)) (s : Segment) (bytes : List ℕ) (pcs sps : List (Option ℕ)) → length cs ≡ length ss → IsImage (record { parts = joined ss cs; pcs = pcs; sps = sps }) → AreSegments (segments_of (joined ss cs) ++ s ∷ []) → length bytes ≤ s.len → ((k : ℕ) → get_or bytes k 0 < 256) → IsImage (record { parts = joined (ss ++ s ∷ []) (cs ++ (bytes ++ replicate (s.len - length bytes) 0) ∷ []); pcs = pcs; sps = sps })
IsImage-add ss cs s bytes pcs sps same image rules fits each =
    let push = joined-push ss cs s (bytes ++ replicate (s.len - length bytes) 0) same in
    record {
      segments = rw push (rw (segments_of-push (joined ss cs) (filled s bytes)) rules);
      whole = rw push (AllByRecursion-push IsWhole (joined ss cs) (filled s bytes) image.whole (IsWhole-filled s bytes fits));
      bytes = rw push (AllByRecursion-push HasBytes (joined ss cs) (filled s bytes) image.bytes (HasBytes-filled s bytes each));
      pcs = image.pcs;
      sps = image.sps;
    }
  where
    segments_of-push : (ps : List Part) (p : Part) → segments_of (ps ++ p ∷ []) ≡ segments_of ps ++ p.segment ∷ []
    segments_of-push [] p = refl
    segments_of-push (q ∷ ps) p = ap (λ rest. q.segment ∷ rest) (segments_of-push ps p)

-- the lengths of both lists after one more segment
pub same-push : {V : Type 0} (ss : List Segment) (vs : List V) (s : Segment) (v : V) → length vs ≡ length ss → length (vs ++ v ∷ []) ≡ length (ss ++ s ∷ [])
same-push ss vs s v h = omega (arith, length-append vs (v ∷ []), length-append ss (s ∷ []))
