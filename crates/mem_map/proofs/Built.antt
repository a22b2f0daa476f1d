-- Maps that are built from segments.
use Rattle.std.proofs.Common.{◌≡◌, ℕ, zero, suc, ◌+◌, ◌<◌, ◌≤◌, inl, inr, List, [], ◌∷◌, ◌++◌, length, get_or, min, take, map, refl, sym, ap, ◌∙◌, arith}
use Rattle.std.specs.List.{AllByRecursion}
use Rattle.std.proofs.Math.Seq.{take-nil}
use Rattle.std.proofs.lemmas.List.{length-replicate, take_all}
use Rattle.std.proofs.lemmas.Bool.{cases_lt}
use Rattle.std.proofs.lemmas.List.Sums.{sum_by-cons}
use Rattle.mach_base.specs.declared.memory_range.Segment.{Segment}
use Rattle.mach_base.specs.Machine.{Part, AreSegments, memory_size}
use Rattle.mem_map.specs.Pages.{pages_in, page_total, first_pages}
use Rattle.mem_map.specs.Parts.{IsWhole, AreParts, AreContents, segments_of, parts_of, zero_part}

pub segments_of-zero : (ss : List Segment) → segments_of (map zero_part ss) ≡ ss
segments_of-zero [] = refl
segments_of-zero (s ∷ ss) = ap (λ rest. s ∷ rest) (segments_of-zero ss)

whole-zero : (ss : List Segment) → AllByRecursion IsWhole (map zero_part ss)
whole-zero [] = tt
whole-zero (s ∷ ss) = (length-replicate s.len 0, whole-zero ss)

pub are-zero : (ss : List Segment) → AreSegments ss → AreParts (map zero_part ss)
are-zero ss are = record { segments = rw (segments_of-zero ss) are; whole = whole-zero ss }

pub length-contents : (ss : List Segment) (bs : List (List ℕ)) → AreContents ss bs → length bs ≡ length ss
length-contents [] [] h = refl
length-contents [] (b ∷ bs) h = absurd h
length-contents (s ∷ ss) [] h = absurd h
length-contents (s ∷ ss) (b ∷ bs) h = ap suc (length-contents ss bs h.1)

pub segments_of-parts : (ss : List Segment) (bs : List (List ℕ)) → AreContents ss bs → segments_of (parts_of ss bs) ≡ ss
segments_of-parts [] bs h = refl
segments_of-parts (s ∷ ss) [] h = absurd h
segments_of-parts (s ∷ ss) (b ∷ bs) h = ap (λ rest. s ∷ rest) (segments_of-parts ss bs h.1)

whole-parts : (ss : List Segment) (bs : List (List ℕ)) → AreContents ss bs → AllByRecursion IsWhole (parts_of ss bs)
whole-parts [] bs h = tt
whole-parts (s ∷ ss) [] h = absurd h
whole-parts (s ∷ ss) (b ∷ bs) h = (h.0, whole-parts ss bs h.1)

pub are-parts : (ss : List Segment) (bs : List (List ℕ)) → AreSegments ss → AreContents ss bs → AreParts (parts_of ss bs)
are-parts ss bs are h = record { segments = rw (segments_of-parts ss bs h) are; whole = whole-parts ss bs h }

-- one part more
pub parts_of-take_more : (ss : List Segment) (bs : List (List ℕ)) (i : ℕ) (s : Segment) (b : List ℕ) → i < length ss → i < length bs → parts_of (take (i + 1) ss) bs ≡ parts_of (take i ss) bs ++ record { segment = get_or ss i s; bytes = get_or bs i b } ∷ []
parts_of-take_more [] bs i s b h h' = absurd (omega arith)
parts_of-take_more (x ∷ ss) [] i s b h h' = absurd (omega arith)
parts_of-take_more (x ∷ ss) (y ∷ bs) zero s b h h' = refl
parts_of-take_more (x ∷ ss) (y ∷ bs) (suc i) s b h h' =
    let more : suc i + 1 ≡ suc (i + 1) = omega arith in
    rw more (ap (λ rest. record { segment = x; bytes = y } ∷ rest) (parts_of-take_more ss bs i s b (omega arith) (omega arith)))

pub parts_of-push : (ss : List Segment) (bs : List (List ℕ)) (i : ℕ) (s : Segment) (b content : List ℕ) (items new : List Part) (piece : Part) → i < length ss → AreContents ss bs → items ≡ parts_of (take i ss) bs → new ≡ items ++ piece ∷ [] → piece ≡ record { segment = get_or ss i s; bytes = content } → content ≡ b → b ≡ get_or bs i b → new ≡ parts_of (take (i + 1) ss) bs
parts_of-push ss bs i s b content items new piece h are so_far pushed is copied read =
    let lengths = length-contents ss bs are in
    let bytes : ◌≡◌ {A = Part} (record { segment = get_or ss i s; bytes = content }) (record { segment = get_or ss i s; bytes = get_or bs i b }) =
    ap (λ x. record { segment = get_or ss i s; bytes = x }) (copied ∙ read)
    in
    pushed
    ∙ ap (λ xs. xs ++ piece ∷ []) so_far
    ∙ ap (λ p. parts_of (take i ss) bs ++ p ∷ []) (is ∙ bytes)
    ∙ sym (parts_of-take_more ss bs i s b h (omega arith))

-- one segment more has its pages after those before
pub page_total-more : (ss : List Segment) (i : ℕ) (d : Segment) → i < length ss → page_total (take (i + 1) ss) ≡ page_total (take i ss) + pages_in (get_or ss i d)
page_total-more [] i d h = absurd (omega arith)
page_total-more (s ∷ ss) zero d h = omega arith
page_total-more (s ∷ ss) (suc i) d h =
    let more : suc i + 1 ≡ suc (i + 1) = omega arith in
    ap (λ k. page_total (take k (s ∷ ss))) more ∙ omega (arith, page_total-more ss i d (omega arith))

pub first_pages-more : (n : ℕ) (ss : List Segment) (i : ℕ) → i < length ss → first_pages n (take (i + 1) ss) ≡ first_pages n (take i ss) ++ (n + page_total (take i ss)) ∷ []
first_pages-more n [] i h = absurd (omega arith)
first_pages-more n (s ∷ ss) zero h = ap (λ k. k ∷ []) (omega arith)
first_pages-more n (s ∷ ss) (suc i) h =
    let more : suc i + 1 ≡ suc (i + 1) = omega arith in
    let sum : n + pages_in s + page_total (take i ss) ≡ n + (pages_in s + page_total (take i ss)) = omega arith in
    ap (λ k. first_pages n (take k (s ∷ ss))) more
    ∙ ap (λ rest. n ∷ rest) (first_pages-more (n + pages_in s) ss i (omega arith))
    ∙ ap (λ k. n ∷ first_pages (n + pages_in s) (take i ss) ++ k ∷ []) sum

-- a segment isn't larger than all together
pub len-small : (ss : List Segment) (i : ℕ) (d : Segment) → i < length ss → (get_or ss i d).len ≤ memory_size ss
len-small [] i d h = absurd (omega arith)
len-small (s ∷ ss) zero d h = omega (arith, sum_by-cons (λ x. x.len) s ss)
len-small (s ∷ ss) (suc i) d h = omega (arith, len-small ss i d (omega arith), sum_by-cons (λ x. x.len) s ss)

-- so many segments don't have more pages than all
pub page_total-take : (ss : List Segment) (i : ℕ) → page_total (take i ss) ≤ page_total ss
page_total-take [] i = omega (arith, ap page_total (take-nil {A = Segment} i))
page_total-take (s ∷ ss) zero = omega arith
page_total-take (s ∷ ss) (suc i) = omega (arith, page_total-take ss i)

-- no more than there are
pub take-least : (xs : List ℕ) (n : ℕ) → take (min (length xs) n) xs ≡ take n xs
take-least xs n =
    elim (cases_lt n (length xs)) as (λ _. take (min (length xs) n) xs ≡ take n xs) [
      | inl lt ↦ ap (λ k. take k xs) (omega arith)
      | inr ge ↦ take_all (min (length xs) n) xs (omega arith) ∙ sym (take_all n xs ge)
    ]
