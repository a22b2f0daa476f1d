-- Texts that are written piece by piece.
use Rattle.std.proofs.Common.{◌≡◌, ℕ, zero, suc, ◌+◌, ◌-◌, ◌≤◌, ◌<◌, List, [], ◌∷◌, ◌++◌, length, get_or, take, drop, Option, Some, None, refl, sym, ap, ◌∙◌, append_assoc, arith}
use Rattle.std.proofs.lemmas.List.{at_drop_more, at_drop_all, length-map}
use Rattle.std.specs.Prelude.{slice_get, option_map}
use Rattle.std.specs.List.{AllByRecursion}
use Rattle.std.specs.Int.{w64, from_le_bytes}
use Rattle.mach_base.specs.declared.memory_range.Segment.{Segment}
use Rattle.mach_base.specs.Machine.{Part}
use Rattle.mach_base.specs.Number.{dec_text}
use Rattle.mem_map.specs.Parts.{segments_of}
use Rattle.img_text.specs.Writing.{numbers_text, directive_text, values_of, values_text, part_text, parts_text, start_text, starts_text, StartFits}

append_nil : (xs : List ℕ) → xs ++ [] ≡ xs
append_nil [] = refl
append_nil (x ∷ xs) = ap (λ ys. x ∷ ys) (append_nil xs)

-- one more piece in front of what is left
joined_on : (out piece left whole : List ℕ) → out ++ (piece ++ left) ≡ whole → (out ++ piece) ++ left ≡ whole
joined_on out piece left whole h = append_assoc out piece left ∙ h

-- one more number of a line
pub numbers-more : (out ns whole : List ℕ) (i n : ℕ) → i < length ns → n ≡ get_or ns i n → out ++ numbers_text (drop i ns) ≡ whole → ((out ++ 32 ∷ []) ++ dec_text n) ++ numbers_text (drop (i + 1) ns) ≡ whole
numbers-more out ns whole i n within found told =
    let split : numbers_text (drop i ns) ≡ 32 ∷ (dec_text n ++ numbers_text (drop (i + 1) ns)) =
    at_drop_more numbers_text ns i n within ∙ ap (λ m. 32 ∷ (dec_text m ++ numbers_text (drop (i + 1) ns))) (sym found) in
    joined_on (out ++ 32 ∷ []) (dec_text n) (numbers_text (drop (i + 1) ns)) whole
    (joined_on out (32 ∷ []) (dec_text n ++ numbers_text (drop (i + 1) ns)) whole (ap (λ text. out ++ text) (sym split) ∙ told))

pub numbers-end : (out ns whole : List ℕ) (i : ℕ) → length ns ≤ i → out ++ numbers_text (drop i ns) ≡ whole → out ++ 10 ∷ [] ≡ whole
numbers-end out ns whole i all told = ap (λ text. out ++ text) (sym (at_drop_all numbers_text ns i all)) ∙ told

-- one more value
pub values-more : (out left whole : List ℕ) (count done : ℕ) → done < count → out ++ values_text (values_of (count - done) left) ≡ whole → (out ++ directive_text (100 ∷ []) (from_le_bytes w64 (take 8 left) ∷ [])) ++ values_text (values_of (count - (done + 1)) (drop 8 left)) ≡ whole
unfolding values_text values_of
values-more out left whole count done more told =
    let next : count - done ≡ suc (count - (done + 1)) = omega arith in
    joined_on out (directive_text (100 ∷ []) (from_le_bytes w64 (take 8 left) ∷ [])) (values_text (values_of (count - (done + 1)) (drop 8 left))) whole (rw next at told)

pub values-end : (out left whole : List ℕ) (count done : ℕ) → count ≤ done → out ++ values_text (values_of (count - done) left) ≡ whole → out ≡ whole
unfolding values_text values_of
values-end out left whole count done all told =
    let none : count - done ≡ 0 = omega arith in
    sym (append_nil out) ∙ (rw none at told)

-- the part at an index
part_at : (parts : List Part) (i : ℕ) (s d : Segment) (bytes : List ℕ) → s ≡ get_or (segments_of parts) i d → option_map (λ (p : Part). p.bytes) (slice_get parts i) ≡ Some bytes → parts_text (drop i parts) ≡ part_text (record { segment = s; bytes = bytes }) ++ parts_text (drop (i + 1) parts)
unfolding parts_text
part_at [] i s d bytes segment content = absurd (cc)
part_at (p ∷ ps) zero s d bytes segment content =
    let same_bytes : p.bytes ≡ bytes = some content in
    rw (segment, ← same_bytes) refl
  where
    some : {x y : List ℕ} → ◌≡◌ {A = Option (List ℕ)} (Some x) (Some y) → x ≡ y
    some h = cc
part_at (p ∷ ps) (suc i) s d bytes segment content =
    let one_more : suc i + 1 ≡ suc (i + 1) = omega arith in
    rw one_more (part_at ps i s d bytes segment content)

pub parts-more : (out whole : List ℕ) (parts : List Part) (i : ℕ) (s d : Segment) (bytes : List ℕ) → s ≡ get_or (segments_of parts) i d → option_map (λ (p : Part). p.bytes) (slice_get parts i) ≡ Some bytes → out ++ parts_text (drop i parts) ≡ whole → (out ++ part_text (record { segment = s; bytes = bytes })) ++ parts_text (drop (i + 1) parts) ≡ whole
parts-more out whole parts i s d bytes segment content told =
    joined_on out (part_text (record { segment = s; bytes = bytes })) (parts_text (drop (i + 1) parts)) whole (ap (λ text. out ++ text) (sym (part_at parts i s d bytes segment content)) ∙ told)

pub parts-end : (out whole : List ℕ) (parts : List Part) (i : ℕ) → length (segments_of parts) ≤ i → out ++ parts_text (drop i parts) ≡ whole → out ≡ whole
unfolding parts_text
parts-end out whole parts i all told =
    let as_long : length (segments_of parts) ≡ length parts = length-map _ _ in
    sym (append_nil out) ∙ (ap (λ text. out ++ text) (sym (at_drop_all parts_text parts i (omega arith))) ∙ told)

-- one more start
pub starts-more : (out whole name : List ℕ) (starts : List (Option ℕ)) (i : ℕ) (start : Option ℕ) → i < length starts → start ≡ get_or starts i None → out ++ starts_text name i (drop i starts) ≡ whole → (out ++ start_text name i start) ++ starts_text name (i + 1) (drop (i + 1) starts) ≡ whole
unfolding starts_text
starts-more out whole name starts i start within found told =
    let split = at_drop_more (starts_text name i) starts i None within ∙ ap (λ s. start_text name i s ++ starts_text name (i + 1) (drop (i + 1) starts)) (sym found) in
    joined_on out (start_text name i start) (starts_text name (i + 1) (drop (i + 1) starts)) whole (ap (λ text. out ++ text) (sym split) ∙ told)

pub starts-end : (out whole name : List ℕ) (starts : List (Option ℕ)) (i : ℕ) → length starts ≤ i → out ++ starts_text name i (drop i starts) ≡ whole → out ≡ whole
unfolding starts_text
starts-end out whole name starts i all told =
    sym (append_nil out) ∙ (ap (λ text. out ++ text) (sym (at_drop_all (starts_text name i) starts i all)) ∙ told)

-- what holds of each start by its hart number
pub AllByRecursion-starts : (starts : List (Option ℕ)) (n : ℕ) → length starts ≤ n → ((k : ℕ) → k < n → StartFits (get_or starts k None)) → AllByRecursion StartFits starts
AllByRecursion-starts [] n all each = tt
AllByRecursion-starts (s ∷ ss) zero all each = absurd (omega arith)
AllByRecursion-starts (s ∷ ss) (suc n) all each = (each 0 (omega arith), AllByRecursion-starts ss n (omega arith) (λ (k : ℕ) (h : k < n). each (suc k) (omega arith)))
