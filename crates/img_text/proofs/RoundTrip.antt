-- The text of an image reads as that image.
use Rattle.std.proofs.Common.{◌≡◌, ℕ, zero, suc, ◌+◌, ◌*◌, ◌/◌, ◌%◌, ◌≤◌, ◌<◌, ◌^◌, true, false, leb, List, [], ◌∷◌, ◌++◌, length, length-append, get_or, take, drop, map, reverse, replicate, Option, Some, None, Ok, refl, sym, ap, ◌∙◌, subst, append_assoc, arith}
use Rattle.std.specs.Prelude.{codes}
use Rattle.std.proofs.lemmas.Bool.{lt-ltb, le-ltb, le-leb, eq-eqb}
use Rattle.std.proofs.lemmas.Fmt.{decimal_digit}
use Rattle.std.proofs.lemmas.List.{reverse-append, reverse-reverse, set_at, get_or_at, take-append-drop, length-drop}
use Rattle.std.proofs.lemmas.Nat.{le_bytes_8}
use Rattle.std.specs.Int.{w64, from_le_bytes}
use Rattle.std.specs.List.{AllByRecursion, flat_map}
use Rattle.mach_base.specs.declared.memory_range.Kind.{Kind}
use Rattle.mach_base.specs.declared.memory_range.Kind.TheVariants.{Text, Data, Rodata}
use Rattle.mach_base.specs.declared.memory_range.Segment.{Segment}
use Rattle.mach_base.specs.Number.{dec_text}
use Rattle.mach_base.specs.Machine.{Part, HasBounds, AreInOrder}
use Rattle.img_text.specs.declared.directive.Width.TheVariants.{Eight}
use Rattle.img_text.specs.declared.directive.Directive.{Directive}
use Rattle.img_text.specs.declared.directive.Directive.TheVariants.{Begin, Put, Pc, Sp}
use Rattle.mach_base.specs.Lines.{lines_of, words_of, is_comment}
use Rattle.mem_map.specs.Parts.{IsWhole, segments_of}
use Rattle.img_text.specs.Image.{ImageRecord, HasBytes, IsImage, filled}
use Rattle.mach_base.specs.Sequence.{◌>>=◌}
use Rattle.img_text.specs.Directives.{line_of, directive_of, has_count, least_of, most_of, largest_of}
use Rattle.img_text.specs.Reading.{Draft, start, end_of, value_bytes, applied, after_line, read_line, read_lines, has_text, whole_image, no_starts, is_header, image_of_lines, image_of}
use Rattle.img_text.specs.Writing.{name_of, directive_text, values_of, values_text, used_values, written_values, part_text, parts_text, starts_text, image_text, StartFits}
use Rattle.img_text.proofs.Steps.{lines_more}
use Rattle.img_text.proofs.Used.{filled_up, used-few, leaves_out}
use Rattle.img_text.proofs.Spelled.{Solid-test, is_solid, IsPlain, AllFit, line_text, directive_text-line, IsPlain-line, lines_of-plain, words_of-line, each_number-dec_text}

-- a name that stands for a directive
record IsName (name : List ℕ) (d : Directive) : Type 0 where
  solid : is_solid name ≡ true
  some : 0 < length name
  told : directive_of name ≡ Some d
  no_comment : is_comment name ≡ false

IsName-kind : (kind : Kind) → IsName (name_of kind) (Begin kind)
IsName-kind Text = record { solid = refl; some = omega arith; told = refl; no_comment = refl }
IsName-kind Data = record { solid = refl; some = omega arith; told = refl; no_comment = refl }
IsName-kind Rodata = record { solid = refl; some = omega arith; told = refl; no_comment = refl }

IsName-d : IsName (codes "d") (Put Eight)
IsName-d = record { solid = refl; some = omega arith; told = refl; no_comment = refl }

IsName-pc : IsName (codes "pc") Pc
IsName-pc = record { solid = refl; some = omega arith; told = refl; no_comment = refl }

IsName-sp : IsName (codes "sp") Sp
IsName-sp = record { solid = refl; some = omega arith; told = refl; no_comment = refl }

-- a directive's numbers: as many as it takes, and none too large
record HasNumbers (d : Directive) (ns : List ℕ) : Type 0 where
  fits : AllFit ns
  small : AllByRecursion (λ n. n ≤ largest_of d) ns
  count : has_count (least_of d) (most_of d) (map dec_text ns) ≡ true

-- the line of a directive does what the directive says
read_line-directive : (draft : Draft) (name : List ℕ) (d : Directive) (ns : List ℕ) → IsName name d → HasNumbers d ns → read_line draft (line_text name ns) ≡ applied draft d ns
unfolding read_line line_of
read_line-directive draft name d ns is_name numbers =
    let words = words_of-line name ns is_name.some (Solid-test name is_name.solid) numbers.fits in
    let each = each_number-dec_text (largest_of d) ns numbers.fits numbers.small in
    ap (λ ws. line_of ws >>= after_line draft) words ∙ (rw (is_name.no_comment, is_name.told, numbers.count, each) refl)

-- reading the text, whatever follows, leads from one draft to the other
abbrev Reads : Draft → List ℕ → Draft → Type 0
Reads draft text next = (rest : List ℕ) (number : ℕ) → (after : ℕ) × (read_lines number draft (lines_of (text ++ rest)) ≡ read_lines after next (lines_of rest))

Reads-none : (draft : Draft) → Reads draft [] draft
Reads-none draft = λ rest number. (number, refl)

Reads-both : (a b c : Draft) (x y : List ℕ) → Reads a x b → Reads b y c → Reads a (x ++ y) c
Reads-both a b c x y front back = λ rest number.
    let first = front (y ++ rest) number in
    let second = back rest first.0 in
    (second.0, ap (λ text. read_lines number a (lines_of text)) (append_assoc x y rest) ∙ (first.1 ∙ second.1))

Reads-line : (draft next : Draft) (line : List ℕ) → IsPlain line → read_line draft line ≡ Ok next → Reads draft (line ++ 10 ∷ []) next
Reads-line draft next line plain read = λ rest number.
    let cut = ap lines_of (append_assoc line (10 ∷ []) rest) ∙ lines_of-plain line rest plain in
    (number + 1, lines_more number draft next (lines_of ((line ++ 10 ∷ []) ++ rest)) line (lines_of rest) _ cut read refl)

Reads-directive : (draft next : Draft) (name : List ℕ) (d : Directive) (ns : List ℕ) → IsName name d → HasNumbers d ns → applied draft d ns ≡ Ok next → Reads draft (directive_text name ns) next
Reads-directive draft next name d ns is_name numbers does =
    subst (λ (text : List ℕ). Reads draft text next) (sym (directive_text-line name ns))
    (Reads-line draft next (line_text name ns) (IsPlain-line name ns (Solid-test name is_name.solid) numbers.fits) (read_line-directive draft name d ns is_name numbers ∙ does))

abbrev drafted : List Part → List (Option ℕ) → List (Option ℕ) → Draft
drafted parts pcs sps = record { parts = parts; pcs = pcs; sps = sps }

abbrev with_bytes : Segment → List ℕ → Part
with_bytes segment bytes = record { segment = segment; bytes = bytes }

append_nil : (xs : List ℕ) → xs ++ [] ≡ xs
append_nil [] = refl
append_nil (x ∷ xs) = ap (λ ys. x ∷ ys) (append_nil xs)

-- one value
put-one : (v : ℕ) (s : Segment) (bytes : List ℕ) (ps : List Part) (pcs sps : List (Option ℕ)) → length bytes + 8 ≤ s.len → applied (drafted (with_bytes s bytes ∷ ps) pcs sps) (Put Eight) (v ∷ []) ≡ Ok (drafted (with_bytes s (bytes ++ value_bytes Eight v) ∷ ps) pcs sps)
unfolding applied
put-one v s bytes ps pcs sps room =
    let fits : leb (length bytes + 8 * length (v ∷ [])) s.len ≡ true = le-leb _ _ (omega arith) in
    rw fits (ap (λ bs. Ok (drafted (with_bytes s (bytes ++ bs) ∷ ps) pcs sps)) (append_nil (value_bytes Eight v)))

Reads-values : (vs : List ℕ) (s : Segment) (bytes : List ℕ) (ps : List Part) (pcs sps : List (Option ℕ)) → length bytes + 8 * length vs ≤ s.len → AllFit vs → Reads (drafted (with_bytes s bytes ∷ ps) pcs sps) (values_text vs) (drafted (with_bytes s (bytes ++ flat_map (value_bytes Eight) vs) ∷ ps) pcs sps)
unfolding values_text
Reads-values [] s bytes ps pcs sps room fits =
    let P : List ℕ → Type 0 = λ bs. Reads (drafted (with_bytes s bytes ∷ ps) pcs sps) [] (drafted (with_bytes s bs ∷ ps) pcs sps) in
    subst P (sym (append_nil bytes)) (Reads-none (drafted (with_bytes s bytes ∷ ps) pcs sps))
Reads-values (v ∷ vs) s bytes ps pcs sps room fits =
    let here : length bytes + 8 ≤ s.len = omega arith in
    let long : length (bytes ++ value_bytes Eight v) ≡ length bytes + 8 = length-append bytes (value_bytes Eight v) in
    let small : v ≤ 18446744073709551615 = omega (arith, fits.0) in
    let numbers : HasNumbers (Put Eight) (v ∷ []) = record { fits = (fits.0, tt); small = (small, tt); count = refl } in
    let first = Reads-directive (drafted (with_bytes s bytes ∷ ps) pcs sps) (drafted (with_bytes s (bytes ++ value_bytes Eight v) ∷ ps) pcs sps) (codes "d") (Put Eight) (v ∷ []) IsName-d numbers (put-one v s bytes ps pcs sps here) in
    let rest = Reads-values vs s (bytes ++ value_bytes Eight v) ps pcs sps (omega arith) fits.1 in
    let P : List ℕ → Type 0 = λ bs. Reads (drafted (with_bytes s bytes ∷ ps) pcs sps) (directive_text (codes "d") (v ∷ []) ++ values_text vs) (drafted (with_bytes s bs ∷ ps) pcs sps) in
    subst P (append_assoc bytes (value_bytes Eight v) (flat_map (value_bytes Eight) vs))
    (Reads-both (drafted (with_bytes s bytes ∷ ps) pcs sps) (drafted (with_bytes s (bytes ++ value_bytes Eight v) ∷ ps) pcs sps) (drafted (with_bytes s ((bytes ++ value_bytes Eight v) ++ flat_map (value_bytes Eight) vs) ∷ ps) pcs sps) (directive_text (codes "d") (v ∷ [])) (values_text vs) first rest)

-- the bytes of a list of bytes, by index
byte_at_lt : (bs : List ℕ) → AllByRecursion (λ b. b < 256) bs → (i : ℕ) → get_or bs i 0 < 256
byte_at_lt [] h i = omega arith
byte_at_lt (b ∷ bs) h zero = h.0
byte_at_lt (b ∷ bs) h (suc i) = byte_at_lt bs h.1 i

bytes-take : (n : ℕ) (bs : List ℕ) → AllByRecursion (λ b. b < 256) bs → AllByRecursion (λ b. b < 256) (take n bs)
bytes-take zero bs h = tt
bytes-take (suc n) [] h = tt
bytes-take (suc n) (b ∷ bs) h = (h.0, bytes-take n bs h.1)

bytes-drop : (n : ℕ) (bs : List ℕ) → AllByRecursion (λ b. b < 256) bs → AllByRecursion (λ b. b < 256) (drop n bs)
bytes-drop zero bs h = h
bytes-drop (suc n) [] h = tt
bytes-drop (suc n) (b ∷ bs) h = bytes-drop n bs h.1

length-take : (n : ℕ) (bs : List ℕ) → n ≤ length bs → length (take n bs) ≡ n
length-take zero bs h = refl
length-take (suc n) [] h = absurd (omega arith)
length-take (suc n) (b ∷ bs) h = ap (λ k. suc k) (length-take n bs (omega arith))

-- the values of bytes are those bytes again
value_bytes-values_of : (count : ℕ) (bs : List ℕ) → length bs ≡ 8 * count → AllByRecursion (λ b. b < 256) bs → flat_map (value_bytes Eight) (values_of count bs) ≡ bs
unfolding values_of
value_bytes-values_of zero [] long each = refl
value_bytes-values_of zero (b ∷ bs) long each = absurd (omega arith)
value_bytes-values_of (suc count) bs long each =
    let front : length (take 8 bs) ≡ 8 = length-take 8 bs (omega arith) in
    let again : value_bytes Eight (from_le_bytes w64 (take 8 bs)) ≡ take 8 bs = le_bytes_8 (take 8 bs) (from_le_bytes w64 (take 8 bs)) front (byte_at_lt (take 8 bs) (bytes-take 8 bs each)) refl in
    let shorter : length (drop 8 bs) ≡ 8 * count = omega (arith, length-drop 8 bs) in
    let rest = value_bytes-values_of count (drop 8 bs) shorter (bytes-drop 8 bs each) in
    ap (λ xs. xs ++ flat_map (value_bytes Eight) (values_of count (drop 8 bs))) again ∙ (ap (λ xs. take 8 bs ++ xs) rest ∙ take-append-drop 8 bs)

length-values_of : (count : ℕ) (bs : List ℕ) → length (values_of count bs) ≡ count
unfolding values_of
length-values_of zero bs = refl
length-values_of (suc count) bs = ap (λ k. suc k) (length-values_of count (drop 8 bs))

eight_bytes-lt : (bs : List ℕ) → ((i : ℕ) → get_or bs i 0 < 256) → from_le_bytes w64 bs < 2 ^ 64
eight_bytes-lt bs fits = omega (arith, fits 0, fits 1, fits 2, fits 3, fits 4, fits 5, fits 6, fits 7)

AllFit-values_of : (count : ℕ) (bs : List ℕ) → AllByRecursion (λ b. b < 256) bs → AllFit (values_of count bs)
unfolding values_of
AllFit-values_of zero bs each = tt
AllFit-values_of (suc count) bs each = (eight_bytes-lt (take 8 bs) (byte_at_lt (take 8 bs) (bytes-take 8 bs each)), AllFit-values_of count (drop 8 bs) (bytes-drop 8 bs each))

-- a segment begins
begin-one : (s : Segment) (ps : List Part) (pcs sps : List (Option ℕ)) → HasBounds s → end_of ps ≤ s.base → applied (drafted ps pcs sps) (Begin s.kind) (s.base ∷ s.len ∷ []) ≡ Ok (drafted (with_bytes s [] ∷ ps) pcs sps)
unfolding applied
begin-one s ps pcs sps bounds order =
    rw (eq-eqb _ _ bounds.0, eq-eqb _ _ bounds.1, lt-ltb _ _ bounds.2, le-leb _ _ bounds.3, le-leb _ _ order) refl

-- a part with the bytes that are written of it
abbrev written : Part → Part
written p = with_bytes p.segment (flat_map (value_bytes Eight) (written_values p.bytes))

eighths : (p : Part) → HasBounds p.segment → IsWhole p → length p.bytes ≡ 8 * (length p.bytes / 8)
eighths p bounds whole =
    let long : length p.bytes ≡ p.segment.len = whole in
    by (length p.bytes) (ap (λ n. n % 8) long ∙ bounds.1)
  where
    by : (n : ℕ) → n % 8 ≡ 0 → n ≡ 8 * (n / 8)
    by n h = omega arith

AllFit-used : (vs : List ℕ) → AllFit vs → AllFit (used_values vs)
AllFit-used vs fit = front (used_values vs) _ (subst AllFit (leaves_out vs).whole fit)
  where
    front : (us ws : List ℕ) → AllFit (us ++ ws) → AllFit us
    front [] ws h = tt
    front (u ∷ us) ws h = (h.0, front us ws h.1)

Reads-part : (p : Part) (ps : List Part) (pcs sps : List (Option ℕ)) → HasBounds p.segment → end_of ps ≤ p.segment.base → IsWhole p → HasBytes p → Reads (drafted ps pcs sps) (part_text p) (drafted (written p ∷ ps) pcs sps)
unfolding part_text
Reads-part p ps pcs sps bounds order whole each =
    let s = p.segment in
    let vs = values_of (length p.bytes / 8) p.bytes in
    let long : length p.bytes ≡ s.len = whole in
    let top : s.base + s.len ≤ 2 ^ 63 = bounds.3 in
    let base_fits : s.base < 2 ^ 64 = omega arith in
    let len_fits : s.len < 2 ^ 64 = omega arith in
    let base_small : s.base ≤ 18446744073709551615 = omega arith in
    let len_small : s.len ≤ 18446744073709551615 = omega arith in
    let numbers : HasNumbers (Begin s.kind) (s.base ∷ s.len ∷ []) = record { fits = (base_fits, (len_fits, tt)); small = (base_small, (len_small, tt)); count = refl } in
    let first = Reads-directive (drafted ps pcs sps) (drafted (with_bytes s [] ∷ ps) pcs sps) (name_of s.kind) (Begin s.kind) (s.base ∷ s.len ∷ []) (IsName-kind s.kind) numbers (begin-one s ps pcs sps bounds order) in
    let room : 0 + 8 * length (used_values vs) ≤ s.len = omega (arith, length-values_of (length p.bytes / 8) p.bytes, used-few vs, eighths p bounds whole) in
    let values = Reads-values (used_values vs) s [] ps pcs sps room (AllFit-used vs (AllFit-values_of (length p.bytes / 8) p.bytes each)) in
    Reads-both (drafted ps pcs sps) (drafted (with_bytes s [] ∷ ps) pcs sps) (drafted (written p ∷ ps) pcs sps) (directive_text (name_of s.kind) (s.base ∷ s.len ∷ [])) (values_text (used_values vs)) first values

reverse-cons : (p : Part) (ps before : List Part) → reverse (p ∷ ps) ++ before ≡ reverse ps ++ (p ∷ before)
reverse-cons p ps before = ap (λ qs. qs ++ before) (reverse-append (p ∷ []) ps) ∙ append_assoc (reverse ps) (p ∷ []) before

Reads-parts : (parts before : List Part) (pcs sps : List (Option ℕ)) → AllByRecursion HasBounds (segments_of parts) → AreInOrder (end_of before) (segments_of parts) → AllByRecursion IsWhole parts → AllByRecursion HasBytes parts → Reads (drafted before pcs sps) (parts_text parts) (drafted (reverse (map written parts) ++ before) pcs sps)
unfolding parts_text
Reads-parts [] before pcs sps bounds order whole each = Reads-none (drafted before pcs sps)
Reads-parts (p ∷ ps) before pcs sps bounds order whole each =
    let first = Reads-part p before pcs sps bounds.0 order.0 whole.0 each.0 in
    let rest = Reads-parts ps (written p ∷ before) pcs sps bounds.1 order.1 whole.1 each.1 in
    let P : List Part → Type 0 = λ qs. Reads (drafted before pcs sps) (part_text p ++ parts_text ps) (drafted qs pcs sps) in
    subst P (sym (reverse-cons (written p) (map written ps) before))
    (Reads-both (drafted before pcs sps) (drafted (written p ∷ before) pcs sps) (drafted (reverse (map written ps) ++ (written p ∷ before)) pcs sps) (part_text p) (parts_text ps) first rest)

-- a start that is given
start-one : (front rest : List (Option ℕ)) (hart addr : ℕ) → length front ≡ hart → hart < 16 → start hart addr (front ++ None ∷ rest) ≡ Ok (front ++ Some addr ∷ rest)
start-one front rest hart addr long few =
    rw (lt-ltb hart 16 few, get_or_at front None rest None hart long, set_at front None rest (Some addr) hart long) refl

-- The starts of one kind: `at` is the draft with these starts of the kind.
record IsKind (name : List ℕ) (d : Directive) (at : List (Option ℕ) → Draft) : Type 0 where
  is_name : IsName name d
  numbers : (hart addr : ℕ) → hart < 16 → addr < 2 ^ 64 → HasNumbers d (hart ∷ addr ∷ [])
  does : (old new : List (Option ℕ)) (hart addr : ℕ) → start hart addr old ≡ Ok new → applied (at old) d (hart ∷ addr ∷ []) ≡ Ok (at new)

Reads-starts : (name : List ℕ) (d : Directive) (at : List (Option ℕ) → Draft) → IsKind name d at → (starts front : List (Option ℕ)) (hart : ℕ) → length front ≡ hart → hart + length starts ≤ 16 → AllByRecursion StartFits starts → Reads (at (front ++ replicate (length starts) None)) (starts_text name hart starts) (at (front ++ starts))
unfolding starts_text
Reads-starts name d at kind [] front hart long few fits = Reads-none (at (front ++ []))
Reads-starts name d at kind (None ∷ starts) front hart long few fits =
    let rest = Reads-starts name d at kind starts (front ++ None ∷ []) (hart + 1) (omega (arith, length-append front (None ∷ []))) (omega arith) fits.1 in
    let P : List (Option ℕ) → List (Option ℕ) → Type 0 = λ old new. Reads (at old) (starts_text name (hart + 1) starts) (at new) in
    subst (P (front ++ None ∷ replicate (length starts) None)) (append_assoc front (None ∷ []) starts)
    (subst (λ (old : List (Option ℕ)). P old ((front ++ None ∷ []) ++ starts)) (append_assoc front (None ∷ []) (replicate (length starts) None)) rest)
Reads-starts name d at kind (Some addr ∷ starts) front hart long few fits =
    let left : List (Option ℕ) = replicate (length starts) None in
    let in_range : hart < 16 = omega arith in
    let first = Reads-directive (at (front ++ None ∷ left)) (at (front ++ Some addr ∷ left)) name d (hart ∷ addr ∷ []) kind.is_name (kind.numbers hart addr in_range fits.0) (kind.does (front ++ None ∷ left) (front ++ Some addr ∷ left) hart addr (start-one front left hart addr long in_range)) in
    let rest = Reads-starts name d at kind starts (front ++ Some addr ∷ []) (hart + 1) (omega (arith, length-append front (Some addr ∷ []))) (omega arith) fits.1 in
    let P : List (Option ℕ) → List (Option ℕ) → Type 0 = λ old new. Reads (at old) (starts_text name (hart + 1) starts) (at new) in
    let after = subst (P (front ++ Some addr ∷ left)) (append_assoc front (Some addr ∷ []) starts)
    (subst (λ (old : List (Option ℕ)). P old ((front ++ Some addr ∷ []) ++ starts)) (append_assoc front (Some addr ∷ []) left) rest) in
    Reads-both (at (front ++ None ∷ left)) (at (front ++ Some addr ∷ left)) (at (front ++ Some addr ∷ starts)) (directive_text name (hart ∷ addr ∷ [])) (starts_text name (hart + 1) starts) first after

start_numbers : (d : Directive) → least_of d ≡ 2 → most_of d ≡ 2 → largest_of d ≡ 18446744073709551615 → (hart addr : ℕ) → hart < 16 → addr < 2 ^ 64 → HasNumbers d (hart ∷ addr ∷ [])
start_numbers d least most largest hart addr few fits =
    let hart_fits : hart < 2 ^ 64 = omega arith in
    let hart_small : hart ≤ largest_of d = omega arith in
    let addr_small : addr ≤ largest_of d = omega arith in
    record { fits = (hart_fits, (fits, tt)); small = (hart_small, (addr_small, tt)); count = rw (least, most) refl }

-- a directive that gives a start as `start` does
IsKind-start : (name : List ℕ) (d : Directive) (at : List (Option ℕ) → Draft) → IsName name d → least_of d ≡ 2 → most_of d ≡ 2 → largest_of d ≡ 18446744073709551615
    → ((old : List (Option ℕ)) (hart addr : ℕ) → applied (at old) d (hart ∷ addr ∷ []) ≡ (start hart addr old >>= λ starts. Ok (at starts))) → IsKind name d at
IsKind-start name d at is_name least most largest does = record {
  is_name = is_name;
  numbers = start_numbers d least most largest;
  does = λ old new hart addr told. does old hart addr ∙ ap (λ r. r >>= λ starts. Ok (at starts)) told;
}

IsKind-pc : (parts : List Part) (sps : List (Option ℕ)) → IsKind (codes "pc") Pc (λ pcs. drafted parts pcs sps)
unfolding applied
IsKind-pc parts sps = IsKind-start (codes "pc") Pc (λ pcs. drafted parts pcs sps) IsName-pc refl refl refl (λ old hart addr. refl)

IsKind-sp : (parts : List Part) (pcs : List (Option ℕ)) → IsKind (codes "sp") Sp (λ sps. drafted parts pcs sps)
unfolding applied
IsKind-sp parts pcs = IsKind-start (codes "sp") Sp (λ sps. drafted parts pcs sps) IsName-sp refl refl refl (λ old hart addr. refl)

-- all lines from the second on
Reads-all : (image : ImageRecord) → IsImage image → AllByRecursion StartFits image.pcs → AllByRecursion StartFits image.sps → Reads (drafted [] no_starts no_starts) (parts_text image.parts ++ (starts_text (codes "pc") 0 image.pcs ++ starts_text (codes "sp") 0 image.sps)) (drafted (reverse (map written image.parts)) image.pcs image.sps)
Reads-all image rules pcs_fit sps_fit =
    let start = drafted [] no_starts no_starts in
    let parts = reverse (map written image.parts) in
    let P : List Part → Type 0 = λ qs. Reads start (parts_text image.parts) (drafted qs no_starts no_starts) in
    let first = subst P (nothing_behind parts) (Reads-parts image.parts [] no_starts no_starts rules.segments.bounds rules.segments.order rules.whole rules.bytes) in
    let pcs = Reads-starts (codes "pc") Pc (λ pcs. drafted parts pcs no_starts) (IsKind-pc parts no_starts) image.pcs [] 0 refl (omega (arith, rules.pcs)) pcs_fit in
    let sps = Reads-starts (codes "sp") Sp (λ sps. drafted parts image.pcs sps) (IsKind-sp parts image.pcs) image.sps [] 0 refl (omega (arith, rules.sps)) sps_fit in
    let Q : ℕ → Type 0 = λ n. Reads (drafted parts (replicate n None) no_starts) (starts_text (codes "pc") 0 image.pcs) (drafted parts image.pcs no_starts) in
    let R : ℕ → Type 0 = λ n. Reads (drafted parts image.pcs (replicate n None)) (starts_text (codes "sp") 0 image.sps) (drafted parts image.pcs image.sps) in
    Reads-both start (drafted parts no_starts no_starts) (drafted parts image.pcs image.sps) (parts_text image.parts) (starts_text (codes "pc") 0 image.pcs ++ starts_text (codes "sp") 0 image.sps) first
    (Reads-both (drafted parts no_starts no_starts) (drafted parts image.pcs no_starts) (drafted parts image.pcs image.sps) (starts_text (codes "pc") 0 image.pcs) (starts_text (codes "sp") 0 image.sps) (subst Q rules.pcs pcs) (subst R rules.sps sps))
  where
    nothing_behind : (ps : List Part) → ps ++ [] ≡ ps
    nothing_behind [] = refl
    nothing_behind (p ∷ ps) = ap (λ qs. p ∷ qs) (nothing_behind ps)

-- filling up what is written of a part gives the part
filled-written : (parts : List Part) → AllByRecursion HasBounds (segments_of parts) → AllByRecursion IsWhole parts → AllByRecursion HasBytes parts → map (λ (p : Part). filled p.segment p.bytes) (map written parts) ≡ parts
filled-written [] bounds whole each = refl
filled-written (p ∷ ps) bounds whole each =
    let vs = values_of (length p.bytes / 8) p.bytes in
    let all : flat_map (value_bytes Eight) vs ≡ p.bytes = value_bytes-values_of (length p.bytes / 8) p.bytes (eighths p bounds.0 whole.0) each.0 in
    let long : length p.bytes ≡ p.segment.len = whole.0 in
    let same = filled_up vs p.segment.len (ap length all ∙ long) ∙ all in
    ap (λ bs. with_bytes p.segment bs ∷ map (λ (q : Part). filled q.segment q.bytes) (map written ps)) same ∙ ap (λ qs. p ∷ qs) (filled-written ps bounds.1 whole.1 each.1)

segments-written : (parts : List Part) → segments_of (map written parts) ≡ segments_of parts
segments-written [] = refl
segments-written (p ∷ ps) = ap (λ ss. p.segment ∷ ss) (segments-written ps)

whole_image-same : (number : ℕ) (image : ImageRecord) → IsImage image → has_text (segments_of image.parts) ≡ true → whole_image number (map written image.parts) image.pcs image.sps ≡ Ok image
unfolding whole_image
whole_image-same number image rules text =
    rw (segments-written image.parts, text, le-ltb _ _ rules.segments.few, le-ltb _ _ rules.segments.small)
    (ap (λ parts. Ok (record { parts = parts; pcs = image.pcs; sps = image.sps })) (filled-written image.parts rules.segments.bounds rules.whole rules.bytes))

-- the first line
lines_of-header : (rest : List ℕ) → lines_of (directive_text (codes "kimg") (1 ∷ []) ++ rest) ≡ line_text (codes "kimg") (1 ∷ []) ∷ lines_of rest
lines_of-header rest =
    let fits : 1 < 2 ^ 64 = omega arith in
    let plain = IsPlain-line (codes "kimg") (1 ∷ []) (Solid-test (codes "kimg") refl) (fits, tt) in
    let line = line_text (codes "kimg") (1 ∷ []) in
    ap (λ text. lines_of (text ++ rest)) (directive_text-line (codes "kimg") (1 ∷ [])) ∙ (ap lines_of (append_assoc line (10 ∷ []) rest) ∙ lines_of-plain line rest plain)

header-first : is_header (words_of (line_text (codes "kimg") (1 ∷ []))) ≡ true
header-first =
    let fits : 1 < 2 ^ 64 = omega arith in
    let some : 0 < length (codes "kimg") = omega arith in
    let one : dec_text 1 ≡ 49 ∷ [] = decimal_digit 1 (omega arith) in
    ap is_header (words_of-line (codes "kimg") (1 ∷ []) some (Solid-test (codes "kimg") refl) (fits, tt)) ∙ ap (λ w. is_header (codes "kimg" ∷ w ∷ [])) one

-- after the last line
lines_over : (number : ℕ) (draft : Draft) → read_lines number draft (lines_of []) ≡ whole_image number (reverse draft.parts) draft.pcs draft.sps
unfolding lines_of read_lines
lines_over number draft = refl

-- the text of an image reads as that image
pub image_of-image_text : (image : ImageRecord) → IsImage image → has_text (segments_of image.parts) ≡ true → AllByRecursion StartFits image.pcs → AllByRecursion StartFits image.sps → image_of (image_text image) ≡ Ok image
unfolding image_text image_of_lines read_lines
image_of-image_text image rules text pcs_fit sps_fit =
    let body = parts_text image.parts ++ (starts_text (codes "pc") 0 image.pcs ++ starts_text (codes "sp") 0 image.sps) in
    let all = Reads-all image rules pcs_fit sps_fit [] 2 in
    let read : read_lines 2 (drafted [] no_starts no_starts) (lines_of body) ≡ whole_image all.0 (reverse (reverse (map written image.parts))) image.pcs image.sps =
    ap (λ t. read_lines 2 (drafted [] no_starts no_starts) (lines_of t)) (sym (append_nil body)) ∙ (all.1 ∙ lines_over all.0 (drafted (reverse (map written image.parts)) image.pcs image.sps)) in
    ap image_of_lines (lines_of-header body) ∙ (rw header-first (read ∙ (ap (λ ps. whole_image all.0 ps image.pcs image.sps) (reverse-reverse (map written image.parts)) ∙ whole_image-same all.0 image rules text)))
