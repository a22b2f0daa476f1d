-- The lines of an image, read one by one.
use Rattle.std.proofs.Common.{◌≡◌, ℕ, suc, ◌+◌, ◌*◌, ◌%◌, ◌^◌, ◌≤◌, Bool, true, false, cond, ◌&&◌, ◌==◌, nat_lt, nat_le, List, [], ◌∷◌, ◌++◌, length, length-append, reverse, slice_index, Option, Some, None, Result, Ok, Err, refl, ap, ◌∙◌, arith}
use Rattle.std.proofs.lemmas.Bool.{leb-true, ltb-true, eqb-true}
use Rattle.std.specs.List.{flat_map}
use Rattle.mach_base.specs.declared.memory_range.Segment.{Segment}
use Rattle.mach_base.specs.Machine.{Part, HasBounds}
use Rattle.img_text.specs.declared.fault.Why.{Why}
use Rattle.img_text.specs.declared.fault.Why.TheVariants.{Word, Bounds, Order, Overrun}
use Rattle.img_text.specs.declared.fault.ImageFault.{ImageFault}
use Rattle.img_text.specs.declared.fault.LineFault.{LineFault}
use Rattle.img_text.specs.declared.fault.LineFault.TheVariants.{Refused, NoMemory}
use Rattle.img_text.specs.declared.directive.Width.{Width}
use Rattle.img_text.specs.declared.directive.Width.TheVariants.{One, Four, Eight}
use Rattle.img_text.specs.declared.directive.Directive.{Directive}
use Rattle.img_text.specs.declared.directive.Directive.TheVariants.{Begin, Put, Pc, Sp}
use Rattle.img_text.specs.Image.{ImageRecord}
use Rattle.mach_base.specs.Lines.{words_of, is_comment}
use Rattle.mach_base.specs.Sequence.{◌>>=◌}
use Rattle.img_text.specs.Directives.{size_of, each_number, number_up_to, line_of, with_numbers, directive_of, has_count, least_of, most_of, largest_of}
use Rattle.img_text.specs.Reading.{Draft, AreSound, has_bounds, end_of, begin, put, start, value_bytes, applied, after_line, read_line, read_lines, IsRefusal, IsFault, numbered, whole_image}

-- a step that went well
pub bind_ok : {A B E : Type 0} (r : Result A E) (f : A → Result B E) (y : B) → (r >>= f) ≡ Ok y → (x : A) × (r ≡ Ok x) × (f x ≡ Ok y)
bind_ok (Ok x) f y h = (x, refl, h)
bind_ok (Err e) f y h = absurd (cc)

guard_ok : {A E : Type 0} (b : Bool) (r : Result A E) (e : E) (y : A) → cond b r (Err e) ≡ Ok y → (b ≡ true) × (r ≡ Ok y)
guard_ok true r e y h = (refl, h)
guard_ok false r e y h = absurd (cc)

pub both_true : (a b : Bool) → (a && b) ≡ true → (a ≡ true) × (b ≡ true)
both_true true b h = (refl, h)
both_true false b h = absurd (cc)

some_ok : {A E : Type 0} (x y : A) → ◌≡◌ {A = Result (Option A) E} (Ok (Some x)) (Ok (Some y)) → x ≡ y
some_ok x y h = cc

length-each_number : (largest : ℕ) (words : List (List ℕ)) (ns : List ℕ) → each_number largest words ≡ Ok ns → length ns ≡ length words
unfolding each_number
length-each_number largest [] ns h = let e : ns ≡ [] = cc in ap length e
length-each_number largest (w ∷ ws) ns h =
    let rest = one_more (number_up_to largest w) (each_number largest ws) ns h in
    omega (arith, rest.2, length-each_number largest ws rest.0 rest.1)
  where
    one_more : (first : Result ℕ Why) (rest : Result (List ℕ) Why) (ns : List ℕ) → (first >>= λ n. rest >>= λ ms. Ok (n ∷ ms)) ≡ Ok ns → (ms : List ℕ) × (rest ≡ Ok ms) × (length ns ≡ length ms + 1)
    one_more (Ok n) (Ok ms) ns h = let e : ns ≡ n ∷ ms = cc in (ms, refl, omega (arith, ap length e))
    one_more (Ok n) (Err why) ns h = absurd (cc)
    one_more (Err why) rest ns h = absurd (cc)

abbrev only : Directive → List ℕ → Result (Option (Directive × List ℕ)) Why
only e ms = Ok (Some (e, ms))

-- a line that is read has as many numbers as its directive takes
pub counted : (words : List (List ℕ)) (d : Directive) (ns : List ℕ) → line_of words ≡ Ok (Some (d, ns)) → (least_of d ≤ length ns) × (length ns ≤ most_of d)
unfolding line_of
counted [] d ns h = absurd (cc)
counted (w ∷ ws) d ns h = by_comment (is_comment w) (directive_of w) h
  where
    by_count : (e : Directive) → (has_count (least_of e) (most_of e) ws ≡ true) × ((each_number (largest_of e) ws >>= only e) ≡ Ok (Some (d, ns))) → (least_of d ≤ length ns) × (length ns ≤ most_of d)
    by_count e h =
        let count = both_true (nat_le (least_of e) (length ws)) (nat_le (length ws) (most_of e)) h.0 in
        let least : least_of e ≤ length ws = leb-true _ _ count.0 in
        let most : length ws ≤ most_of e = leb-true _ _ count.1 in
        let numbers = bind_ok (each_number (largest_of e) ws) (only e) (Some (d, ns)) h.1 in
        let same = some_ok (e, numbers.0) (d, ns) numbers.2 in
        let long : length numbers.0 ≡ length ws = length-each_number (largest_of e) ws numbers.0 numbers.1 in
        let as_long : length numbers.0 ≡ length ns = ap (λ x. length x.1) same in
        let same_least : least_of e ≡ least_of d = ap (λ x. least_of x.0) same in
        let same_most : most_of e ≡ most_of d = ap (λ x. most_of x.0) same in
        (omega arith, omega arith)

    by_comment : (b : Bool) (o : Option Directive) → cond b (Ok None) (with_numbers o ws) ≡ Ok (Some (d, ns)) → (least_of d ≤ length ns) × (length ns ≤ most_of d)
    by_comment true o h = absurd (cc)
    by_comment false None h = absurd (cc)
    by_comment false (Some e) h = by_count e (guard_ok (has_count (least_of e) (most_of e) ws) (each_number (largest_of e) ws >>= only e) Word (Some (d, ns)) h)

-- a segment that begins
begin-sound : (s : Segment) (ps new : List Part) → AreSound ps → begin s ps ≡ Ok new → AreSound new
begin-sound s ps new sound h =
    let bounds = guard_ok (has_bounds s) (cond (nat_le (end_of ps) s.base) (Ok (record { segment = s; bytes = [] } ∷ ps)) (Err Order)) Bounds new h in
    let order = guard_ok (nat_le (end_of ps) s.base) (Ok (record { segment = s; bytes = [] } ∷ ps)) Order new bounds.1 in
    let told : new ≡ record { segment = s; bytes = [] } ∷ ps = cc in
    let begins : end_of ps ≤ s.base = leb-true _ _ order.0 in
    rw told (bounds_of s bounds.0, begins, omega arith, sound)
  where
    bounds_of : (s : Segment) → has_bounds s ≡ true → HasBounds s
    bounds_of s h =
        let top = both_true (((s.base % 8 == 0) && (s.len % 8 == 0)) && nat_lt 0 s.len) (nat_le (s.base + s.len) (2 ^ 63)) h in
        let some = both_true ((s.base % 8 == 0) && (s.len % 8 == 0)) (nat_lt 0 s.len) top.0 in
        let aligned = both_true (s.base % 8 == 0) (s.len % 8 == 0) some.0 in
        (eqb-true _ _ aligned.0, eqb-true _ _ aligned.1, ltb-true _ _ some.1, leb-true _ _ top.1)

-- values that are put
put-sound : (width : Width) (values : List ℕ) (ps new : List Part) → AreSound ps → put width values ps ≡ Ok new → AreSound new
put-sound width values [] new sound h = absurd (cc)
put-sound width values (p ∷ ps) new sound h =
    let bytes = p.bytes ++ flat_map (value_bytes width) values in
    let room = guard_ok (nat_le (length p.bytes + size_of width * length values) p.segment.len) (Ok (record p { bytes = bytes } ∷ ps)) Overrun new h in
    let told : new ≡ record p { bytes = bytes } ∷ ps = cc in
    let fits : length p.bytes + size_of width * length values ≤ p.segment.len = leb-true _ _ room.0 in
    let long = length-values width values in
    rw told (sound.0, sound.1, rw length-append (omega arith), sound.3)
  where
    length-value : (width : Width) (value : ℕ) → length (value_bytes width value) ≡ size_of width
    length-value One value = refl
    length-value Four value = refl
    length-value Eight value = refl

    length-values : (width : Width) (values : List ℕ) → length (flat_map (value_bytes width) values) ≡ size_of width * length values
    length-values width [] = omega arith
    length-values width (v ∷ vs) =
        length-append (value_bytes width v) (flat_map (value_bytes width) vs) ∙ more (size_of width) (length (value_bytes width v)) (length (flat_map (value_bytes width) vs)) (length vs) (length-value width v) (length-values width vs)
      where
        more : (size one rest count : ℕ) → one ≡ size → rest ≡ size * count → one + rest ≡ size * suc count
        more size one rest count a b = omega arith

-- what a line leaves
read_line-sound : (draft next : Draft) (line : List ℕ) → AreSound draft.parts → read_line draft line ≡ Ok next → AreSound next.parts
unfolding read_line applied
read_line-sound draft next line sound h =
    let read = bind_ok (line_of (words_of line)) (after_line draft) next h in
    by_line read.0 read.2
  where
    by_directive : (d : Directive) (ns : List ℕ) → applied draft d ns ≡ Ok next → AreSound next.parts
    by_directive (Begin kind) ns h =
        let s : Segment = record { base = slice_index ns 0; len = slice_index ns 1; kind = kind } in
        let done = bind_ok (begin s draft.parts) (λ parts. Ok (record draft { parts = parts })) next h in
        let told : next ≡ record draft { parts = done.0 } = cc in
        rw told (begin-sound s draft.parts done.0 sound done.1)
    by_directive (Put width) ns h =
        let done = bind_ok (put width ns draft.parts) (λ parts. Ok (record draft { parts = parts })) next h in
        let told : next ≡ record draft { parts = done.0 } = cc in
        rw told (put-sound width ns draft.parts done.0 sound done.1)
    by_directive Pc ns h =
        let done = bind_ok (start (slice_index ns 0) (slice_index ns 1) draft.pcs) (λ pcs. Ok (record draft { pcs = pcs })) next h in
        let told : next ≡ record draft { pcs = done.0 } = cc in
        rw told sound
    by_directive Sp ns h =
        let done = bind_ok (start (slice_index ns 0) (slice_index ns 1) draft.sps) (λ sps. Ok (record draft { sps = sps })) next h in
        let told : next ≡ record draft { sps = done.0 } = cc in
        rw told sound

    by_line : (o : Option (Directive × List ℕ)) → after_line draft o ≡ Ok next → AreSound next.parts
    by_line None h = let told : next ≡ draft = cc in rw told sound
    by_line (Some line) h = by_directive line.0 line.1 h

-- one line more
pub lines_more : (number : ℕ) (draft next : Draft) (lines : List (List ℕ)) (line : List ℕ) (rest : List (List ℕ)) (whole : Result ImageRecord ImageFault) → lines ≡ line ∷ rest → read_line draft line ≡ Ok next → whole ≡ read_lines number draft lines → whole ≡ read_lines (number + 1) next rest
unfolding read_lines
lines_more number draft next lines line rest whole split read told = told ∙ (rw (split, read) refl)

pub lines_sound : (draft next : Draft) (line : List ℕ) → AreSound draft.parts → read_line draft line ≡ Ok next → AreSound next.parts
lines_sound = read_line-sound

-- a line that is refused
pub lines_fault : (number : ℕ) (draft : Draft) (lines : List (List ℕ)) (line : List ℕ) (rest : List (List ℕ)) (fault : LineFault) (whole : Result ImageRecord ImageFault) → lines ≡ line ∷ rest → IsRefusal fault (read_line draft line) → whole ≡ read_lines number draft lines → IsFault (numbered number fault) whole
unfolding read_lines
lines_fault number draft lines line rest (Refused why) whole split read told = told ∙ (rw (split, read) refl)
lines_fault number draft lines line rest NoMemory whole split read told = tt

-- no line is left
pub lines_end : (number : ℕ) (draft : Draft) (parts : List Part) (lines : List (List ℕ)) (whole : Result ImageRecord ImageFault) → lines ≡ [] → reverse draft.parts ≡ parts → whole ≡ read_lines number draft lines → whole ≡ whole_image number parts draft.pcs draft.sps
unfolding read_lines
lines_end number draft parts lines whole none turned told = told ∙ (rw none (ap (λ ps. whole_image number ps draft.pcs draft.sps) turned))
