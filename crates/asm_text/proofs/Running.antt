-- The place of a line is where the next byte of the last segment stands.
use Rattle.std.proofs.Common.{◌≡◌, ℕ, suc, ◌+◌, ◌*◌, ◌%◌, ◌^◌, ◌≤◌, inl, inr, Bool, true, false, cond, ◌&&◌, ◌==◌, nat_lt, nat_le, List, [], ◌∷◌, ◌++◌, length, length-append, slice_index, Option, Some, None, Result, Ok, Err, refl, sym, ap, subst, ◌∙◌, append_assoc, arith}
use Rattle.std.proofs.lemmas.Bool.{leb-true}
use Rattle.std.proofs.lemmas.List.{append-nil}
use Rattle.std.specs.Prelude.{codes}
use Rattle.std.specs.Result.{result_ok}
use Rattle.std.specs.List.{flat_map}
use Rattle.std.specs.Str.{bytes_eq}
use Rattle.mach_base.specs.declared.memory_range.Kind.{Kind}
use Rattle.mach_base.specs.declared.memory_range.Kind.TheVariants as kinds
use Rattle.mach_base.specs.declared.memory_range.Segment.{Segment}
use Rattle.mach_base.specs.declared.number.NumFault.{NumFault}
use Rattle.mach_base.specs.Lines.{words_of, is_comment}
use Rattle.mach_base.specs.Machine.{Part}
use Rattle.mach_base.specs.Number.{number_of}
use Rattle.mach_base.specs.Sequence.{◌>>=◌}
use Rattle.img_text.specs.declared.fault.Why.{Why}
use Rattle.img_text.specs.declared.fault.Why.TheVariants.{Word, Number, Bounds, Order, Overrun}
use Rattle.img_text.specs.declared.directive.Directive.{Directive}
use Rattle.img_text.specs.declared.directive.Directive.TheVariants.{Begin, Put, Pc, Sp}
use Rattle.img_text.specs.declared.directive.Width.{Width}
use Rattle.img_text.specs.declared.directive.Width.TheVariants.{One, Four, Eight}
use Rattle.img_text.specs.Directives.{size_of, directive_of, each_number, has_count, largest_of, least_of, line_of, most_of, number_up_to, up_to, with_numbers}
use Rattle.img_text.specs.Reading.{has_bounds, value_bytes}
use Rattle.img_text.specs.Grammar.{Entry, AreAllowed, last_part, parts_in, refusal_after, segment_of, segment_refusal, values_in, values_refusal}
use Rattle.img_text.proofs.Entries.{cases_end, last_part-end, parts_in-append, parts_in-none, with_values, with_values-end}
use Rattle.asm_text.specs.declared.kind.LineKind.TheVariants.{Skipped, Segment as Begins, Values, Start, Label, Instruction}
use Rattle.asm_text.specs.Kinds.{base_of, directive_kind, kind_of, kind_or, label_of, moved, place_after, place_by}
use Rattle.asm_text.specs.Labels.{Labels}
use Rattle.asm_text.specs.Grammar.{IsLine, of_image, label, instruction, Reads, nothing, one_more, place_behind, running_place, PlacesAreRunning}

-- ---- lines

-- the place after a directive with its numbers
abbrev place_of : Directive → List ℕ → Option ℕ → Option ℕ
place_of (Begin kind) ns place = Some (slice_index ns 0)
place_of (Put width) ns place = moved place (size_of width * length ns)
place_of Pc ns place = place
place_of Sp ns place = place

abbrev place_with : Option Entry → Option ℕ → Option ℕ
place_with None place = place
place_with (Some e) place = place_of e.0 e.1 place

length_numbers : (largest : ℕ) (words : List (List ℕ)) (ns : List ℕ) → each_number largest words ≡ Ok ns → length ns ≡ length words
unfolding each_number
length_numbers largest [] ns h = let e : ns ≡ [] = cc in ap length e
length_numbers largest (w ∷ ws) ns h =
    let rest = one_number (number_up_to largest w) (each_number largest ws) ns h in
    omega (arith, rest.2, length_numbers largest ws rest.0 rest.1)
  where
    one_number : (first : Result ℕ Why) (rest : Result (List ℕ) Why) (ns : List ℕ) → (first >>= λ n. rest >>= λ ms. Ok (n ∷ ms)) ≡ Ok ns → (ms : List ℕ) × (rest ≡ Ok ms) × (length ns ≡ length ms + 1)
    one_number (Ok n) (Ok ms) ns h = let e : ns ≡ n ∷ ms = cc in (ms, refl, omega (arith, ap length e))
    one_number (Ok n) (Err why) ns h = absurd (cc)
    one_number (Err why) rest ns h = absurd (cc)

first_number : (largest : ℕ) (w : List ℕ) (ws : List (List ℕ)) (ns : List ℕ) → each_number largest (w ∷ ws) ≡ Ok ns → result_ok (number_of 10 w) ≡ Some (slice_index ns 0)
unfolding each_number
first_number largest w ws ns h = by (number_of 10 w) (each_number largest ws) h
  where
    found : (t : Bool) (n : ℕ) (rest : Result (List ℕ) Why) → (cond t (Ok n) (Err Number) >>= λ m. rest >>= λ ms. Ok (m ∷ ms)) ≡ Ok ns → Some n ≡ Some (slice_index ns 0)
    found true n (Ok ms) e = let same : ns ≡ n ∷ ms = cc in ap (λ xs. Some (slice_index xs 0)) (sym same)
    found true n (Err why) e = absurd (cc)
    found false n rest e = absurd (cc)

    by : (r : Result ℕ NumFault) (rest : Result (List ℕ) Why) → (up_to largest r >>= λ m. rest >>= λ ms. Ok (m ∷ ms)) ≡ Ok ns → result_ok r ≡ Some (slice_index ns 0)
    by (Ok n) rest e = found (nat_le n largest) n rest e
    by (Err fault) rest e = absurd (cc)

abbrev only : Directive → List ℕ → Result (Option Entry) Why
only d ms = Ok (Some (d, ms))

entry_same : (x y : Entry) → ◌≡◌ {A = Result (Option Entry) Why} (Ok (Some x)) (Ok (Some y)) → x ≡ y
entry_same x y h = cc

-- the directive of a line with its numbers
with_its_numbers : (t : Bool) (r : Result (List ℕ) Why) (first d : Directive) (ns : List ℕ) → cond t (r >>= only first) (Err Word) ≡ Ok (Some (d, ns)) → (first ≡ d) × (r ≡ Ok ns)
with_its_numbers true (Ok ms) first d ns h = let same = entry_same (first, ms) (d, ns) h in (ap (λ (x : Entry). x.0) same, ap (λ (x : Entry). Ok x.1) same)
with_its_numbers true (Err why) first d ns h = absurd (cc)
with_its_numbers false r first d ns h = absurd (cc)

begins_at : (kind : Kind) (ws : List (List ℕ)) (d : Directive) (ns : List ℕ) (place : Option ℕ) → with_numbers (Some (Begin kind)) ws ≡ Ok (Some (d, ns)) → base_of ws ≡ place_of d ns place
begins_at kind [] d ns place h = absurd (cc)
begins_at kind (w ∷ ws) d ns place h =
    let it = with_its_numbers (has_count 2 2 (w ∷ ws)) (each_number 18446744073709551615 (w ∷ ws)) (Begin kind) d ns h in
    first_number 18446744073709551615 w ws ns it.1 ∙ ap (λ x. place_of x ns place) it.0

puts_on : (width : Width) (ws : List (List ℕ)) (d : Directive) (ns : List ℕ) (place : Option ℕ) → with_numbers (Some (Put width)) ws ≡ Ok (Some (d, ns)) → moved place (size_of width * length ws) ≡ place_of d ns place
puts_on width ws d ns place h =
    let it = with_its_numbers (has_count 1 8 ws) (each_number (largest_of (Put width)) ws) (Put width) d ns h in
    ap (λ n. moved place (size_of width * n)) (sym (length_numbers (largest_of (Put width)) ws ns it.1)) ∙ ap (λ x. place_of x ns place) it.0

starts_there : (first d : Directive) (ws : List (List ℕ)) (ns : List ℕ) (place : Option ℕ) → place_of first ns place ≡ place → with_numbers (Some first) ws ≡ Ok (Some (d, ns)) → place ≡ place_of d ns place
starts_there first d ws ns place stays h =
    let it = with_its_numbers (has_count (least_of first) (most_of first) ws) (each_number (largest_of first) ws) first d ns h in
    sym stays ∙ ap (λ x. place_of x ns place) it.0

chain : (a b c e f g h i : Bool) (name : Option (List ℕ)) (ws : List (List ℕ)) (d : Directive) (ns : List ℕ) (place : Option ℕ) → with_numbers (cond a (Some (Begin kinds.Text)) (cond b (Some (Begin kinds.Data)) (cond c (Some (Begin kinds.Rodata)) (cond e (Some (Put One)) (cond f (Some (Put Four)) (cond g (Some (Put Eight)) (cond h (Some Pc) (cond i (Some Sp) None)))))))) ws ≡ Ok (Some (d, ns)) → place_by (kind_or (cond a (Some Begins) (cond b (Some Begins) (cond c (Some Begins) (cond e (Some (Values 1)) (cond f (Some (Values 4)) (cond g (Some (Values 8)) (cond h (Some Start) (cond i (Some Start) None)))))))) name) place ws ≡ place_of d ns place
chain true b c e f g h i name ws d ns place is = begins_at kinds.Text ws d ns place is
chain false true c e f g h i name ws d ns place is = begins_at kinds.Data ws d ns place is
chain false false true e f g h i name ws d ns place is = begins_at kinds.Rodata ws d ns place is
chain false false false true f g h i name ws d ns place is = puts_on One ws d ns place is
chain false false false false true g h i name ws d ns place is = puts_on Four ws d ns place is
chain false false false false false true h i name ws d ns place is = puts_on Eight ws d ns place is
chain false false false false false false true i name ws d ns place is = starts_there Pc d ws ns place refl is
chain false false false false false false false true name ws d ns place is = starts_there Sp d ws ns place refl is
chain false false false false false false false false name ws d ns place is = absurd (cc)

image_place : (words : List (List ℕ)) (e : Option Entry) (place : Option ℕ) → line_of words ≡ Ok e → place_after place words ≡ place_with e place
unfolding line_of place_after kind_of
image_place [] e place is = let none : e ≡ None = cc in ap (λ o. place_with o place) (sym none)
image_place (w ∷ ws) e place is = by (is_comment w) e is
  where
    numbers : (e : Option Entry) → with_numbers (directive_of w) ws ≡ Ok e → place_by (kind_or (directive_kind w) (label_of (w ∷ ws))) place ws ≡ place_with e place
    numbers None h = absurd (some_there (directive_of w) h)
      where
        counted : (t : Bool) (r : Result (List ℕ) Why) (d : Directive) → cond t (r >>= only d) (Err Word) ≡ Ok None → ⊥
        counted true (Ok ms) d h = absurd (cc)
        counted true (Err why) d h = absurd (cc)
        counted false r d h = absurd (cc)

        some_there : (o : Option Directive) → with_numbers o ws ≡ Ok None → ⊥
        some_there None h = absurd (cc)
        some_there (Some d) h = counted (has_count (least_of d) (most_of d) ws) (each_number (largest_of d) ws) d h
    numbers (Some (d, ns)) h = chain (bytes_eq w (codes "text")) (bytes_eq w (codes "data")) (bytes_eq w (codes "rodata")) (bytes_eq w (codes "b")) (bytes_eq w (codes "w")) (bytes_eq w (codes "d")) (bytes_eq w (codes "pc")) (bytes_eq w (codes "sp")) (label_of (w ∷ ws)) ws d ns place h

    by : (t : Bool) (e : Option Entry) → cond t (Ok None) (with_numbers (directive_of w) ws) ≡ Ok e → place_by (cond t Skipped (kind_or (directive_kind w) (label_of (w ∷ ws)))) place ws ≡ place_with e place
    by true e h = let none : e ≡ None = cc in ap (λ o. place_with o place) (sym none)
    by false e h = numbers e h

label_place : (words : List (List ℕ)) (place : Option ℕ) → kind_of words ≡ Label → place_after place words ≡ place
unfolding place_after
label_place [] place is = refl
label_place (w ∷ ws) place is = ap (λ k. place_by k place ws) is

instruction_place : (words : List (List ℕ)) (place : Option ℕ) → kind_of words ≡ Instruction → place_after place words ≡ moved place 4
unfolding place_after kind_of
instruction_place [] place is = absurd (cc)
instruction_place (w ∷ ws) place is = ap (λ k. place_by k place ws) is

line_place : (labels : Labels) (number : ℕ) (place : Option ℕ) (l : List ℕ) (e : Option Entry) → IsLine labels number place l e → place_after place (words_of l) ≡ place_with e place
line_place labels number place l e (of_image k f is) = image_place (words_of l) e place is
line_place labels number place l e (label k name there kind names is at) = label_place (words_of l) place kind
line_place labels number place l e (instruction k w kind word) = instruction_place (words_of l) place kind

-- ---- what directives put

-- the last part has bounds, and no more bytes than its segment
abbrev IsSound : Option Part → Type 0
IsSound None = Unit {0}
IsSound (Some p) = (length p.bytes ≤ p.segment.len) × (p.segment.base + p.segment.len ≤ 2 ^ 63)

abbrev last_of : List Entry → Option Part
last_of es = last_part (parts_in es)

-- after one directive more
abbrev Goes : List Entry → Directive → List ℕ → Type 0
Goes done d ns = (place_of d ns (running_place (last_of done)) ≡ running_place (last_of (done ++ (d, ns) ∷ []))) × IsSound (last_of (done ++ (d, ns) ∷ []))

goes_by : (done : List Entry) (d : Directive) (ns : List ℕ) (o : Option Part) → last_of (done ++ (d, ns) ∷ []) ≡ o → place_of d ns (running_place (last_of done)) ≡ running_place o → IsSound o → Goes done d ns
goes_by done d ns o is place sound = (place ∙ ap running_place (sym is), subst IsSound (sym is) sound)

bounds_of : (s : Segment) → has_bounds s ≡ true → s.base + s.len ≤ 2 ^ 63
bounds_of s h = leb-true (s.base + s.len) (2 ^ 63) (last_true (s.base % 8 == 0) (s.len % 8 == 0) (nat_lt 0 s.len) (nat_le (s.base + s.len) (2 ^ 63)) h)
  where
    last_true : (a b c d : Bool) → (a && b && c && d) ≡ true → d ≡ true
    last_true true true true d e = e
    last_true true true false d e = absurd (cc)
    last_true true false c d e = absurd (cc)
    last_true false b c d e = absurd (cc)

not_refused : (o : Option Part) (s : Segment) → segment_refusal o s ≡ None → has_bounds s ≡ true
not_refused None s h = by (has_bounds s) h
  where
    by : (t : Bool) → cond t None (Some Bounds) ≡ None → t ≡ true
    by true e = refl
    by false e = absurd (cc)
not_refused (Some p) s h = by (has_bounds s) (nat_le (p.segment.base + p.segment.len) s.base) h
  where
    by : (t u : Bool) → cond t (cond u None (Some Order)) (Some Bounds) ≡ None → t ≡ true
    by true u e = refl
    by false u e = absurd (cc)

goes_begin : (done : List Entry) (kind : Kind) (ns : List ℕ) → refusal_after done (Begin kind, ns) ≡ None → Goes done (Begin kind) ns
goes_begin done kind ns free =
    let p : Part = record { segment = segment_of kind ns; bytes = [] } in
    let is = ap last_part (parts_in-none done ((Begin kind, ns) ∷ []) refl) ∙ last_part-end (parts_in done) p in
    let here : slice_index ns 0 ≡ slice_index ns 0 + 0 = omega arith in
    goes_by done (Begin kind) ns (Some p) is (ap (λ n. Some n) here) (omega arith, bounds_of (segment_of kind ns) (not_refused (last_of done) (segment_of kind ns) free))

value_length : (width : Width) (value : ℕ) → length (value_bytes width value) ≡ size_of width
value_length One value = refl
value_length Four value = refl
value_length Eight value = refl

values_length : (width : Width) (ns : List ℕ) → length (flat_map (value_bytes width) ns) ≡ size_of width * length ns
values_length width [] = omega arith
values_length width (n ∷ ns) =
    let whole = length-append (value_bytes width n) (flat_map (value_bytes width) ns) in
    let more : size_of width * suc (length ns) ≡ size_of width + size_of width * length ns = omega arith in
    whole ∙ (rw (value_length width n, values_length width ns) (sym more))

room_for : (p : Part) (size : ℕ) → values_refusal (Some p) size ≡ None → length p.bytes + size ≤ p.segment.len
room_for p size h = leb-true (length p.bytes + size) p.segment.len (by (nat_le (length p.bytes + size) p.segment.len) h)
  where
    by : (t : Bool) → cond t None (Some Overrun) ≡ None → t ≡ true
    by true e = refl
    by false e = absurd (cc)

goes_put : (done : List Entry) (width : Width) (ns : List ℕ) → IsSound (last_of done) → refusal_after done (Put width, ns) ≡ None → Goes done (Put width) ns
goes_put done width ns sound free =
    elim (cases_end (parts_in done)) [
      | inl none ↦ let refused : values_refusal (last_part []) (size_of width * length ns) ≡ None = subst (λ (ps : List Part). values_refusal (last_part ps) (size_of width * length ns) ≡ None) none free in absurd (cc)
      | inr e ↦
          let p = e.last in
          let last : last_of done ≡ Some p = ap last_part e.whole ∙ last_part-end e.front p in
          let bytes = flat_map (value_bytes width) ns ++ [] in
          let q : Part = record p { bytes = p.bytes ++ bytes } in
          let room = room_for p (size_of width * length ns) (subst (λ (o : Option Part). values_refusal o (size_of width * length ns) ≡ None) last free) in
          let good : IsSound (Some p) = subst IsSound last sound in
          let long : length q.bytes ≡ length p.bytes + size_of width * length ns =
          length-append p.bytes bytes ∙ ap (λ (xs : List ℕ). length p.bytes + length xs) (append-nil (flat_map (value_bytes width) ns)) ∙ ap (λ n. length p.bytes + n) (values_length width ns) in
          let is : last_of (done ++ (Put width, ns) ∷ []) ≡ Some q =
          ap last_part (parts_in-append done ((Put width, ns) ∷ []) ∙ append-nil (with_values bytes (parts_in done)) ∙ ap (with_values bytes) e.whole ∙ with_values-end bytes e.front p) ∙ last_part-end e.front q in
          let within : (p.segment.base + length p.bytes + size_of width * length ns) % 2 ^ 64 ≡ p.segment.base + length q.bytes = omega (arith, good.0, good.1, room, long) in
          goes_by done (Put width) ns (Some q) is
          (ap (λ (o : Option Part). moved (running_place o) (size_of width * length ns)) last ∙ ap (λ n. Some n) within)
          (omega (arith, room, long), good.1)
    ]

goes_start : (done : List Entry) (d : Directive) (ns : List ℕ) → parts_in ((d, ns) ∷ []) ≡ [] → values_in ((d, ns) ∷ []) ≡ [] → place_of d ns (running_place (last_of done)) ≡ running_place (last_of done) → IsSound (last_of done) → Goes done d ns
goes_start done d ns no_part no_value stays sound =
    let is : last_of (done ++ (d, ns) ∷ []) ≡ last_of done =
    ap last_part (parts_in-none done ((d, ns) ∷ []) no_value ∙ ap (λ (ps : List Part). parts_in done ++ ps) no_part ∙ append-nil (parts_in done)) in
    goes_by done d ns (last_of done) is stays sound

goes_on : (done : List Entry) (d : Directive) (ns : List ℕ) → IsSound (last_of done) → refusal_after done (d, ns) ≡ None → Goes done d ns
goes_on done (Begin kind) ns sound free = goes_begin done kind ns free
goes_on done (Put width) ns sound free = goes_put done width ns sound free
goes_on done Pc ns sound free = goes_start done Pc ns refl refl refl sound
goes_on done Sp ns sound free = goes_start done Sp ns refl refl refl sound

-- ---- lines in order

places : (labels : Labels) (number : ℕ) (place : Option ℕ) (ls : List (List ℕ)) (es : List Entry) → Reads labels number place ls es → (done : List Entry) → IsSound (last_of done) → place ≡ running_place (last_of done) → AreAllowed done es → place_behind place ls ≡ running_place (last_of (done ++ es))
places labels number place ls es (nothing n p) done sound here allowed = here ∙ ap (λ (xs : List Entry). running_place (last_of xs)) (sym (append-nil done))
places labels number place ls es (one_more n p l rest None more is reads) done sound here allowed =
    places labels (n + 1) (place_after p (words_of l)) rest more reads done sound (line_place labels n p l None is ∙ here) allowed
places labels number place ls es (one_more n p l rest (Some (d, ns)) more is reads) done sound here allowed =
    let g = goes_on done d ns sound allowed.0 in
    places labels (n + 1) (place_after p (words_of l)) rest more reads (done ++ (d, ns) ∷ []) g.1 (line_place labels n p l (Some (d, ns)) is ∙ ap (place_of d ns) here ∙ g.0) allowed.1
    ∙ ap (λ (xs : List Entry). running_place (last_of xs)) (append_assoc done ((d, ns) ∷ []) more)

pub places_are_running : PlacesAreRunning
places_are_running labels ls es reads allowed = places labels 2 None ls es reads [] tt refl allowed
