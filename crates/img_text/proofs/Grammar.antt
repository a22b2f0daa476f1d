-- What reading an image file gives is what its grammar says.
use Rattle.std.proofs.Common.{◌≡◌, ℕ, suc, ◌+◌, ◌<◌, ◌≤◌, inl, inr, Bool, true, false, cond, nat_lt, List, [], ◌∷◌, ◌++◌, length, map, reverse, Option, Result, Ok, Err, refl, sym, ap, subst, ◌∙◌, arith}
use Rattle.std.proofs.lemmas.Bool.{cases_Bool, ltb-true, ltb-false, lt-ltb, le-ltb}
use Rattle.std.proofs.lemmas.List.{append-nil, reverse-reverse, length-map}
use Rattle.mach_base.specs.declared.event.What.{What}
use Rattle.mach_base.specs.declared.event.What.TheVariants.{Segments, Memory}
use Rattle.mach_base.specs.declared.memory_range.Segment.{Segment}
use Rattle.mach_base.specs.declared.limits.TheConstants.{MOST_SEGMENTS, MOST_MEMORY}
use Rattle.mach_base.specs.Lines.{lines_of, words_of}
use Rattle.mach_base.specs.Machine.{Part, memory_size}
use Rattle.mem_map.specs.Parts.{segments_of}
use Rattle.img_text.specs.declared.fault.Why.{Why}
use Rattle.img_text.specs.declared.fault.Why.TheVariants.{Header, NoText}
use Rattle.img_text.specs.declared.fault.ImageFault.{ImageFault}
use Rattle.img_text.specs.declared.fault.ImageFault.TheVariants.{Bad, TooLarge}
use Rattle.img_text.specs.Image.{ImageRecord, filled}
use Rattle.img_text.specs.Reading.{Draft, read_lines, has_text, within_limits, whole_image, is_header, image_of_lines}
use Rattle.img_text.specs.Grammar.{Entry, parts_in, HasNoHeader, IsFirstBad, AreLines, IsBad, IsImageOf, AreTooMany, AreTooLarge, HaveSegments, NamesTheFirstBadLine, IsWhatTheLinesMean, CountsItsMemory}
use Rattle.img_text.proofs.Drafts.{IsDraft, IsDraft-start, start_draft}
use Rattle.img_text.proofs.RightLines.{cases_lines, leaves, wrong-is}

-- Whole texts.

no_header : (lines : List (List ℕ)) → HasNoHeader lines → image_of_lines lines ≡ Err (Bad 1 Header)
unfolding image_of_lines
no_header [] h = refl
no_header (l ∷ ls) h = ap (λ (t : Bool). cond t (read_lines 2 start_draft ls) (Err (Bad 1 Header))) (h.none l ls refl)

with_header : (header : List ℕ) (rest : List (List ℕ)) → is_header (words_of header) ≡ true → image_of_lines (header ∷ rest) ≡ read_lines 2 start_draft rest
unfolding image_of_lines
with_header header rest h = ap (λ (t : Bool). cond t (read_lines 2 start_draft rest) (Err (Bad 1 Header))) h

first_bad : (lines : List (List ℕ)) (number : ℕ) (why : Why) → IsFirstBad lines number why → image_of_lines lines ≡ Err (Bad number why)
first_bad lines number why b =
    let r = leaves 2 start_draft [] b.before (b.line ∷ b.after) b.entries IsDraft-start b.right.reads b.right.allowed in
    let place : 2 + length b.before ≡ number = omega (arith, b.place) in
    ap image_of_lines b.split
    ∙ with_header b.header (b.before ++ b.line ∷ b.after) b.is_header
    ∙ r.is
    ∙ wrong-is (2 + length b.before) r.next b.entries b.line b.after why r.draft b.wrong
    ∙ ap (λ (n : ℕ). Err (Bad n why)) place

-- what lines that are right give
record Gives (lines : List (List ℕ)) (es : List Entry) : Type 0 where
  draft : Draft
  is_draft : IsDraft draft es
  is : image_of_lines lines ≡ whole_image (length lines + 1) (parts_in es) draft.pcs draft.sps

lines-none : (number : ℕ) (d : Draft) → read_lines number d [] ≡ whole_image number (reverse d.parts) d.pcs d.sps
unfolding read_lines
lines-none number d = refl

gives : (lines : List (List ℕ)) (es : List Entry) → AreLines lines es → Gives lines es
gives lines es a =
    let r = leaves 2 start_draft [] a.rest [] es IsDraft-start a.right.reads a.right.allowed in
    let long : length lines ≡ suc (length a.rest) = ap (λ (ms : List (List ℕ)). length ms) a.split in
    let number : 2 + length a.rest ≡ length lines + 1 = omega arith in
    let turned : reverse r.next.parts ≡ parts_in es = ap (λ (ps : List Part). reverse ps) r.draft.parts ∙ reverse-reverse (parts_in es) in
    record {
      draft = r.next;
      is_draft = r.draft;
      is =
          ap image_of_lines a.split
          ∙ with_header a.header a.rest a.is_header
          ∙ ap (λ (ms : List (List ℕ)). read_lines 2 start_draft ms) (sym (append-nil a.rest))
          ∙ r.is
          ∙ lines-none (2 + length a.rest) r.next
          ∙ ap (λ (n : ℕ). whole_image n (reverse r.next.parts) r.next.pcs r.next.sps) number
          ∙ ap (λ (ps : List Part). whole_image (length lines + 1) ps r.next.pcs r.next.sps) turned;
    }

-- the image of these parts and starts
abbrev built : List Part → List (Option ℕ) → List (Option ℕ) → ImageRecord
built parts pcs sps = record { parts = map (λ p. filled p.segment p.bytes) parts; pcs = pcs; sps = sps }

whole-no_text : (line : ℕ) (parts : List Part) (pcs sps : List (Option ℕ)) → has_text (segments_of parts) ≡ false → whole_image line parts pcs sps ≡ Err (Bad line NoText)
unfolding whole_image
whole-no_text line parts pcs sps none = ap (λ (t : Bool). cond t (within_limits (segments_of parts) (built parts pcs sps)) (Err (Bad line NoText))) none

whole-text : (line : ℕ) (parts : List Part) (pcs sps : List (Option ℕ)) → has_text (segments_of parts) ≡ true → whole_image line parts pcs sps ≡ within_limits (segments_of parts) (built parts pcs sps)
unfolding whole_image
whole-text line parts pcs sps some = ap (λ (t : Bool). cond t (within_limits (segments_of parts) (built parts pcs sps)) (Err (Bad line NoText))) some

segments_many : (parts : List Part) → length (segments_of parts) ≡ length parts
segments_many parts = length-map _ _

limits-segments : (parts : List Part) (image : ImageRecord) → MOST_SEGMENTS < length parts → within_limits (segments_of parts) image ≡ Err (TooLarge Segments (length parts))
limits-segments parts image many =
    let more : MOST_SEGMENTS < length (segments_of parts) = omega (arith, segments_many parts) in
    ap (λ (t : Bool). cond t (Err (TooLarge Segments (length (segments_of parts)))) (cond (nat_lt MOST_MEMORY (memory_size (segments_of parts))) (Err (TooLarge Memory (memory_size (segments_of parts)))) (Ok image))) (lt-ltb MOST_SEGMENTS (length (segments_of parts)) more)
    ∙ ap (λ (n : ℕ). Err (TooLarge Segments n)) (segments_many parts)

limits-few : (parts : List Part) (image : ImageRecord) → length parts ≤ MOST_SEGMENTS → within_limits (segments_of parts) image ≡ cond (nat_lt MOST_MEMORY (memory_size (segments_of parts))) (Err (TooLarge Memory (memory_size (segments_of parts)))) (Ok image)
limits-few parts image few =
    let less : length (segments_of parts) ≤ MOST_SEGMENTS = omega (arith, segments_many parts) in
    ap (λ (t : Bool). cond t (Err (TooLarge Segments (length (segments_of parts)))) (cond (nat_lt MOST_MEMORY (memory_size (segments_of parts))) (Err (TooLarge Memory (memory_size (segments_of parts)))) (Ok image))) (le-ltb MOST_SEGMENTS (length (segments_of parts)) less)

limits-memory : (parts : List Part) (image : ImageRecord) → length parts ≤ MOST_SEGMENTS → MOST_MEMORY < memory_size (segments_of parts) → within_limits (segments_of parts) image ≡ Err (TooLarge Memory (memory_size (segments_of parts)))
limits-memory parts image few large =
    limits-few parts image few ∙ ap (λ (t : Bool). cond t (Err (TooLarge Memory (memory_size (segments_of parts)))) (Ok image)) (lt-ltb MOST_MEMORY (memory_size (segments_of parts)) large)

limits-kept : (parts : List Part) (image : ImageRecord) → length parts ≤ MOST_SEGMENTS → memory_size (segments_of parts) ≤ MOST_MEMORY → within_limits (segments_of parts) image ≡ Ok image
limits-kept parts image few small =
    limits-few parts image few ∙ ap (λ (t : Bool). cond t (Err (TooLarge Memory (memory_size (segments_of parts)))) (Ok image)) (le-ltb MOST_MEMORY (memory_size (segments_of parts)) small)

-- What a text is: bad, too large, or an image.

abbrev Result_of : List (List ℕ) → Result ImageRecord ImageFault → Type 0
Result_of lines r = image_of_lines lines ≡ r

abbrev Means : List (List ℕ) → ImageRecord → Type 0
Means lines image = (es : List Entry) × AreLines lines es × IsImageOf es image

data Answer (lines : List (List ℕ)) : Type 0 where
  is_bad : (number : ℕ) (why : Why) → Result_of lines (Err (Bad number why)) → IsBad lines number why → Answer lines
  has_many : (size : ℕ) → Result_of lines (Err (TooLarge Segments size)) → HaveSegments AreLines AreTooMany lines size → Answer lines
  is_large : (size : ℕ) → Result_of lines (Err (TooLarge Memory size)) → HaveSegments AreLines AreTooLarge lines size → Answer lines
  is_image : (i : ImageRecord) → Result_of lines (Ok i) → Means lines i → Answer lines

answer_of_lines : (lines : List (List ℕ)) (es : List Entry) → AreLines lines es → Answer lines
answer_of_lines lines es a =
    elim (cases_Bool (has_text ss)) [
      | inl some ↦ elim (cases_Bool (nat_lt MOST_SEGMENTS (length ps))) [
        | inl many ↦
            let over = ltb-true MOST_SEGMENTS (length ps) many in
            has_many (length ps) (g.is ∙ whole-text (length lines + 1) ps d.pcs d.sps some ∙ limits-segments ps i over) (es, a, record { text = some; count = refl; many = over })
        | inr few ↦ elim (cases_Bool (nat_lt MOST_MEMORY (memory_size ss))) [
          | inl large ↦
              let within = ltb-false MOST_SEGMENTS (length ps) few in
              let over = ltb-true MOST_MEMORY (memory_size ss) large in
              is_large (memory_size ss) (g.is ∙ whole-text (length lines + 1) ps d.pcs d.sps some ∙ limits-memory ps i within over) (es, a, record { text = some; few = within; count = refl; large = over })
          | inr small ↦
              let within = ltb-false MOST_SEGMENTS (length ps) few in
              let fits = ltb-false MOST_MEMORY (memory_size ss) small in
              is_image i (g.is ∙ whole-text (length lines + 1) ps d.pcs d.sps some ∙ limits-kept ps i within fits) (
                es,
                a,
                record {
                  text = some;
                  few = within;
                  small = fits;
                  parts = refl;
                  pcs = g.is_draft.pcs;
                  sps = g.is_draft.sps;
                },
              )
        ]
      ]
      | inr none ↦ is_bad (length lines + 1) NoText (g.is ∙ whole-no_text (length lines + 1) ps d.pcs d.sps none) (inr (inr (es, a, none, refl, refl)))
    ]
  where
    g : Gives lines es
    g = gives lines es a

    d : Draft
    d = g.draft

    ps : List Part
    ps = parts_in es

    ss : List Segment
    ss = segments_of (parts_in es)

    i : ImageRecord
    i = built (parts_in es) g.draft.pcs g.draft.sps

header_missing : (l : List ℕ) (ls : List (List ℕ)) → is_header (words_of l) ≡ false → HasNoHeader (l ∷ ls)
header_missing l ls no_ = record {
  none = λ m ms e. let same : l ≡ m = cc in subst (λ (k : List ℕ). is_header (words_of k) ≡ false) same no_;
}

answer_of : (lines : List (List ℕ)) → Answer lines
answer_of [] =
    let h : HasNoHeader [] = record { none = λ l ls e. absurd (cc) } in
    is_bad 1 Header (no_header [] h) (inl (h, refl, refl))
answer_of (l ∷ ls) = by (is_header (words_of l)) refl
  where
    by : (t : Bool) → is_header (words_of l) ≡ t → Answer (l ∷ ls)
    by false no_ = let h = header_missing l ls no_ in is_bad 1 Header (no_header (l ∷ ls) h) (inl (h, refl, refl))
    by true yes_ =
        elim (cases_lines [] ls) [
          | inl r ↦ answer_of_lines (l ∷ ls) r.entries (record { header = l; rest = ls; split = refl; is_header = yes_; right = record { reads = r.reads; allowed = r.allowed } })
          | inr w ↦
              let b : IsFirstBad (l ∷ ls) (length w.right + 2) w.why = record {
                header = l;
                before = w.right;
                line = w.line;
                after = w.after;
                split = ap (λ (ms : List (List ℕ)). l ∷ ms) w.split;
                is_header = yes_;
                place = refl;
                entries = w.entries;
                right = record { reads = w.reads; allowed = w.allowed };
                wrong = w.wrong;
              } in
              is_bad (length w.right + 2) w.why (first_bad (l ∷ ls) (length w.right + 2) w.why b) (inr (inl b))
        ]

-- The laws.

bad_same : (m n : ℕ) (v w : Why) (r : Result ImageRecord ImageFault) → r ≡ Err (Bad m v) → r ≡ Err (Bad n w) → (m ≡ n) × (v ≡ w)
bad_same m n v w r e f =
    let both : ◌≡◌ {A = Result ImageRecord ImageFault} (Err (Bad m v)) (Err (Bad n w)) = sym e ∙ f in
    (cc, cc)

bad_there : (lines : List (List ℕ)) (number : ℕ) (why : Why) → Result_of lines (Err (Bad number why)) → Answer lines → IsBad lines number why
bad_there lines number why is (is_bad n w there cause) =
    let same = bad_same n number w why (image_of_lines lines) there is in
    subst (λ (k : ℕ). IsBad lines k why) same.0 (subst (λ (v : Why). IsBad lines n v) same.1 cause)
bad_there lines number why is (has_many k there cause) = absurd (cc)
bad_there lines number why is (is_large k there cause) = absurd (cc)
bad_there lines number why is (is_image i2 there cause) = absurd (cc)

bad_back : (lines : List (List ℕ)) (number : ℕ) (why : Why) → IsBad lines number why → Result_of lines (Err (Bad number why))
bad_back lines number why (inl h) = no_header lines h.0 ∙ ap (λ (n : ℕ). Err (Bad n Header)) (sym h.1) ∙ ap (λ (w : Why). Err (Bad number w)) (sym h.2)
bad_back lines number why (inr (inl b)) = first_bad lines number why b
bad_back lines number why (inr (inr n)) =
    let g = gives lines n.0 n.1 in
    g.is ∙ whole-no_text (length lines + 1) (parts_in n.0) g.draft.pcs g.draft.sps n.2 ∙ ap (λ (k : ℕ). Err (Bad k NoText)) (sym n.3) ∙ ap (λ (w : Why). Err (Bad number w)) (sym n.4)

pub names_the_first_bad_line : NamesTheFirstBadLine
names_the_first_bad_line text number why = (λ is. bad_there (lines_of text) number why is (answer_of (lines_of text)), λ b. bad_back (lines_of text) number why b)

image_there : (lines : List (List ℕ)) (i : ImageRecord) → Result_of lines (Ok i) → Answer lines → Means lines i
image_there lines i is (is_bad n w there cause) = absurd (cc)
image_there lines i is (has_many k there cause) = absurd (cc)
image_there lines i is (is_large k there cause) = absurd (cc)
image_there lines i is (is_image j there cause) = let same : j ≡ i = ok_same j i (image_of_lines lines) there is in subst (λ (k : ImageRecord). Means lines k) same cause
  where
    ok_same : (x y : ImageRecord) (r : Result ImageRecord ImageFault) → r ≡ Ok x → r ≡ Ok y → x ≡ y
    ok_same x y r e f = cc

pub is_what_the_lines_mean : IsWhatTheLinesMean
is_what_the_lines_mean text i is = image_there (lines_of text) i is (answer_of (lines_of text))

size_same : (w : What) (m n : ℕ) (r : Result ImageRecord ImageFault) → r ≡ Err (TooLarge w m) → r ≡ Err (TooLarge w n) → m ≡ n
size_same w m n r e f = cc

segments_there : (lines : List (List ℕ)) (size : ℕ) → Result_of lines (Err (TooLarge Segments size)) → Answer lines → HaveSegments AreLines AreTooMany lines size
segments_there lines size is (is_bad n w there cause) = absurd (cc)
segments_there lines size is (has_many k there cause) = subst (λ (n : ℕ). HaveSegments AreLines AreTooMany lines n) (size_same Segments k size (image_of_lines lines) there is) cause
segments_there lines size is (is_large k there cause) = absurd (cc)
segments_there lines size is (is_image i2 there cause) = absurd (cc)

memory_there : (lines : List (List ℕ)) (size : ℕ) → Result_of lines (Err (TooLarge Memory size)) → Answer lines → HaveSegments AreLines AreTooLarge lines size
memory_there lines size is (is_bad n w there cause) = absurd (cc)
memory_there lines size is (has_many k there cause) = absurd (cc)
memory_there lines size is (is_large k there cause) = subst (λ (n : ℕ). HaveSegments AreLines AreTooLarge lines n) (size_same Memory k size (image_of_lines lines) there is) cause
memory_there lines size is (is_image i2 there cause) = absurd (cc)

segments_back : (lines : List (List ℕ)) (size : ℕ) → HaveSegments AreLines AreTooMany lines size → Result_of lines (Err (TooLarge Segments size))
segments_back lines size o =
    let g = gives lines o.0 o.1 in
    let ps = parts_in o.0 in
    let over : MOST_SEGMENTS < length ps = omega (arith, o.2.count, o.2.many) in
    g.is ∙ whole-text (length lines + 1) ps g.draft.pcs g.draft.sps o.2.text ∙ limits-segments ps (built ps g.draft.pcs g.draft.sps) over ∙ ap (λ (n : ℕ). Err (TooLarge Segments n)) (sym o.2.count)

memory_back : (lines : List (List ℕ)) (size : ℕ) → HaveSegments AreLines AreTooLarge lines size → Result_of lines (Err (TooLarge Memory size))
memory_back lines size o =
    let g = gives lines o.0 o.1 in
    let ps = parts_in o.0 in
    let over : MOST_MEMORY < memory_size (segments_of ps) = omega (arith, o.2.count, o.2.large) in
    g.is ∙ whole-text (length lines + 1) ps g.draft.pcs g.draft.sps o.2.text ∙ limits-memory ps (built ps g.draft.pcs g.draft.sps) o.2.few over ∙ ap (λ (n : ℕ). Err (TooLarge Memory n)) (sym o.2.count)

pub counts_its_memory : CountsItsMemory
counts_its_memory text size = (
  (λ is. segments_there (lines_of text) size is (answer_of (lines_of text)), λ o. segments_back (lines_of text) size o),
  (λ is. memory_there (lines_of text) size is (answer_of (lines_of text)), λ o. memory_back (lines_of text) size o),
)
