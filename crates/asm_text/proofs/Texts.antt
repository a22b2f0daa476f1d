-- The laws of sources.
use Rattle.std.proofs.Common.{◌≡◌, ℕ, ◌+◌, ◌<◌, ◌≤◌, ◌⊎◌, inl, inr, Bool, true, false, cond, nat_lt, List, [], ◌∷◌, ◌++◌, length, reverse, Result, Ok, Err, refl, sym, ap, subst, ◌∙◌}
use Rattle.std.proofs.lemmas.Bool.{cases_Bool, ltb-true, ltb-false, lt-ltb, le-ltb}
use Rattle.std.specs.Prelude.{◌↔◌}
use Rattle.mach_base.specs.declared.event.What.{What}
use Rattle.mach_base.specs.declared.event.What.TheVariants.{Segments, Memory, SourceBytes}
use Rattle.mach_base.specs.declared.limits.TheConstants.{MOST_SEGMENTS, MOST_MEMORY, SOURCE_BYTES}
use Rattle.mach_base.specs.Lines.{lines_of, words_of}
use Rattle.mach_base.specs.Machine.{Part, memory_size}
use Rattle.mach_base.specs.Sequence.{◌>>=◌}
use Rattle.mem_map.specs.Parts.{segments_of}
use Rattle.img_text.specs.declared.fault.Why.{Why}
use Rattle.img_text.specs.declared.fault.Why.TheVariants.{NoText}
use Rattle.img_text.specs.declared.fault.ImageFault.{ImageFault}
use Rattle.img_text.specs.declared.fault.ImageFault.TheVariants as image_faults
use Rattle.img_text.specs.Image.{ImageRecord}
use Rattle.img_text.specs.Reading.{Draft, at_line, read_line, read_lines, has_text, whole_image, image_of_lines}
use Rattle.img_text.specs.Grammar.{Entry, AreLines as AreImageLines, IsBad as IsImageBad, IsImageOf, AreTooMany, AreTooLarge, HaveSegments}
use Rattle.img_text.proofs.Grammar.{names_the_first_bad_line as image_names, is_what_the_lines_mean as image_means, counts_its_memory as image_counts}
use Rattle.asm_text.specs.declared.fault.SourceFault.{SourceFault}
use Rattle.asm_text.specs.declared.fault.SourceFault.TheVariants.{Bad, TooLarge}
use Rattle.asm_text.specs.Reading.{as_source, is_header, lines_for, lines_text, source_of, source_of_lines}
use Rattle.asm_text.specs.Grammar.{AreLines, HasNoHeader, no_line, another, IsBad, NamesTheFirstBadLine, IsWhatTheLinesMean, CountsItsMemory}
use Rattle.asm_text.proofs.Clear.{AreClear, lines_of-clear, lines_of-source}
use Rattle.asm_text.proofs.Grammar.{whole_image_lines, bad_to_image, bad_from_image, lines_to_image, lines_from_image}

-- ---- the laws of images, of the lines that stand for a source's

bad_law : (ls : List (List ℕ)) → AreClear ls → (number : ℕ) (why : Why) → (image_of_lines (whole_image_lines ls) ≡ Err (image_faults.Bad number why)) ↔ IsImageBad (whole_image_lines ls) number why
bad_law ls clear number why =
    subst (λ (xs : List (List ℕ)). (image_of_lines xs ≡ Err (image_faults.Bad number why)) ↔ IsImageBad xs number why) (lines_of-source ls clear) (image_names (lines_text (whole_image_lines ls)) number why)

mean_law : (ls : List (List ℕ)) → AreClear ls → (image : ImageRecord) → image_of_lines (whole_image_lines ls) ≡ Ok image → (es : List Entry) × AreImageLines (whole_image_lines ls) es × IsImageOf es image
mean_law ls clear image =
    subst (λ (xs : List (List ℕ)). image_of_lines xs ≡ Ok image → (es : List Entry) × AreImageLines xs es × IsImageOf es image) (lines_of-source ls clear) (image_means (lines_text (whole_image_lines ls)) image)

segments_law : (ls : List (List ℕ)) → AreClear ls → (size : ℕ) → (image_of_lines (whole_image_lines ls) ≡ Err (image_faults.TooLarge Segments size)) ↔ HaveSegments AreImageLines AreTooMany (whole_image_lines ls) size
segments_law ls clear size =
    subst (λ (xs : List (List ℕ)). (image_of_lines xs ≡ Err (image_faults.TooLarge Segments size)) ↔ HaveSegments AreImageLines AreTooMany xs size) (lines_of-source ls clear) (image_counts (lines_text (whole_image_lines ls)) size).0

memory_law : (ls : List (List ℕ)) → AreClear ls → (size : ℕ) → (image_of_lines (whole_image_lines ls) ≡ Err (image_faults.TooLarge Memory size)) ↔ HaveSegments AreImageLines AreTooLarge (whole_image_lines ls) size
memory_law ls clear size =
    subst (λ (xs : List (List ℕ)). (image_of_lines xs ≡ Err (image_faults.TooLarge Memory size)) ↔ HaveSegments AreImageLines AreTooLarge xs size) (lines_of-source ls clear) (image_counts (lines_text (whole_image_lines ls)) size).1

-- an image has no limit of a source's bytes
no_source_bytes : (number : ℕ) (draft : Draft) (ls : List (List ℕ)) (size : ℕ) → read_lines number draft ls ≡ Err (image_faults.TooLarge SourceBytes size) → ⊥
unfolding read_lines whole_image
no_source_bytes number draft [] size is = by (has_text (segments_of (reverse draft.parts))) (nat_lt MOST_SEGMENTS (length (segments_of (reverse draft.parts)))) (nat_lt MOST_MEMORY (memory_size (segments_of (reverse draft.parts)))) _ _ _ is
  where
    by : (t u v : Bool) (many large : ℕ) (image : ImageRecord) → cond t (cond u (Err (image_faults.TooLarge Segments many)) (cond v (Err (image_faults.TooLarge Memory large)) (Ok image))) (Err (image_faults.Bad number NoText)) ≡ Err (image_faults.TooLarge SourceBytes size) → ⊥
    by true true v many large image e = absurd (cc)
    by true false true many large image e = absurd (cc)
    by true false false many large image e = absurd (cc)
    by false u v many large image e = absurd (cc)
no_source_bytes number draft (l ∷ ls) size is = by (read_line draft l) (λ next e. no_source_bytes (number + 1) next ls size e) is
  where
    by : (r : Result Draft Why) → ((next : Draft) → read_lines (number + 1) next ls ≡ Err (image_faults.TooLarge SourceBytes size) → ⊥) → (at_line number r >>= λ next. read_lines (number + 1) next ls) ≡ Err (image_faults.TooLarge SourceBytes size) → ⊥
    by (Ok next) rest e = rest next e
    by (Err why) rest e = absurd (cc)

-- ---- texts and their lines

source_short : (text : List ℕ) → length text ≤ SOURCE_BYTES → source_of text ≡ source_of_lines (lines_of text)
source_short text short = ap (λ (t : Bool). cond t (Err (TooLarge SourceBytes (length text))) (source_of_lines (lines_of text))) (le-ltb SOURCE_BYTES (length text) short)

source_long : (text : List ℕ) → SOURCE_BYTES < length text → source_of text ≡ Err (TooLarge SourceBytes (length text))
source_long text long = ap (λ (t : Bool). cond t (Err (TooLarge SourceBytes (length text))) (source_of_lines (lines_of text))) (lt-ltb SOURCE_BYTES (length text) long)

no_header : (lines : List (List ℕ)) → HasNoHeader lines → source_of_lines lines ≡ Err (Bad 1)
unfolding source_of_lines
no_header lines no_line = refl
no_header lines (another l ls other) = ap (λ (t : Bool). cond t (as_source (image_of_lines (whole_image_lines ls))) (Err (Bad 1))) other

with_header : (first : List ℕ) (ls : List (List ℕ)) → is_header (words_of first) ≡ true → source_of_lines (first ∷ ls) ≡ as_source (image_of_lines (whole_image_lines ls))
unfolding source_of_lines
with_header first ls header = ap (λ (t : Bool). cond t (as_source (image_of_lines (whole_image_lines ls))) (Err (Bad 1))) header

-- what the lines of the image give, where there is a first line
record Inside (lines : List (List ℕ)) (r : Result ImageRecord ImageFault) : Type 0 where
  first : List ℕ
  others : List (List ℕ)
  split : lines ≡ first ∷ others
  header : is_header (words_of first) ≡ true
  is : image_of_lines (whole_image_lines others) ≡ r

cases_lines : (lines : List (List ℕ)) → HasNoHeader lines ⊎ ((r : Result ImageRecord ImageFault) × Inside lines r × (source_of_lines lines ≡ as_source r))
cases_lines [] = inl no_line
cases_lines (l ∷ ls) =
    elim (cases_Bool (is_header (words_of l))) [
      | inl header ↦ inr (image_of_lines (whole_image_lines ls), record { first = l; others = ls; split = refl; header = header; is = refl }, with_header l ls header)
      | inr other ↦ inl (another l ls other)
    ]

ok_same : (i j : ImageRecord) → ◌≡◌ {A = Result ImageRecord SourceFault} (Ok i) (Ok j) → i ≡ j
ok_same i j e = cc

inside_ok : (lines : List (List ℕ)) (image : ImageRecord) → source_of_lines lines ≡ Ok image → Inside lines (Ok image)
inside_ok lines image is =
    elim (cases_lines lines) [
      | inl none ↦ let bad = no_header lines none in absurd (cc)
      | inr some ↦ by some.0 some.1 (sym some.2 ∙ is)
    ]
  where
    by : (r : Result ImageRecord ImageFault) → Inside lines r → as_source r ≡ Ok image → Inside lines (Ok image)
    by (Ok i) inside e = subst (λ (j : ImageRecord). Inside lines (Ok j)) (ok_same i image e) inside
    by (Err fault) inside e = absurd (cc)

large_same : (v w : What) (m n : ℕ) → ◌≡◌ {A = Result ImageRecord SourceFault} (Err (TooLarge v m)) (Err (TooLarge w n)) → (v ≡ w) × (m ≡ n)
large_same v w m n e = (cc, cc)

inside_large : (lines : List (List ℕ)) (what : What) (size : ℕ) → source_of_lines lines ≡ Err (TooLarge what size) → Inside lines (Err (image_faults.TooLarge what size))
inside_large lines what size is =
    elim (cases_lines lines) [
      | inl none ↦ let bad = no_header lines none in absurd (cc)
      | inr some ↦ by some.0 some.1 (sym some.2 ∙ is)
    ]
  where
    by : (r : Result ImageRecord ImageFault) → Inside lines r → as_source r ≡ Err (TooLarge what size) → Inside lines (Err (image_faults.TooLarge what size))
    by (Ok i) inside e = absurd (cc)
    by (Err (image_faults.Bad n why)) inside e = absurd (cc)
    by (Err (image_faults.TooLarge w n)) inside e =
        let same = large_same w what n size e in
        subst (λ (v : What). Inside lines (Err (image_faults.TooLarge v size))) same.0 (subst (λ (m : ℕ). Inside lines (Err (image_faults.TooLarge w m))) same.1 inside)
    by (Err image_faults.OutOfMemory) inside e = absurd (cc)

bad_same : (m n : ℕ) → ◌≡◌ {A = Result ImageRecord SourceFault} (Err (Bad m)) (Err (Bad n)) → m ≡ n
bad_same m n e = cc

rest_is_clear : (lines : List (List ℕ)) (r : Result ImageRecord ImageFault) → AreClear lines → (inside : Inside lines r) → AreClear inside.others
rest_is_clear lines r clear inside = (subst AreClear inside.split clear).1

-- ---- the first bad line

lines_bad : (lines : List (List ℕ)) → AreClear lines → (number : ℕ) → source_of_lines lines ≡ Err (Bad number) → IsBad lines number
lines_bad lines clear number is =
    elim (cases_lines lines) [
      | inl none ↦ inl (none, sym (bad_same 1 number (sym (no_header lines none) ∙ is)))
      | inr some ↦ by some.0 some.1 (sym some.2 ∙ is)
    ]
  where
    by : (r : Result ImageRecord ImageFault) → Inside lines r → as_source r ≡ Err (Bad number) → IsBad lines number
    by (Ok i) inside e = absurd (cc)
    by (Err (image_faults.Bad n why)) inside e =
        let same = bad_same n number e in
        let bad : IsImageBad (whole_image_lines inside.others) number why =
        (bad_law inside.others (rest_is_clear lines _ clear inside) number why).0 (inside.is ∙ ap (λ (m : ℕ). Err (image_faults.Bad m why)) same) in
        subst (λ (xs : List (List ℕ)). IsBad xs number) (sym inside.split) (bad_from_image inside.first inside.others number why inside.header bad)
    by (Err (image_faults.TooLarge w n)) inside e = absurd (cc)
    by (Err image_faults.OutOfMemory) inside e = absurd (cc)

has_none : (lines : List (List ℕ)) → HasNoHeader lines → (l : List ℕ) (ls : List (List ℕ)) → lines ≡ l ∷ ls → is_header (words_of l) ≡ true → ⊥
has_none lines no_line l ls split header = absurd (cc)
has_none lines (another k ks other) l ls split header =
    let same : k ≡ l = heads k l ks ls split in
    let wrong : is_header (words_of k) ≡ true = subst (λ (x : List ℕ). is_header (words_of x) ≡ true) (sym same) header in
    absurd (cc)
  where
    heads : (x y : List ℕ) (xs ys : List (List ℕ)) → x ∷ xs ≡ y ∷ ys → x ≡ y
    heads x y xs ys e = cc

-- lines without a first line have no other fault
only_header : (lines : List (List ℕ)) (number : ℕ) → HasNoHeader lines → IsBad lines number → number ≡ 1
only_header lines number none (inl h) = h.1
only_header lines number none (inr (inl b)) = absurd (has_none lines none b.header (b.before ++ b.line ∷ b.after) b.split b.is_header)
only_header lines number none (inr (inr n)) = absurd (has_none lines none n.1.header n.1.rest n.1.split n.1.is_header)

lines_bad_back : (lines : List (List ℕ)) → AreClear lines → (number : ℕ) → IsBad lines number → source_of_lines lines ≡ Err (Bad number)
lines_bad_back lines clear number bad =
    elim (cases_lines lines) [
      | inl none ↦ no_header lines none ∙ ap (λ (n : ℕ). Err (Bad n)) (sym (only_header lines number none bad))
      | inr some ↦ by some.0 some.1 some.2
    ]
  where
    by : (r : Result ImageRecord ImageFault) → Inside lines r → source_of_lines lines ≡ as_source r → source_of_lines lines ≡ Err (Bad number)
    by r inside e =
        let there = bad_to_image inside.first inside.others number inside.header (subst (λ (xs : List (List ℕ)). IsBad xs number) inside.split bad) in
        let is = (bad_law inside.others (rest_is_clear lines r clear inside) number there.0).1 there.1 in
        e ∙ ap as_source (sym inside.is ∙ is)

pub names_the_first_bad_line : NamesTheFirstBadLine
names_the_first_bad_line text number = (λ is. there is, λ both. source_short text both.0 ∙ lines_bad_back (lines_of text) (lines_of-clear text) number both.1)
  where
    there : source_of text ≡ Err (Bad number) → (length text ≤ SOURCE_BYTES) × IsBad (lines_of text) number
    there is =
        elim (cases_Bool (nat_lt SOURCE_BYTES (length text))) [
          | inl long ↦ let large = source_long text (ltb-true SOURCE_BYTES (length text) long) in absurd (cc)
          | inr short ↦
              let few = ltb-false SOURCE_BYTES (length text) short in
              (few, lines_bad (lines_of text) (lines_of-clear text) number (sym (source_short text few) ∙ is))
        ]

-- ---- the image

pub is_what_the_lines_mean : IsWhatTheLinesMean
is_what_the_lines_mean text image is =
    elim (cases_Bool (nat_lt SOURCE_BYTES (length text))) [
      | inl long ↦ let large = source_long text (ltb-true SOURCE_BYTES (length text) long) in absurd (cc)
      | inr short ↦
          let few = ltb-false SOURCE_BYTES (length text) short in
          let i = inside_ok (lines_of text) image (sym (source_short text few) ∙ is) in
          let m = mean_law i.others (rest_is_clear (lines_of text) (Ok image) (lines_of-clear text) i) image i.is in
          (m.0, subst (λ (xs : List (List ℕ)). AreLines xs m.0) (sym i.split) (lines_from_image i.first i.others m.0 i.header m.1), m.2)
    ]

-- ---- counts

no_more_bytes : (lines : List (List ℕ)) (size : ℕ) → source_of_lines lines ≡ Err (TooLarge SourceBytes size) → ⊥
unfolding image_of_lines read_lines words_of
no_more_bytes lines size is =
    let i = inside_large lines SourceBytes size is in
    no_source_bytes 2 _ (lines_for i.others) size i.is

bytes_there : (text : List ℕ) (size : ℕ) → source_of text ≡ Err (TooLarge SourceBytes size) → (size ≡ length text) × (SOURCE_BYTES < length text)
bytes_there text size is =
    elim (cases_Bool (nat_lt SOURCE_BYTES (length text))) [
      | inl long ↦
          let many = ltb-true SOURCE_BYTES (length text) long in
          ((large_same SourceBytes SourceBytes size (length text) (sym is ∙ source_long text many)).1, many)
      | inr short ↦ absurd (no_more_bytes (lines_of text) size (sym (source_short text (ltb-false SOURCE_BYTES (length text) short)) ∙ is))
    ]

-- the lines of the image that stand for lines that are right
lines_in : (lines : List (List ℕ)) (es : List Entry) (a : AreLines lines es) → AreImageLines (whole_image_lines a.rest) es
lines_in lines es a = lines_to_image a.header a.rest es (subst (λ (xs : List (List ℕ)). AreLines xs es) a.split a)

is_there : (lines : List (List ℕ)) (es : List Entry) (a : AreLines lines es) → source_of_lines lines ≡ as_source (image_of_lines (whole_image_lines a.rest))
is_there lines es a = ap source_of_lines a.split ∙ with_header a.header a.rest a.is_header

-- what images say of a count over its limit
abbrev ImageCounts : What → (List Part → ℕ → Type 0) → Type 0
ImageCounts what Are =
    (ls : List (List ℕ)) → AreClear ls → (size : ℕ) →
    (image_of_lines (whole_image_lines ls) ≡ Err (image_faults.TooLarge what size)) ↔ HaveSegments AreImageLines Are (whole_image_lines ls) size

count_there : (what : What) (Are : List Part → ℕ → Type 0) → (SourceBytes ≡ what → ⊥) → ImageCounts what Are
    → (text : List ℕ) (size : ℕ) → source_of text ≡ Err (TooLarge what size) → (length text ≤ SOURCE_BYTES) × HaveSegments AreLines Are (lines_of text) size
count_there what Are other law text size is =
    elim (cases_Bool (nat_lt SOURCE_BYTES (length text))) [
      | inl long ↦ absurd (other (large_same SourceBytes what (length text) size (sym (source_long text (ltb-true SOURCE_BYTES (length text) long)) ∙ is)).0)
      | inr short ↦
          let few = ltb-false SOURCE_BYTES (length text) short in
          let i = inside_large (lines_of text) what size (sym (source_short text few) ∙ is) in
          let h = (law i.others (rest_is_clear (lines_of text) _ (lines_of-clear text) i) size).0 i.is in
          (few, subst (λ (xs : List (List ℕ)). HaveSegments AreLines Are xs size) (sym i.split) (h.0, lines_from_image i.first i.others h.0 i.header h.1, h.2))
    ]

count_back : (what : What) (Are : List Part → ℕ → Type 0) → ImageCounts what Are → (text : List ℕ) (size : ℕ) → (length text ≤ SOURCE_BYTES) × HaveSegments AreLines Are (lines_of text) size
    → source_of text ≡ Err (TooLarge what size)
count_back what Are law text size both =
    let h = both.1 in
    let clear : AreClear h.1.rest = (subst AreClear h.1.split (lines_of-clear text)).1 in
    source_short text both.0 ∙ is_there (lines_of text) h.0 h.1 ∙ ap as_source ((law h.1.rest clear size).1 (h.0, lines_in (lines_of text) h.0 h.1, h.2))

pub counts_its_memory : CountsItsMemory
counts_its_memory text size = (
  (λ is. bytes_there text size is, λ both. source_long text both.1 ∙ ap (λ (n : ℕ). Err (TooLarge SourceBytes n)) (sym both.0)),
  (λ is. count_there Segments AreTooMany (λ (e : SourceBytes ≡ Segments). absurd (cc)) segments_law text size is, λ both. count_back Segments AreTooMany segments_law text size both),
  (λ is. count_there Memory AreTooLarge (λ (e : SourceBytes ≡ Memory). absurd (cc)) memory_law text size is, λ both. count_back Memory AreTooLarge memory_law text size both),
)
