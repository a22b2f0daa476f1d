-- What reading a source gives is what its grammar says.
use Rattle.std.proofs.Common.{◌≡◌, ℕ, suc, ◌+◌, inl, inr, true, List, [], ◌∷◌, ◌++◌, length, Option, Some, None, Result, Ok, Err, refl, sym, ap, subst, ◌∙◌, arith}
use Rattle.std.specs.List.{cons_option}
use Rattle.mach_base.specs.Lines.{words_of}
use Rattle.img_text.specs.declared.fault.Why.{Why}
use Rattle.img_text.specs.declared.fault.Why.TheVariants.{NoText}
use Rattle.img_text.specs.Directives.{line_of}
use Rattle.img_text.specs.Reading.{is_header as is_image_header}
use Rattle.img_text.specs.Grammar.{Entry, Reads as ImageReads, nothing as no_more, skipped, one_more as entry_more, AreLines as AreImageLines, IsWrong as IsImageWrong, IsFirstBad as IsImageFirstBad, IsBad as IsImageBad}
use Rattle.asm_text.specs.Kinds.{place_after}
use Rattle.asm_text.specs.Labels.{Labels, labels_of}
use Rattle.asm_text.specs.Reading.{is_header, image_header, image_line, image_lines, lines_for}
use Rattle.asm_text.specs.Grammar.{Reads, nothing, one_more, place_behind, AreLines, IsWrong, HasNoHeader, another, IsFirstBad, IsBad}
use Rattle.asm_text.proofs.Standing.{line_reads, line_from}

-- ---- lines in order

reads_more : (k : List ℕ) (ks : List (List ℕ)) (e : Option Entry) (es : List Entry) → line_of (words_of k) ≡ Ok e → ImageReads ks es → ImageReads (k ∷ ks) (cons_option e es)
reads_more k ks None es is more = skipped k ks es is more
reads_more k ks (Some e) es is more = entry_more k ks e es is more

-- what lines put, the lines of the image put
pub reads_image : (labels : Labels) (number : ℕ) (place : Option ℕ) (ls : List (List ℕ)) (es : List Entry) → Reads labels number place ls es → ImageReads (image_lines labels number place ls) es
unfolding image_lines
reads_image labels number place ls es (nothing n p) = no_more
reads_image labels number place ls es (one_more n p l rest e more is reads) =
    reads_more (image_line labels n p l) (image_lines labels (n + 1) (place_after p (words_of l)) rest) e more (line_reads labels n p l e is) (reads_image labels (n + 1) (place_after p (words_of l)) rest more reads)

-- the first of lines and the others
record IsFirst (k : List ℕ) (ks : List (List ℕ)) (es : List Entry) : Type 0 where
  entry : Option Entry
  others : List Entry
  is : line_of (words_of k) ≡ Ok entry
  reads : ImageReads ks others
  joined : cons_option entry others ≡ es

first_of : (k : List ℕ) (ks : List (List ℕ)) (es : List Entry) → ImageReads (k ∷ ks) es → IsFirst k ks es
first_of k ks es (skipped l ls more is reads) = record { entry = None; others = more; is = is; reads = reads; joined = refl }
first_of k ks es (entry_more l ls e more is reads) = record { entry = Some e; others = more; is = is; reads = reads; joined = refl }

none_of : (es : List Entry) → ImageReads [] es → es ≡ []
none_of es no_more = refl

-- what the lines of the image put, the lines put
pub reads_source : (labels : Labels) (number : ℕ) (place : Option ℕ) (ls : List (List ℕ)) (es : List Entry) → ImageReads (image_lines labels number place ls) es → Reads labels number place ls es
unfolding image_lines
reads_source labels number place [] es reads = subst (λ (xs : List Entry). Reads labels number place [] xs) (sym (none_of es reads)) (nothing number place)
reads_source labels number place (l ∷ ls) es reads =
    let f = first_of (image_line labels number place l) (image_lines labels (number + 1) (place_after place (words_of l)) ls) es reads in
    subst (λ (xs : List Entry). Reads labels number place (l ∷ ls) xs) f.joined
    (one_more number place l ls f.entry f.others (line_from labels number place l f.entry f.is) (reads_source labels (number + 1) (place_after place (words_of l)) ls f.others f.reads))

length_image_lines : (labels : Labels) (number : ℕ) (place : Option ℕ) (ls : List (List ℕ)) → length (image_lines labels number place ls) ≡ length ls
unfolding image_lines
length_image_lines labels number place [] = refl
length_image_lines labels number place (l ∷ ls) = ap (λ (n : ℕ). suc n) (length_image_lines labels (number + 1) (place_after place (words_of l)) ls)

-- lines before one, it, and those after it
split_image_lines : (labels : Labels) (number : ℕ) (place : Option ℕ) (before : List (List ℕ)) (l : List ℕ) (after : List (List ℕ)) → image_lines labels number place (before ++ l ∷ after) ≡ image_lines labels number place before ++ image_line labels (number + length before) (place_behind place before) l ∷ image_lines labels (number + length before + 1) (place_after (place_behind place before) (words_of l)) after
unfolding image_lines
split_image_lines labels number place [] l after =
    let here : number ≡ number + 0 = omega arith in
    ap (λ (n : ℕ). image_line labels n place l ∷ image_lines labels (n + 1) (place_after place (words_of l)) after) here
split_image_lines labels number place (b ∷ bs) l after =
    let further : number + 1 + length bs ≡ number + suc (length bs) = omega arith in
    ap (λ (ks : List (List ℕ)). image_line labels number place b ∷ ks) (split_image_lines labels (number + 1) (place_after place (words_of b)) bs l after)
    ∙ ap (λ (n : ℕ). image_line labels number place b ∷ (image_lines labels (number + 1) (place_after place (words_of b)) bs ++ image_line labels n (place_behind (place_after place (words_of b)) bs) l ∷ image_lines labels (n + 1) (place_after (place_behind (place_after place (words_of b)) bs) (words_of l)) after)) further

-- the lines that a line of the image and those before it stand for
record IsCut (labels : Labels) (number : ℕ) (place : Option ℕ) (ls : List (List ℕ)) (ks : List (List ℕ)) (k : List ℕ) : Type 0 where
  before : List (List ℕ)
  line : List ℕ
  after : List (List ℕ)
  split : ls ≡ before ++ line ∷ after
  first : ks ≡ image_lines labels number place before
  is : k ≡ image_line labels (number + length before) (place_behind place before) line

cons_same : (k m : List ℕ) (ks ms : List (List ℕ)) → k ∷ ks ≡ m ∷ ms → (k ≡ m) × (ks ≡ ms)
cons_same k m ks ms e = (cc, cc)

cut_at : (labels : Labels) (number : ℕ) (place : Option ℕ) (ls ks : List (List ℕ)) (k : List ℕ) (more : List (List ℕ)) → image_lines labels number place ls ≡ ks ++ k ∷ more → IsCut labels number place ls ks k
unfolding image_lines
cut_at labels number place [] [] k more is = absurd (cc)
cut_at labels number place [] (m ∷ ms) k more is = absurd (cc)
cut_at labels number place (l ∷ ls) [] k more is =
    let same = cons_same (image_line labels number place l) k (image_lines labels (number + 1) (place_after place (words_of l)) ls) more is in
    let here : number ≡ number + 0 = omega arith in
    record { before = []; line = l; after = ls; split = refl; first = refl; is = sym same.0 ∙ ap (λ (n : ℕ). image_line labels n place l) here }
cut_at labels number place (l ∷ ls) (m ∷ ms) k more is =
    let same = cons_same (image_line labels number place l) m (image_lines labels (number + 1) (place_after place (words_of l)) ls) (ms ++ k ∷ more) is in
    let c = cut_at labels (number + 1) (place_after place (words_of l)) ls ms k more same.1 in
    let further : number + 1 + length c.before ≡ number + suc (length c.before) = omega arith in
    record {
      before = l ∷ c.before;
      line = c.line;
      after = c.after;
      split = ap (λ (xs : List (List ℕ)). l ∷ xs) c.split;
      first = ap (λ (x : List ℕ). x ∷ ms) (sym same.0) ∙ ap (λ (xs : List (List ℕ)). image_line labels number place l ∷ xs) c.first;
      is = c.is ∙ ap (λ (n : ℕ). image_line labels n (place_behind (place_after place (words_of l)) c.before) c.line) further;
    }

-- ---- the lines after the first

-- the lines of the image that stand for all lines
abbrev pub whole_image_lines : List (List ℕ) → List (List ℕ)
whole_image_lines ls = image_header ∷ lines_for ls

image_first : is_image_header (words_of image_header) ≡ true
unfolding words_of
image_first = refl

pub lines_to_image : (first : List ℕ) (ls : List (List ℕ)) (es : List Entry) → AreLines (first ∷ ls) es → AreImageLines (whole_image_lines ls) es
lines_to_image first ls es a =
    let same = cons_same first a.header ls a.rest a.split in
    let reads : Reads (labels_of ls) 2 None ls es = subst (λ (xs : List (List ℕ)). Reads (labels_of xs) 2 None xs es) (sym same.1) a.reads in
    record { header = image_header; rest = lines_for ls; split = refl; is_header = image_first; right = record { reads = reads_image (labels_of ls) 2 None ls es reads; allowed = a.allowed } }

pub lines_from_image : (first : List ℕ) (ls : List (List ℕ)) (es : List Entry) → is_header (words_of first) ≡ true → AreImageLines (whole_image_lines ls) es → AreLines (first ∷ ls) es
lines_from_image first ls es header a =
    let same = cons_same image_header a.header (lines_for ls) a.rest a.split in
    let reads : ImageReads (lines_for ls) es = subst (λ (xs : List (List ℕ)). ImageReads xs es) (sym same.1) a.right.reads in
    record { header = first; rest = ls; split = refl; is_header = header; reads = reads_source (labels_of ls) 2 None ls es reads; allowed = a.right.allowed }

some_same : (a b : Option Entry) (r : Result (Option Entry) Why) → r ≡ Ok a → r ≡ Ok b → a ≡ b
some_same a b r e f = cc

wrong_to_image : (labels : Labels) (number : ℕ) (place : Option ℕ) (es : List Entry) (l : List ℕ) → IsWrong labels number place es l → (why : Why) × IsImageWrong es (image_line labels number place l) why
wrong_to_image labels number place es l (inl none) = by (line_of (words_of (image_line labels number place l))) refl
  where
    by : (r : Result (Option Entry) Why) → line_of (words_of (image_line labels number place l)) ≡ r → (why : Why) × IsImageWrong es (image_line labels number place l) why
    by (Ok e) is = absurd (none e (line_from labels number place l e is))
    by (Err why) is = (why, inl is)
wrong_to_image labels number place es l (inr w) = (w.2.0, inr (w.0, line_reads labels number place l (Some w.0) w.1, w.2.1))

wrong_from_image : (labels : Labels) (number : ℕ) (place : Option ℕ) (es : List Entry) (l : List ℕ) (why : Why) → IsImageWrong es (image_line labels number place l) why → IsWrong labels number place es l
wrong_from_image labels number place es l why (inl bad) = inl (λ e is. let good = line_reads labels number place l e is in absurd (cc))
wrong_from_image labels number place es l why (inr w) = inr (w.0, line_from labels number place l (Some w.0) w.1, (why, w.2))

first_bad_to_image : (first : List ℕ) (ls : List (List ℕ)) (number : ℕ) → IsFirstBad (first ∷ ls) number → (why : Why) × IsImageFirstBad (whole_image_lines ls) number why
first_bad_to_image first ls number b =
    let same = cons_same first b.header ls (b.before ++ b.line ∷ b.after) b.split in
    let labels = labels_of (b.before ++ b.line ∷ b.after) in
    let size = length_image_lines labels 2 None b.before in
    let here : number ≡ 2 + length b.before = omega (arith, b.place) in
    let wrong = wrong_to_image labels (2 + length b.before) (place_behind None b.before) b.entries b.line (subst (λ (n : ℕ). IsWrong labels n (place_behind None b.before) b.entries b.line) here b.wrong) in (
      wrong.0,
      record {
        header = image_header;
        before = image_lines labels 2 None b.before;
        line = image_line labels (2 + length b.before) (place_behind None b.before) b.line;
        after = image_lines labels (2 + length b.before + 1) (place_after (place_behind None b.before) (words_of b.line)) b.after;
        split = ap (λ (xs : List (List ℕ)). image_header ∷ lines_for xs) same.1 ∙ ap (λ (xs : List (List ℕ)). image_header ∷ xs) (split_image_lines labels 2 None b.before b.line b.after);
        is_header = image_first;
        place = omega (arith, b.place, size);
        entries = b.entries;
        right = record { reads = reads_image labels 2 None b.before b.entries b.reads; allowed = b.allowed };
        wrong = wrong.1;
      },
    )

first_bad_from_image : (first : List ℕ) (ls : List (List ℕ)) (number : ℕ) (why : Why) → is_header (words_of first) ≡ true → IsImageFirstBad (whole_image_lines ls) number why → IsFirstBad (first ∷ ls) number
first_bad_from_image first ls number why header b =
    let same = cons_same image_header b.header (lines_for ls) (b.before ++ b.line ∷ b.after) b.split in
    let c = cut_at (labels_of ls) 2 None ls b.before b.line b.after same.1 in
    let size = length_image_lines (labels_of ls) 2 None c.before in
    let count : length b.before ≡ length c.before = ap (λ (xs : List (List ℕ)). length xs) c.first ∙ size in
    let here : 2 + length c.before ≡ number = omega (arith, b.place, count) in
    let reads : Reads (labels_of ls) 2 None c.before b.entries = reads_source (labels_of ls) 2 None c.before b.entries (subst (λ (xs : List (List ℕ)). ImageReads xs b.entries) c.first b.right.reads) in
    let wrong : IsWrong (labels_of ls) (2 + length c.before) (place_behind None c.before) b.entries c.line =
    wrong_from_image (labels_of ls) (2 + length c.before) (place_behind None c.before) b.entries c.line why (subst (λ (k : List ℕ). IsImageWrong b.entries k why) c.is b.wrong) in
    record {
      header = first;
      before = c.before;
      line = c.line;
      after = c.after;
      split = ap (λ (xs : List (List ℕ)). first ∷ xs) c.split;
      is_header = header;
      place = omega (arith, here);
      entries = b.entries;
      reads = subst (λ (xs : List (List ℕ)). Reads (labels_of xs) 2 None c.before b.entries) c.split reads;
      allowed = b.right.allowed;
      wrong = subst (λ (xs : List (List ℕ)). IsWrong (labels_of xs) number (place_behind None c.before) b.entries c.line) c.split (subst (λ (n : ℕ). IsWrong (labels_of ls) n (place_behind None c.before) b.entries c.line) here wrong);
    }

as_long : (first : List ℕ) (ls : List (List ℕ)) → length (whole_image_lines ls) ≡ length (first ∷ ls)
as_long first ls = ap (λ (n : ℕ). suc n) (length_image_lines (labels_of ls) 2 None ls)

pub bad_to_image : (first : List ℕ) (ls : List (List ℕ)) (number : ℕ) → is_header (words_of first) ≡ true → IsBad (first ∷ ls) number → (why : Why) × IsImageBad (whole_image_lines ls) number why
bad_to_image first ls number header (inl none) = by none.0
  where
    by : HasNoHeader (first ∷ ls) → (why : Why) × IsImageBad (whole_image_lines ls) number why
    by (another l rest other) = absurd (cc)
bad_to_image first ls number header (inr (inl b)) = let i = first_bad_to_image first ls number b in (i.0, inr (inl i.1))
bad_to_image first ls number header (inr (inr n)) =
    let long = as_long first ls in
    (NoText, inr (inr (n.0, lines_to_image first ls n.0 n.1, n.2, omega (arith, n.3, long), refl)))

pub bad_from_image : (first : List ℕ) (ls : List (List ℕ)) (number : ℕ) (why : Why) → is_header (words_of first) ≡ true → IsImageBad (whole_image_lines ls) number why → IsBad (first ∷ ls) number
bad_from_image first ls number why header (inl h) = let none = h.0.none image_header (lines_for ls) refl in let some = image_first in absurd (cc)
bad_from_image first ls number why header (inr (inl b)) = inr (inl (first_bad_from_image first ls number why header b))
bad_from_image first ls number why header (inr (inr n)) =
    let long = as_long first ls in
    inr (inr (n.0, lines_from_image first ls n.0 header n.1, n.2, omega (arith, n.3, long)))
