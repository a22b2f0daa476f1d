-- Where the text of a pattern stands in a line: the test and the relation are the same.
use Rattle.std.proofs.Common.{◌≡◌, ℕ, ◌+◌, ◌-◌, ◌↔◌, Bool, true, false, inl, inr, List, [], ◌∷◌, ◌++◌, length, take, drop, Option, Some, None, is_some, nat_eq, refl, sym, ap, ◌∙◌, arith, length-append}
use Rattle.std.specs.List.{starts_with, ends_with}
use Rattle.std.specs.Str.{bytes_eq}
use Rattle.std.proofs.lemmas.Slice.Eq.{bytes_eq-Decides, starts_is, ends_is}
use Rattle.std.proofs.lemmas.Bool.{or_cases, or_left, or_right, cases_Bool, false_from_ne_true}
use Rattle.std.proofs.lemmas.Bool.Decides.{Decides-eqb}
use Rattle.std.proofs.lemmas.List.{append-nil, take-append-drop}
use Rattle.std.proofs.lemmas.List.Prefix.{at_from_reads, at_reads}
use Rattle.std.proofs.Math.Seq.{drop-append_seam}
use Rattle.memchr.specs.Find.{OccursAt, FindsNeedle}
use Rattle.kdb_grep.specs.Filter.{Pattern, stands_in, matches}
use Rattle.kdb_grep.specs.Lines.{Matches}

-- the pattern of these parts
abbrev pattern : Bool → List ℕ → Bool → Pattern
pattern at_start text at_end = record { at_start = at_start; text = text; at_end = at_end }

whole : (line text : List ℕ) → line ≡ text → Matches (pattern true text true) line
whole line text is = record { before = []; after = []; stands = is ∙ sym (append-nil text); start = λ _. refl; end = λ _. refl }

is_whole : (line text : List ℕ) → Matches (pattern true text true) line → line ≡ text
is_whole line text m =
    let front : m.before ≡ [] = m.start refl in
    let back : m.after ≡ [] = m.end refl in
    m.stands ∙ ap (λ (b : List ℕ). b ++ (text ++ m.after)) front ∙ ap (λ (a : List ℕ). text ++ a) back ∙ append-nil text

Matches-whole : (line text : List ℕ) (r : Bool) → r ≡ bytes_eq line text → (r ≡ true) ↔ Matches (pattern true text true) line
Matches-whole line text r e =
    let d = bytes_eq-Decides line text in (
      λ is. whole line text (d.0 (sym e ∙ is)),
      λ m. e ∙ d.1 (is_whole line text m),
    )

Matches-front : (line text : List ℕ) (r : Bool) → r ≡ starts_with nat_eq line text → (r ≡ true) ↔ Matches (pattern true text false) line
Matches-front line text r e =
    let d = starts_is (λ a b. Decides-eqb a b) line text r e in (
      λ is. record { before = []; after = drop (length text) line; stands = d.0 is; start = λ _. refl; end = λ no. absurd (cc) },
      λ m. d.1 m.after (m.stands ∙ ap (λ (b : List ℕ). b ++ (text ++ m.after)) (m.start refl)),
    )

Matches-back : (line text : List ℕ) (r : Bool) → r ≡ ends_with nat_eq line text → (r ≡ true) ↔ Matches (pattern false text true) line
Matches-back line text r e =
    let d = ends_is (λ a b. Decides-eqb a b) line text r e in
    let front = take (length line - length text) line in (
      λ is. record { before = front; after = []; stands = d.0 is ∙ ap (λ (t : List ℕ). front ++ t) (sym (append-nil text)); start = λ no. absurd (cc); end = λ _. refl },
      λ m. d.1 m.before (m.stands ∙ ap (λ (a : List ℕ). m.before ++ (text ++ a)) (m.end refl) ∙ ap (λ (t : List ℕ). m.before ++ t) (append-nil text)),
    )

at_place : (line text : List ℕ) (k : ℕ) → OccursAt line text k → Matches (pattern false text false) line
at_place line text k occurs =
    let behind = at_from_reads 0 line text k occurs.fits occurs.reads in
    record {
      before = take k line;
      after = drop (k + length text) line;
      stands = sym (take-append-drop k line) ∙ ap (λ (t : List ℕ). take k line ++ t) behind;
      start = λ no. absurd (cc);
      end = λ no. absurd (cc);
    }

place_of : (line text before after : List ℕ) → line ≡ before ++ (text ++ after) → OccursAt line text (length before)
place_of line text before after stands =
    let size : length line ≡ length before + (length text + length after) = ap length stands ∙ length-append before (text ++ after) ∙ ap (λ n. length before + n) (length-append text after) in
    let behind : drop (length before) line ≡ text ++ after = ap (drop (length before)) stands ∙ drop-append_seam before (text ++ after) in
    record {
      fits = omega arith;
      reads = λ j lt. at_reads 0 line text (length before) after behind j lt;
    }

Matches-anywhere : (line text : List ℕ) (r : Option ℕ) → FindsNeedle line text 0 r → (is_some r ≡ true) ↔ Matches (pattern false text false) line
Matches-anywhere line text None h = (
  λ no. absurd (cc),
  λ m.
      let at = place_of line text m.before m.after m.stands in
      let fits = at.fits in
      absurd (h (length m.before) (omega arith) (omega arith) at),
)
Matches-anywhere line text (Some k) h = (λ _. at_place line text k h.1, λ _. refl)

-- the text stands in a line that has a byte more at its head
further : (b : ℕ) (line text : List ℕ) → Matches (pattern false text false) line → Matches (pattern false text false) (b ∷ line)
further b line text m = record {
  before = b ∷ m.before;
  after = m.after;
  stands = ap (λ (t : List ℕ). b ∷ t) m.stands;
  start = λ no. absurd (cc);
  end = λ no. absurd (cc);
}

anywhere : (line text : List ℕ) → Matches (pattern true text false) line → Matches (pattern false text false) line
anywhere line text m = record { before = m.before; after = m.after; stands = m.stands; start = λ no. absurd (cc); end = λ no. absurd (cc) }

stands : (line text : List ℕ) → stands_in text line ≡ true → Matches (pattern false text false) line
stands [] text is = anywhere [] text ((Matches-front [] text (starts_with nat_eq [] text) refl).0 is)
stands (b ∷ bs) text is =
    elim (or_cases (starts_with nat_eq (b ∷ bs) text) (stands_in text bs) is) [
      | inl here ↦ anywhere (b ∷ bs) text ((Matches-front (b ∷ bs) text (starts_with nat_eq (b ∷ bs) text) refl).0 here)
      | inr there ↦ further b bs text (stands bs text there)
    ]

found : (before line text after : List ℕ) → line ≡ before ++ (text ++ after) → stands_in text line ≡ true
found [] [] text after is = (Matches-front [] text (starts_with nat_eq [] text) refl).1 (record { before = []; after = after; stands = is; start = λ _. refl; end = λ no. absurd (cc) })
found [] (b ∷ bs) text after is =
    or_left (starts_with nat_eq (b ∷ bs) text) (stands_in text bs) ((Matches-front (b ∷ bs) text (starts_with nat_eq (b ∷ bs) text) refl).1 (record { before = []; after = after; stands = is; start = λ _. refl; end = λ no. absurd (cc) }))
found (c ∷ before) [] text after is = absurd (cc)
found (c ∷ before) (b ∷ bs) text after is =
    let rest : bs ≡ before ++ (text ++ after) = cc in
    or_right (starts_with nat_eq (b ∷ bs) text) (stands_in text bs) (found before bs text after rest)

matches-parts : (at_start : Bool) (text : List ℕ) (at_end : Bool) (line : List ℕ) → (matches (pattern at_start text at_end) line ≡ true) ↔ Matches (pattern at_start text at_end) line
matches-parts true text true line = Matches-whole line text (bytes_eq line text) refl
matches-parts true text false line = Matches-front line text (starts_with nat_eq line text) refl
matches-parts false text true line = Matches-back line text _ refl
matches-parts false text false line = (λ is. stands line text is, λ m. found m.before line text m.after m.stands)

-- the test says whether a line matches
pub matches_is : (p : Pattern) (line : List ℕ) → (matches p line ≡ true) ↔ Matches p line
matches_is p line = matches-parts p.at_start p.text p.at_end line

-- a search by the library answers as the test does
pub stands_in-find : (line text : List ℕ) (r : Option ℕ) → FindsNeedle line text 0 r → is_some r ≡ stands_in text line
stands_in-find line text r finds =
    let place = Matches-anywhere line text r finds in
    let test = matches-parts false text false line in
    elim (cases_Bool (stands_in text line)) [
      | inl there ↦ place.1 (test.0 there) ∙ sym there
      | inr missing ↦ false_from_ne_true (is_some r) (λ is. let there = test.1 (place.0 is) in absurd (cc)) ∙ sym missing
    ]
