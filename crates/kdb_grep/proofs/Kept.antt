-- What a filter keeps: of a text, line by line, and as the relation says.
use Rattle.std.proofs.Common.{◌≡◌, ℕ, zero, suc, ◌+◌, ◌≤◌, ◌↔◌, Bool, true, false, not, cond, List, [], ◌∷◌, ◌++◌, length, take, drop, get_or, count_by, eqb, refl, sym, ap, subst, ◌∙◌, append_assoc, length-append, arith, ◌⊎◌, inl, inr}
use Rattle.std.specs.List.{slice_split, list_all, All}
use Rattle.std.proofs.lemmas.Bool.{cases_Bool, not-true, eqb-true, and_from, not_from_false}
use Rattle.std.proofs.lemmas.List.{append-nil, take_all, drop_all, take-append-drop}
use Rattle.std.proofs.lemmas.List.Sums.{AllPass-from_list_all}
use Rattle.std.proofs.lemmas.List.Splits.{slice_split_none, slice_split_at, length-slice_split}
use Rattle.mach_base.specs.Texts.{newline}
use Rattle.kdb_grep.specs.Filter.{Pattern, matches, kept_of, filtered}
use Rattle.kdb_grep.specs.Lines.{Matches, Filtered, IsLine, kept, dropped, last_kept, last_dropped}
use Rattle.kdb_grep.specs.Ends.{EndsLine}
use Rattle.kdb_grep.proofs.Stands.{matches_is}

test-true : (p : Pattern) (line : List ℕ) → Matches p line → matches p line ≡ true
test-true p line m = (matches_is p line).1 m

test-false : (p : Pattern) (line : List ℕ) → ¬ (Matches p line) → matches p line ≡ false
test-false p line never =
    elim (cases_Bool (matches p line)) [
      | inl found ↦ absurd (never ((matches_is p line).0 found))
      | inr is ↦ is
    ]

-- no LF in a line, as the cut reads it
no_feed : (line : List ℕ) → IsLine line → All (λ b. eqb b 10 ≡ false) line
no_feed line is =
    let each = AllPass-from_list_all (λ b. not (eqb b 10)) line is in
    λ k d lt. not-true (eqb (get_or line k d) 10) (each k d lt)

cut : (line rest : List ℕ) → IsLine line → slice_split (λ b. eqb b 10) (line ++ 10 ∷ rest) ≡ line ∷ slice_split (λ b. eqb b 10) rest
cut line rest is = slice_split_at (λ b. eqb b 10) line 10 rest (no_feed line is) refl

alone : (line : List ℕ) → IsLine line → slice_split (λ b. eqb b 10) line ≡ line ∷ []
alone line is = slice_split_none (λ b. eqb b 10) line (no_feed line is)

-- what is kept of a line and of parts after it
kept-cons : (p : Pattern) (line : List ℕ) (parts : List (List ℕ)) (n : ℕ) → length parts ≡ n + 1 → kept_of p (line ∷ parts) ≡ cond (matches p line) (line ++ newline) [] ++ kept_of p parts
kept-cons p line [] n size = absurd (omega arith)
kept-cons p line (next ∷ rest) n size = refl

kept-cut : (p : Pattern) (line rest : List ℕ) (test : Bool) → IsLine line → matches p line ≡ test → filtered p (line ++ 10 ∷ rest) ≡ cond test (line ++ newline) [] ++ filtered p rest
unfolding filtered
kept-cut p line rest test is m =
    ap (kept_of p) (cut line rest is)
    ∙ kept-cons p line (slice_split (λ b. eqb b 10) rest) (count_by (λ b. eqb b 10) rest) (length-slice_split (λ b. eqb b 10) rest)
    ∙ ap (λ (t : Bool). cond t (line ++ newline) [] ++ kept_of p (slice_split (λ b. eqb b 10) rest)) m

kept-last : (p : Pattern) (line : List ℕ) (test : Bool) → IsLine line → matches p line ≡ test → filtered p line ≡ cond test line []
unfolding filtered
kept-last p line test is m = ap (kept_of p) (alone line is) ∙ ap (λ (t : Bool). cond t line []) m

nothing-kept : (test : Bool) (none : List ℕ) → cond test none none ≡ none
nothing-kept true none = refl
nothing-kept false none = refl

filtered-only : (p : Pattern) (text out : List ℕ) → Filtered p text out → out ≡ filtered p text
filtered-only p text out (kept line rest more is m f) =
    sym (kept-cut p line rest true is (test-true p line m) ∙ append_assoc line newline (filtered p rest) ∙ ap (λ (t : List ℕ). line ++ 10 ∷ t) (sym (filtered-only p rest more f)))
filtered-only p text out (dropped line rest more is m f) =
    sym (kept-cut p line rest false is (test-false p line m) ∙ sym (filtered-only p rest more f))
filtered-only p text out (last_kept line is m) = sym (kept-last p line true is (test-true p line m))
filtered-only p text out (last_dropped line is m) = sym (kept-last p line false is (test-false p line m))

-- a text that has an LF, up to the first one and after it
record FirstCut (text : List ℕ) : Type 0 where
  line : List ℕ
  rest : List ℕ
  is : IsLine line
  cut : text ≡ line ++ 10 ∷ rest

further : (b : ℕ) (bs : List ℕ) → eqb b 10 ≡ false → FirstCut bs → FirstCut (b ∷ bs)
further b bs other c = record {
  line = b ∷ c.line;
  rest = c.rest;
  is = and_from (not (eqb b 10)) (list_all (λ x. not (eqb x 10)) c.line) (not_from_false (eqb b 10) other) c.is;
  cut = ap (λ (t : List ℕ). b ∷ t) c.cut;
}

first-cut : (text : List ℕ) → IsLine text ⊎ FirstCut text
first-cut [] = inl refl
first-cut (b ∷ bs) =
    elim (cases_Bool (eqb b 10)) [
      | inl feed ↦ inr (record { line = []; rest = bs; is = refl; cut = ap (λ (x : ℕ). x ∷ bs) (eqb-true b 10 feed) })
      | inr other ↦ elim (first-cut bs) [
        | inl is ↦ inl (and_from (not (eqb b 10)) (list_all (λ x. not (eqb x 10)) bs) (not_from_false (eqb b 10) other) is)
        | inr c ↦ inr (further b bs other c)
      ]
    ]

nil-line : (text : List ℕ) → length text ≤ 0 → IsLine text
nil-line [] size = refl
nil-line (b ∷ bs) size = absurd (omega arith)

by-last : (p : Pattern) (text : List ℕ) → IsLine text → Filtered p text (filtered p text)
by-last p text is =
    elim (cases_Bool (matches p text)) [
      | inl yes_ ↦ subst (λ (o : List ℕ). Filtered p text o) (sym (kept-last p text true is yes_)) (last_kept text is ((matches_is p text).0 yes_))
      | inr no_ ↦ subst (λ (o : List ℕ). Filtered p text o) (sym (kept-last p text false is no_)) (last_dropped text is (λ m. let there = test-true p text m in absurd (cc)))
    ]

by-line : (p : Pattern) (line rest : List ℕ) → IsLine line → Filtered p rest (filtered p rest) → Filtered p (line ++ 10 ∷ rest) (filtered p (line ++ 10 ∷ rest))
by-line p line rest is behind =
    let text = line ++ 10 ∷ rest in
    elim (cases_Bool (matches p line)) [
      | inl yes_ ↦
          let out : line ++ 10 ∷ filtered p rest ≡ filtered p text = sym (kept-cut p line rest true is yes_ ∙ append_assoc line newline (filtered p rest)) in
          subst (λ (o : List ℕ). Filtered p text o) out (kept line rest (filtered p rest) is ((matches_is p line).0 yes_) behind)
      | inr no_ ↦
          subst (λ (o : List ℕ). Filtered p text o) (sym (kept-cut p line rest false is no_)) (dropped line rest (filtered p rest) is (λ m. let there = test-true p line m in absurd (cc)) behind)
    ]

by-lines : (p : Pattern) (most : ℕ) (text : List ℕ) → length text ≤ most → Filtered p text (filtered p text)
by-lines p zero text size = by-last p text (nil-line text size)
by-lines p (suc most) text size =
    elim (first-cut text) [
      | inl is ↦ by-last p text is
      | inr c ↦
          let long : length text ≡ length c.line + (length (10 ∷ c.rest)) = ap length c.cut ∙ length-append c.line (10 ∷ c.rest) in
          let whole = by-line p c.line c.rest c.is (by-lines p most c.rest (omega arith)) in
          subst (λ (t : List ℕ). Filtered p t (filtered p t)) (sym c.cut) whole
    ]

-- the lines that are left of a text are those that match, and no others
pub filtered_is : (p : Pattern) (text out : List ℕ) → (out ≡ filtered p text) ↔ Filtered p text out
filtered_is p text out = (
  λ is. subst (λ (o : List ℕ). Filtered p text o) (sym is) (by-lines p (length text) text (omega arith)),
  λ f. filtered-only p text out f,
)

-- nothing is left of nothing
pub filtered-nil : (p : Pattern) → filtered p [] ≡ []
filtered-nil p = kept-last p [] (matches p []) refl refl ∙ nothing-kept (matches p []) []

-- what is left of a text, by its first line
pub filtered-first : (p : Pattern) (text : List ℕ) (line end : ℕ) (test : Bool) → EndsLine text line end → matches p (take line text) ≡ test → filtered p text ≡ cond test (take end text) [] ++ filtered p (drop end text)
filtered-first p text line end test e m = elim e.ends [
  | inl at ↦
      let cut_at : text ≡ take line text ++ 10 ∷ drop end text = sym (sym (append_assoc (take line text) newline (drop end text)) ∙ ap (λ (t : List ℕ). t ++ drop end text) (sym at.1) ∙ take-append-drop end text) in
      ap (filtered p) cut_at ∙ kept-cut p (take line text) (drop end text) test e.is m ∙ ap (λ (t : List ℕ). cond test t [] ++ filtered p (drop end text)) (sym at.1)
  | inr last ↦
      let all : take line text ≡ text = take_all line text (omega arith) in
      let all_end : take end text ≡ text = take_all end text (omega arith) in
      let none : filtered p (drop end text) ≡ [] = ap (filtered p) (drop_all end text (omega arith)) ∙ filtered-nil p in
      kept-last p text test (subst (λ (t : List ℕ). IsLine t) all e.is) (ap (matches p) (sym all) ∙ m)
      ∙ ap (λ (t : List ℕ). cond test t []) (sym all_end)
      ∙ sym (append-nil (cond test (take end text) []))
      ∙ ap (λ (t : List ℕ). cond test (take end text) [] ++ t) (sym none)
]
