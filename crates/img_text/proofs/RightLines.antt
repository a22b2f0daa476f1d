-- Lines that are right, and the first that is wrong: reading agrees with the grammar.
use Rattle.std.proofs.Common.{◌≡◌, ℕ, suc, ◌+◌, ◌⊎◌, inl, inr, List, [], ◌∷◌, ◌++◌, length, Option, Some, None, Result, Ok, Err, refl, sym, ap, subst, ◌∙◌, append_assoc, arith}
use Rattle.std.proofs.lemmas.List.{append-nil}
use Rattle.mach_base.specs.Lines.{words_of}
use Rattle.mach_base.specs.Sequence.{◌>>=◌}
use Rattle.img_text.specs.declared.fault.Why.{Why}
use Rattle.img_text.specs.declared.fault.ImageFault.TheVariants.{Bad}
use Rattle.img_text.specs.Directives.{line_of}
use Rattle.img_text.specs.Reading.{Draft, applied, after_line, read_line, at_line, read_lines}
use Rattle.img_text.specs.Grammar.{Entry, Reads, nothing, skipped, one_more, refusal_after, AreAllowed, IsWrong}
use Rattle.img_text.proofs.Drafts.{Follows, IsDraft, Refused, cases_entry}

-- One line.

line-skipped : (d : Draft) (l : List ℕ) → line_of (words_of l) ≡ Ok None → read_line d l ≡ Ok d
unfolding read_line
line-skipped d l is = ap (λ (r : Result (Option Entry) Why). r >>= after_line d) is

line-entry : (d : Draft) (l : List ℕ) (e : Entry) → line_of (words_of l) ≡ Ok (Some e) → read_line d l ≡ applied d e.0 e.1
unfolding read_line
line-entry d l e is = ap (λ (r : Result (Option Entry) Why). r >>= after_line d) is

line-bad : (d : Draft) (l : List ℕ) (why : Why) → line_of (words_of l) ≡ Err why → read_line d l ≡ Err why
unfolding read_line
line-bad d l why is = ap (λ (r : Result (Option Entry) Why). r >>= after_line d) is

lines-step : (number : ℕ) (d next : Draft) (l : List ℕ) (ls : List (List ℕ)) → read_line d l ≡ Ok next → read_lines number d (l ∷ ls) ≡ read_lines (number + 1) next ls
unfolding read_lines
lines-step number d next l ls is = ap (λ (r : Result Draft Why). at_line number r >>= λ n. read_lines (number + 1) n ls) is

lines-bad : (number : ℕ) (d : Draft) (l : List ℕ) (ls : List (List ℕ)) (why : Why) → read_line d l ≡ Err why → read_lines number d (l ∷ ls) ≡ Err (Bad number why)
unfolding read_lines
lines-bad number d l ls why is = ap (λ (r : Result Draft Why). at_line number r >>= λ n. read_lines (number + 1) n ls) is

-- Lines that are right.

-- what lines that are right leave: a draft, from which the others are read
pub record Leaves (number : ℕ) (d : Draft) (all : List Entry) (lines rest : List (List ℕ)) : Type 0 where
  pub next : Draft
  pub draft : IsDraft next all
  pub is : read_lines number d (lines ++ rest) ≡ read_lines (number + length lines) next rest

same_number : (number : ℕ) (next : Draft) (rest : List (List ℕ)) (n : ℕ) → number ≡ n → read_lines number next rest ≡ read_lines n next rest
same_number number next rest n e = ap (λ (k : ℕ). read_lines k next rest) e

pub leaves : (number : ℕ) (d : Draft) (before : List Entry) (lines rest : List (List ℕ)) (es : List Entry) → IsDraft d before → Reads lines es → AreAllowed before es → Leaves number d (before ++ es) lines rest
leaves number d before lines rest es is nothing allowed = record {
  next = d;
  draft = subst (λ (all : List Entry). IsDraft d all) (sym (append-nil before)) is;
  is = same_number number d rest (number + 0) (omega arith);
}
leaves number d before lines rest es is (skipped l ls fs none more) allowed =
    let r = leaves (number + 1) d before ls rest fs is more allowed in
    record {
      next = r.next;
      draft = r.draft;
      is = lines-step number d d l (ls ++ rest) (line-skipped d l none) ∙ r.is ∙ same_number (number + 1 + length ls) r.next rest (number + suc (length ls)) (omega arith);
    }
leaves number d before lines rest es is (one_more l ls e fs some more) allowed =
    by (cases_entry d before e is) (λ next draft. leaves (number + 1) next (before ++ e ∷ []) ls rest fs draft more allowed.1)
  where
    by : Follows d before e ⊎ Refused d before e → ((next : Draft) → IsDraft next (before ++ e ∷ []) → Leaves (number + 1) next ((before ++ e ∷ []) ++ fs) ls rest) → Leaves number d (before ++ e ∷ fs) (l ∷ ls) rest
    by (inl f) others =
        let r = others f.next f.draft in
        record {
          next = r.next;
          draft = subst (λ (all : List Entry). IsDraft r.next all) (append_assoc before (e ∷ []) fs) r.draft;
          is = lines-step number d f.next l (ls ++ rest) (line-entry d l e some ∙ f.is) ∙ r.is ∙ same_number (number + 1 + length ls) r.next rest (number + suc (length ls)) (omega arith);
        }
    by (inr r) others = let free = allowed.0 in let taken = r.refused in absurd (cc)

-- a line that is wrong after those that are right
pub wrong-is : (number : ℕ) (d : Draft) (es : List Entry) (l : List ℕ) (ls : List (List ℕ)) (why : Why) → IsDraft d es → IsWrong es l why → read_lines number d (l ∷ ls) ≡ Err (Bad number why)
wrong-is number d es l ls why is (inl bad) = lines-bad number d l ls why (line-bad d l why bad)
wrong-is number d es l ls why is (inr w) = by (cases_entry d es w.0 is)
  where
    by : Follows d es w.0 ⊎ Refused d es w.0 → read_lines number d (l ∷ ls) ≡ Err (Bad number why)
    by (inl f) = let free = f.allowed in let taken = w.2 in absurd (cc)
    by (inr r) =
        let both : ◌≡◌ {A = Option Why} (Some r.why) (Some why) = sym r.refused ∙ w.2 in
        let same : r.why ≡ why = cc in
        lines-bad number d l ls why (line-entry d l w.0 w.1 ∙ r.is ∙ ap (λ (x : Why). Err x) same)

-- Lines are right, or one is the first that is wrong.

pub record AllRight (before : List Entry) (lines : List (List ℕ)) : Type 0 where
  pub entries : List Entry
  pub reads : Reads lines entries
  pub allowed : AreAllowed before entries

pub record FirstWrong (before : List Entry) (lines : List (List ℕ)) : Type 0 where
  pub right : List (List ℕ)
  pub line : List ℕ
  pub after : List (List ℕ)
  pub split : lines ≡ right ++ line ∷ after
  pub entries : List Entry
  pub reads : Reads right entries
  pub allowed : AreAllowed before entries
  pub why : Why
  pub wrong : IsWrong (before ++ entries) line why

wrong_here : (before : List Entry) (l : List ℕ) (ls : List (List ℕ)) (why : Why) → IsWrong before l why → FirstWrong before (l ∷ ls)
wrong_here before l ls why is = record {
  right = [];
  line = l;
  after = ls;
  split = refl;
  entries = [];
  reads = nothing;
  allowed = tt;
  why = why;
  wrong = subst (λ (all : List Entry). IsWrong all l why) (sym (append-nil before)) is;
}

skipped_more : (before : List Entry) (l : List ℕ) (ls : List (List ℕ)) → line_of (words_of l) ≡ Ok None → AllRight before ls ⊎ FirstWrong before ls → AllRight before (l ∷ ls) ⊎ FirstWrong before (l ∷ ls)
skipped_more before l ls none (inl r) = inl (record { entries = r.entries; reads = skipped l ls r.entries none r.reads; allowed = r.allowed })
skipped_more before l ls none (inr w) = inr (record {
  right = l ∷ w.right;
  line = w.line;
  after = w.after;
  split = ap (λ (ms : List (List ℕ)). l ∷ ms) w.split;
  entries = w.entries;
  reads = skipped l w.right w.entries none w.reads;
  allowed = w.allowed;
  why = w.why;
  wrong = w.wrong;
})

entry_more : (before : List Entry) (l : List ℕ) (ls : List (List ℕ)) (e : Entry) → line_of (words_of l) ≡ Ok (Some e) → refusal_after before e ≡ None → AllRight (before ++ e ∷ []) ls ⊎ FirstWrong (before ++ e ∷ []) ls → AllRight before (l ∷ ls) ⊎ FirstWrong before (l ∷ ls)
entry_more before l ls e some free (inl r) = inl (record { entries = e ∷ r.entries; reads = one_more l ls e r.entries some r.reads; allowed = (free, r.allowed) })
entry_more before l ls e some free (inr w) = inr (record {
  right = l ∷ w.right;
  line = w.line;
  after = w.after;
  split = ap (λ (ms : List (List ℕ)). l ∷ ms) w.split;
  entries = e ∷ w.entries;
  reads = one_more l w.right e w.entries some w.reads;
  allowed = (free, w.allowed);
  why = w.why;
  wrong = subst (λ (all : List Entry). IsWrong all w.line w.why) (append_assoc before (e ∷ []) w.entries) w.wrong;
})

pub cases_lines : (before : List Entry) (lines : List (List ℕ)) → AllRight before lines ⊎ FirstWrong before lines
cases_lines before [] = inl (record { entries = []; reads = nothing; allowed = tt })
cases_lines before (l ∷ ls) = by (line_of (words_of l)) refl (cases_lines before ls) (λ e. cases_lines (before ++ e ∷ []) ls)
  where
    by_refusal : (e : Entry) (o : Option Why) → line_of (words_of l) ≡ Ok (Some e) → refusal_after before e ≡ o → AllRight (before ++ e ∷ []) ls ⊎ FirstWrong (before ++ e ∷ []) ls → AllRight before (l ∷ ls) ⊎ FirstWrong before (l ∷ ls)
    by_refusal e None some free rest = entry_more before l ls e some free rest
    by_refusal e (Some why) some taken rest = inr (wrong_here before l ls why (inr (e, some, taken)))

    by : (r : Result (Option Entry) Why) → line_of (words_of l) ≡ r → AllRight before ls ⊎ FirstWrong before ls → ((e : Entry) → AllRight (before ++ e ∷ []) ls ⊎ FirstWrong (before ++ e ∷ []) ls) → AllRight before (l ∷ ls) ⊎ FirstWrong before (l ∷ ls)
    by (Err why) bad rest more = inr (wrong_here before l ls why (inl bad))
    by (Ok None) none rest more = skipped_more before l ls none rest
    by (Ok (Some e)) some rest more = by_refusal e (refusal_after before e) some refl (more e)
