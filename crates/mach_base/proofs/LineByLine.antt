-- Files that are read line by line.
use Rattle.std.proofs.Common.{◌≡◌, ℕ, suc, ◌+◌, ◌⊎◌, inl, inr, List, [], ◌∷◌, ◌++◌, length, Option, Some, None, Result, Ok, Err, refl, sym, ap, ◌∙◌, append_assoc, arith}
use Rattle.std.specs.List.{cons_option}
use Rattle.std.proofs.lemmas.List.{append-nil}
use Rattle.mach_base.specs.Lines.{words_of}
use Rattle.mach_base.specs.Sequence.{◌>>=◌}
use Rattle.mach_base.specs.LineByLine.{each_line, EachSays, nothing, one_more}

-- One line after the other.

-- what reading gives, after the values in front
abbrev pub prepended : {A F : Type 0} → List A → Result (List A) F → Result (List A) F
prepended front (Ok rest) = Ok (front ++ rest)
prepended front (Err fault) = Err fault

-- before the first line
pub lines_begin : {A F : Type 0} → (r : Result (List A) F) → r ≡ prepended [] r
lines_begin (Ok rest) = refl
lines_begin (Err fault) = refl

-- a line more, with its value or none
pub lines_more : {A F : Type 0} → (line_of : ℕ → List (List ℕ) → Result (Option A) F) (number : ℕ) (front : List A) (found : Option A) (lines : List (List ℕ)) (line : List ℕ) (ls : List (List ℕ)) (whole : Result (List A) F) → lines ≡ line ∷ ls → line_of number (words_of line) ≡ Ok found → whole ≡ prepended front (each_line line_of number lines) → whole ≡ prepended (front ++ cons_option found []) (each_line line_of (number + 1) ls)
unfolding each_line
lines_more {A} {F} line_of number front found lines line ls whole split read told = told ∙ (rw (split, read) (step found (each_line line_of (number + 1) ls)))
  where
    step : (found : Option A) (r : Result (List A) F) → prepended front (r >>= λ rest. Ok (cons_option found rest)) ≡ prepended (front ++ cons_option found []) r
    step None (Ok rest) = ap (λ xs. Ok (xs ++ rest)) (sym (append-nil front))
    step (Some x) (Ok rest) = ap (λ xs. Ok xs) (sym (append_assoc front (x ∷ []) rest))
    step found (Err fault) = refl

-- a line that is bad
pub lines_bad : {A F : Type 0} → (line_of : ℕ → List (List ℕ) → Result (Option A) F) (number : ℕ) (front : List A) (fault : F) (lines : List (List ℕ)) (line : List ℕ) (ls : List (List ℕ)) (whole : Result (List A) F) → lines ≡ line ∷ ls → line_of number (words_of line) ≡ Err fault → whole ≡ prepended front (each_line line_of number lines) → whole ≡ Err fault
unfolding each_line
lines_bad line_of number front fault lines line ls whole split read told = told ∙ (rw (split, read) refl)

-- no line is left
pub lines_end : {A F : Type 0} → (line_of : ℕ → List (List ℕ) → Result (Option A) F) (number : ℕ) (front : List A) (lines : List (List ℕ)) (whole : Result (List A) F) → lines ≡ [] → whole ≡ prepended front (each_line line_of number lines) → whole ≡ Ok front
unfolding each_line
lines_end line_of number front lines whole none told = told ∙ (rw none (ap (λ xs. Ok xs) (append-nil front)))

-- What reading gives, and what the lines say.

-- lines that are right give what they say, where each right line does
pub each_line-right : {A F : Type 0} → (IsLine : List (List ℕ) → Option A → Type 0) (line_of : ℕ → List (List ℕ) → Result (Option A) F) → ((number : ℕ) (words : List (List ℕ)) (x : Option A) → IsLine words x → line_of number words ≡ Ok x) → (number : ℕ) (lines : List (List ℕ)) (xs : List A) → EachSays IsLine lines xs → each_line line_of number lines ≡ Ok xs
unfolding each_line
each_line-right IsLine line_of right number lines xs nothing = refl
each_line-right IsLine line_of right number lines xs (one_more l ls x rest is more) =
    rw (right number (words_of l) x is, each_line-right IsLine line_of right (number + 1) ls rest more) refl

-- a bad line after right ones is named
pub each_line-bad : {A F : Type 0} → (IsLine : List (List ℕ) → Option A → Type 0) (line_of : ℕ → List (List ℕ) → Result (Option A) F) (bad_line : ℕ → F) → ((number : ℕ) (words : List (List ℕ)) (x : Option A) → IsLine words x → line_of number words ≡ Ok x) → (number : ℕ) (before : List (List ℕ)) (xs : List A) (l : List ℕ) (ls : List (List ℕ)) → EachSays IsLine before xs → line_of (number + length before) (words_of l) ≡ Err (bad_line (number + length before)) → each_line line_of number (before ++ l ∷ ls) ≡ Err (bad_line (number + length before))
unfolding each_line
each_line-bad IsLine line_of bad_line right number before xs l ls nothing bad =
    let here : number + 0 ≡ number = omega arith in
    rw (rw here at bad) (ap (λ (n : ℕ). Err (bad_line n)) (sym here))
each_line-bad IsLine line_of bad_line right number before xs l ls (one_more m ms x rest is more) bad =
    let next : number + suc (length ms) ≡ (number + 1) + length ms = omega arith in
    rw (right number (words_of m) x is, each_line-bad IsLine line_of bad_line right (number + 1) ms rest l ls more (rw next at bad), next) refl

-- lines that are right up to one that is bad
pub record RightUpTo {A : Type 0} (IsLine : List (List ℕ) → Option A → Type 0) (lines : List (List ℕ)) : Type 0 where
  pub before : List (List ℕ)
  pub line : List ℕ
  pub after : List (List ℕ)
  pub split : lines ≡ before ++ line ∷ after
  pub values : List A
  pub right : EachSays IsLine before values
  pub wrong : (x : Option A) → ¬ (IsLine (words_of line) x)

-- all lines are right, or one is the first that is bad, where each line is right or bad
pub cases_lines : {A : Type 0} → (IsLine : List (List ℕ) → Option A → Type 0) → ((words : List (List ℕ)) → ((x : Option A) × IsLine words x) ⊎ ((x : Option A) → ¬ (IsLine words x))) → (lines : List (List ℕ)) → ((xs : List A) × EachSays IsLine lines xs) ⊎ RightUpTo IsLine lines
cases_lines IsLine cases_line [] = inl ([], nothing)
cases_lines IsLine cases_line (l ∷ ls) =
    elim (cases_line (words_of l)) [
      | inr bad ↦ inr (record { before = []; line = l; after = ls; split = refl; values = []; right = nothing; wrong = bad })
      | inl r ↦ elim (cases_lines IsLine cases_line ls) [
        | inl more ↦ inl (cons_option r.0 more.0, one_more l ls r.0 more.0 r.1 more.1)
        | inr b ↦ inr (record {
          before = l ∷ b.before;
          line = b.line;
          after = b.after;
          split = ap (λ (ms : List (List ℕ)). l ∷ ms) b.split;
          values = cons_option r.0 b.values;
          right = one_more l b.before r.0 b.values r.1 b.right;
          wrong = b.wrong;
        })
      ]
    ]
