-- The numbers of a mask, joined by blanks, one more at a time.
use Rattle.std.proofs.Common.{◌≡◌, ℕ, zero, suc, ◌+◌, ◌&&◌, Bool, true, false, not, cond, List, [], ◌∷◌, ◌++◌, filter, refl, sym, ap, ◌∙◌, append_assoc, arith}
use Rattle.std.specs.List.{range_with_len}
use Rattle.std.proofs.lemmas.List.Elements.{filter-append}
use Rattle.mach_base.specs.Number.{dec_text}
use Rattle.mach_base.specs.Masks.{has_bit}
use Rattle.atom_mach.specs.Texts.{number_text, numbers_text}

-- whether there are no numbers
abbrev pub is_empty : List ℕ → Bool
is_empty [] = true
is_empty (x ∷ xs) = false

-- one more number after the others
joined_more : (xs : List ℕ) (h : ℕ) → numbers_text (xs ++ h ∷ []) ≡ numbers_text xs ++ number_text (is_empty xs) h
joined_more [] h = refl
joined_more (x ∷ []) h = refl
joined_more (x ∷ y ∷ xs) h =
    ap (λ (t : List ℕ). dec_text x ++ 32 ∷ t) (joined_more (y ∷ xs) h)
    ∙ sym (append_assoc (dec_text x) (32 ∷ numbers_text (y ∷ xs)) (number_text false h))

range_more : (a n : ℕ) → range_with_len a (suc n) ≡ range_with_len a n ++ (a + n) ∷ []
range_more a zero = ap (λ (k : ℕ). k ∷ []) (omega arith)
range_more a (suc n) =
    let same : (a + 1) + n ≡ a + suc n = omega arith in
    ap (λ (t : List ℕ). a ∷ t) (range_more (a + 1) n ∙ ap (λ (k : ℕ). range_with_len (a + 1) n ++ k ∷ []) same)

-- the numbers of a mask below k
abbrev pub below : ℕ → ℕ → List ℕ
below mask k = filter (has_bit mask) (range_with_len 0 k)

one : (mask k : ℕ) (b : Bool) → has_bit mask k ≡ b → filter (has_bit mask) (k ∷ []) ≡ cond b (k ∷ []) []
one mask k true e = rw e refl
one mask k false e = rw e refl

below_more : (mask k : ℕ) (b : Bool) → has_bit mask k ≡ b → below mask (k + 1) ≡ below mask k ++ cond b (k ∷ []) []
below_more mask k b e =
    let more : k + 1 ≡ suc k = omega arith in
    let same : 0 + k ≡ k = omega arith in
    ap (λ n. below mask n) more
    ∙ ap (filter (has_bit mask)) (range_more 0 k ∙ ap (λ (n : ℕ). range_with_len 0 k ++ n ∷ []) same)
    ∙ filter-append (has_bit mask) (range_with_len 0 k) (k ∷ [])
    ∙ ap (λ (t : List ℕ). below mask k ++ t) (one mask k b e)

and_false : (b : Bool) → (b && false) ≡ false
and_false true = refl
and_false false = refl

and_true : (b : Bool) → (b && true) ≡ b
and_true true = refl
and_true false = refl

none_more : (xs : List ℕ) → xs ++ [] ≡ xs
none_more [] = refl
none_more (x ∷ xs) = ap (λ (t : List ℕ). x ∷ t) (none_more xs)

some : (xs : List ℕ) (h : ℕ) → is_empty (xs ++ h ∷ []) ≡ false
some [] h = refl
some (x ∷ xs) h = refl

text_more : (xs : List ℕ) (k : ℕ) (b : Bool) → numbers_text (xs ++ cond b (k ∷ []) []) ≡ numbers_text xs ++ cond b (number_text (is_empty xs) k) []
text_more xs k true = joined_more xs k
text_more xs k false = ap numbers_text (none_more xs) ∙ sym (none_more (numbers_text xs))

first_more : (xs : List ℕ) (k : ℕ) (b : Bool) → is_empty (xs ++ cond b (k ∷ []) []) ≡ (is_empty xs && not b)
first_more xs k true = some xs k ∙ sym (and_false (is_empty xs))
first_more xs k false = ap is_empty (none_more xs) ∙ sym (and_true (is_empty xs))

-- the text of the numbers below k + 1, and whether there are none
pub numbers_more : (mask k : ℕ) → numbers_text (below mask (k + 1)) ≡ numbers_text (below mask k) ++ cond (has_bit mask k) (number_text (is_empty (below mask k)) k) []
numbers_more mask k = ap numbers_text (below_more mask k (has_bit mask k) refl) ∙ text_more (below mask k) k (has_bit mask k)

pub none_so_far : (mask k : ℕ) → is_empty (below mask (k + 1)) ≡ (is_empty (below mask k) && not (has_bit mask k))
none_so_far mask k = ap is_empty (below_more mask k (has_bit mask k) refl) ∙ first_more (below mask k) k (has_bit mask k)
