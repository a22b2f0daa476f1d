-- The late harts of a mask are read again.
use Rattle.std.proofs.Common.{◌⊎◌, ◌≡◌, ◌≢◌, ℕ, zero, suc, ◌+◌, ◌-◌, ◌^◌, ◌<◌, ◌≤◌, ◌==◌, Bool, true, false, cond, List, [], ◌∷◌, ◌++◌, length, codes, get_or, Option, Some, None, refl, sym, ap, ◌∙◌, append_assoc, append-nil, add-one, if◌then◌else◌, subst, inl, inr, arith}
use Rattle.std.proofs.lemmas.Bool.{cases_eq, cases_lt, eq-eqb, ne_eqb, false≢true}
use Rattle.std.proofs.lemmas.List.{length-append}
use Rattle.std.specs.List.{AllByRecursion}
use Rattle.std.specs.Option.{option_and_then, option_map}
use Rattle.std.specs.Str.{bytes_eq}
use Rattle.std.specs.Char.{digit_value}
use Rattle.std.proofs.lemmas.Slice.Eq.{bytes_eq-Decides}
use Rattle.mach_base.specs.Masks.{has_bit, mask_with}
use Rattle.mach_base.specs.Number.{dec_text}
use Rattle.mach_base.proofs.Bits.{has_bit-zero, has_bit-with_same, has_bit-with_other, has_bit-below, same_mask}
use Rattle.jrn_text.specs.Entries.{numbers_in, list_text, late_text}
use Rattle.jrn_text.specs.Cuts.{cut_at}
use Rattle.jrn_text.specs.Loose.{with_hart, harts_by, harts_from, late_in}
use Rattle.jrn_text.proofs.Cut.{HasNone, none_append, cut_found, cut_none}
use Rattle.jrn_text.proofs.Numbers.{number_below-dec, dec_none}

-- a mask with these numbers too
abbrev pub with_all : ℕ → List ℕ → ℕ
with_all mask [] = mask
with_all mask (h ∷ hs) = with_all (mask_with mask h) hs

abbrev pub AreBelow : ℕ → List ℕ → Type 0
AreBelow n [] = Unit {0}
AreBelow n (h ∷ hs) = (h < n) × AreBelow n hs

below-snoc : (n m h : ℕ) (hs : List ℕ) → n ≤ m → h < m → AreBelow n hs → AreBelow m (hs ++ h ∷ [])
below-snoc n m h [] le lt all = (lt, tt)
below-snoc n m h (x ∷ xs) le lt all = (omega (arith, all.0, le), below-snoc n m h xs le lt all.1)

below-more : (n m : ℕ) (hs : List ℕ) → n ≤ m → AreBelow n hs → AreBelow m hs
below-more n m [] le all = tt
below-more n m (x ∷ xs) le all = (omega (arith, all.0, le), below-more n m xs le all.1)

with_all-snoc : (mask h : ℕ) (hs : List ℕ) → with_all mask (hs ++ h ∷ []) ≡ mask_with (with_all mask hs) h
with_all-snoc mask h [] = refl
with_all-snoc mask h (x ∷ xs) = with_all-snoc (mask_with mask x) h xs

-- the numbers below one more, by whether the mask has it
one_more : (n mask : ℕ) (t : Bool) → has_bit mask n ≡ t → numbers_in (suc n) mask ≡ cond t (numbers_in n mask ++ n ∷ []) (numbers_in n mask)
unfolding numbers_in
one_more n mask t is = ap (λ b. cond b (numbers_in n mask ++ n ∷ []) (numbers_in n mask)) is

below_by : (n : ℕ) (t : Bool) (hs : List ℕ) → AreBelow n hs → AreBelow (suc n) (cond t (hs ++ n ∷ []) hs)
below_by n true hs all = below-snoc n (suc n) n hs (omega arith) (omega arith) all
below_by n false hs all = below-more n (suc n) hs (omega arith) all

pub numbers_below : (n mask : ℕ) → AreBelow n (numbers_in n mask)
unfolding numbers_in
numbers_below zero mask = tt
numbers_below (suc n) mask = below_by n (has_bit mask n) (numbers_in n mask) (numbers_below n mask)

few_by : (n : ℕ) (t : Bool) (hs : List ℕ) → length hs ≤ n → length (cond t (hs ++ n ∷ []) hs) ≤ suc n
few_by n true hs few = omega (arith, length-append hs (n ∷ []), few)
few_by n false hs few = omega (arith, few)

pub numbers_few : (n mask : ℕ) → length (numbers_in n mask) ≤ n
unfolding numbers_in
numbers_few zero mask = omega arith
numbers_few (suc n) mask = few_by n (has_bit mask n) (numbers_in n mask) (numbers_few n mask)

-- the mask of the numbers below n
abbrev part : ℕ → ℕ → ℕ
part n mask = with_all 0 (numbers_in n mask)

part-with : (n mask : ℕ) → has_bit mask n ≡ true → part (suc n) mask ≡ mask_with (part n mask) n
part-with n mask is = ap (with_all 0) (one_more n mask true is) ∙ with_all-snoc 0 n (numbers_in n mask)

part-without : (n mask : ℕ) → has_bit mask n ≡ false → part (suc n) mask ≡ part n mask
part-without n mask is = ap (with_all 0) (one_more n mask false is)

either : (b : Bool) → (b ≡ true) ⊎ (b ≡ false)
either true = inl refl
either false = inr refl

outside : (n mask k : ℕ) → n ≤ k → has_bit (part n mask) k ≡ false
unfolding numbers_in
outside zero mask k le = has_bit-zero k
outside (suc n) mask k le =
    elim (either (has_bit mask n)) [
      | inl is ↦ ap (λ m. has_bit m k) (part-with n mask is) ∙ has_bit-with_other (part n mask) n k (λ e. omega (arith, e)) ∙ outside n mask k (omega arith)
      | inr is ↦ ap (λ m. has_bit m k) (part-without n mask is) ∙ outside n mask k (omega arith)
    ]

with_bit : (n mask k : ℕ) → (k ≢ n → has_bit (part n mask) k ≡ has_bit mask k) → has_bit mask n ≡ true → (k ≡ n) ⊎ (k ≢ n) → has_bit (mask_with (part n mask) n) k ≡ has_bit mask k
with_bit n mask k others is (inl e) = ap (has_bit (mask_with (part n mask) n)) e ∙ has_bit-with_same (part n mask) n ∙ sym (ap (has_bit mask) e ∙ is)
with_bit n mask k others is (inr ne) = has_bit-with_other (part n mask) n k ne ∙ others ne

without_bit : (n mask k : ℕ) → (k ≢ n → has_bit (part n mask) k ≡ has_bit mask k) → has_bit mask n ≡ false → (k ≡ n) ⊎ (k ≢ n) → has_bit (part n mask) k ≡ has_bit mask k
without_bit n mask k others is (inl e) = outside n mask k (omega (arith, e)) ∙ sym (ap (has_bit mask) e ∙ is)
without_bit n mask k others is (inr ne) = others ne

inside : (n mask k : ℕ) → k < n → has_bit (part n mask) k ≡ has_bit mask k
inside zero mask k lt = absurd (omega arith)
inside (suc n) mask k lt =
    let others : k ≢ n → has_bit (part n mask) k ≡ has_bit mask k = λ ne. inside n mask k (omega (arith, ne)) in
    elim (either (has_bit mask n)) [
      | inl is ↦ ap (λ m. has_bit m k) (part-with n mask is) ∙ with_bit n mask k others is (cases_eq k n)
      | inr is ↦ ap (λ m. has_bit m k) (part-without n mask is) ∙ without_bit n mask k others is (cases_eq k n)
    ]

above : (n mask k : ℕ) → mask < 2 ^ n → n ≤ k → has_bit mask k ≡ false
above n mask k small le =
    elim (either (has_bit mask k)) [
      | inl is ↦ absurd (omega (arith, has_bit-below mask n k small is, le))
      | inr is ↦ is
    ]

pub part_is : (n mask : ℕ) → mask < 2 ^ n → part n mask ≡ mask
part_is n mask small =
    same_mask (part n mask) mask (λ k. elim (cases_lt k n) [ inl lt ↦ inside n mask k lt | inr le ↦ outside n mask k le ∙ sym (above n mask k small le) ])

-- one hart is read
with_hart-dec : (mask h : ℕ) → h < 16 → with_hart mask (dec_text h) ≡ Some (mask_with mask h)
with_hart-dec mask h lt = ap (option_map (mask_with mask)) (number_below-dec 16 h lt (omega arith))

-- a list of harts is read
pub harts_from-list : (n mask h : ℕ) (hs : List ℕ) → length (h ∷ hs) ≤ n → AreBelow 16 (h ∷ hs) → harts_from n mask (list_text (h ∷ hs)) ≡ Some (with_all mask (h ∷ hs))
harts_from-list zero mask h hs few all = absurd (omega arith)
harts_from-list (suc n) mask h [] few all =
    ap (harts_by (harts_from n) mask (dec_text h)) (cut_none 44 (dec_text h) (dec_none 44 h (omega arith) (omega (arith, all.0)))) ∙ with_hart-dec mask h all.0
harts_from-list (suc n) mask h (k ∷ hs) few all =
    ap (harts_by (harts_from n) mask (dec_text h ++ (44 ∷ list_text (k ∷ hs)))) (cut_found 44 (dec_text h) (list_text (k ∷ hs)) (dec_none 44 h (omega arith) (omega (arith, all.0))))
    ∙ ap (option_and_then (λ more. harts_from n more (list_text (k ∷ hs)))) (with_hart-dec mask h all.0)
    ∙ harts_from-list n (mask_with mask h) k hs (omega (arith, few)) all.1

-- no byte of a list is this one, if it is neither a digit nor a comma
pub list_none : (byte : ℕ) (hs : List ℕ) → 10 ≤ digit_value byte → 44 ≢ byte → AreBelow 16 hs → HasNone byte (list_text hs)
list_none byte [] out comma all = tt
list_none byte (h ∷ []) out comma all = dec_none byte h out (omega (arith, all.0))
list_none byte (h ∷ k ∷ hs) out comma all =
    none_append byte (dec_text h) (44 ∷ list_text (k ∷ hs)) (dec_none byte h out (omega (arith, all.0))) (comma, list_none byte (k ∷ hs) out comma all.1)

-- a mask that isn't empty is read from its list
listed : (mask : ℕ) (hs : List ℕ) → hs ≡ numbers_in 16 mask → mask ≢ 0 → mask < 2 ^ 16 → harts_from 16 0 (list_text hs) ≡ Some mask
listed mask [] is some small = absurd (some (sym (part_is 16 mask small) ∙ ap (with_all 0) (sym is)))
listed mask (h ∷ hs) is some small =
    harts_from-list 16 0 h hs (omega (arith, ap length is, numbers_few 16 mask)) (subst (AreBelow 16) (sym is) (numbers_below 16 mask)) ∙ ap Some (ap (with_all 0) is ∙ part_is 16 mask small)

-- texts that differ are told apart
is_not : (text : List ℕ) → text ≢ codes "-" → bytes_eq text (codes "-") ≡ false
is_not text ne =
    elim (either (bytes_eq text (codes "-"))) [
      | inl is ↦ absurd (ne ((bytes_eq-Decides text (codes "-")).0 is))
      | inr is ↦ is
    ]

-- a list isn't a dash
no_dash : (text : List ℕ) → HasNone 45 text → text ≢ codes "-"
no_dash [] none e = absurd (omega (arith, ap length e))
no_dash (b ∷ bs) none e = none.0 (ap (λ l. get_or l 0 0) e)

pub late_in-text : (mask : ℕ) → mask < 2 ^ 16 → late_in (late_text mask) ≡ Some mask
unfolding late_in late_text
late_in-text mask small =
    elim (cases_eq mask 0) [
      | inl e ↦ ap (λ t. late_by (cond t (codes "-") (list_text (numbers_in 16 mask)))) (eq-eqb mask 0 e) ∙ ap Some (sym e)
      | inr ne ↦
          let text = list_text (numbers_in 16 mask) in
          let none = list_none 45 (numbers_in 16 mask) (omega arith) (λ e. omega (arith, e)) (numbers_below 16 mask) in
          ap (λ t. late_by (cond t (codes "-") text)) (ne_eqb mask 0 ne)
          ∙ ap (λ t. cond t (Some 0) (harts_from 16 0 text)) (is_not text (no_dash text none))
          ∙ listed mask (numbers_in 16 mask) refl ne small
    ]
  where
    late_by : List ℕ → Option ℕ
    late_by text = cond (bytes_eq text (codes "-")) (Some 0) (harts_from 16 0 text)

-- a list with one number more
pub list_text_first : (h : ℕ) → list_text ([] ++ h ∷ []) ≡ dec_text h
list_text_first h = refl

pub list_text_snoc : (x : ℕ) (xs : List ℕ) (h : ℕ) → list_text ((x ∷ xs) ++ h ∷ []) ≡ list_text (x ∷ xs) ++ (44 ∷ dec_text h)
list_text_snoc x [] h = refl
list_text_snoc x (y ∷ ys) h =
    ap (λ t. dec_text x ++ (44 ∷ t)) (list_text_snoc y ys h) ∙ sym (append_assoc (dec_text x) (44 ∷ list_text (y ∷ ys)) (44 ∷ dec_text h))

-- whether the list is empty
abbrev pub is_none : List ℕ → Bool
is_none [] = true
is_none (h ∷ hs) = false

-- the text after one hart more, by whether it is the first
pub pushed_hart : (before text comma after : List ℕ) (hs : List ℕ) (h : ℕ) → text ≡ before ++ list_text hs → comma ≡ (if is_none hs then text else text ++ 44 ∷ []) → after ≡ comma ++ dec_text h → after ≡ before ++ list_text (hs ++ h ∷ [])
pushed_hart before text comma after [] h is sep next =
    next ∙ ap (λ t. t ++ dec_text h) (sep ∙ is ∙ append-nil before)
pushed_hart before text comma after (x ∷ xs) h is sep next =
    next ∙ ap (λ t. t ++ dec_text h) (sep ∙ ap (λ t. t ++ 44 ∷ []) is ∙ append_assoc before (list_text (x ∷ xs)) (44 ∷ [])) ∙ append_assoc before (list_text (x ∷ xs) ++ 44 ∷ []) (dec_text h)
    ∙ ap (λ t. before ++ t) (append_assoc (list_text (x ∷ xs)) (44 ∷ []) (dec_text h) ∙ sym (list_text_snoc x xs h))

-- the numbers below one more
pub numbers_with : (n mask : ℕ) → has_bit mask n ≡ true → numbers_in (n + 1) mask ≡ numbers_in n mask ++ n ∷ []
numbers_with n mask is = rw add-one (one_more n mask true is)

pub numbers_without : (n mask : ℕ) → has_bit mask n ≡ false → numbers_in (n + 1) mask ≡ numbers_in n mask
numbers_without n mask is = rw add-one (one_more n mask false is)

pub some_more : (hs : List ℕ) (h : ℕ) → is_none (hs ++ h ∷ []) ≡ false
some_more [] h = refl
some_more (x ∷ xs) h = refl

-- the harts of a list where some may be read
pub harts_from_some : (n mask : ℕ) (text : List ℕ) → 0 < n → harts_from n mask text ≡ harts_by (harts_from (n - 1)) mask text (cut_at 44 text)
harts_from_some zero mask text some = absurd (omega arith)
harts_from_some (suc n) mask text some = let one_less : suc n - 1 ≡ n = omega arith in rw one_less refl

pub numbers_none : (mask : ℕ) → numbers_in 0 mask ≡ []
unfolding numbers_in
numbers_none mask = refl
