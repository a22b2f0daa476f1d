-- Masks, bit by bit, and what the code computes in the words of the definitions.
use Rattle.std.proofs.Common.{◌≡◌, ℕ, suc, ◌+◌, ◌-◌, ◌*◌, ◌/◌, ◌%◌, ◌^◌, ◌<◌, ◌≤◌, ◌==◌, true, false, not, refl, sym, ◌∙◌, ap, subst, inl, inr, arith, bit_and, bit_or, bit_xor, Some, None}
use Rattle.std.proofs.lemmas.Bool.{cases_eq, cases_lt, eq-eqb, ne_eqb, eqb-true, eqb-false, cond-true, cond-false}
use Rattle.std.proofs.lemmas.Nat.{or_lt, xor_lt, pow_below, pow_pos, one_shl, trailing_le}
use Rattle.std.proofs.lemmas.Nat.Bits.{shr_and_one, bit_at_or, bit_at_xor, bit_at-pow_same, bit_at-pow_other, bit_at-zero, bit_at_ones, bit_at_ones_above, bit_at_above, bit_at-lt, bit_at-trailing_zeros, same_from_bits}
use Rattle.std.specs.Int.{bit_at, trailing_zeros, w64}
use Rattle.mach_base.specs.Masks.{has_bit, mask_with, mask_without, all_but, least, least_outside}

pub has_bit-zero : (k : ℕ) → has_bit 0 k ≡ false
unfolding has_bit
has_bit-zero k = ne_eqb (bit_at 0 k) 1 (λ e. omega (arith, bit_at-zero k))

pub has_bit-with_same : (m i : ℕ) → has_bit (mask_with m i) i ≡ true
unfolding has_bit mask_with
has_bit-with_same m i = eq-eqb _ _ (omega (arith, bit_at_or m (2 ^ i) i, bit_at-pow_same i, bit_at-lt m i))

pub has_bit-with_other : (m i k : ℕ) → (k ≡ i → ⊥) → has_bit (mask_with m i) k ≡ has_bit m k
unfolding has_bit mask_with
has_bit-with_other m i k ne =
    let e : bit_at (bit_or m (2 ^ i)) k ≡ bit_at m k = omega (arith, bit_at_or m (2 ^ i) k, bit_at-pow_other i k ne) in
    ap (λ x. x == 1) e

pub has_bit-without_same : (m i : ℕ) → has_bit m i ≡ true → has_bit (mask_without m i) i ≡ false
unfolding has_bit mask_without
has_bit-without_same m i h =
    ne_eqb _ _ (λ e. omega (arith, e, bit_at_xor m (2 ^ i) i, bit_at-pow_same i, eqb-true (bit_at m i) 1 h))

pub has_bit-without_other : (m i k : ℕ) → (k ≡ i → ⊥) → has_bit (mask_without m i) k ≡ has_bit m k
unfolding has_bit mask_without
has_bit-without_other m i k ne =
    let e : bit_at (bit_xor m (2 ^ i)) k ≡ bit_at m k = omega (arith, bit_at_xor m (2 ^ i) k, bit_at-pow_other i k ne, bit_at-lt m k) in
    ap (λ x. x == 1) e

pub has_bit-below : (m n k : ℕ) → m < 2 ^ n → has_bit m k ≡ true → k < n
unfolding has_bit
has_bit-below m n k lt h =
    elim (cases_lt k n) [ inl p ↦ p | inr p ↦ absurd (omega (arith, bit_at_above m n k lt p, eqb-true (bit_at m k) 1 h)) ]

pub has_bit-all_but_inside : (n m k : ℕ) → k < n → has_bit (all_but n m) k ≡ not (has_bit m k)
unfolding has_bit all_but
has_bit-all_but_inside n m k p =
    elim (cases_eq (bit_at m k) 1) [
      | inl e ↦
          ne_eqb _ 1 (λ f. omega (arith, e, f, bit_at_xor (2 ^ n - 1) m k, bit_at_ones n k p)) ∙ sym (ap not (eq-eqb (bit_at m k) 1 e))
      | inr ne ↦
          eq-eqb _ 1 (omega (arith, ne, bit_at_xor (2 ^ n - 1) m k, bit_at_ones n k p, bit_at-lt m k)) ∙ sym (ap not (ne_eqb (bit_at m k) 1 ne))
    ]

pub has_bit-all_but_outside : (n m k : ℕ) → m < 2 ^ n → n ≤ k → has_bit (all_but n m) k ≡ false
unfolding has_bit all_but
has_bit-all_but_outside n m k lt p = ne_eqb _ _ (λ e. omega (arith, e, bit_at_xor (2 ^ n - 1) m k, bit_at_ones_above n k p, bit_at_above m n k lt p))

pub all_but-lt : (n m : ℕ) → m < 2 ^ n → all_but n m < 2 ^ n
unfolding all_but
all_but-lt n m lt = xor_lt n _ _ (omega (arith, pow_pos n)) lt

pub mask_with-lt : (n m i : ℕ) → m < 2 ^ n → i < n → mask_with m i < 2 ^ n
unfolding mask_with
mask_with-lt n m i lt p = or_lt n _ _ lt (pow_below i n p)

pub mask_without-lt : (n m i : ℕ) → m < 2 ^ n → i < n → mask_without m i < 2 ^ n
unfolding mask_without
mask_without-lt n m i lt p = xor_lt n _ _ lt (pow_below i n p)

pub has_bit-least : (m : ℕ) → 0 < m → m < 2 ^ 16 → has_bit m (least m) ≡ true
unfolding has_bit least
has_bit-least m p lt = eq-eqb _ _ ((bit_at-trailing_zeros w64 m p (omega arith)).1)

pub pow_32 : (n : ℕ) → n ≤ 32 → 2 ^ n ≤ 2 ^ 32
pow_32 n le =
    elim (cases_lt n 32) [
      | inl p ↦ omega (arith, pow_below n 32 p)
      | inr p ↦ let e : n ≡ 32 = omega arith in subst (λ k. 2 ^ k ≤ 2 ^ 32) (sym e) (omega arith)
    ]

-- two masks with the same numbers are one
pub same_mask : (a b : ℕ) → ((k : ℕ) → has_bit a k ≡ has_bit b k) → a ≡ b
unfolding has_bit
same_mask a b same = same_from_bits a b (λ k.
    elim (cases_eq (bit_at a k) 1) [
      | inl e ↦ e ∙ sym (eqb-true (bit_at b k) 1 (sym (same k) ∙ eq-eqb (bit_at a k) 1 e))
      | inr ne ↦
          let ne2 : bit_at b k ≡ 1 → ⊥ = eqb-false (bit_at b k) 1 (sym (same k) ∙ ne_eqb (bit_at a k) 1 ne) in
          omega (arith, ne, ne2, bit_at-lt a k, bit_at-lt b k)
    ])

pub has_by_shift : (n i : ℕ) → bit_and (n / 2 ^ i) 1 ≡ bit_at n i
has_by_shift n i = shr_and_one n i

pub one_at : (k : ℕ) → k < 64 → (1 * 2 ^ k) % 2 ^ 64 ≡ 2 ^ k
one_at k lt = one_shl k 64 lt

trailing_below : (m : ℕ) → 0 < m → m < 2 ^ 64 → trailing_zeros w64 m < 64
trailing_below m p lt = (bit_at-trailing_zeros w64 m p lt).0

pub least_small : (m : ℕ) → 0 < m → m < 2 ^ 64 → least m < 64
unfolding least
least_small m p lt = trailing_below m p lt

pub trailing_at_most : (m : ℕ) → trailing_zeros w64 m ≤ 64
trailing_at_most m = trailing_le 64 m

-- a search in the harts from k on, one hart further
pub search_on : (harts k mask : ℕ) → k < harts → has_bit mask k ≡ true → least_outside (harts - (k + 1)) (k + 1) mask ≡ least_outside (harts - k) k mask
search_on harts k mask lt h =
    let e : harts - k ≡ suc (harts - (k + 1)) = omega arith in
    subst (λ n. least_outside (harts - (k + 1)) (k + 1) mask ≡ least_outside n k mask) (sym e)
    (sym (cond-true (has_bit mask k) (least_outside (harts - (k + 1)) (k + 1) mask) (Some k) h))

pub search_found : (harts k mask : ℕ) → k < harts → has_bit mask k ≡ false → Some k ≡ least_outside (harts - k) k mask
search_found harts k mask lt h =
    let e : harts - k ≡ suc (harts - (k + 1)) = omega arith in
    subst (λ n. Some k ≡ least_outside n k mask) (sym e)
    (sym (cond-false (has_bit mask k) (least_outside (harts - (k + 1)) (k + 1) mask) (Some k) h))

pub search_ended : (harts k mask : ℕ) → harts ≤ k → None ≡ least_outside (harts - k) k mask
search_ended harts k mask le =
    let e : harts - k ≡ 0 = omega arith in
    subst (λ n. None ≡ least_outside n k mask) (sym e) refl
