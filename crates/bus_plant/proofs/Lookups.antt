-- Look-ups of planted words, place by place.
use Rattle.std.proofs.Common.{◌≡◌, ℕ, zero, suc, ◌+◌, ◌<◌, ◌≤◌, eqb, Bool, true, false, cond, ◌||◌, ◌⊎◌, inl, inr, List, [], ◌∷◌, length, get_or, drop, Option, Some, None, is_some, refl, sym, ap, ◌∙◌, arith}
use Rattle.std.proofs.lemmas.Bool.{cases_eq, cases_lt}
use Rattle.mach_base.proofs.Bits.{has_bit-zero, has_bit-with_same, has_bit-with_other}
use Rattle.mach_base.specs.Masks.{has_bit, mask_with}
use Rattle.bus_plant.specs.Planted.{has_address, planted_mask}
use Rattle.bus_plant.specs.Saved.{address_of, addresses, saved_word, word_for}
use Rattle.bus_plant.specs.declared.saved.Saved.{Saved}

-- the first place decides where it has a word for the address
found_first : (w : Option Saved) (ws : List (Option Saved)) (addr word : ℕ) → word_for w addr ≡ Some word → saved_word (w ∷ ws) addr ≡ Some word
found_first None ws addr word e = absurd (cc)
found_first (Some s) ws addr word e = by_address (eqb s.addr addr) e
  where
    by_address : (b : Bool) → cond b (Some s.word) None ≡ Some word → cond b (Some s.word) (saved_word ws addr) ≡ Some word
    by_address true f = f
    by_address false f = absurd (cc)

other_first : (w : Option Saved) (ws : List (Option Saved)) (addr : ℕ) → word_for w addr ≡ None → saved_word (w ∷ ws) addr ≡ saved_word ws addr
other_first None ws addr e = refl
other_first (Some s) ws addr e = by_address (eqb s.addr addr) e
  where
    by_address : (b : Bool) → cond b (Some s.word) None ≡ None → cond b (Some s.word) (saved_word ws addr) ≡ saved_word ws addr
    by_address true f = absurd (cc)
    by_address false f = refl

pub saved_word-found : (ws : List (Option Saved)) (i addr word : ℕ) (d : Option Saved) → i < length ws → word_for (get_or ws i d) addr ≡ Some word → saved_word (drop i ws) addr ≡ Some word
saved_word-found [] i addr word d h e = absurd (omega arith)
saved_word-found (w ∷ ws) zero addr word d h e = found_first w ws addr word e
saved_word-found (w ∷ ws) (suc i) addr word d h e = saved_word-found ws i addr word d (omega arith) e

pub saved_word-further : (ws : List (Option Saved)) (i addr : ℕ) (d : Option Saved) → i < length ws → word_for (get_or ws i d) addr ≡ None → saved_word (drop i ws) addr ≡ saved_word (drop (i + 1) ws) addr
saved_word-further [] i addr d h e = absurd (omega arith)
saved_word-further (w ∷ ws) zero addr d h e = other_first w ws addr e
saved_word-further (w ∷ ws) (suc i) addr d h e =
    let more : suc i + 1 ≡ suc (i + 1) = omega arith in
    rw more (saved_word-further ws i addr d (omega arith) e)

pub saved_word-past : (ws : List (Option Saved)) (i addr : ℕ) → length ws ≤ i → saved_word (drop i ws) addr ≡ None
saved_word-past [] zero addr h = refl
saved_word-past [] (suc i) addr h = refl
saved_word-past (w ∷ ws) zero addr h = absurd (omega arith)
saved_word-past (w ∷ ws) (suc i) addr h = saved_word-past ws i addr (omega arith)

-- one place more in the mask
is_some-address : (ws : List (Option Saved)) (k : ℕ) (d : Option Saved) → k < length ws → is_some (get_or (addresses ws) k None) ≡ is_some (get_or ws k d)
is_some-address [] k d h = absurd (omega arith)
is_some-address (None ∷ ws) zero d h = refl
is_some-address (Some s ∷ ws) zero d h = refl
is_some-address (w ∷ ws) (suc k) d h = is_some-address ws k d (omega arith)

pub planted_mask-more : (ws : List (Option Saved)) (k mask new : ℕ) (d : Option Saved) → k < length ws → mask ≡ planted_mask (addresses ws) k → new ≡ cond (is_some (get_or ws k d)) (mask_with mask k) mask → new ≡ planted_mask (addresses ws) (k + 1)
planted_mask-more ws k mask new d h so_far e =
    let more : k + 1 ≡ suc k = omega arith in
    rw more (e ∙ ap (λ b. cond b (mask_with mask k) mask) (sym (is_some-address ws k d h)) ∙ ap (λ m. cond (is_some (get_or (addresses ws) k None)) (mask_with m k) m) so_far)

-- the mask has the places that are planted, and no others
bit-past : (places : List (Option ℕ)) (n k : ℕ) → n ≤ k → has_bit (planted_mask places n) k ≡ false
bit-past places zero k h = has_bit-zero k
bit-past places (suc n) k h = by_place (is_some (get_or places n None)) (bit-past places n k (omega arith))
  where
    by_place : (b : Bool) → has_bit (planted_mask places n) k ≡ false → has_bit (cond b (mask_with (planted_mask places n) n) (planted_mask places n)) k ≡ false
    by_place true before = has_bit-with_other (planted_mask places n) n k (λ e. omega arith) ∙ before
    by_place false before = before

bit-within : (places : List (Option ℕ)) (n k : ℕ) → k < n → has_bit (planted_mask places n) k ≡ is_some (get_or places k None)
bit-within places zero k h = absurd (omega arith)
bit-within places (suc n) k h = by_number (cases_eq k n) (λ below. bit-within places n k below)
  where
    here : (b : Bool) → is_some (get_or places n None) ≡ b → has_bit (cond b (mask_with (planted_mask places n) n) (planted_mask places n)) n ≡ b
    here true e = has_bit-with_same (planted_mask places n) n
    here false e = bit-past places n n (omega arith)

    elsewhere : (b : Bool) → (k ≡ n → ⊥) → has_bit (cond b (mask_with (planted_mask places n) n) (planted_mask places n)) k ≡ has_bit (planted_mask places n) k
    elsewhere true ne = has_bit-with_other (planted_mask places n) n k ne
    elsewhere false ne = refl

    below_other : (k ≡ n → ⊥) → k < n
    below_other ne = elim (cases_lt k n) as (λ _. k < n) [ inl lt ↦ lt | inr ge ↦ absurd (ne (omega arith)) ]

    by_number : (k ≡ n) ⊎ (k ≡ n → ⊥) → (k < n → has_bit (planted_mask places n) k ≡ is_some (get_or places k None)) → has_bit (planted_mask places (suc n)) k ≡ is_some (get_or places k None)
    by_number (inl e) before =
        ap (has_bit (planted_mask places (suc n))) e ∙ here (is_some (get_or places n None)) refl ∙ ap (λ j. is_some (get_or places j None)) (sym e)
    by_number (inr ne) before = elsewhere (is_some (get_or places n None)) ne ∙ before (below_other ne)

get_or-past : (ws : List (Option Saved)) (k : ℕ) → length ws ≤ k → get_or (addresses ws) k None ≡ None
get_or-past [] k h = refl
get_or-past (w ∷ ws) zero h = absurd (omega arith)
get_or-past (w ∷ ws) (suc k) h = get_or-past ws k (omega arith)

pub planted_places : (ws : List (Option Saved)) (mask : ℕ) → mask ≡ planted_mask (addresses ws) (length ws) → (k : ℕ) → has_bit mask k ≡ is_some (get_or (addresses ws) k None)
planted_places ws mask e k =
    ap (λ m. has_bit m k) e
    ∙ elim (cases_lt k (length ws)) as (λ _. has_bit (planted_mask (addresses ws) (length ws)) k ≡ is_some (get_or (addresses ws) k None)) [
      | inl lt ↦ bit-within (addresses ws) (length ws) k lt
      | inr ge ↦ bit-past (addresses ws) (length ws) k ge ∙ sym (ap is_some (get_or-past ws k ge))
    ]

-- a word is saved for exactly the planted addresses
pub is_some-saved : (ws : List (Option Saved)) (addr : ℕ) → is_some (saved_word ws addr) ≡ has_address (addresses ws) addr
is_some-saved [] addr = refl
is_some-saved (None ∷ ws) addr = is_some-saved ws addr
is_some-saved (Some s ∷ ws) addr = by_address (eqb s.addr addr) (is_some-saved ws addr)
  where
    by_address : (b : Bool) → is_some (saved_word ws addr) ≡ has_address (addresses ws) addr → is_some (cond b (Some s.word) (saved_word ws addr)) ≡ (b || has_address (addresses ws) addr)
    by_address true rest = refl
    by_address false rest = rest
