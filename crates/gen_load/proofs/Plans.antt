-- The plan and the lines `go`, one longer; and the harts of a plan.
use Rattle.std.proofs.Common.{◌≡◌, ℕ, zero, suc, ◌+◌, ◌*◌, ◌^◌, ◌<◌, List, [], ◌∷◌, ◌++◌, codes, refl, ap, sym, ◌∙◌, append-nil, append_assoc, arith}
use Rattle.std.proofs.lemmas.Nat.{div_below, mod_below}
use Rattle.gen_load.specs.Input.{AreBelow, goes, hart_of, next_number, plan_to, sequence}

successor : (n : ℕ) → n + 1 ≡ suc n
successor n = omega arith

one_more_go : (n : ℕ) → goes (n + 1) ≡ goes n ++ codes "go\n"
unfolding goes
one_more_go n = ap goes (successor n)

sequence_on : (number k : ℕ) → sequence number (k + 1) ≡ next_number (sequence number k)
unfolding sequence
sequence_on number k = ap (sequence number) (successor k)

one_more_tick : (number k : ℕ) → plan_to number (k + 1) ≡ plan_to number k ++ hart_of (next_number (sequence number k)) ∷ []
unfolding plan_to sequence
one_more_tick number k = ap (plan_to number) (successor k)

pub no_tick : (number : ℕ) → plan_to number 0 ≡ []
unfolding plan_to
no_tick number = refl

pub sequence_begins : (number : ℕ) → sequence number 0 ≡ number
unfolding sequence
sequence_begins number = refl

-- the text before the first line `go`, and after one more
pub none_yet : (before : List ℕ) → before ≡ before ++ goes 0
unfolding goes
none_yet before = sym (append-nil before)

pub grown : (before so_far now : List ℕ) (n : ℕ) → so_far ≡ before ++ goes n → now ≡ so_far ++ codes "go\n" → now ≡ before ++ goes (n + 1)
grown before so_far now n is more = more ∙ ap (λ xs. xs ++ codes "go\n") is ∙ append_assoc before (goes n) (codes "go\n") ∙ ap (λ xs. before ++ xs) (sym (one_more_go n))

-- one number and one tick more
pub drawn_on : (number k before now : ℕ) → before ≡ sequence number k → now ≡ next_number before → now ≡ sequence number (k + 1)
drawn_on number k before now is next = next ∙ ap next_number is ∙ sym (sequence_on number k)

pub plan_on : (number k drawn hart : ℕ) (plan now : List ℕ) → plan ≡ plan_to number k → drawn ≡ next_number (sequence number k) → hart ≡ hart_of drawn → now ≡ plan ++ hart ∷ [] → now ≡ plan_to number (k + 1)
plan_on number k drawn hart plan now is next here more =
    more ∙ ap (λ xs. xs ++ hart ∷ []) is ∙ ap (λ h. plan_to number k ++ h ∷ []) (here ∙ ap hart_of next) ∙ sym (one_more_tick number k)

-- the highest two bits of 64 are below 4
hart-below : (n : ℕ) → hart_of (next_number n) < 4
hart-below n = div_below (next_number n) (2 ^ 62) 4 (omega arith) (omega (arith, mod_below (n * 6364136223846793005 + 1442695040888963407) (2 ^ 64) (omega arith)))

below-append : (harts : ℕ) (xs ys : List ℕ) → AreBelow harts xs → AreBelow harts ys → AreBelow harts (xs ++ ys)
below-append harts [] ys first second = second
below-append harts (x ∷ xs) ys first second = (first.0, below-append harts xs ys first.1 second)

pub plan_below : (number k : ℕ) → AreBelow 4 (plan_to number k)
unfolding plan_to sequence
plan_below number zero = tt
plan_below number (suc k) =
    below-append 4 (plan_to number k) (hart_of (sequence number (suc k)) ∷ []) (plan_below number k) (hart-below (sequence number k), tt)
