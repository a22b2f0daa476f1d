-- Masks of harts, and sessions whose harts are there.
use Rattle.std.proofs.Common.{◌≡◌, ℕ, ◌*◌, ◌%◌, ◌^◌, ◌<◌, Bool, true, false, not, length, refl, sym, ap, ◌∙◌}
use Rattle.std.proofs.lemmas.Nat.{pow_pos}
use Rattle.std.proofs.lemmas.List.FromFn.{length-map-range_with_len}
use Rattle.img_text.specs.Image.{ImageRecord}
use Rattle.img_text.specs.Boot.{first_context, first_contexts}
use Rattle.mach_base.specs.Masks.{has_bit, all_but}
use Rattle.mach_base.proofs.Bits.{has_bit-zero, has_bit-all_but_inside, all_but-lt, one_at as one_at_place}
use Rattle.mach_base.specs.declared.event.Hart.{Hart}
use Rattle.atom_mach.specs.Modes.{IsSitting}

-- the empty mask has no hart
pub none_has : (k : ℕ) → has_bit 0 k ≡ false
none_has k = has_bit-zero k

pub one_at : (k : ℕ) → k < 64 → (1 * 2 ^ k) % 2 ^ 64 ≡ 2 ^ k
one_at k lt = one_at_place k lt

-- the mask of all others is one of as many harts
pub others_fit : (n k v late g : ℕ) → g ≡ all_but k late → k ≡ v → v ≡ n → late < 2 ^ v → g < 2 ^ n
others_fit n k v late g all e f few = rw (all, e, f) (rw f at (all_but-lt v late few))

-- a hart that isn't late is one of the others
pub others_have : (n late g k : ℕ) → k < n → g ≡ all_but n late → has_bit late k ≡ false → has_bit g k ≡ true
others_have n late g k lt all e = ap (λ i. has_bit i k) all ∙ has_bit-all_but_inside n late k lt ∙ ap not e

-- one of the others isn't late
pub not_late : (n late g k : ℕ) → k < n → g ≡ all_but n late → has_bit g k ≡ true → has_bit late k ≡ false
not_late n late g k lt all e = by_test (has_bit late k) (sym (has_bit-all_but_inside n late k lt) ∙ ap (λ i. has_bit i k) (sym all) ∙ e)
  where
    by_test : (b : Bool) → not b ≡ true → b ≡ false
    by_test true h = absurd (cc)
    by_test false h = refl

-- a session of a hart that is there, with no late harts
pub sits : (harts : ℕ) (m : Hart) → m.0 < harts → IsSitting harts m 0
sits harts m lt = record { master = lt; late_ones = pow_pos harts; on_time = none_has m.0 }

-- as many contexts at the start as harts
pub all_there : (image : ImageRecord) (harts : ℕ) → length (first_contexts image harts) ≡ harts
all_there image harts = length-map-range_with_len (first_context image) 0 harts
