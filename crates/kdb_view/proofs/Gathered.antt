-- The processors in a session are processors of the machine.
use Rattle.std.proofs.Common.{◌≡◌, ℕ, zero, suc, ◌+◌, ◌-◌, ◌^◌, ◌<◌, ◌≤◌, Bool, true, false, cond, List, [], ◌++◌, inl, inr, sym, refl, ap, ◌∙◌, arith}
use Rattle.std.proofs.Math.Nat.{pow-le-pow_right}
use Rattle.std.proofs.lemmas.Bool.{cases_lt, cases_Bool}
use Rattle.std.proofs.lemmas.List.{append-nil}
use Rattle.mach_base.specs.Machine.{LineState}
use Rattle.mach_base.specs.Number.{dec_text}
use Rattle.mach_base.specs.Masks.{has_bit}
use Rattle.mach_base.proofs.Bits.{has_bit-below}
use Rattle.kdb_view.specs.Processors.{number_text, numbers_text, separator, processor_frames, frames_below}

-- a mask below a power of two has no bit from the power's number on
pub gathered_there : (gathered n count : ℕ) → gathered < 2 ^ count → has_bit gathered n ≡ true → n < count
gathered_there gathered n count below is = has_bit-below gathered count n below is

no_bit : (gathered n count : ℕ) → gathered < 2 ^ count → count ≤ n → has_bit gathered n ≡ false
no_bit gathered n count below past =
    elim (cases_Bool (has_bit gathered n)) [
      | inl is ↦
          let there : n < count = has_bit-below gathered count n below is in
          absurd (omega arith)
      | inr clear ↦ clear
    ]

pub not_gathered : (gathered n : ℕ) → gathered < 2 ^ 64 → 64 ≤ n → has_bit gathered n ≡ false
not_gathered gathered n below past = no_bit gathered n 64 below past

pub all_of_64 : (gathered : ℕ) → gathered < 18446744073709551616 → gathered < 2 ^ 64
all_of_64 gathered below = below

-- the numbers from the power's on add nothing
numbers_text-more : (gathered count more : ℕ) → gathered < 2 ^ count → numbers_text gathered (more + count) ≡ numbers_text gathered count
unfolding number_text
numbers_text-more gathered count zero below =
    let same : zero + count ≡ count = omega arith in
    ap (numbers_text gathered) same
numbers_text-more gathered count (suc more) below =
    let next : suc more + count ≡ suc (more + count) = omega arith in
    let past : count ≤ more + count = omega arith in
    let none = no_bit gathered (more + count) count below past in
    let before = numbers_text gathered (more + count) in
    ap (numbers_text gathered) next
    ∙ ap (λ (b : Bool). before ++ cond b (separator before ++ dec_text (more + count)) []) none
    ∙ append-nil before
    ∙ numbers_text-more gathered count more below

pub all_numbers_there : (gathered count harts : ℕ) → gathered < 2 ^ count → count ≤ harts → numbers_text gathered count ≡ numbers_text gathered harts
all_numbers_there gathered count harts below within =
    let size : harts ≡ (harts - count) + count = omega arith in
    sym (ap (numbers_text gathered) size ∙ numbers_text-more gathered count (harts - count) below)

frames_below-more : (gathered count more : ℕ) (s : LineState) → gathered < 2 ^ count → frames_below gathered s (more + count) ≡ frames_below gathered s count
frames_below-more gathered count zero s below =
    let same : zero + count ≡ count = omega arith in
    ap (frames_below gathered s) same
frames_below-more gathered count (suc more) s below =
    let next : suc more + count ≡ suc (more + count) = omega arith in
    let past : count ≤ more + count = omega arith in
    let none = no_bit gathered (more + count) count below past in
    let before = frames_below gathered s (more + count) in
    ap (frames_below gathered s) next
    ∙ ap (λ (b : Bool). before ++ cond b (processor_frames s (more + count)) []) none
    ∙ append-nil before
    ∙ frames_below-more gathered count more s below

pub all_frames_there : (gathered count harts : ℕ) (s : LineState) → gathered < 2 ^ count → count ≤ harts → frames_below gathered s count ≡ frames_below gathered s harts
all_frames_there gathered count harts s below within =
    let size : harts ≡ (harts - count) + count = omega arith in
    sym (ap (frames_below gathered s) size ∙ frames_below-more gathered count (harts - count) s below)
