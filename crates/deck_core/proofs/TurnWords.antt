-- The turn word's parts.
use Rattle.std.proofs.Common.{◌≡◌, ℕ, ◌<◌, ◌^◌, arith}
use Rattle.std.proofs.lemmas.Nat.{shr_high, mod_low}
use Rattle.deck_core.specs.plain.Words.{turn_word, mask_of, holder_of}

pub mask_of-turn_word : (m k : ℕ) → m < 2 ^ 32 → mask_of (turn_word m k) ≡ m
unfolding mask_of turn_word
mask_of-turn_word m k lt = mod_low k 32 m lt

pub holder_of-turn_word : (m k : ℕ) → m < 2 ^ 32 → holder_of (turn_word m k) ≡ k
unfolding holder_of turn_word
holder_of-turn_word m k lt = shr_high k 32 m lt

pub mask_of-lt : (t : ℕ) → mask_of t < 2 ^ 32
unfolding mask_of
mask_of-lt t = omega arith

pub mask_of-small : (m : ℕ) → m < 2 ^ 32 → mask_of m ≡ m
unfolding mask_of
mask_of-small m lt = omega arith

pub holder_of-small : (m : ℕ) → m < 2 ^ 32 → holder_of m ≡ 0
unfolding holder_of
holder_of-small m lt = omega arith
