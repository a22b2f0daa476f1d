-- The words of each form: from a word to its fields and back.
use Rattle.std.proofs.Common.{◌≡◌, ℕ, ◌+◌, ◌*◌, ◌%◌, ◌^◌, ◌<◌, ap, ◌∙◌, arith}
use Rattle.rv_decode.specs.Bits.{bits_at}
use Rattle.rv_decode.specs.Encoding.{moved}

-- a row's value with fields at their bits
abbrev pub word_of : ℕ → ℕ → ℕ → ℕ → ℕ → ℕ → ℕ → ℕ
word_of value rd rs1 rs2 aq rl im = value + rd * 2 ^ 7 + rs1 * 2 ^ 15 + rs2 * 2 ^ 20 + aq * 2 ^ 26 + rl * 2 ^ 25 + im

-- the immediates of a word, before their sign, and the bits of an immediate
abbrev pub b_number : ℕ → ℕ
b_number w = bits_at w 31 1 * 2 ^ 12 + bits_at w 7 1 * 2 ^ 11 + bits_at w 25 6 * 2 ^ 5 + bits_at w 8 4 * 2

abbrev pub j_number : ℕ → ℕ
j_number w = bits_at w 31 1 * 2 ^ 20 + bits_at w 12 8 * 2 ^ 12 + bits_at w 20 1 * 2 ^ 11 + bits_at w 21 10 * 2

abbrev pub s_number : ℕ → ℕ
s_number w = bits_at w 25 7 * 2 ^ 5 + bits_at w 7 5

abbrev pub b_bits : ℕ → ℕ
b_bits p = moved p 12 1 31 + moved p 5 6 25 + moved p 1 4 8 + moved p 11 1 7

abbrev pub j_bits : ℕ → ℕ
j_bits p = moved p 20 1 31 + moved p 1 10 21 + moved p 11 1 20 + moved p 12 8 12

abbrev pub s_bits : ℕ → ℕ
s_bits p = moved p 5 7 25 + moved p 0 5 7

-- what each mask leaves of a word
abbrev pub under_funct3 : ℕ → ℕ
under_funct3 w = w % 2 ^ 7 + bits_at w 12 3 * 2 ^ 12

abbrev pub under_funct6 : ℕ → ℕ
under_funct6 w = w % 2 ^ 7 + bits_at w 12 3 * 2 ^ 12 + bits_at w 26 6 * 2 ^ 26

abbrev pub under_funct7 : ℕ → ℕ
under_funct7 w = w % 2 ^ 7 + bits_at w 12 3 * 2 ^ 12 + bits_at w 25 7 * 2 ^ 25

abbrev pub under_funct5 : ℕ → ℕ
under_funct5 w = w % 2 ^ 7 + bits_at w 12 3 * 2 ^ 12 + bits_at w 27 5 * 2 ^ 27

abbrev pub under_funct5_rs2 : ℕ → ℕ
under_funct5_rs2 w = w % 2 ^ 7 + bits_at w 12 3 * 2 ^ 12 + bits_at w 20 5 * 2 ^ 20 + bits_at w 27 5 * 2 ^ 27

-- ---- from a word to its fields and back to the word

-- the bits of an offset, where p is the offset's pattern
j_bits-number : (w p : ℕ) → p % 2 ^ 21 ≡ j_number w
    → j_bits p ≡ bits_at w 31 1 * 2 ^ 31 + bits_at w 21 10 * 2 ^ 21 + bits_at w 20 1 * 2 ^ 20 + bits_at w 12 8 * 2 ^ 12
j_bits-number w p e = parts (bits_at w 31 1) (bits_at w 12 8) (bits_at w 20 1) (bits_at w 21 10) (omega arith) (omega arith) (omega arith) (omega arith) e
  where
    parts : (a b c d : ℕ) → a < 2 → b < 2 ^ 8 → c < 2 → d < 2 ^ 10 → p % 2 ^ 21 ≡ a * 2 ^ 20 + b * 2 ^ 12 + c * 2 ^ 11 + d * 2
        → j_bits p ≡ a * 2 ^ 31 + d * 2 ^ 21 + c * 2 ^ 20 + b * 2 ^ 12
    parts a b c d k l m n e = omega arith

b_bits-number : (w p : ℕ) → p % 2 ^ 13 ≡ b_number w
    → b_bits p ≡ bits_at w 31 1 * 2 ^ 31 + bits_at w 25 6 * 2 ^ 25 + bits_at w 8 4 * 2 ^ 8 + bits_at w 7 1 * 2 ^ 7
b_bits-number w p e = parts (bits_at w 31 1) (bits_at w 7 1) (bits_at w 25 6) (bits_at w 8 4) (omega arith) (omega arith) (omega arith) (omega arith) e
  where
    parts : (a b c d : ℕ) → a < 2 → b < 2 → c < 2 ^ 6 → d < 2 ^ 4 → p % 2 ^ 13 ≡ a * 2 ^ 12 + b * 2 ^ 11 + c * 2 ^ 5 + d * 2
        → b_bits p ≡ a * 2 ^ 31 + c * 2 ^ 25 + d * 2 ^ 8 + b * 2 ^ 7
    parts a b c d k l m n e = omega arith

pub again_u : (w p : ℕ) → w < 2 ^ 32 → p % 2 ^ 32 ≡ bits_at w 12 20 * 2 ^ 12
    → word_of (w % 2 ^ 7) (bits_at w 7 5) 0 0 0 0 (moved p 12 20 12) ≡ w
again_u w p h e = omega arith

pub again_j : (w p : ℕ) → w < 2 ^ 32 → p % 2 ^ 21 ≡ j_number w
    → word_of (w % 2 ^ 7) (bits_at w 7 5) 0 0 0 0 (j_bits p) ≡ w
again_j w p h e = ap (word_of (w % 2 ^ 7) (bits_at w 7 5) 0 0 0 0) (j_bits-number w p e) ∙ omega arith

pub again_i : (w p : ℕ) → w < 2 ^ 32 → p % 2 ^ 12 ≡ bits_at w 20 12
    → word_of (under_funct3 w) (bits_at w 7 5) (bits_at w 15 5) 0 0 0 (moved p 0 12 20) ≡ w
again_i w p h e = omega arith

pub again_b : (w p : ℕ) → w < 2 ^ 32 → p % 2 ^ 13 ≡ b_number w
    → word_of (under_funct3 w) 0 (bits_at w 15 5) (bits_at w 20 5) 0 0 (b_bits p) ≡ w
again_b w p h e = ap (word_of (under_funct3 w) 0 (bits_at w 15 5) (bits_at w 20 5) 0 0) (b_bits-number w p e) ∙ omega arith

pub again_s : (w p : ℕ) → w < 2 ^ 32 → p % 2 ^ 12 ≡ s_number w
    → word_of (under_funct3 w) 0 (bits_at w 15 5) (bits_at w 20 5) 0 0 (s_bits p) ≡ w
again_s w p h e = omega arith

pub again_shift6 : (w : ℕ) → w < 2 ^ 32
    → word_of (under_funct6 w) (bits_at w 7 5) (bits_at w 15 5) 0 0 0 (moved (bits_at w 20 6) 0 6 20) ≡ w
again_shift6 w h = omega arith

pub again_shift5 : (w : ℕ) → w < 2 ^ 32
    → word_of (under_funct7 w) (bits_at w 7 5) (bits_at w 15 5) 0 0 0 (moved (bits_at w 20 5) 0 5 20) ≡ w
again_shift5 w h = omega arith

pub again_r : (w : ℕ) → w < 2 ^ 32 → word_of (under_funct7 w) (bits_at w 7 5) (bits_at w 15 5) (bits_at w 20 5) 0 0 0 ≡ w
again_r w h = omega arith

pub again_lr : (w : ℕ) → w < 2 ^ 32
    → word_of (under_funct5_rs2 w) (bits_at w 7 5) (bits_at w 15 5) 0 (bits_at w 26 1) (bits_at w 25 1) 0 ≡ w
again_lr w h = omega arith

pub again_amo : (w : ℕ) → w < 2 ^ 32
    → word_of (under_funct5 w) (bits_at w 7 5) (bits_at w 15 5) (bits_at w 20 5) (bits_at w 26 1) (bits_at w 25 1) 0 ≡ w
again_amo w h = omega arith

-- ---- from fields to their word and back to the fields

pub back_u : (v rd p w : ℕ) → v ≡ v % 2 ^ 7 → rd < 32 → p < 2 ^ 32 → p % 4096 ≡ 0 → w ≡ word_of v rd 0 0 0 0 (moved p 12 20 12)
    → (w < 2 ^ 32) × (w % 2 ^ 7 ≡ v) × (bits_at w 7 5 ≡ rd) × (bits_at w 12 20 * 2 ^ 12 ≡ p % 2 ^ 32)
back_u v rd p w hv r k m e = (omega arith, omega arith, omega arith, omega arith)

pub back_j : (v rd p w : ℕ) → v ≡ v % 2 ^ 7 → rd < 32 → p % 2 ≡ 0 → w ≡ word_of v rd 0 0 0 0 (j_bits p)
    → (w < 2 ^ 32) × (w % 2 ^ 7 ≡ v) × (bits_at w 7 5 ≡ rd) × (j_number w ≡ p % 2 ^ 21)
back_j v rd p w hv r m e = parts (bits_at p 20 1) (bits_at p 12 8) (bits_at p 11 1) (bits_at p 1 10)
    (omega arith) (omega arith) (omega arith) (omega arith) (omega arith) e
  where
    parts : (a b c d : ℕ) → a < 2 → b < 2 ^ 8 → c < 2 → d < 2 ^ 10 → a * 2 ^ 20 + b * 2 ^ 12 + c * 2 ^ 11 + d * 2 ≡ p % 2 ^ 21
        → w ≡ word_of v rd 0 0 0 0 (a * 2 ^ 31 + d * 2 ^ 21 + c * 2 ^ 20 + b * 2 ^ 12)
        → (w < 2 ^ 32) × (w % 2 ^ 7 ≡ v) × (bits_at w 7 5 ≡ rd) × (j_number w ≡ p % 2 ^ 21)
    parts a b c d k l n o q e =
        let wa : bits_at w 31 1 ≡ a = omega arith in
        let wb : bits_at w 12 8 ≡ b = omega arith in
        let wc : bits_at w 20 1 ≡ c = omega arith in
        let wd : bits_at w 21 10 ≡ d = omega arith in
        (omega arith, omega arith, omega arith, omega arith)

pub back_i : (v rd rs1 p w : ℕ) → v ≡ under_funct3 v → rd < 32 → rs1 < 32 → w ≡ word_of v rd rs1 0 0 0 (moved p 0 12 20)
    → (w < 2 ^ 32) × (under_funct3 w ≡ v) × (bits_at w 7 5 ≡ rd) × (bits_at w 15 5 ≡ rs1) × (bits_at w 20 12 ≡ p % 2 ^ 12)
back_i v rd rs1 p w hv r s e = (omega arith, omega arith, omega arith, omega arith, omega arith)

pub back_b : (v rs1 rs2 p w : ℕ) → v ≡ under_funct3 v → rs1 < 32 → rs2 < 32 → p % 2 ≡ 0 → w ≡ word_of v 0 rs1 rs2 0 0 (b_bits p)
    → (w < 2 ^ 32) × (under_funct3 w ≡ v) × (bits_at w 15 5 ≡ rs1) × (bits_at w 20 5 ≡ rs2) × (b_number w ≡ p % 2 ^ 13)
back_b v rs1 rs2 p w hv r s m e = parts (bits_at p 12 1) (bits_at p 11 1) (bits_at p 5 6) (bits_at p 1 4)
    (omega arith) (omega arith) (omega arith) (omega arith) (omega arith) e
  where
    parts : (a b c d : ℕ) → a < 2 → b < 2 → c < 2 ^ 6 → d < 2 ^ 4 → a * 2 ^ 12 + b * 2 ^ 11 + c * 2 ^ 5 + d * 2 ≡ p % 2 ^ 13
        → w ≡ word_of v 0 rs1 rs2 0 0 (a * 2 ^ 31 + c * 2 ^ 25 + d * 2 ^ 8 + b * 2 ^ 7)
        → (w < 2 ^ 32) × (under_funct3 w ≡ v) × (bits_at w 15 5 ≡ rs1) × (bits_at w 20 5 ≡ rs2) × (b_number w ≡ p % 2 ^ 13)
    parts a b c d k l n o q e =
        let wa : bits_at w 31 1 ≡ a = omega arith in
        let wb : bits_at w 7 1 ≡ b = omega arith in
        let wc : bits_at w 25 6 ≡ c = omega arith in
        let wd : bits_at w 8 4 ≡ d = omega arith in
        (omega arith, omega arith, omega arith, omega arith, omega arith)

pub back_s : (v rs1 rs2 p w : ℕ) → v ≡ under_funct3 v → rs1 < 32 → rs2 < 32 → w ≡ word_of v 0 rs1 rs2 0 0 (s_bits p)
    → (w < 2 ^ 32) × (under_funct3 w ≡ v) × (bits_at w 15 5 ≡ rs1) × (bits_at w 20 5 ≡ rs2) × (s_number w ≡ p % 2 ^ 12)
back_s v rs1 rs2 p w hv r s e = parts (bits_at p 5 7) (bits_at p 0 5) (omega arith) (omega arith) (omega arith) e
  where
    parts : (a b : ℕ) → a < 2 ^ 7 → b < 2 ^ 5 → a * 2 ^ 5 + b ≡ p % 2 ^ 12 → w ≡ word_of v 0 rs1 rs2 0 0 (a * 2 ^ 25 + b * 2 ^ 7)
        → (w < 2 ^ 32) × (under_funct3 w ≡ v) × (bits_at w 15 5 ≡ rs1) × (bits_at w 20 5 ≡ rs2) × (s_number w ≡ p % 2 ^ 12)
    parts a b k l q e =
        let wa : bits_at w 25 7 ≡ a = omega arith in
        let wb : bits_at w 7 5 ≡ b = omega arith in
        (omega arith, omega arith, omega arith, omega arith, omega arith)

pub back_shift6 : (v rd rs1 x w : ℕ) → v ≡ under_funct6 v → rd < 32 → rs1 < 32 → x < 2 ^ 6 → w ≡ word_of v rd rs1 0 0 0 (moved x 0 6 20)
    → (w < 2 ^ 32) × (under_funct6 w ≡ v) × (bits_at w 7 5 ≡ rd) × (bits_at w 15 5 ≡ rs1) × (bits_at w 20 6 ≡ x)
back_shift6 v rd rs1 x w hv r s k e = (omega arith, omega arith, omega arith, omega arith, omega arith)

pub back_shift5 : (v rd rs1 x w : ℕ) → v ≡ under_funct7 v → rd < 32 → rs1 < 32 → x < 2 ^ 5 → w ≡ word_of v rd rs1 0 0 0 (moved x 0 5 20)
    → (w < 2 ^ 32) × (under_funct7 w ≡ v) × (bits_at w 7 5 ≡ rd) × (bits_at w 15 5 ≡ rs1) × (bits_at w 20 5 ≡ x)
back_shift5 v rd rs1 x w hv r s k e = (omega arith, omega arith, omega arith, omega arith, omega arith)

pub back_r : (v rd rs1 rs2 w : ℕ) → v ≡ under_funct7 v → rd < 32 → rs1 < 32 → rs2 < 32 → w ≡ word_of v rd rs1 rs2 0 0 0
    → (w < 2 ^ 32) × (under_funct7 w ≡ v) × (bits_at w 7 5 ≡ rd) × (bits_at w 15 5 ≡ rs1) × (bits_at w 20 5 ≡ rs2)
back_r v rd rs1 rs2 w hv r s t e = (omega arith, omega arith, omega arith, omega arith, omega arith)

pub back_lr : (v rd rs1 aq rl w : ℕ) → v ≡ under_funct5_rs2 v → rd < 32 → rs1 < 32 → aq < 2 → rl < 2 → w ≡ word_of v rd rs1 0 aq rl 0
    → (w < 2 ^ 32) × (under_funct5_rs2 w ≡ v) × (bits_at w 7 5 ≡ rd) × (bits_at w 15 5 ≡ rs1) × (bits_at w 26 1 ≡ aq) × (bits_at w 25 1 ≡ rl)
back_lr v rd rs1 aq rl w hv r s a l e = (omega arith, omega arith, omega arith, omega arith, omega arith, omega arith)

pub back_amo : (v rd rs1 rs2 aq rl w : ℕ) → v ≡ under_funct5 v → rd < 32 → rs1 < 32 → rs2 < 32 → aq < 2 → rl < 2
    → w ≡ word_of v rd rs1 rs2 aq rl 0
    → (w < 2 ^ 32) × (under_funct5 w ≡ v) × (bits_at w 7 5 ≡ rd) × (bits_at w 15 5 ≡ rs1) × (bits_at w 20 5 ≡ rs2) × (bits_at w 26 1 ≡ aq)
    × (bits_at w 25 1 ≡ rl)
back_amo v rd rs1 rs2 aq rl w hv r s t a l e =
    (omega arith, omega arith, omega arith, omega arith, omega arith, omega arith, omega arith)
