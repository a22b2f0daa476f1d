-- What is left of a word under each form's mask, as runs of its bits.
use Rattle.std.proofs.Common.{◌≡◌, ℕ, ◌+◌, ◌-◌, ◌*◌, ◌/◌, ◌%◌, ◌^◌, ◌<◌, refl, sym, ap, ◌∙◌, arith, bit_and, lit<}
use Rattle.std.proofs.lemmas.Nat.{and_block, and_mask, shr_split, mod_below, pow_pos}
use Rattle.rv_table.specs.declared.op.Form.{Form}
use Rattle.rv_table.specs.declared.op.Form.TheVariants.{U, J, I, Fence, B, S, Shift6, Shift5, R, Lr, Amo, Sys}
use Rattle.rv_table.specs.declared.op.Op.{Op}
use Rattle.rv_table.specs.declared.op.Op.TheVariants.{Lui}
use Rattle.rv_table.specs.Rows.{row_for}
use Rattle.rv_decode.specs.Bits.{bits_at}

-- a mask of two parts cuts a word in two
and_split : (w s m k : ℕ) → m < 2 ^ k → bit_and w (s * 2 ^ k + m) ≡ bit_and (w / 2 ^ k) s * 2 ^ k + bit_and (w % 2 ^ k) m
and_split w s m k h =
    ap (λ x. bit_and x (s * 2 ^ k + m)) (sym (shr_split w k)) ∙ and_block k (w / 2 ^ k) s (w % 2 ^ k) m (mod_below w (2 ^ k) (pow_pos k)) h

-- opcode alone
pub and_opcode : (w : ℕ) → bit_and w 0x7f ≡ w % 2 ^ 7
and_opcode w = and_mask w 7

-- opcode and funct3
pub and_funct3 : (w : ℕ) → bit_and w 0x707f ≡ w % 2 ^ 7 + bits_at w 12 3 * 2 ^ 12
and_funct3 w =
    and_split w 7 0x7f 12 (lit< tt)
    ∙ ap (λ x. x * 2 ^ 12 + bit_and (w % 2 ^ 12) 0x7f) (and_mask (w / 2 ^ 12) 3)
    ∙ ap (λ x. bits_at w 12 3 * 2 ^ 12 + x) (and_mask (w % 2 ^ 12) 7)
    ∙ omega arith

-- opcode, funct3 and the bits from bit k up
and_high : (w j k : ℕ) → 0x707f < 2 ^ k → bit_and w ((2 ^ j - 1) * 2 ^ k + 0x707f) ≡ bits_at w k j * 2 ^ k + ((w % 2 ^ k) % 2 ^ 7 + bits_at (w % 2 ^ k) 12 3 * 2 ^ 12)
and_high w j k h =
    and_split w (2 ^ j - 1) 0x707f k h
    ∙ ap (λ x. x * 2 ^ k + bit_and (w % 2 ^ k) 0x707f) (and_mask (w / 2 ^ k) j)
    ∙ ap (λ x. bits_at w k j * 2 ^ k + x) (and_funct3 (w % 2 ^ k))

pub and_funct6 : (w : ℕ) → bit_and w 0xfc00707f ≡ w % 2 ^ 7 + bits_at w 12 3 * 2 ^ 12 + bits_at w 26 6 * 2 ^ 26
and_funct6 w = and_high w 6 26 (lit< tt) ∙ omega arith

pub and_funct7 : (w : ℕ) → bit_and w 0xfe00707f ≡ w % 2 ^ 7 + bits_at w 12 3 * 2 ^ 12 + bits_at w 25 7 * 2 ^ 25
and_funct7 w = and_high w 7 25 (lit< tt) ∙ omega arith

pub and_funct5 : (w : ℕ) → bit_and w 0xf800707f ≡ w % 2 ^ 7 + bits_at w 12 3 * 2 ^ 12 + bits_at w 27 5 * 2 ^ 27
and_funct5 w = and_high w 5 27 (lit< tt) ∙ omega arith

-- the same and rs2, as `lr` fixes it
pub and_funct5_rs2 : (w : ℕ)
    → bit_and w 0xf9f0707f ≡ w % 2 ^ 7 + bits_at w 12 3 * 2 ^ 12 + bits_at w 20 5 * 2 ^ 20 + bits_at w 27 5 * 2 ^ 27
and_funct5_rs2 w =
    and_split w (31 * 2 ^ 7 + 31) 0x707f 20 (lit< tt)
    ∙ ap (λ x. x * 2 ^ 20 + bit_and (w % 2 ^ 20) 0x707f) (and_split (w / 2 ^ 20) 31 31 7 (lit< tt))
    ∙ ap (λ x. (x * 2 ^ 7 + bit_and (w / 2 ^ 20 % 2 ^ 7) 31) * 2 ^ 20 + bit_and (w % 2 ^ 20) 0x707f) (and_mask (w / 2 ^ 20 / 2 ^ 7) 5)
    ∙ ap (λ x. ((w / 2 ^ 20 / 2 ^ 7 % 2 ^ 5) * 2 ^ 7 + x) * 2 ^ 20 + bit_and (w % 2 ^ 20) 0x707f) (and_mask (w / 2 ^ 20 % 2 ^ 7) 5)
    ∙ ap (λ x. ((w / 2 ^ 20 / 2 ^ 7 % 2 ^ 5) * 2 ^ 7 + w / 2 ^ 20 % 2 ^ 7 % 2 ^ 5) * 2 ^ 20 + x) (and_funct3 (w % 2 ^ 20))
    ∙ omega arith

pub and_whole : (w : ℕ) → w < 2 ^ 32 → bit_and w 0xffffffff ≡ w
and_whole w h = and_mask w 32 ∙ omega arith

-- the mask of a form
abbrev pub mask_of : Form → ℕ
mask_of U = 0x7f
mask_of J = 0x7f
mask_of I = 0x707f
mask_of Fence = 0x707f
mask_of B = 0x707f
mask_of S = 0x707f
mask_of Shift6 = 0xfc00707f
mask_of Shift5 = 0xfe00707f
mask_of R = 0xfe00707f
mask_of Lr = 0xf9f0707f
mask_of Amo = 0xf800707f
mask_of Sys = 0xffffffff

pub mask-row_for : (op : Op) → (row_for op).mask ≡ mask_of (row_for op).form
unfolding row_for
mask-row_for Lui = refl
mask-row_for _ = refl

pub value-row_for : (op : Op) → bit_and (row_for op).value (row_for op).mask ≡ (row_for op).value
unfolding row_for
value-row_for Lui = refl
value-row_for _ = refl
