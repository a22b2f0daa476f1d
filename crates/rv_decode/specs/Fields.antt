-- The fields of an instruction, and which of them each form has: the unprivileged specification's sections
-- "Base Instruction Formats" and "Immediate Encoding Variants".
use Rattle.std.specs.Prelude.{ℕ, ◌+◌, ◌*◌, ◌^◌, Bool, true, false, not, ◌&&◌, ◌||◌, ◌==◌, if◌then◌else◌, ℤ, pos, Option}
use Rattle.std.specs.Option.{option_map}
use Rattle.rv_table.specs.declared.op.Form.{Form}
use Rattle.rv_table.specs.declared.op.Form.TheVariants.{U, J, I, Fence, B, S, Shift6, Shift5, R, Lr, Amo, Sys}
use Rattle.rv_table.specs.declared.op.Op.{Op}
use Rattle.rv_table.specs.Rows.{row_of}
use Rattle.rv_decode.specs.Bits.{bits_at, flag_at, signed, is_signed, is_unsigned, is_multiple}

-- an operation with its fields, where one that the form lacks is 0 or false
pub record Fields : Type 0 where
  pub op : Op
  pub rd : ℕ
  pub rs1 : ℕ
  pub rs2 : ℕ
  pub imm : ℤ
  pub aq : Bool
  pub rl : Bool

-- the immediates of a word
abbrev pub i_immediate : ℕ → ℤ
i_immediate word = signed 12 (bits_at word 20 12)

-- the immediate of a store
abbrev pub s_immediate : ℕ → ℤ
s_immediate word = signed 12 (bits_at word 25 7 * 2 ^ 5 + bits_at word 7 5)

-- the offset of a branch
abbrev pub b_immediate : ℕ → ℤ
b_immediate word =
    signed 13 (bits_at word 31 1 * 2 ^ 12 + bits_at word 7 1 * 2 ^ 11 + bits_at word 25 6 * 2 ^ 5 + bits_at word 8 4 * 2)

-- the upper immediate
abbrev pub u_immediate : ℕ → ℤ
u_immediate word = signed 32 (bits_at word 12 20 * 2 ^ 12)

-- the offset of a jump
abbrev pub j_immediate : ℕ → ℤ
j_immediate word =
    signed 21 (bits_at word 31 1 * 2 ^ 20 + bits_at word 12 8 * 2 ^ 12 + bits_at word 20 1 * 2 ^ 11 + bits_at word 21 10 * 2)

-- the immediate of a word of a form, 0 where the form has none
unfoldable pub immediate : Form → ℕ → ℤ
immediate U word = u_immediate word
immediate J word = j_immediate word
immediate I word = i_immediate word
immediate Fence word = pos (bits_at word 20 12)
immediate B word = b_immediate word
immediate S word = s_immediate word
immediate Shift6 word = pos (bits_at word 20 6)
immediate Shift5 word = pos (bits_at word 20 5)
immediate _ word = pos 0

-- whether a form has rd, rs1, rs2, aq and rl
unfoldable pub has_rd : Form → Bool
has_rd B = false
has_rd S = false
has_rd Sys = false
has_rd _ = true

-- whether the form has a first source register
unfoldable pub has_rs1 : Form → Bool
has_rs1 U = false
has_rs1 J = false
has_rs1 Sys = false
has_rs1 _ = true

-- whether it has a second source register
unfoldable pub has_rs2 : Form → Bool
has_rs2 B = true
has_rs2 S = true
has_rs2 R = true
has_rs2 Amo = true
has_rs2 _ = false

-- whether it has the bits aq and rl
unfoldable pub has_order : Form → Bool
has_order Lr = true
has_order Amo = true
has_order _ = false

-- the fields of a word of a form
unfoldable pub fields_in : Form → Op → ℕ → Fields
fields_in form op word = record {
  op = op;
  rd = if has_rd form then bits_at word 7 5 else 0;
  rs1 = if has_rs1 form then bits_at word 15 5 else 0;
  rs2 = if has_rs2 form then bits_at word 20 5 else 0;
  imm = immediate form word;
  aq = has_order form && flag_at word 26;
  rl = has_order form && flag_at word 25;
}

-- the instruction that a word is, if it is one
unfoldable pub decoded : ℕ → Option Fields
decoded word = option_map (λ r. fields_in r.form r.op word) (row_of word)

-- the immediate is in the range of the form
unfoldable pub fits_immediate : Form → ℤ → Bool
fits_immediate U imm = is_signed 32 imm && is_multiple 4096 imm
fits_immediate J imm = is_signed 21 imm && is_multiple 2 imm
fits_immediate I imm = is_signed 12 imm
fits_immediate Fence imm = is_unsigned 12 imm
fits_immediate B imm = is_signed 13 imm && is_multiple 2 imm
fits_immediate S imm = is_signed 12 imm
fits_immediate Shift6 imm = is_unsigned 6 imm
fits_immediate Shift5 imm = is_unsigned 5 imm
fits_immediate _ imm = is_unsigned 0 imm

-- the fields that the form lacks are 0 or false, and the immediate is in its range
abbrev pub fits_form : Form → ℕ → ℕ → ℕ → ℤ → Bool → Bool → Bool
fits_form form rd rs1 rs2 imm aq rl =
    (has_rd form || (rd == 0)) && ((has_rs1 form || (rs1 == 0)) && ((has_rs2 form || (rs2 == 0))
    && ((has_order form || (not aq && not rl)) && fits_immediate form imm)))
