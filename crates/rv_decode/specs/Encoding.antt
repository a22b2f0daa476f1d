-- The word of an instruction: the row's value with each field at its bits.
use Rattle.std.specs.Prelude.{ℕ, ◌+◌, ◌*◌, ◌^◌}
use Rattle.std.specs.Int.{w32, cast_unsigned, from_bool}
use Rattle.rv_table.specs.declared.op.Form.{Form}
use Rattle.rv_table.specs.declared.op.Form.TheVariants.{U, J, I, Fence, B, S, Shift6, Shift5}
use Rattle.rv_table.specs.Rows.{row_for}
use Rattle.rv_decode.specs.Bits.{bits_at}
use Rattle.rv_decode.specs.Fields.{Fields}

-- the n bits of a number from bit lo up, moved to the bits from bit `to` up
abbrev pub moved : ℕ → ℕ → ℕ → ℕ → ℕ
moved v lo n to = bits_at v lo n * 2 ^ to

-- where a word of a form has the bits of an immediate, here of its pattern in 32 bits
unfoldable pub immediate_bits : Form → ℕ → ℕ
immediate_bits U v = moved v 12 20 12
immediate_bits J v = moved v 20 1 31 + moved v 1 10 21 + moved v 11 1 20 + moved v 12 8 12
immediate_bits I v = moved v 0 12 20
immediate_bits Fence v = moved v 0 12 20
immediate_bits B v = moved v 12 1 31 + moved v 5 6 25 + moved v 1 4 8 + moved v 11 1 7
immediate_bits S v = moved v 5 7 25 + moved v 0 5 7
immediate_bits Shift6 v = moved v 0 6 20
immediate_bits Shift5 v = moved v 0 5 20
immediate_bits _ v = 0

-- the word of an instruction
unfoldable pub encoded : Fields → ℕ
encoded f =
    (row_for f.op).value + f.rd * 2 ^ 7 + f.rs1 * 2 ^ 15 + f.rs2 * 2 ^ 20 + from_bool f.aq * 2 ^ 26 + from_bool f.rl * 2 ^ 25
    + immediate_bits (row_for f.op).form (cast_unsigned w32 f.imm)
