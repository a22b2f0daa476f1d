-- What the operands of an instruction are made of and in which order they are written: docs/machine.md, "Spelling of
-- instructions".
use Rattle.std.specs.Prelude.{Bool, true, false, List, [], ◌∷◌}
use Rattle.rv_table.specs.declared.op.Form.{Form}
use Rattle.rv_table.specs.declared.op.Form.TheVariants.{U, J, I, Fence, B, S, Shift6, Shift5, R, Lr, Amo, Sys}
use Rattle.rv_table.specs.declared.op.Op.{Op}
use Rattle.rv_table.specs.declared.op.Op.TheVariants.{Jalr, Lb, Lh, Lw, Ld, Lbu, Lhu, Lwu}
use Rattle.rv_table.specs.Rows.{row_for}
use Rattle.rv_asm.specs.declared.parts.Part.{Part}
use Rattle.rv_asm.specs.declared.parts.Part.TheVariants.{Rd, Rs1, Rs2, Imm, Upper, Comma, Open, Close}

-- whether the immediate is an offset from rs1, written imm(rs1)
unfoldable pub is_based : Op → Bool
is_based Jalr = true
is_based Lb = true
is_based Lh = true
is_based Lw = true
is_based Ld = true
is_based Lbu = true
is_based Lhu = true
is_based Lwu = true
is_based _ = false

-- two operands, with a comma between them
abbrev pub two : Part → Part → List Part
two a b = a ∷ Comma ∷ b ∷ []

-- three operands, with commas between them
abbrev pub three : Part → Part → Part → List Part
three a b c = a ∷ Comma ∷ b ∷ Comma ∷ c ∷ []

-- the register, and the memory at an offset from rs1
abbrev pub at_offset : Part → List Part
at_offset a = a ∷ Comma ∷ Imm ∷ Open ∷ Rs1 ∷ Close ∷ []

-- the parts of each form, where in form I the immediate may be an offset
unfoldable pub parts_in : Form → Bool → List Part
parts_in U based = two Rd Upper
parts_in J based = two Rd Imm
parts_in I true = at_offset Rd
parts_in I false = three Rd Rs1 Imm
parts_in Fence based = three Rd Rs1 Imm
parts_in B based = three Rs1 Rs2 Imm
parts_in S based = at_offset Rs2
parts_in Shift6 based = three Rd Rs1 Imm
parts_in Shift5 based = three Rd Rs1 Imm
parts_in R based = three Rd Rs1 Rs2
parts_in Lr based = Rd ∷ Comma ∷ Open ∷ Rs1 ∷ Close ∷ []
parts_in Amo based = Rd ∷ Comma ∷ Rs2 ∷ Comma ∷ Open ∷ Rs1 ∷ Close ∷ []
parts_in Sys based = []

-- the parts of an operation's operands
unfoldable pub parts_of : Op → List Part
parts_of op = parts_in (row_for op).form (is_based op)
