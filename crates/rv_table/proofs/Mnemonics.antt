-- Each mnemonic is read as its operation.
use Rattle.std.proofs.Common.{◌≡◌, ℕ, List, Some, refl, sym, ap, ◌∙◌}
use Rattle.rv_table.specs.declared.op.Op.{Op}
use Rattle.rv_table.specs.declared.op.Op.TheVariants.{Lui, Auipc, Jal, Jalr, Lb, Lh, Lw, Ld, Lbu, Lhu, Lwu, Addi, Slti, Sltiu, Xori, Ori, Andi, Slli, Srli, Srai, Addiw, Slliw, Srliw, Sraiw, Fence, Beq, Bne, Blt, Bge, Bltu, Bgeu, Sb, Sh, Sw, Sd, Add, Sub, Sll, Slt, Sltu, Xor, Srl, Sra, Or, And, Mul, Mulh, Mulhsu, Mulhu, Div, Divu, Rem, Remu, Addw, Subw, Sllw, Srlw, Sraw, Mulw, Divw, Divuw, Remw, Remuw, LrW, LrD, ScW, AmoswapW, AmoaddW, AmoxorW, AmoandW, AmoorW, AmominW, AmomaxW, AmominuW, AmomaxuW, ScD, AmoswapD, AmoaddD, AmoxorD, AmoandD, AmoorD, AmominD, AmomaxD, AmominuD, AmomaxuD, Ecall, Ebreak}
use Rattle.rv_table.specs.Rows.{row_for, the_ops, the_rows}
use Rattle.rv_table.specs.Mnemonics.{op_name, op_named}

pub op_named-op_name : (op : Op) → op_named (op_name op) ≡ Some op
unfolding op_named op_name row_for the_ops the_rows
op_named-op_name Lui = refl
op_named-op_name _ = refl

pub op_name_injective : (a b : Op) → op_name a ≡ op_name b → a ≡ b
op_name_injective a b h =
    let same : Some a ≡ Some b = sym (op_named-op_name a) ∙ ap op_named h ∙ op_named-op_name b in
    cc
