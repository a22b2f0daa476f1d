-- An instruction of the code, as the definitions see it.
use Rattle.rv_decode.specs.declared.insn.Insn.{Insn}
use Rattle.rv_decode.specs.Fields.{Fields}

-- the operation and the fields
abbrev pub fields_of : Insn → Fields
fields_of i = record { op = i.op; rd = i.rd; rs1 = i.rs1; rs2 = i.rs2; imm = i.imm; aq = i.aq; rl = i.rl }
