use Rattle.std.proofs.Common.{◌≡◌, drop}
use Rattle.rv_asm.specs.Meant.{operands_meant, no_operands, HasRegisters}
use Rattle.rv_asm.proofs.loose.operands_meant.Given as goal

-- what is read of the parts that are left is what is read of all
abbrev pub invariant-loop-part : goal.invariant-loop-part
invariant-loop-part l = record {
  told : operands_meant (drop l.part-index l.parts) l.rest l.operands ≡ operands_meant l.parts l.fn.text no_operands;
  registers : HasRegisters l.operands;
}
