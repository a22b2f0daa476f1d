use Rattle.std.proofs.Common.{◌≡◌, ◌++◌, drop}
use Rattle.rv_decode.specs.Instruction.{fields_of}
use Rattle.rv_asm.specs.Spelling.{parts_text}
use Rattle.rv_asm.proofs.spelling.push_parts.Given as goal

-- with the parts that are left all are out
abbrev pub invariant-loop-part : goal.invariant-loop-part
invariant-loop-part l = l.out.items ++ parts_text (fields_of l.insn) (drop l.part-index l.parts) ≡ l.fn.out.items ++ parts_text (fields_of l.insn) l.parts
