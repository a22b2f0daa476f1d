use Rattle.std.proofs.Common.{◌≡◌, drop}
use Rattle.rv_decode.specs.Instruction.{fields_of}
use Rattle.rv_asm.specs.Spelling.{parts_text}
use Rattle.rv_asm.specs.Rest.{after}
use Rattle.rv_asm.proofs.compare.after_parts.Given as goal

-- what follows the parts that are left follows all
abbrev pub invariant-loop-part : goal.invariant-loop-part
invariant-loop-part l = after (parts_text (fields_of l.insn) (drop l.part-index l.parts)) l.rest ≡ after (parts_text (fields_of l.insn) l.parts) l.fn.line
