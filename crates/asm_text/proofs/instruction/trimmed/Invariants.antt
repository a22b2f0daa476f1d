use Rattle.std.proofs.Common.{◌≡◌, length}
use Rattle.asm_text.specs.Instructions.{trimmed}
use Rattle.asm_text.proofs.instruction.trimmed.Given as goal

-- only blanks were left out
abbrev pub invariant-loop-first : goal.invariant-loop-first
invariant-loop-first l = trimmed l.left ≡ trimmed l.line

abbrev pub decreases-loop-first : goal.decreases-loop-first
decreases-loop-first l = length l.left
