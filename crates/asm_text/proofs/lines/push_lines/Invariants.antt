use Rattle.std.proofs.Common.{◌≡◌, ◌≤◌, ◌+◌, ◌++◌, length, None}
use Rattle.mach_base.specs.Lines.{lines_of}
use Rattle.asm_text.specs.Labels.{table_labels}
use Rattle.asm_text.specs.Reading.{image_lines, lines_text}
use Rattle.asm_text.proofs.lines.push_lines.Given as goal

-- the lines so far, and those that are left
abbrev pub invariant-loop-line : goal.invariant-loop-line
invariant-loop-line l = record {
  told : l.out.items ++ lines_text (image_lines (table_labels l.labels) l.number l.place (lines_of l.left)) ≡ l.fn.out.items ++ lines_text (image_lines (table_labels l.labels) 2 None (lines_of l.text));
  in_range : l.number + length l.left ≤ length l.text + 2;
}

abbrev pub decreases-loop-line : goal.decreases-loop-line
decreases-loop-line l = length l.left
