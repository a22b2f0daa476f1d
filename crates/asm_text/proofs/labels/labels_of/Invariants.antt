use Rattle.std.proofs.Common.{◌≡◌, ◌≤◌, ◌+◌, length}
use Rattle.mach_base.specs.Lines.{lines_of}
use Rattle.asm_text.specs.Labels.{labels_from, labels_of, table_labels}
use Rattle.asm_text.proofs.labels.labels_of.Given as goal

-- the labels so far, and those of the lines that are left
abbrev pub invariant-loop-line : goal.invariant-loop-line
invariant-loop-line l = record {
  told : labels_from l.number l.place (table_labels l.labels) (lines_of l.left) ≡ labels_of (lines_of l.text);
  in_range : l.number + length l.left ≤ length l.text + 2;
}

abbrev pub decreases-loop-line : goal.decreases-loop-line
decreases-loop-line l = length l.left
