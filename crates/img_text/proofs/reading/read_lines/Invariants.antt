use Rattle.std.proofs.Common.{◌≡◌, ◌+◌, ◌≤◌, [], length}
use Rattle.mach_base.specs.Lines.{lines_of}
use Rattle.img_text.specs.Reading.{AreSound, no_starts, read_lines}
use Rattle.img_text.specs.Reader.{draft_of}
use Rattle.img_text.proofs.reading.read_lines.Given as goal

-- the lines that are left, read from what the lines so far gave, give what all lines give
abbrev pub invariant-loop-first : goal.invariant-loop-first
invariant-loop-first l = record {
  told : read_lines 2 (record { parts = []; pcs = no_starts; sps = no_starts }) (lines_of l.text) ≡ read_lines l.line (draft_of l.reader) (lines_of l.left);
  sound : AreSound (draft_of l.reader).parts;
  in_range : l.line + length l.left ≤ length l.text + 2;
}

abbrev pub decreases-loop-first : goal.decreases-loop-first
decreases-loop-first l = length l.left
