use Rattle.std.proofs.Common.{arith}
use Rattle.mach_base.specs.Lines.{lines_of}
use Rattle.asm_text.specs.Labels.{table_labels}
use Rattle.asm_text.proofs.Tables.{labels_more, labels_end}
use Rattle.asm_text.proofs.labels.labels_of.Goals as goal

pub loop-line-preserved : goal.loop-line-preserved
loop-line-preserved c = record {
  told = rw c.place_after-place.ensures (labels_more c.loop-line.number c.loop-line.place (table_labels c.loop-line.labels) (table_labels c.note_line.new.labels) (lines_of c.loop-line.left.now) c.in-Some.line.now (lines_of c.in-Some.rest.now) _ c.in-Some.ensures.line c.in_ok-note_line.ensures c.loop-line.invariant.told);
  in_range = omega (arith, c.in-Some.ensures.shorter, c.loop-line.invariant.in_range);
}

pub returns : goal.returns
returns c = labels_end c.loop-line.number c.loop-line.place (table_labels c.loop-line.labels) (lines_of c.loop-line.left.now) _ c.in_default.ensures.line c.loop-line.invariant.told
