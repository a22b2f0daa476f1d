use Rattle.std.proofs.Common.{arith}
use Rattle.mach_base.specs.Lines.{lines_of}
use Rattle.asm_text.specs.Labels.{table_labels}
use Rattle.asm_text.proofs.Written.{lines_more, lines_end}
use Rattle.asm_text.proofs.lines.push_lines.Goals as goal

pub loop-line-preserved : goal.loop-line-preserved
loop-line-preserved c = record {
  told = rw (c.in_ok-push_line.ensures, c.place_after-place.ensures) (lines_more c.loop-line.out.items _ (table_labels c.args.labels.now) c.loop-line.number c.loop-line.place (lines_of c.loop-line.left.now) c.in-Some.line.now (lines_of c.in-Some.rest.now) c.in-Some.ensures.line c.loop-line.invariant.told);
  in_range = omega (arith, c.in-Some.ensures.shorter, c.loop-line.invariant.in_range);
}

pub returns : goal.returns
returns c = lines_end c.loop-line.out.items _ (table_labels c.args.labels.now) c.loop-line.number c.loop-line.place (lines_of c.loop-line.left.now) c.in_default.ensures.line c.loop-line.invariant.told
