use Rattle.std.proofs.Common.{sym, ◌∙◌}
use Rattle.mach_base.specs.Lines.{lines_of}
use Rattle.asm_text.proofs.Written.{source_ok, source_refused}
use Rattle.asm_text.proofs.reading.read_lines.Goals as goal

pub returns-in-Ok : goal.returns-in-Ok
returns-in-Ok c =
    source_ok c.args.text.now c.in-Some.first.now (lines_of c.in-Some.rest.now) c.as_slice.result.now c.in-Ok.image c.in-Some.ensures.line (sym c.is_header_of.ensures ∙ c.if-not-is_header_of.false) (c.as_slice.ensures.value ∙ c.in_ok-image.ensures) c.in-Ok.ensures

pub returns : goal.returns
returns c =
    rw c.source_fault.ensures (source_refused c.args.text.now c.in-Some.first.now (lines_of c.in-Some.rest.now) c.as_slice.result.now c.in-Err.fault c.in-Some.ensures.line (sym c.is_header_of.ensures ∙ c.if-not-is_header_of.false) (c.as_slice.ensures.value ∙ c.in_ok-image.ensures) c.in-Err.ensures)
