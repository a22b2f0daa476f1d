use Rattle.std.proofs.Common.{◌≡◌, List, Result, Err, arith, sym, ◌∙◌}
use Rattle.std.proofs.lemmas.Result.{err_from_is_err_and}
use Rattle.mach_base.specs.Machine.{Symbol}
use Rattle.mach_base.specs.Lines.{lines_of}
use Rattle.mach_base.proofs.LineByLine.{lines_begin, lines_more, lines_bad, lines_end}
use Rattle.sym_map.specs.declared.fault.MapFault.{MapFault}
use Rattle.sym_map.specs.declared.fault.MapFault.TheVariants.{Bad, TooLarge, OutOfMemory}
use Rattle.sym_map.specs.Reading.{IsFault, line_of, read_lines}
use Rattle.sym_map.proofs.reading.read_lines.Goals as goal

as_fault : (fault : MapFault) (whole : Result (List Symbol) MapFault) → whole ≡ Err fault → IsFault fault whole
as_fault (Bad line) whole is = is
as_fault (TooLarge what size) whole is = is
as_fault OutOfMemory whole is = tt

pub returns-in_err-found : goal.returns-in_err-found
returns-in_err-found c =
    let p = err_from_is_err_and c.from_residual.result c.from_residual.ensures.1 in
    let bad = lines_bad line_of c.loop-line.number c.loop-line.symbols.items c.in_err-found.field-0.0 (lines_of c.loop-line.left.now) c.in-Some.line.now (lines_of c.in-Some.rest.now) _ c.in-Some.ensures.line (sym c.line_of.ensures ∙ c.in_err-found.was) c.loop-line.invariant.told in
    rw (p.1, p.2) (as_fault c.in_err-found.field-0.0 _ bad)

pub loop-line-init : goal.loop-line-init
loop-line-init c = record { told = rw c.new-symbols.ensures.items (lines_begin (read_lines 1 (lines_of c.args.text.now))); in_range = omega arith }

pub loop-line-preserved : goal.loop-line-preserved
loop-line-preserved c = record {
  told = rw c.in_ok-keep.ensures (lines_more line_of c.loop-line.number c.loop-line.symbols.items c.in_ok-found.found (lines_of c.loop-line.left.now) c.in-Some.line.now (lines_of c.in-Some.rest.now) _ c.in-Some.ensures.line (sym c.line_of.ensures ∙ c.in_ok-found.was) c.loop-line.invariant.told);
  in_range = omega (arith, c.in-Some.ensures.shorter, c.loop-line.invariant.in_range);
}

pub returns : goal.returns
returns c = lines_end line_of c.loop-line.number c.loop-line.symbols.items (lines_of c.loop-line.left.now) _ c.in_default.ensures.line c.loop-line.invariant.told
