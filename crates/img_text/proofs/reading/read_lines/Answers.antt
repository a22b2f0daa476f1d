use Rattle.std.proofs.Common.{arith}
use Rattle.std.proofs.lemmas.List.{reverse-reverse}
use Rattle.mach_base.specs.Lines.{lines_of}
use Rattle.img_text.specs.Blocks.{parts_of}
use Rattle.img_text.specs.Reader.{draft_of}
use Rattle.img_text.proofs.Steps.{lines_more, lines_sound, lines_fault, lines_end}
use Rattle.img_text.proofs.reading.read_lines.Goals as goal

pub loop-first-preserved : goal.loop-first-preserved
loop-first-preserved c =
    let i = c.loop-first.invariant in
    let draft = draft_of c.loop-first.reader in
    let next = draft_of c.read_line.new.reader in
    record {
      told = lines_more c.loop-first.line draft next (lines_of c.loop-first.left.now) c.in-Some.first.now (lines_of c.in-Some.rest.now) _ c.in-Some.ensures.line c.in-Ok.ensures i.told;
      sound = lines_sound draft next c.in-Some.first.now i.sound c.in-Ok.ensures;
      in_range = omega (arith, c.in-Some.ensures.shorter, i.in_range);
    }

pub returns-in-Err : goal.returns-in-Err
returns-in-Err c =
    rw c.numbered.ensures (lines_fault c.loop-first.line (draft_of c.loop-first.reader) (lines_of c.loop-first.left.now) c.in-Some.first.now (lines_of c.in-Some.rest.now) c.in-Err.fault _ c.in-Some.ensures.line c.in-Err.ensures c.loop-first.invariant.told)

pub returns : goal.returns
returns c =
    let e = lines_end c.loop-first.line (draft_of c.loop-first.reader) (parts_of c.loop-first.reader.parts.items) (lines_of c.loop-first.left.now) _ c.in_default.ensures.line (reverse-reverse _) c.loop-first.invariant.told in
    rw (e, ← c.as_slice.ensures.value) c.whole_image.ensures
