use Rattle.std.proofs.Common.{◌≡◌, Some, [], ◌∷◌, ◌++◌, ap, ◌∙◌, arith}
use Rattle.std.specs.Prelude.{slice_get}
use Rattle.kdb_cmd.specs.MacroLines.{lines_in}
use Rattle.kdb_cmd.proofs.Runs.{line-in, taken_more, taken_within, taken_all}
use Rattle.kdb_cmd.proofs.line.macro_lines.lines_of.Goals as goal

pub loop-line-preserved : goal.loop-line-preserved
loop-line-preserved c =
    let found = slice_get c.args.macros.now.macros c.args.number in
    let is : Some c.in-Some.line.now ≡ slice_get (lines_in found) c.loop-line.place = c.in-Some.ensures ∙ line-in found c.loop-line.place in
    let pushed : c.push.new.self.items ≡ c.loop-line.lines.items ++ c.in-Some.line.now ∷ [] =
    c.in_ok-push.ensures.items ∙ ap (λ x. c.loop-line.lines.items ++ x ∷ []) (c.from_vec.ensures ∙ c.in_ok-from_slice.ensures.items) in
    record {
      so_far = taken_more (lines_in found) c.loop-line.place c.in-Some.line.now c.loop-line.lines.items c.push.new.self.items is c.loop-line.invariant.so_far pushed;
      within = taken_within (lines_in found) c.loop-line.place c.in-Some.line.now is;
      counted = omega (arith, c.loop-line.invariant.counted, c.in_ok-push.ensures.len);
    }

pub returns : goal.returns
returns c =
    let found = slice_get c.args.macros.now.macros c.args.number in
    taken_all (lines_in found) c.loop-line.place c.loop-line.lines.items (c.in_default.ensures ∙ line-in found c.loop-line.place) c.loop-line.invariant.so_far
