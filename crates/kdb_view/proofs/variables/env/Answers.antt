use Rattle.std.proofs.Common.{◌∙◌, arith}
use Rattle.kdb_view.proofs.Printed.{line_more, line_within, line_fits, all_lines}
use Rattle.kdb_view.proofs.variables.env.Goals as goal

pub loop-pair-preserved : goal.loop-pair-preserved
loop-pair-preserved c = record {
  lines = line_more c.args.env.now c.loop-pair.place c.in-Some.pair.name.now c.in-Some.pair.value.now _ _ c.in-Some.ensures c.loop-pair.invariant.lines c.in_ok-push_variable.ensures;
  within = line_within c.args.env.now c.loop-pair.place c.in-Some.pair.name.now c.in-Some.pair.value.now c.in-Some.ensures;
  fits =
      let longer = line_fits c.in-Some.pair.name.now c.in-Some.pair.value.now _ _ c.in_ok-push_variable.ensures in
      omega (arith, longer, c.loop-pair.out.ok.0, c.push_variable.new.out.ok.0);
}

pub returns : goal.returns
returns c = c.from_vec.ensures ∙ all_lines c.args.env.now c.loop-pair.place _ c.in_default.ensures c.loop-pair.invariant.within c.loop-pair.invariant.lines
