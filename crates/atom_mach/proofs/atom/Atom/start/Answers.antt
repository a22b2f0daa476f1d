use Rattle.std.proofs.Common.{◌≡◌, length, ap, ◌∙◌, arith}
use Rattle.kdb_cmd.specs.State.{state_of as seen_of}
use Rattle.atom_mach.proofs.Masks.{all_there}
use Rattle.atom_mach.proofs.StartWithin.{debugger_within}
use Rattle.atom_mach.proofs.atom.Atom.start.Goals as goal

pub invariant_of-result-clause-some_harts : goal.invariant_of-result-clause-some_harts
invariant_of-result-clause-some_harts c =
    let contexts = c.in_ok-booted.booted.ctxs in
    let count : length contexts.items ≡ c.args.harts = ap length c.in_ok-booted.ensures.contexts ∙ all_there c.args.image.now c.args.harts in
    omega (arith, contexts.ok.0, c.requires.some_harts, c.requires.few_harts, c.in_ok-kdb.ensures.current)

pub invariant_of-result-clause-few_harts : goal.invariant_of-result-clause-few_harts
invariant_of-result-clause-few_harts c =
    let contexts = c.in_ok-booted.booted.ctxs in
    let count : length contexts.items ≡ c.args.harts = ap length c.in_ok-booted.ensures.contexts ∙ all_there c.args.image.now c.args.harts in
    omega (arith, contexts.ok.0, c.requires.some_harts, c.requires.few_harts, c.in_ok-kdb.ensures.current)

pub invariant_of-result-clause-current : goal.invariant_of-result-clause-current
invariant_of-result-clause-current c =
    let contexts = c.in_ok-booted.booted.ctxs in
    let count : length contexts.items ≡ c.args.harts = ap length c.in_ok-booted.ensures.contexts ∙ all_there c.args.image.now c.args.harts in
    omega (arith, contexts.ok.0, c.requires.some_harts, c.requires.few_harts, c.in_ok-kdb.ensures.current)

pub returns-clause-limits : goal.returns-clause-limits
returns-clause-limits c =
    let contexts = c.in_ok-booted.booted.ctxs in
    let count : length contexts.items ≡ c.args.harts = ap length c.in_ok-booted.ensures.contexts ∙ all_there c.args.image.now c.args.harts in
    let kdb = c.in_ok-kdb.kdb in
    let symbols = c.keeps_limits.ensures.few in
    let lines = c.script.invariant.few in
    record {
      some_hart = omega (arith, c.requires.some_harts);
      few_harts = omega (arith, c.requires.few_harts);
      segments = c.keeps_limits-2.ensures;
      symbols = symbols;
      debugger = debugger_within (seen_of contexts.items c.in_ok-booted.booted.map.memory kdb c.args.names) c.in_ok-kdb.ensures.breaks c.keeps_limits-3.ensures c.keeps_limits-4.ensures;
      script = omega (arith, lines);
      limit = c.requires.high;
      pass = omega arith;
      steps = omega arith;
    }
