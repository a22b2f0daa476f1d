use Rattle.std.proofs.Common.{◌≡◌, length, false, ap, ◌∙◌, arith}
use Rattle.std.proofs.lemmas.List.{length-replicate}
use Rattle.atom_mach.proofs.Masks.{all_there}
use Rattle.bus_core.proofs.inner.Inner.start.Goals as goal

pub invariant_of-result-clause-some_harts : goal.invariant_of-result-clause-some_harts
invariant_of-result-clause-some_harts c =
    let contexts = c.in_ok-booted.booted.ctxs in
    let count : length contexts.items ≡ c.args.harts = ap length c.in_ok-booted.ensures.contexts ∙ all_there c.args.image.now c.args.harts in
    omega (arith, contexts.ok.0, c.requires.some_harts)

pub invariant_of-result-clause-few_harts : goal.invariant_of-result-clause-few_harts
invariant_of-result-clause-few_harts c =
    let contexts = c.in_ok-booted.booted.ctxs in
    let count : length contexts.items ≡ c.args.harts = ap length c.in_ok-booted.ensures.contexts ∙ all_there c.args.image.now c.args.harts in
    omega (arith, contexts.ok.0, c.requires.few_harts)

pub invariant_of-result-clause-each_call : goal.invariant_of-result-clause-each_call
invariant_of-result-clause-each_call c =
    let contexts = c.in_ok-booted.booted.ctxs in
    let calls = c.in_ok-calls.calls in
    let count : length contexts.items ≡ c.args.harts = ap length c.in_ok-booted.ensures.contexts ∙ all_there c.args.image.now c.args.harts in
    let each : length calls.items ≡ c.args.harts = ap length c.in_ok-calls.ensures ∙ length-replicate c.args.harts false in
    omega (arith, contexts.ok.0, calls.ok.0)

pub invariant_of-result-clause-current : goal.invariant_of-result-clause-current
invariant_of-result-clause-current c =
    let contexts = c.in_ok-booted.booted.ctxs in
    let count : length contexts.items ≡ c.args.harts = ap length c.in_ok-booted.ensures.contexts ∙ all_there c.args.image.now c.args.harts in
    omega (arith, contexts.ok.0, c.requires.some_harts, c.in_ok-kdb.ensures.current)
