use Rattle.std.proofs.Common.{◌≡◌, ap, sym, subst, ◌∙◌, arith, vec_len, rules}
use Rattle.gen_load.specs.Input.{AreBelow, next_number, sequence}
use Rattle.gen_load.proofs.Plans.{no_tick, drawn_on, plan_on, plan_below, sequence_begins}
use Rattle.gen_load.proofs.plan.plan_of_load.Goals as goal

pub loop-tick-init : goal.loop-tick-init
loop-tick-init c = (
  c.in_ok-plan.ensures.items ∙ sym (no_tick c.args.number),
  search rules,
  c.from-drawn.ensures ∙ sym (sequence_begins c.args.number),
  search rules,
)

pub push_reserved-requires : goal.push_reserved-requires
push_reserved-requires c =
    let so_far : vec_len c.loop-tick.plan ≡ c.loop-tick.tick = c.loop-tick.invariant.1 in
    omega (arith, c.loop-tick.invariant.3, so_far, c.loop-tick-test.true)

pub loop-tick-preserved : goal.loop-tick-preserved
loop-tick-preserved c =
    let inv = c.loop-tick.invariant in
    let next : c.next_number-drawn.result ≡ next_number (sequence c.args.number c.loop-tick.tick) = c.next_number-drawn.ensures ∙ ap next_number inv.2 in (
      plan_on c.args.number c.loop-tick.tick c.next_number-drawn.result c.hart_of.result c.loop-tick.plan.items c.push_reserved.new.self.items inv.0 next c.hart_of.ensures c.push_reserved.ensures.items,
      search rules,
      drawn_on c.args.number c.loop-tick.tick c.loop-tick.drawn c.next_number-drawn.result inv.2 c.next_number-drawn.ensures,
      search rules,
    )

pub returns-clause-below : goal.returns-clause-below
returns-clause-below c = subst (AreBelow 4) (sym c.loop-tick.invariant.0) (plan_below c.args.number c.loop-tick.tick)
