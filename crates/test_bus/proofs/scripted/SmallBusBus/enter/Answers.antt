use Rattle.std.proofs.Common.{◌<◌, ◌^◌, nat_lt, sym, ◌∙◌, ap, subst}
use Rattle.std.proofs.lemmas.Bool.{ltb-true, and_parts}
use Rattle.deck_core.specs.declared.plain.act.Act.TheVariants as act
use Rattle.deck_core.proofs.Allowed.{allowed_names}
use Rattle.mach_base.proofs.Bits.{all_but-lt}
use Rattle.test_bus.proofs.scripted.SmallBusBus.enter.Goals as goal
use Rattle.test_bus.proofs.scripted.SmallBusBus.enter.Goals.{then-is_none, else-is_none}

pub invariant_of-self-clause-stopped : goal.invariant_of-self-clause-stopped
invariant_of-self-clause-stopped c =
    let names = allowed_names (act.Enter c.args.h c.args.late) _ c.requires in
    let late : c.args.late < 2 ^ 2 = ltb-true c.args.late (2 ^ 2) (and_parts (nat_lt c.args.h.0 2) (nat_lt c.args.late (2 ^ 2)) names).1 in
    elim c.if-is_none.branch [
      | then-is_none w ↦ subst (λ x. x < 2 ^ 2) (sym (ap (λ x. x.1.0) w.self-is ∙ w.all_but-self.ensures)) (all_but-lt 2 c.args.late late)
      | else-is_none w ↦ subst (λ x. x < 2 ^ 2) (sym (ap (λ x. x.1.0) w.self-is)) c.args.self.now.stopped
    ]
