use Rattle.std.proofs.Common.{refl, sym, ap, ◌∙◌, None}
use Rattle.deck_core.specs.declared.plain.act.Act.TheVariants as act
use Rattle.deck_core.specs.declared.plain.act.Answer.TheVariants as answer
use Rattle.bus_calls.proofs.Done.{does_over, does_make, left_alone}
use Rattle.bus_calls.proofs.Gives.{gives_check}
use Rattle.bus_calls.proofs.Seen.{check_there}
use Rattle.bus_calls.proofs.bus.calls.CoreBusBus.check.Goals as goal

pub trap-requires : goal.trap-requires
trap-requires c = check_there c.args.self.now c.args.h c.requires

pub returns-then-is_over-clause-gives : goal.returns-then-is_over-clause-gives
returns-then-is_over-clause-gives c =
    let a = c.args.self.now in
    gives_check c.args.h a a None (check_there a c.args.h c.requires) (does_over (act.Check c.args.h) a a (answer.Check None) (sym c.is_over.ensures ∙ c.if-is_over.true) refl (left_alone a))

pub returns-else-is_over-clause-gives : goal.returns-else-is_over-clause-gives
returns-else-is_over-clause-gives c =
    let a = c.args.self.now in
    gives_check c.args.h a a _ (check_there a c.args.h c.requires) (does_make (act.Check c.args.h) a a (answer.Check c.trap.result) (sym c.is_over.ensures ∙ c.if-is_over.false) refl (ap answer.Check c.trap.ensures) (left_alone a))
