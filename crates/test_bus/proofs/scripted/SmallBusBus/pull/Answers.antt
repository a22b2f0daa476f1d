use Rattle.std.proofs.Common.{◌<◌, ◌^◌, sym, subst, arith}
use Rattle.std.proofs.lemmas.Bool.{ltb-true}
use Rattle.deck_core.specs.declared.plain.act.Act.TheVariants as act
use Rattle.deck_core.proofs.Allowed.{allowed_names}
use Rattle.mach_base.proofs.Bits.{mask_without-lt}
use Rattle.test_bus.proofs.scripted.SmallBusBus.pull.Goals as goal

pub mask_without-self-requires : goal.mask_without-self-requires
mask_without-self-requires c = omega (arith, ltb-true c.args.i 16 (allowed_names (act.Pull c.args.i) _ c.requires))

pub invariant_of-self-clause-planted_places : goal.invariant_of-self-clause-planted_places
invariant_of-self-clause-planted_places c =
    let place : c.args.i < 16 = ltb-true c.args.i 16 (allowed_names (act.Pull c.args.i) _ c.requires) in
    subst (λ x. x < 2 ^ 16) (sym c.mask_without-self.ensures) (mask_without-lt 16 c.args.self.now.notes.planted c.args.i c.args.self.now.planted_places place)
