use Rattle.std.proofs.Common.{◌&&◌, refl, sym, ◌∙◌}
use Rattle.atom_mach.specs.Modes.{is_free}
use Rattle.atom_mach.specs.Step.{is_true_ending}
use Rattle.atom_mach.specs.Core.{machine_of, state_of}
use Rattle.atom_mach.proofs.Booleans.{cond_true, cond_false}
use Rattle.atom_mach.proofs.Steps.{does-Off}
use Rattle.atom_mach.proofs.machine.Core.end_free.Goals as goal

pub returns-then-has_ended-clause-step : goal.returns-then-has_ended-clause-step
returns-then-has_ended-clause-step c =
    let core = c.args.self.now in
    does-Off (state_of core) c.args.ending c.requires
    ∙ cond_true (is_free core.mode && is_true_ending (machine_of core) c.args.ending) _ _ (sym c.has_ended.ensures ∙ c.if-has_ended.true)

pub returns-clause-step : goal.returns-clause-step
returns-clause-step c =
    let core = c.args.self.now in (
      does-Off (state_of core) c.args.ending c.requires
          ∙ cond_false (is_free core.mode && is_true_ending (machine_of core) c.args.ending) _ _ (sym c.has_ended.ensures ∙ c.if-has_ended.false),
      refl,
      refl,
    )
