use Rattle.std.proofs.Common.{◌≡◌, Some, refl, sym, ap, ◌∙◌}
use Rattle.atom_mach.specs.declared.step.AStep.TheVariants.{Enter}
use Rattle.atom_mach.specs.Session.{session_opening}
use Rattle.atom_mach.specs.Step.{does, held_from}
use Rattle.atom_mach.specs.Core.{machine_of, state_of}
use Rattle.atom_mach.proofs.Allowed.{does-Enter-not, does-Enter-none, does-Enter}
use Rattle.atom_mach.proofs.machine.Core.enter.Goals as goal

pub returns-then-not-can_be_late-clause-step : goal.returns-then-not-can_be_late-clause-step
returns-then-not-can_be_late-clause-step c = (does-Enter-not (state_of c.args.self.now) c.args.master c.args.late (sym c.can_be_late.ensures ∙ c.if-not-can_be_late.true), refl, c.requires)

pub returns-in-Ok-clause-step : goal.returns-in-Ok-clause-step
returns-in-Ok-clause-step c =
    does-Enter (state_of c.args.self.now) c.args.master c.args.late c.in-Some.reason (sym c.can_be_late.ensures ∙ c.if-not-can_be_late.false) (sym c.opening_reason.ensures ∙ c.in-Some.is)
    ∙ ap Some c.in-Ok.ensures.session

pub returns-in-Err-clause-step : goal.returns-in-Err-clause-step
returns-in-Err-clause-step c = λ none.
    let core = c.args.self.now in
    let opens : does (state_of core) (Enter c.args.master c.args.late) ≡ Some (held_from c.args.master c.args.late (session_opening (machine_of core) c.args.master c.args.late c.in-Some.reason)) = does-Enter (state_of core) c.args.master c.args.late c.in-Some.reason (sym c.can_be_late.ensures ∙ c.if-not-can_be_late.false) (sym c.opening_reason.ensures ∙ c.in-Some.is) in
    cc

pub returns-in-None-clause-step : goal.returns-in-None-clause-step
returns-in-None-clause-step c = (does-Enter-none (state_of c.args.self.now) c.args.master c.args.late (sym c.opening_reason.ensures ∙ c.in-None.is), refl, c.requires)
