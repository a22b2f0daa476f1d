use Rattle.std.proofs.Common.{◌≡◌, Some, refl, sym, ap, ◌∙◌}
use Rattle.atom_mach.specs.declared.step.AStep.TheVariants.{Session}
use Rattle.atom_mach.specs.Session.{session}
use Rattle.atom_mach.specs.Step.{does}
use Rattle.atom_mach.specs.Core.{machine_of, state_of}
use Rattle.atom_mach.proofs.Allowed.{does-Session-no_hart, does-Session-none, does-Session}
use Rattle.atom_mach.proofs.machine.Core.hold_session.Goals as goal

pub returns-then-not-has-clause-step : goal.returns-then-not-has-clause-step
returns-then-not-has-clause-step c = (does-Session-no_hart (state_of c.args.self.now) c.args.master (sym c.has.ensures ∙ c.if-not-has.true), refl, c.requires)

pub returns-in-Ok-clause-step : goal.returns-in-Ok-clause-step
returns-in-Ok-clause-step c =
    does-Session (state_of c.args.self.now) c.args.master c.in-Some.reason (sym c.has.ensures ∙ c.if-not-has.false) (sym c.opening_reason.ensures ∙ c.in-Some.is)
    ∙ ap Some c.in-Ok.ensures.session

pub returns-in-Err-clause-step : goal.returns-in-Err-clause-step
returns-in-Err-clause-step c = λ none.
    let core = c.args.self.now in
    let opens : does (state_of core) (Session c.args.master) ≡ Some (session (machine_of core) c.args.master c.in-Some.reason) = does-Session (state_of core) c.args.master c.in-Some.reason (sym c.has.ensures ∙ c.if-not-has.false) (sym c.opening_reason.ensures ∙ c.in-Some.is) in
    cc

pub returns-in-None-clause-step : goal.returns-in-None-clause-step
returns-in-None-clause-step c = (does-Session-none (state_of c.args.self.now) c.args.master (sym c.opening_reason.ensures ∙ c.in-None.is), refl, c.requires)
