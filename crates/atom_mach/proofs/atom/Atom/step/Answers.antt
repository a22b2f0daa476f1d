use Rattle.std.proofs.Common.{◌≡◌, Some, None, sym, ap, ◌∙◌}
use Rattle.atom_mach.specs.State.{Done}
use Rattle.atom_mach.specs.Step.{does}
use Rattle.atom_mach.proofs.Moved.{made}
use Rattle.atom_mach.proofs.LateSessions.{late_sessions_keep}
use Rattle.atom_mach.proofs.atom.Atom.step.Goals as goal

some_none : (d : Done) → Some d ≡ None → ⊥
some_none d e = cc

pub returns-in-Ok-true-clause-not_now : goal.returns-in-Ok-true-clause-not_now
returns-in-Ok-true-clause-not_now c =
    (λ e. cc, λ e. absurd (some_none _ (sym (made _ _ _ _ _ c.in-Ok-true.ensures.step c.in-Ok-true.field-0-test) ∙ ap (λ s. does s c.args.step) c.self.view_is ∙ e)))

pub returns-in-Err-clause-not_now : goal.returns-in-Err-clause-not_now
returns-in-Err-clause-not_now c =
    (λ e. cc, λ e. absurd (c.in-Err.ensures.step (ap (λ s. does s c.args.step) c.self.view_is ∙ e)))

pub returns-in-Ok-true-clause-late_sessions : goal.returns-in-Ok-true-clause-late_sessions
returns-in-Ok-true-clause-late_sessions c =
    late_sessions_keep c.args.self.now c.args.step _ (sym (ap (λ s. does s c.args.step) c.self.view_is) ∙ made _ _ _ _ _ c.in-Ok-true.ensures.step c.in-Ok-true.field-0-test)
