use Rattle.std.proofs.Common.{refl, sym, ◌∙◌}
use Rattle.bus_core.specs.Core.{machine_of}
use Rattle.bus_core.proofs.Lists.{makes_none, made_not_none}
use Rattle.bus_core.proofs.outer.Core.apply.Goals as goal

pub returns-then-not-legal-clause-not_legal : goal.returns-then-not-legal-clause-not_legal
returns-then-not-legal-clause-not_legal c = λ here. (λ e. makes_none (machine_of c.args.self.now) c.args.entry (sym c.legal.ensures ∙ c.if-not-legal.true), λ none. refl)

pub returns-in-Err-clause-not_legal : goal.returns-in-Err-clause-not_legal
returns-in-Err-clause-not_legal c = λ here. (λ e. cc, λ none. absurd (made_not_none (machine_of c.args.self.now) c.args.entry (sym c.legal.ensures ∙ c.if-not-legal.false) none))
