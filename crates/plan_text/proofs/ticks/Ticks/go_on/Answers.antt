use Rattle.std.proofs.Common.{arith, ap, ◌∙◌}
use Rattle.plan_text.specs.Ticks.{Run}
use Rattle.plan_text.proofs.Going.{once_more, next_run, no_run}
use Rattle.plan_text.proofs.ticks.Ticks.go_on.Goals as goal

pub returns-then-self-gt0-clause-left : goal.returns-then-self-gt0-clause-left
returns-then-self-gt0-clause-left c = once_more c.args.self.now.harts.now c.args.self.now.done c.args.self.now.times _ c.requires.done c.if-self-gt0.true

pub returns-in_default-clause-none : goal.returns-in_default-clause-none
returns-in_default-clause-none c = λ _. no_run c.args.self.now.harts.now c.args.self.now.done c.args.self.now.times c.args.self.now.runs.now c.requires.done (omega (arith, c.if-self-gt0.false)) c.in_default.ensures.cases

pub returns-clause-left : goal.returns-clause-left
returns-clause-left c =
    let harts = c.as_slice-self.ensures.value ∙ ap (λ (r : Run). r.harts) c.first.view_is in
    let times = ap (λ (r : Run). r.times) c.first.view_is in
    next_run c.args.self.now.harts.now c.args.self.now.done c.args.self.now.times c.args.self.now.runs.now c.in-Some.rest.now c.in-Some.first.now c.as_slice-self.result.now c.len-self.result c.first.inside.times c.requires.done (omega (arith, c.if-self-gt0.false)) c.in-Some.ensures.cases.0 harts (omega (arith, c.len-self.ensures, c.as_slice-self.ensures.len)) times
