use Rattle.std.proofs.Common.{◌≡◌, ◌++◌, sym, ap, ◌∙◌}
use Rattle.mach_base.specs.Texts.{newline}
use Rattle.mach_base.specs.Machine.{LineState}
use Rattle.kdb_cmd.specs.declared.outcomes.Outcome.{Outcome}
use Rattle.kdb_cmd.specs.Answer.{Answer}
use Rattle.atom_mach.specs.Session.{prompt_text, line_effect}
use Rattle.atom_mach.proofs.SessionLines.{spoken}
use Rattle.bus_core.specs.Inner.{machine_of, next_line, next_answer, line_read}
use Rattle.bus_core.proofs.Lines.{line_is_made}
use Rattle.bus_core.proofs.inner.Inner.line.Goals as goal

pub returns-clause-text : goal.returns-clause-text
unfolding line_effect
returns-clause-text c =
    let core = c.args.self.now in
    let answer = next_answer core c.args.sitting in
    let output : c.in_ok-said.said.text ≡ answer.output = sym (ap (λ (a : Answer). a.output) c.in_ok-said.ensures.said) in
    spoken c.args.out.now.items c.push_echo.new.out.items c.push_bytes.new.out.items (prompt_text (machine_of core).machine) (next_line core) newline answer.output
    c.in_ok-push_echo.ensures (c.in_ok-push_bytes.ensures.ok ∙ ap (λ t. c.push_echo.new.out.items ++ t) (c.as_bytes.ensures ∙ output))

pub returns-clause-next : goal.returns-clause-next
unfolding line_effect
returns-clause-next c =
    let core = c.args.self.now in
    let answer = next_answer core c.args.sitting in
    let state : answer.state ≡ (machine_of c.read_line.new.self).machine.seen = ap (λ (a : Answer). a.state) c.in_ok-said.ensures.said in
    let outcome : answer.outcome ≡ c.in_ok-said.said.outcome = ap (λ (a : Answer). a.outcome) c.in_ok-said.ensures.said in
    line_is_made (machine_of core) (machine_of c.read_line.new.self) c.args.sitting (line_read core) (machine_of c.read_line.new.self).machine.seen answer c.in_ok-said.said.outcome c.stage_left-stage.result (next_line core)
    c.in_ok-said.ensures.next state outcome c.stage_left-stage.ensures
