use Rattle.std.proofs.Common.{◌≡◌, ◌+◌, ◌++◌, drop, sym, ap, ◌∙◌}
use Rattle.mach_base.specs.Texts.{newline}
use Rattle.mach_base.specs.Machine.{LineState, Machine}
use Rattle.kdb_cmd.specs.declared.outcomes.Outcome.{Outcome}
use Rattle.kdb_cmd.specs.Answer.{Answer}
use Rattle.atom_mach.specs.Session.{prompt_text, with_read, mode_left, with_seen, line_effect}
use Rattle.atom_mach.specs.Core.{machine_of, next_line, next_said}
use Rattle.atom_mach.proofs.SessionLines.{spoken}
use Rattle.atom_mach.proofs.machine.Core.line.Goals as goal

pub returns-clause-text : goal.returns-clause-text
unfolding line_effect
returns-clause-text c =
    let core = c.args.self.now in
    let answer = next_said core c.args.master c.args.late in
    let output : c.in_ok-said.said.text ≡ answer.output = sym (ap (λ (a : Answer). a.output) c.in_ok-said.ensures.said) in
    spoken c.args.out.now.items c.push_echo.new.out.items c.push_bytes.new.out.items (prompt_text (machine_of core)) (next_line core) newline answer.output
    c.in_ok-push_echo.ensures (c.in_ok-push_bytes.ensures.ok ∙ ap (λ t. c.push_echo.new.out.items ++ t) (c.as_bytes.ensures ∙ output))

pub returns-clause-machine : goal.returns-clause-machine
unfolding line_effect
returns-clause-machine c =
    let core = c.args.self.now in
    let read = with_read (machine_of core) (drop (core.read + 1) core.script) in
    c.in_ok-said.ensures.machine ∙ ap (λ (t : LineState). with_seen read t) (sym (ap (λ (a : Answer). a.state) c.in_ok-said.ensures.said))

pub returns-clause-left : goal.returns-clause-left
unfolding line_effect
returns-clause-left c =
    let said = sym c.in_ok-said.ensures.said in
    c.mode_left.ensures.mode
    ∙ ap (λ (o : Outcome). mode_left o (machine_of c.read_line.new.self) c.args.master c.args.late) (ap (λ (a : Answer). a.outcome) said)
    ∙ ap (λ (x : Machine). mode_left (next_said c.args.self.now c.args.master c.args.late).outcome x c.args.master c.args.late) (returns-clause-machine c)
