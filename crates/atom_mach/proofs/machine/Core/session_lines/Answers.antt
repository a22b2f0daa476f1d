use Rattle.std.proofs.Common.{◌≡◌, ◌+◌, ◌∷◌, [], None, Some, drop, sym, ap, ◌∙◌, arith}
use Rattle.std.proofs.lemmas.List.{drop_all}
use Rattle.atom_mach.specs.State.{prefixed}
use Rattle.atom_mach.specs.Session.{with_read, line_effect, session_lines}
use Rattle.atom_mach.specs.Core.{machine_of, next_line}
use Rattle.atom_mach.proofs.Masks.{sits}
use Rattle.atom_mach.proofs.SessionLines.{lines_from, session_lines-stay, session_lines-leave, session_lines-end}
use Rattle.atom_mach.proofs.machine.Core.session_lines.Goals as goal

pub line-requires-clause-sitting : goal.line-requires-clause-sitting
line-requires-clause-sitting c = sits c.loop-self.self.contexts.len c.args.master (omega (arith, c.requires.there, c.loop-self.invariant.harts))

pub loop-self-preserved : goal.loop-self-preserved
loop-self-preserved c =
    let core = c.loop-self.self in
    let next = c.line.new.self in
    let s = machine_of core in
    let m = c.args.master in
    let line = next_line core in
    let rest = drop (core.read + 1) core.script in
    let unread : s.unread ≡ line ∷ rest = lines_from core.script core.read (omega (arith, c.loop-self-test.true, c.len.ensures.lines)) in
    let after : drop next.read next.script ≡ rest = ap (λ n. drop n next.script) c.in_ok-mode.ensures.read ∙ ap (drop (core.read + 1)) c.in_ok-mode.ensures.script in
    let stays : (line_effect m 0 line (with_read s rest)).left ≡ None = sym c.in_ok-mode.ensures.left ∙ c.in_default.is in
    record {
      harts = c.in_ok-mode.ensures.harts ∙ c.loop-self.invariant.harts;
      mode = c.in_ok-mode.ensures.mode ∙ c.loop-self.invariant.mode;
      told =
          ap (λ u. prefixed c.line.new.out.items (session_lines m u (machine_of next))) after
          ∙ session_lines-stay m line rest s (machine_of next) c.loop-self.out.items c.line.new.out.items stays c.in_ok-mode.ensures.machine c.in_ok-mode.ensures.text
          ∙ ap (λ u. prefixed c.loop-self.out.items (session_lines m u s)) (sym unread)
          ∙ c.loop-self.invariant.told;
    }

pub returns-in-Some-clause-lines : goal.returns-in-Some-clause-lines
returns-in-Some-clause-lines c =
    let core = c.loop-self.self in
    let s = machine_of core in
    let m = c.args.master in
    let line = next_line core in
    let rest = drop (core.read + 1) core.script in
    let unread : s.unread ≡ line ∷ rest = lines_from core.script core.read (omega (arith, c.loop-self-test.true, c.len.ensures.lines)) in
    let leaves : (line_effect m 0 line (with_read s rest)).left ≡ Some c.in-Some.mode = sym c.in_ok-mode.ensures.left ∙ c.in-Some.is in
    sym c.loop-self.invariant.told
    ∙ ap (λ u. prefixed c.loop-self.out.items (session_lines m u s)) unread
    ∙ session_lines-leave m line rest s (machine_of c.line.new.self) c.loop-self.out.items c.line.new.out.items c.in-Some.mode leaves c.in_ok-mode.ensures.machine c.in_ok-mode.ensures.text

pub returns-clause-lines : goal.returns-clause-lines
returns-clause-lines c =
    let core = c.loop-self.self in
    let s = machine_of core in
    let m = c.args.master in
    let unread : s.unread ≡ [] = drop_all core.read core.script (omega (arith, c.loop-self-test.false, c.len.ensures.lines)) in
    sym c.loop-self.invariant.told
    ∙ ap (λ u. prefixed c.loop-self.out.items (session_lines m u s)) unread
    ∙ session_lines-end m s c.loop-self.out.items c.push_last_prompt.new.out.items c.in_ok-push_last_prompt.ensures.ok
