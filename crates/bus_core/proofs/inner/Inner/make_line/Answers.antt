use Rattle.std.proofs.Common.{◌≡◌, ◌+◌, ◌∷◌, ◌++◌, drop, length, sym, ap, ◌∙◌}
use Rattle.std.proofs.lemmas.Bool.{ltb-true}
use Rattle.atom_mach.proofs.SessionLines.{lines_from}
use Rattle.plant_mach.specs.Entries.{Made}
use Rattle.bus_core.specs.Inner.{machine_of, next_line}
use Rattle.bus_core.proofs.Lines.{line_left, read_is}
use Rattle.bus_core.proofs.Sessions.{line_facts}
use Rattle.bus_core.proofs.inner.Inner.make_line.Goals as goal

pub unreachable-requires : goal.unreachable-requires
unreachable-requires c = (line_facts (machine_of c.args.self.now) c.args.hart c.requires.legal).session c.in_default.is

pub line-requires-clause-left : goal.line-requires-clause-left
line-requires-clause-left c =
    let core = c.args.self.now in
    ltb-true core.read (length core.script) (line_left core.script core.read core.in_range ∙ (line_facts (machine_of core) c.args.hart c.requires.legal).line)

pub returns-clause-done : goal.returns-clause-done
returns-clause-done c =
    let core = c.args.self.now in
    let left = ltb-true core.read (length core.script) (line_left core.script core.read core.in_range ∙ (line_facts (machine_of core) c.args.hart c.requires.legal).line) in
    let is = read_is (machine_of core) c.args.hart c.in-Some.sitting (next_line core) (drop (core.read + 1) core.script) c.in-Some.is (lines_from core.script core.read left) in
    record {
      text = c.in_ok-line.ensures.text ∙ ap (λ (d : Made). c.args.out.now.items ++ d.text) (sym is);
      next = c.in_ok-line.ensures.next ∙ ap (λ (d : Made). d.next) (sym is);
    }
