use Rattle.std.proofs.Common.{◌<◌, ◌-◌, ◌*◌, ◌||◌, suc, false, not, is_none, nat_lt, ◌∙◌, ap, arith}
use Rattle.std.proofs.lemmas.Bool.{ltb-true, and_parts}
use Rattle.deck_core.specs.declared.plain.act.Act.TheVariants as act
use Rattle.deck_core.proofs.Allowed.{allowed_legal}
use Rattle.test_bus.proofs.scripted.SmallBusBus.send.Goals as goal

pub overflow_add-self : goal.overflow_add-self
overflow_add-self c =
    let s = c.args.self.now in
    let working = ap (λ x. x || false) (c.is_none.ensures ∙ ap not c.if-is_none.true) in
    let few : s.notes.sends < (2 - 1) * suc s.notes.lines =
    ltb-true s.notes.sends ((2 - 1) * suc s.notes.lines) (and_parts (is_none s.notes.session) (nat_lt s.notes.sends ((2 - 1) * suc s.notes.lines)) (allowed_legal (act.Send c.args._to) _ c.requires working)).1 in
    omega (arith, few, s.read_lines)
