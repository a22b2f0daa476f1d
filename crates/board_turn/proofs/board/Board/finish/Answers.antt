use Rattle.std.proofs.Common.{◌∙◌, ap, refl, subst, sym, None}
use Rattle.board_turn.specs.Rule.{IsOrigin}
use Rattle.board_turn.proofs.Readies.{first_of}
use Rattle.board_turn.proofs.Seating.{bus_there, closed_ends, none_there}
use Rattle.board_turn.proofs.board.Board.finish.Goals as goal

pub unreachable-requires : goal.unreachable-requires
unreachable-requires g c =
    let f = first_of c.args.self.table.shared.table_id c.args.passes.items c.remove-first.result c.remove-first.new.self.items c.requires c.remove-first.ensures.value c.remove-first.ensures.items in
    let e = closed_ends g.B.Bus.told g.B.Bus.SameOrigin c.args.self.table.shared.table_id c.remove-first.result c.join.new.first.seat.me.0 _ _ _ f.here c.join.ensures.joined c.close_with-closed.ensures.values.2 in
    none_there g.B.Bus.told g.B.Bus.SameOrigin e None c.in-None.ensures.value refl

pub returns-clause-origin : goal.returns-clause-origin
returns-clause-origin g c =
    let f = first_of c.args.self.table.shared.table_id c.args.passes.items c.remove-first.result c.remove-first.new.self.items c.requires c.remove-first.ensures.value c.remove-first.ensures.items in
    let e = closed_ends g.B.Bus.told g.B.Bus.SameOrigin c.args.self.table.shared.table_id c.remove-first.result c.join.new.first.seat.me.0 _ _ _ f.here c.join.ensures.joined c.close_with-closed.ensures.values.2 in
    subst (λ o. IsOrigin g.B.Bus.SameOrigin o c.in-Some.field-0.bus) (sym f.start) (subst (λ b. IsOrigin g.B.Bus.SameOrigin c.remove-first.result.seat.me.0.start b) (sym (bus_there g.B.Bus.told g.B.Bus.SameOrigin e c.in-Some.field-0 c.in-Some.ensures.value)) e.origin)

pub returns-clause-over : goal.returns-clause-over
returns-clause-over g c =
    let f = first_of c.args.self.table.shared.table_id c.args.passes.items c.remove-first.result c.remove-first.new.self.items c.requires c.remove-first.ensures.value c.remove-first.ensures.items in
    let e = closed_ends g.B.Bus.told g.B.Bus.SameOrigin c.args.self.table.shared.table_id c.remove-first.result c.join.new.first.seat.me.0 _ _ _ f.here c.join.ensures.joined c.close_with-closed.ensures.values.2 in
    ap (λ b. (g.B.Bus.told b).over) (bus_there g.B.Bus.told g.B.Bus.SameOrigin e c.in-Some.field-0 c.in-Some.ensures.value) ∙ e.over
