use Rattle.std.proofs.Common.{◌≡◌, ◌∙◌, ap, subst, sym, Some, [], ◌∷◌, ◌++◌}
use Rattle.deck_core.specs.declared.plain.act.Answer.TheVariants as answer
use Rattle.board_turn.specs.Rule.{Ruled}
use Rattle.board_turn.specs.Shown.{first_view, note}
use Rattle.atomic_table.specs.Table.{opening}
use Rattle.board_turn.proofs.Readies.{note_of}
use Rattle.board_turn.proofs.Seating.{starts}
use Rattle.std.proofs.Common.{get_or}
use Rattle.board_turn.proofs.board.Board.new.Goals as goal

pub new-requires : goal.new-requires
new-requires g c =
    let told = g.B.Bus.told in
    let same = g.B.Bus.SameOrigin in
    let words = c.first_words-words.result in
    let w = c.first_words-words.ensures in
    let slots = c.push.new.self.items in
    let slot = Some (record { bus = c.args.bus; last = answer.Send }) in
    let filled : slots ≡ slot ∷ [] = c.in_ok-push.ensures.items ∙ ap (λ xs. xs ++ slot ∷ []) c.in_ok-slots.ensures.items in
    let holds = starts told same c.args.bus answer.Send words c.harts-harts.result c.args.limit c.requires.bus c.requires.rounds c.harts-harts.ensures (g.met.B.Bus.origin_here c.args.bus)
    w.size w.turn w.master w.gate
    (λ k lt. w.some_notes k lt ∙ (ap (λ ws. get_or ws k 0) c.to_words.ensures ∙ sym (ap (λ b. note b k) c.notes.ensures ∙ note_of _ _ c.notes.result k)))
    w.own in
    subst (λ xs. Ruled told same (opening words xs (first_view c.of.result.value c.harts-harts.result c.args.limit))) (sym filled)
    (subst (λ b. Ruled told same (opening words (slot ∷ []) (first_view b c.harts-harts.result c.args.limit))) (sym c.of.ensures) holds)
