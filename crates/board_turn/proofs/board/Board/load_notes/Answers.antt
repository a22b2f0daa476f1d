use Rattle.std.proofs.Common.{◌≡◌, ◌<◌, ◌∙◌, ap, arith, get_or, inl, inr, set, sym, ◌+◌, ◌-◌}
use Rattle.std.proofs.lemmas.Bool.{cases_eq}
use Rattle.std.proofs.lemmas.List.{get_or-set_other, get_or-set_same, length-set}
use Rattle.deck_core.specs.ticks.Phases.{holds}
use Rattle.board_turn.specs.Shown.{note, view_told}
use Rattle.board_turn.proofs.Readies.{all_notes, loaded_note}
use Rattle.board_turn.proofs.Turns.{loads_allowed}
use Rattle.board_turn.proofs.board.Board.load_notes.Goals as goal

pub load-requires : goal.load-requires
load-requires g c =
    let i = c.loop-k.invariant in
    let lt : c.loop-k.k < 16 = omega arith in (
      i.0 ∙ c.requires.table,
      omega (arith, c.args.self.now.all_words),
      loads_allowed g.B.Bus.told g.B.Bus.SameOrigin _ _ c.loop-k.k c.loop-k.seat.me (ap (λ m. m.0.live) i.1 ∙ c.requires.live) (ap (λ m. holds m.0.at.place) i.1 ∙ c.requires.holder) lt,
    )

pub loop-k-preserved : goal.loop-k-preserved
loop-k-preserved g c =
    let i = c.loop-k.invariant in
    let e = c.load.ensures in
    let back : (3 + c.loop-k.k) - 3 ≡ c.loop-k.k = omega arith in
    let lt : c.loop-k.k < 16 = omega arith in
    let size = i.3 in (
      e.0 ∙ i.0,
      e.2.0 ∙ i.1,
      λ j le.
          elim (cases_eq j c.loop-k.k) [
            | inl q ↦ ap (λ x. get_or (set c.loop-k.notes c.loop-k.k c.load.result) x 0) q
                ∙ (get_or-set_same c.loop-k.notes c.loop-k.k c.load.result 0 (omega (arith, lt, size))
                ∙ (loaded_note c.loop-k.seat.me c.args.seat.now.me c.load.result _ c.loop-k.k i.1 c.requires.none_stored back e.2.1
                ∙ ap (note (view_told c.args.seat.now.me.0)) (sym q)))
            | inr ne ↦ get_or-set_other c.loop-k.notes c.loop-k.k j c.load.result 0 ne ∙ i.2 j (omega (arith, le, ne))
          ],
      length-set c.loop-k.notes c.loop-k.k c.load.result ∙ size,
    )

pub returns-clause-notes : goal.returns-clause-notes
returns-clause-notes g c = all_notes c.loop-k.notes c.args.seat.now.me.0 c.loop-k.invariant.3 (λ j lt. c.loop-k.invariant.2 j (omega (arith, lt)))
