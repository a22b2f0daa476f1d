use Rattle.std.proofs.Common.{◌≡◌, suc, ◌∙◌, ap, arith, sym}
use Rattle.deck_core.specs.plain.Words.{turn_word, mask_of}
use Rattle.deck_core.specs.ticks.NextPhase.{is_transaction}
use Rattle.board_turn.specs.Ready.{out_with}
use Rattle.board_turn.proofs.Readies.{holds_slot, was_seen}
use Rattle.board_turn.proofs.Turns.{takes_at}
use Rattle.board_turn.proofs.board.Board.take_turn.Goals as goal

pub compare_exchange-found-requires : goal.compare_exchange-found-requires
compare_exchange-found-requires g c =
    let r = c.requires.ready in (
      r.of_table,
      omega (arith, c.args.self.now.all_words),
      takes_at g.B.Bus.told g.B.Bus.SameOrigin _ _ c.args.seen _ c.args.pass.now.seat.me
          (r.out ∙ ap out_with c.requires.place)
          (c.turn_word-taken.ensures ∙ (ap (λ m. turn_word m (suc c.args.pass.now.stand.hart.0)) c.mask_of.ensures.value ∙ ap (λ a. turn_word (mask_of c.args.seen) (suc a.hart.0)) (sym r.view)))
          r.live
          (ap (λ a. is_transaction a.phase) r.view ∙ c.requires.phase)
          (ap (λ a. a.place) r.view ∙ c.requires.place),
    )

pub exchange-requires : goal.exchange-requires
exchange-requires g c =
    let r = c.requires.ready in
    let seen : c.compare_exchange-found.result ≡ c.args.seen = omega arith in
    let took = was_seen c.compare_exchange-found.result c.args.seen _ _ seen c.compare_exchange-found.ensures.2 in (
      c.load_notes-notes.ensures.table ∙ (c.compare_exchange-found.ensures.0 ∙ r.of_table),
      (_, holds_slot c.load_notes-notes.new.seat.me _ _ (c.load_notes-notes.ensures.same ∙ took.seat)),
    )
