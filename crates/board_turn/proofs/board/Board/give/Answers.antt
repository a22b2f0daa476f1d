use Rattle.std.proofs.Common.{◌∙◌, ap, arith, sym, subst}
use Rattle.deck_core.specs.ticks.NextPhase.{act_of, is_transaction}
use Rattle.deck_core.specs.ticks.Phases.{holds}
use Rattle.deck_core.proofs.Flats.{acts_answer}
use Rattle.board_turn.specs.Ready.{SitsAt}
use Rattle.board_turn.proofs.Readies.{out_given, give_me, give_sits, gave_me, honest_at, origin_over, words_of}
use Rattle.board_turn.proofs.Turns.{gives_at}
use Rattle.board_turn.proofs.board.Board.give.Goals as goal

pub store-requires : goal.store-requires
store-requires g c =
    let r = c.requires.ready in
    let t = c.requires.taken in
    let me = c.args.pass.now.seat.me in
    let v = record me.0 { stored = c.to_words.result } in
    let empty = r.out ∙ out_given c.args.pass.now.stand.place t.holder in
    let told = words_of (g.B.Bus.told c.call-answer.new.bus) _ _ c.notes.result c.to_words.result c.to_words.ensures c.notes.ensures in
    let act = c.requires.own_call ∙ ap (λ a. act_of a.hart.0 a.phase) (sym r.view) in (
      c.exchange.ensures.0 ∙ (c.store_notes.ensures.table ∙ r.of_table),
      omega (arith, c.args.self.now.all_words),
      gives_at g.B.Bus.told g.B.Bus.SameOrigin _ _ _ c.exchange.new.seat.me v c.call-answer.new.bus c.call-answer.result
          (give_me me c.store_notes.new.seat.me c.exchange.new.seat.me c.to_words.result _ c.exchange.ensures.3 c.store_notes.ensures.stored empty)
          c.mask-mask.ensures
          r.live
          (ap (λ a. is_transaction a.phase) r.view ∙ c.requires.phase)
          (ap (λ a. holds a.place) r.view ∙ t.holder)
          (honest_at c.args.act me.0.at (g.B.Bus.told c.args.held.bus) _ (g.B.Bus.told c.call-answer.new.bus) c.call-answer.result act t.tells c.call-answer.ensures.acts)
          (origin_over g.B.Bus.SameOrigin me.0.start c.args.held.bus c.call-answer.new.bus g.met.B.Bus.origin_on t.origin c.call-answer.ensures.origin)
          told,
    )

pub returns-clause-answer : goal.returns-clause-answer
returns-clause-answer g c = acts_answer c.args.act (g.B.Bus.told c.args.held.bus) (g.B.Bus.told c.call-answer.new.bus) c.call-answer.result c.call-answer.ensures.acts.does

pub returns-clause-ready : goal.returns-clause-ready
returns-clause-ready g c =
    let r = c.requires.ready in
    let t = c.requires.taken in
    let me = c.args.pass.now.seat.me in
    let v = record me.0 { stored = c.to_words.result } in
    let empty = r.out ∙ out_given c.args.pass.now.stand.place t.holder in
    subst (λ a. SitsAt c.args.self.now.table.shared.table_id c.store.new.seat a) (sym c.after_call-pass.ensures)
    (give_sits c.args.self.now.table.shared.table_id c.args.pass.now.seat c.store.new.seat c.args.pass.now.stand c.call-answer.result c.to_words.result r
    (c.store.ensures.0 ∙ (c.exchange.ensures.0 ∙ c.store_notes.ensures.table))
    (gave_me c.exchange.new.seat.me c.store.new.seat.me v c.call-answer.new.bus c.call-answer.result c.store.ensures.2
    (give_me me c.store_notes.new.seat.me c.exchange.new.seat.me c.to_words.result _ c.exchange.ensures.3 c.store_notes.ensures.stored empty)))
