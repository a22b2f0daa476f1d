use Rattle.std.proofs.Common.{◌≡◌, ◌+◌, ◌-◌, ◌++◌, List, Option, [], ◌∷◌, length, ◌∙◌, ap, arith, subst}
use Rattle.atomic_table.specs.Seated.{TableId}
use Rattle.deck_core.specs.ticks.NextPhase.{is_transaction}
use Rattle.board_turn.specs.declared.board.Pass.{Pass}
use Rattle.board_turn.specs.Plays.{with_left}
use Rattle.board_turn.specs.Ready.{AllDone, IsDone, out_with, start_of}
use Rattle.board_turn.proofs.Readies.{all_done_snoc, done_phase}
use Rattle.board_turn.proofs.Seating.{joins_allowed, length_snoc}
use Rattle.board_turn.proofs.board.Board.join.Goals as goal

-- the passes of a list from which the last one was taken
record Popped {B : Type 0} (table : TableId) (start : Option B) (items xs : List (Pass B)) (last : Pass B) : Type 0 where
  all_done : AllDone table start 1 xs
  is_done : IsDone table start (1 + length xs) last
  size : length items ≡ length xs + 1

last_popped : {B : Type 0} (table : TableId) (start : Option B) (items xs : List (Pass B)) (last : Pass B) → items ≡ xs ++ last ∷ [] → AllDone table start 1 items → Popped table start items xs last
last_popped table start items xs last e d =
    let parts = all_done_snoc table start 1 xs last (subst (AllDone table start 1) e d) in
    record { all_done = parts.0; is_done = parts.1; size = ap length e ∙ length_snoc xs last }

pub join_seat-requires : goal.join_seat-requires
join_seat-requires g c =
    let r = c.requires.ready in
    let i = c.loop-last.invariant in
    let last = c.in-Some.last in
    let popped = last_popped c.args.self.now.table.shared.table_id (start_of c.args.first.now) c.loop-last.others.items c.pop.new.self.items c.in-Some.last c.in-Some.ensures.items i.2 in
    let d = popped.is_done in
    let v = c.loop-last.first.seat.me.0 in
    let fin = ap (λ a. a.phase) d.ready.view ∙ done_phase last.stand.phase d.finished in
    let peek = d.ready.outside (ap is_transaction (done_phase last.stand.phase d.finished)) in
    let left : v.left ≡ length c.loop-last.others.items + 1 = ap (λ m. m.0.left) i.1 in
    let hart : last.seat.me.0.at.hart.0 ≡ 1 + length c.pop.new.self.items = ap (λ a. a.hart.0) d.ready.view ∙ d.hart in (
      i.0 ∙ r.of_table,
      d.ready.of_table,
      d.ready.out ∙ ap out_with peek,
      omega (arith, c.args.self.now.all_words),
      joins_allowed g.B.Bus.told g.B.Bus.SameOrigin _ _ v last.seat.me.0
          (ap (λ m. m.0.live) i.1 ∙ r.live)
          d.ready.live
          (ap (λ m. m.0.at.hart.0) i.1 ∙ (ap (λ a. a.hart.0) r.view ∙ c.requires.hart))
          (omega (arith, hart, left, popped.size))
          fin
          (ap (λ a. a.place) d.ready.view ∙ peek),
    )

pub loop-last-preserved : goal.loop-last-preserved
loop-last-preserved g c =
    let i = c.loop-last.invariant in
    let popped = last_popped c.args.self.now.table.shared.table_id (start_of c.args.first.now) c.loop-last.others.items c.pop.new.self.items c.in-Some.last c.in-Some.ensures.items i.2 in
    let fewer : (length c.loop-last.others.items + 1) - 1 ≡ length c.pop.new.self.items + 1 = omega (arith, popped.size) in
    let e = c.join_seat.ensures in (
      e.0 ∙ i.0,
      e.2 ∙ (ap (λ m. with_left (m.0.left - 1) m) i.1 ∙ ap (λ n. with_left n c.args.first.now.seat.me) fewer),
      popped.all_done,
    )
