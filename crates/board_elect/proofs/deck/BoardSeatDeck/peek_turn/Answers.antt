use Rattle.std.proofs.Common.{refl, sym}
use Rattle.board_elect.proofs.Standings.{peek_made, seen_where_free}
use Rattle.board_elect.proofs.deck.BoardSeatDeck.peek_turn.Goals as goal

pub returns-clause-seen : goal.returns-clause-seen
returns-clause-seen g c =
    seen_where_free c.peek_turn-seen.result c.is_ok.result c.args.self.now.idle c.args.self.now.pass c.peek_turn-seen.new.pass c.is_ok.ensures.value c.peek_turn-seen.ensures.free

pub returns-clause-origin : goal.returns-clause-origin
returns-clause-origin g c = record {
  tables = refl;
  starts = sym c.peek_turn-seen.ensures.start;
  made = peek_made c.peek_turn-seen.result c.args.self.now.pass c.peek_turn-seen.new.pass c.peek_turn-seen.ensures.free c.peek_turn-seen.ensures.busy;
}
