use Rattle.std.proofs.Common.{refl, sym}
use Rattle.board_elect.proofs.Standings.{try_made}
use Rattle.board_elect.proofs.deck.BoardSeatDeck.try_master.Goals as goal

pub returns-clause-origin : goal.returns-clause-origin
returns-clause-origin g c = record {
  tables = refl;
  starts = sym c.try_master-won.ensures.start;
  made = try_made c.try_master-won.result c.args.self.now.pass c.try_master-won.new.pass c.try_master-won.ensures.won c.try_master-won.ensures.taken;
}
