use Rattle.board_turn.specs.Ready.{AreFirst}
use Rattle.board_turn.proofs.seats.first_words.Given as goal

abbrev pub invariant-loop-k : goal.invariant-loop-k
invariant-loop-k l = AreFirst l.words l.notes l.k
