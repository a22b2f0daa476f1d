-- What a look answers.
use Rattle.std.specs.Prelude.{◌≡◌, ℕ, Bool, true, false}
use Rattle.board_turn.specs.declared.view.Standing.{Standing}
use Rattle.board_elect.specs.Plays.{is_counted}
use Rattle.board_elect.specs.declared.found.Mark.{Mark}
use Rattle.board_elect.specs.declared.found.Mark.TheVariants as found

-- whether the look found a mark that counts
abbrev pub is_marked : Mark → Bool
is_marked found.Marked = true
is_marked (found.Not seen) = false

-- the word that was found is neither 1 nor the gate's number exactly where the answer tells it
abbrev pub MarkSays : Standing → Mark → Type 0
MarkSays at found.Marked = (word : ℕ) × (is_counted at word ≡ true)
MarkSays at (found.Not seen) = is_counted at seen ≡ false
