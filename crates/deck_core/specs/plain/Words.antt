-- The turn word. The harts that a session has stopped are a mask, with bit k for hart k.
use Rattle.std.specs.Prelude.{ℕ, ◌+◌, ◌*◌, ◌/◌, ◌%◌, ◌^◌}

-- the turn word: the mask in bits 0 to 31, and above it the number of the hart that holds the turn, plus 1, or 0
unfoldable pub turn_word : ℕ → ℕ → ℕ
turn_word mask holder = holder * 2 ^ 32 + mask

-- the mask in a turn word
unfoldable pub mask_of : ℕ → ℕ
mask_of turn = turn % 2 ^ 32

-- the number of the holder plus 1 in a turn word, or 0
unfoldable pub holder_of : ℕ → ℕ
holder_of turn = turn / 2 ^ 32
