-- The input of the command `load`, as its number says it.
use Rattle.std.specs.Prelude.{ℕ, zero, suc, ◌+◌, ◌*◌, ◌/◌, ◌%◌, ◌^◌, ◌<◌, List, [], ◌∷◌, ◌++◌, codes}
use Rattle.std.specs.List.{AllByRecursion, flat_map}
use Rattle.mach_base.specs.Texts.{newline}
use Rattle.mach_base.specs.Number.{hex_text}
use Rattle.gen_load.specs.declared.numbers.TheConstants.{GOES, TICKS}

-- an image's text, a script's text, and for each tick the number of its hart
pub record Generated : Type 0 where
  pub image : List ℕ
  pub script : List ℕ
  pub plan : List ℕ

-- a word in a line of an image
abbrev pub word_text : ℕ → List ℕ
word_text word = codes " 0x" ++ hex_text 8 word

-- the line that puts these words, at most eight
abbrev pub word_line : List ℕ → List ℕ
word_line words = codes "w" ++ flat_map word_text words ++ newline

-- The program: each hart a thousand times takes the lock at 0x2000, adds 1 to the counter at 0x2008 and gives the lock back;
-- then it adds 1 to the count of the harts that are done, at 0x2010, and halts, but hart 0 first waits for 4 of them and meets
-- an `ebreak`.
abbrev pub first_words : List ℕ
first_words = 0x000025b7 ∷ 0x3e800613 ∷ 0x00100693 ∷ 0x08d5b72f ∷ 0xfe071ee3 ∷ 0x0085b783 ∷ 0x00178793 ∷ 0x00f5b423 ∷ []

-- the program's next eight words
abbrev pub second_words : List ℕ
second_words = 0x0005b023 ∷ 0xfff60613 ∷ 0xfe0612e3 ∷ 0x01058813 ∷ 0x00d8302f ∷ 0x00200893 ∷ 0x00000073 ∷ 0x00051a63 ∷ []

-- the second of them, `addi a5, a5, -4`, tells whether 4 harts are done
abbrev pub last_words : List ℕ
last_words = 0x0105b783 ∷ 0xffc78793 ∷ 0xfe079ce3 ∷ 0x00100073 ∷ 0x00000893 ∷ 0x00000073 ∷ []

-- the image: the program's 22 words as text, and 24 bytes of data
unfoldable pub image_text : List ℕ
image_text =
    codes "kimg 1\n" ++ codes "text 0x1000 88\n" ++ word_line first_words ++ word_line second_words ++ word_line last_words ++ codes "data 0x2000 24\n"

-- so many lines `go`
unfoldable pub goes : ℕ → List ℕ
goes zero = []
goes (suc n) = goes n ++ codes "go\n"

-- the script: a breakpoint in the loop, which is met as often as there are these lines `go`; at the last time it is cleared, and
-- at the `ebreak` the counter is shown
unfoldable pub script_text : List ℕ
script_text = codes "bp 1018\n" ++ goes GOES ++ codes "bc 0\ngo\nmd8c1 2008\ngo\n"

-- the number after this one in the sequence of Knuth's linear congruential generator MMIX
abbrev pub next_number : ℕ → ℕ
next_number s = (s * 6364136223846793005 + 1442695040888963407) % 2 ^ 64

-- the number after so many new ones, where the first is the command's
unfoldable pub sequence : ℕ → ℕ → ℕ
sequence number zero = number
sequence number (suc k) = next_number (sequence number k)

-- the hart of a tick, of 4: the highest two bits of its new number
abbrev pub hart_of : ℕ → ℕ
hart_of s = s / 2 ^ 62

-- the harts of the first so many ticks, where tick k is that of the k-th new number
unfoldable pub plan_to : ℕ → ℕ → List ℕ
plan_to number zero = []
plan_to number (suc k) = plan_to number k ++ hart_of (sequence number (suc k)) ∷ []

-- the input of the command with this number
unfoldable pub generated : ℕ → Generated
generated number = record { image = image_text; script = script_text; plan = plan_to number TICKS }

-- each tick is of one of so many harts
abbrev pub AreBelow : ℕ → List ℕ → Type 0
AreBelow harts plan = AllByRecursion (λ hart. hart < harts) plan
