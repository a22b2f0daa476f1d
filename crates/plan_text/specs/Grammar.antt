-- The format of plan files as a relation: which lines are right, which runs they say, and which line is the first that isn't
-- right. The words of a line are those of `words_of`.
use Rattle.std.specs.Prelude.{◌≡◌, ℕ, ◌+◌, ◌<◌, ◌≤◌, ◌⊎◌, true, false, List, [], ◌∷◌, ◌++◌, length, Option, Some, None, Ok, Err, ◌↔◌}
use Rattle.mach_base.specs.Lines.{lines_of, words_of, is_comment}
use Rattle.mach_base.specs.declared.event.Hart.{Hart}
use Rattle.mach_base.specs.declared.event.What.TheVariants as counts
use Rattle.mach_base.specs.declared.limits.TheConstants.{MOST_TICKS}
use Rattle.mach_base.specs.LineByLine.{EachSays}
use Rattle.plan_text.specs.declared.fault.PlanFault.TheVariants.{Bad, TooLarge}
use Rattle.plan_text.specs.Ticks.{Run, ticks_of}
use Rattle.plan_text.specs.Reading.{is_header, hart_of, times_of, told, plan_of}

-- words that name these harts, one each
pub data NameHarts (n : ℕ) : List (List ℕ) → List Hart → Type 0 where
  no_hart : NameHarts n [] []
  a_hart : (word : List ℕ) (words : List (List ℕ)) (hart : Hart) (harts : List Hart) → hart_of n word ≡ Some hart → NameHarts n words harts → NameHarts n (word ∷ words) (hart ∷ harts)

-- A line by its words, with the run that it says, if any, for n harts: no word, or a comment; one hart or several; the same
-- with how many times they are gone through at the end.
pub data IsPlanLine (n : ℕ) : List (List ℕ) → Option Run → Type 0 where
  blank : IsPlanLine n [] None
  comment : (word : List ℕ) (words : List (List ℕ)) → is_comment word ≡ true → IsPlanLine n (word ∷ words) None
  once : (word : List ℕ) (words : List (List ℕ)) (hart : Hart) (harts : List Hart) → is_comment word ≡ false →
      NameHarts n (word ∷ words) (hart ∷ harts) → IsPlanLine n (word ∷ words) (Some (record { harts = hart ∷ harts; times = 1 }))
  several : (word : List ℕ) (words : List (List ℕ)) (last : List ℕ) (hart : Hart) (harts : List Hart) (times : ℕ) → is_comment word ≡ false →
      NameHarts n (word ∷ words) (hart ∷ harts) → times_of last ≡ Some times →
      IsPlanLine n (word ∷ words ++ last ∷ []) (Some (record { harts = hart ∷ harts; times = times }))

-- the runs that lines say, in the order of the lines, each of which is right
abbrev pub Say : ℕ → List (List ℕ) → List Run → Type 0
Say n lines runs = EachSays (IsPlanLine n) lines runs

-- the lines of a plan: the first line, and lines that say these runs
pub record IsPlan (n : ℕ) (lines : List (List ℕ)) (runs : List Run) : Type 0 where
  pub first : List ℕ
  pub others : List (List ℕ)
  pub split : lines ≡ first ∷ others
  pub header : is_header (words_of first) ≡ true
  pub say : Say n others runs

-- there is no first line of a plan
pub data HasNoHeader : List (List ℕ) → Type 0 where
  no_line : HasNoHeader []
  another : (l : List ℕ) (ls : List (List ℕ)) → is_header (words_of l) ≡ false → HasNoHeader (l ∷ ls)

-- after a plan's first line the line of this number, from 1, is the first that isn't right
pub record IsFirstBad (n : ℕ) (lines : List (List ℕ)) (number : ℕ) : Type 0 where
  pub first : List ℕ
  pub before : List (List ℕ)
  pub line : List ℕ
  pub after : List (List ℕ)
  pub split : lines ≡ first ∷ before ++ line ∷ after
  pub header : is_header (words_of first) ≡ true
  pub place : number ≡ length before + 2
  pub right : (runs : List Run) × Say n before runs
  pub wrong : (run : Option Run) → ¬ (IsPlanLine n (words_of line) run)

-- a text gives runs exactly where it is a plan that says them and their ticks aren't too many
abbrev pub GivesItsRuns : Type 0
GivesItsRuns =
    (n : ℕ) (text : List ℕ) (runs : List Run) → (plan_of n text ≡ Ok runs) ↔ (IsPlan n (lines_of text) runs × (length (ticks_of runs) ≤ MOST_TICKS))

-- a text is bad at a line exactly where that one is the first that isn't right
abbrev pub NamesTheFirstBadLine : Type 0
NamesTheFirstBadLine =
    (n : ℕ) (text : List ℕ) (number : ℕ) → (plan_of n text ≡ Err (Bad number)) ↔ (((number ≡ 1) × HasNoHeader (lines_of text)) ⊎ IsFirstBad n (lines_of text) number)

-- a plan with more ticks than there may be, and so many
pub record SayTooMany (n : ℕ) (lines : List (List ℕ)) (size : ℕ) : Type 0 where
  pub runs : List Run
  pub plan : IsPlan n lines runs
  pub count : size ≡ told (length (ticks_of runs))
  pub many : MOST_TICKS < length (ticks_of runs)

-- a text is too large exactly where it is a plan with too many ticks
abbrev pub CountsItsTicks : Type 0
CountsItsTicks = (n : ℕ) (text : List ℕ) (size : ℕ) → (plan_of n text ≡ Err (TooLarge counts.Ticks size)) ↔ SayTooMany n (lines_of text) size
