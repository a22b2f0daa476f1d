-- The plan file: the runs that its lines say.
use Rattle.std.specs.Prelude.{◌≡◌, ℕ, ◌-◌, ◌^◌, ◌==◌, ◌&&◌, Bool, List, [], ◌∷◌, ◌++◌, length, codes, min, Option, Some, None, Result, Ok, Err, nat_lt, nat_le, if◌then◌else◌}
use Rattle.std.specs.Option.{option_map}
use Rattle.std.specs.Result.{result_ok}
use Rattle.mach_base.specs.declared.event.Hart.{Hart}
use Rattle.mach_base.specs.declared.event.What.TheVariants as counts
use Rattle.mach_base.specs.declared.limits.TheConstants.{MOST_TICKS}
use Rattle.mach_base.specs.Sequence.{◌>>=◌}
use Rattle.mach_base.specs.Number.{number_of}
use Rattle.mach_base.specs.Lines.{lines_of, words_of, is_comment, is_header_of}
use Rattle.mach_base.specs.LineByLine.{each_line}
use Rattle.plan_text.specs.declared.fault.PlanFault.{PlanFault}
use Rattle.plan_text.specs.declared.fault.PlanFault.TheVariants.{Bad, TooLarge, OutOfMemory}
use Rattle.plan_text.specs.Ticks.{Run, ticks_of}

-- what a call refused is what reading refuses, unless memory ran out
abbrev pub IsFault : {A : Type 0} → PlanFault → Result A PlanFault → Type 0
IsFault (Bad line) read = read ≡ Err (Bad line)
IsFault (TooLarge what size) read = read ≡ Err (TooLarge what size)
IsFault OutOfMemory read = Unit {0}

-- so is what it gave where it didn't refuse
abbrev pub Gives : {A : Type 0} → Result A PlanFault → Result A PlanFault → Type 0
Gives (Ok x) read = read ≡ Ok x
Gives (Err fault) read = IsFault fault read

-- whether the words are those of the first line
abbrev pub is_header : List (List ℕ) → Bool
is_header words = is_header_of (codes "kplan") words

-- the hart, if it is below the number of harts
abbrev pub hart_below : ℕ → Option ℕ → Option Hart
hart_below harts None = None
hart_below harts (Some number) = if nat_lt number harts then Some (record { 0 = number }) else None

-- the hart that a word names
abbrev pub hart_of : ℕ → List ℕ → Option Hart
hart_of harts word = hart_below harts (result_ok (number_of 10 word))

-- the number, if a list may be gone through so many times
abbrev pub times_in_range : Option ℕ → Option ℕ
times_in_range None = None
times_in_range (Some times) = if nat_le 1 times && nat_le times MOST_TICKS then Some times else None

-- how many times a list is gone through, by the word that says it: x and the number
abbrev pub times_of : List ℕ → Option ℕ
times_of [] = None
times_of (b ∷ digits) = if b == 120 then times_in_range (result_ok (number_of 10 digits)) else None

-- a run of no harts, which the last word says, if it is the last
abbrev pub ended : List ℕ → List (List ℕ) → Option Run
ended word [] = option_map (λ times. record { harts = []; times = times }) (times_of word)
ended word (more ∷ rest) = None

-- the hart in front of the run
abbrev pub onto : Hart → Run → Run
onto hart run = record run { harts = hart ∷ run.harts }

-- the harts in front of the run
abbrev pub fronted : List Hart → Option Run → Option Run
fronted harts None = None
fronted harts (Some run) = Some (record run { harts = harts ++ run.harts })

-- the run of a word, which is a hart's or the last, and of the words after it
abbrev pub with_word : Option Hart → List ℕ → List (List ℕ) → Option Run → Option Run
with_word (Some hart) word words rest = option_map (onto hart) rest
with_word None word words rest = ended word words

-- the run of these words: harts, and maybe how many times; it may have no hart
unfoldable pub run_from : ℕ → List (List ℕ) → Option Run
run_from harts [] = Some (record { harts = []; times = 1 })
run_from harts (word ∷ words) = with_word (hart_of harts word) word words (run_from harts words)

-- the run of these harts, if there are any
abbrev pub of_harts : List Hart → ℕ → Option Run
of_harts [] times = None
of_harts (hart ∷ harts) times = Some (record { harts = hart ∷ harts; times = times })

-- the run, if it has a hart
abbrev pub some_harts : Option Run → Option Run
some_harts None = None
some_harts (Some run) = of_harts run.harts run.times

-- the run that the words of a line say
abbrev pub run_of : ℕ → List (List ℕ) → Option Run
run_of harts words = some_harts (run_from harts words)

-- the run, or the line of this number is bad
abbrev pub known : ℕ → Option Run → Result (Option Run) PlanFault
known number None = Err (Bad number)
known number (Some run) = Ok (Some run)

-- The run of the line of this number, by its words; none for a line that is skipped.
unfoldable pub line_of : ℕ → ℕ → List (List ℕ) → Result (Option Run) PlanFault
line_of number harts [] = Ok None
line_of number harts (word ∷ words) = if is_comment word then Ok None else known number (run_of harts (word ∷ words))

-- the runs of the lines in order, of which the first has this number
abbrev pub read_lines : ℕ → ℕ → List (List ℕ) → Result (List Run) PlanFault
read_lines number harts lines = each_line (λ k words. line_of k harts words) number lines

-- The runs of all lines, of which the first is that of a plan.
unfoldable pub all_lines : ℕ → List (List ℕ) → Result (List Run) PlanFault
all_lines harts [] = Err (Bad 1)
all_lines harts (first ∷ lines) = if is_header (words_of first) then read_lines 2 harts lines else Err (Bad 1)

-- a number as 64 bits tell it: the greatest of them where it is even greater
abbrev pub told : ℕ → ℕ
told n = min n (2 ^ 64 - 1)

-- the runs, if their ticks aren't too many
abbrev pub within_limit : List Run → Result (List Run) PlanFault
within_limit runs =
    if nat_lt MOST_TICKS (length (ticks_of runs)) then Err (TooLarge counts.Ticks (told (length (ticks_of runs)))) else Ok runs

-- The runs that a text means for so many harts, or its first faulty line.
abbrev pub plan_of : ℕ → List ℕ → Result (List Run) PlanFault
plan_of harts text = all_lines harts (lines_of text) >>= within_limit
