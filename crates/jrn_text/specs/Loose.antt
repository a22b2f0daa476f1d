-- What a line may mean. A line is read loosely here: numbers may have leading zeros, and more. Whether it is an entry's
-- line is decided by writing the entry again.
use Rattle.std.specs.Prelude.{ℕ, zero, suc, ◌==◌, List, [], ◌∷◌, length, codes, Option, Some, None, option_map, option_and_then, nat_lt, if◌then◌else◌}
use Rattle.std.specs.Result.{result_ok}
use Rattle.std.specs.Str.{bytes_eq}
use Rattle.mach_base.specs.Number.{number_of}
use Rattle.mach_base.specs.Masks.{mask_with}
use Rattle.mach_base.specs.Packed.{hart}
use Rattle.mach_base.specs.declared.limits.TheConstants.{MOST_HARTS}
use Rattle.mach_base.specs.declared.event.Ending.{Ending}
use Rattle.mach_base.specs.declared.event.Ending.TheVariants.{ScriptEnd, AllHalted, StepLimit, PlanEnd}
use Rattle.mach_base.specs.declared.event.Entry.{Entry}
use Rattle.mach_base.specs.declared.event.Entry.TheVariants.{Step, Intr, Send, Take, Open, Pull, Line, Plant, PlantStep, PullStep, Close, Off}
use Rattle.jrn_text.specs.Cuts.{cut_at}

-- a number below a bound
abbrev pub number_below : ℕ → List ℕ → Option ℕ
number_below bound text = option_and_then (λ n. if nat_lt n bound then Some n else None) (result_ok (number_of 10 text))

-- the mask with one hart more, by its text
abbrev pub with_hart : ℕ → List ℕ → Option ℕ
with_hart mask text = option_map (mask_with mask) (number_below MOST_HARTS text)

-- the harts of a list that is cut at its first comma, added to a mask, where the rest is read by this function
abbrev pub harts_by : (ℕ → List ℕ → Option ℕ) → ℕ → List ℕ → Option (List ℕ × List ℕ) → Option ℕ
harts_by others mask text None = with_hart mask text
harts_by others mask text (Some cut) = option_and_then (λ more. others more cut.1) (with_hart mask cut.0)

-- the harts of a list, at most so many of them, added to a mask
abbrev pub harts_from : ℕ → ℕ → List ℕ → Option ℕ
harts_from zero mask text = None
harts_from (suc n) mask text = harts_by (harts_from n) mask text (cut_at 44 text)

-- a mask of late harts
unfoldable pub late_in : List ℕ → Option ℕ
late_in text = if bytes_eq text (codes "-") then Some 0 else harts_from MOST_HARTS 0 text

-- the entry of a hart that opens a session, and of the late harts
abbrev pub opening_in : List ℕ → Option Entry
opening_in text = option_and_then (λ cut. option_and_then (λ h. option_map (Open (hart h)) (late_in cut.1)) (number_below 256 cut.0)) (cut_at 32 text)

-- the ending of a word
abbrev pub ending_in : List ℕ → Option Ending
ending_in text =
    if bytes_eq text (codes "script") then Some ScriptEnd
    else (if bytes_eq text (codes "halted") then Some AllHalted
    else (if bytes_eq text (codes "limit") then Some StepLimit
    else None))

-- the entry of a letter and of what follows the blank after it
unfoldable pub lettered_entry : ℕ → List ℕ → Option Entry
lettered_entry letter text =
    if letter == 83 then option_map (λ h. Step (hart h)) (number_below 256 text)
    else (if letter == 73 then option_map (λ h. Intr (hart h)) (number_below 256 text)
    else (if letter == 67 then option_map (λ h. Send (hart h)) (number_below 256 text)
    else (if letter == 84 then option_map (λ h. Take (hart h)) (number_below 256 text)
    else (if letter == 79 then opening_in text
    else (if letter == 85 then option_map Pull (number_below 256 text)
    else (if letter == 76 then option_map (λ h. Line (hart h)) (number_below 256 text)
    else (if letter == 80 then option_map Plant (number_below 256 text)
    else (if letter == 65 then option_map PlantStep (result_ok (number_of 16 text))
    else (if letter == 69 then option_map (λ h. Close (hart h)) (number_below 256 text)
    else (if letter == 70 then option_map Off (ending_in text)
    else None))))))))))

-- the entry that a line without its line feed may mean
unfoldable pub loose_entry : List ℕ → Option Entry
loose_entry [] = None
loose_entry (a ∷ []) = if a == 66 then Some PullStep else None
loose_entry (a ∷ b ∷ rest) = if b == 32 then lettered_entry a rest else None

-- what follows the first blank
abbrev pub after_blank : List ℕ → Option (List ℕ)
after_blank text = option_map (λ cut. cut.1) (cut_at 32 text)

-- the numbers of harts and of steps in a first line: its fourth word, and what follows the fifth
abbrev pub numbers_in_line : List ℕ → Option (ℕ × ℕ)
numbers_in_line line = option_and_then numbers_at (option_and_then after_blank (option_and_then after_blank (after_blank line)))
  where
    limit_in : List ℕ → ℕ → Option (ℕ × ℕ)
    limit_in text harts = option_map (λ limit. (harts, limit)) (result_ok (number_of 10 text))

    numbers_at : List ℕ → Option (ℕ × ℕ)
    numbers_at rest = option_and_then (λ cut. option_and_then (λ text. option_and_then (limit_in text) (number_below 256 cut.0)) (after_blank cut.1)) (cut_at 32 rest)

-- the entry that the first line of a text may mean
abbrev pub entry_meant : List ℕ → Option Entry
entry_meant text = option_and_then (λ cut. loose_entry cut.0) (cut_at 10 text)

-- the numbers that the first line of a text may mean
abbrev pub numbers_meant : List ℕ → Option (ℕ × ℕ)
numbers_meant text = option_and_then (λ cut. numbers_in_line cut.0) (cut_at 10 text)
