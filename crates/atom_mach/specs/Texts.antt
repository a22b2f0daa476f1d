-- What the machine and the debugger print.
use Rattle.std.specs.Prelude.{ℕ, ◌<◌, ◌≤◌, ◌==◌, ◌&&◌, Bool, false, List, [], ◌∷◌, ◌++◌, length, codes, drop, filter, unwrap_or, if◌then◌else◌}
use Rattle.std.specs.List.{range_with_len}
use Rattle.mach_base.specs.Number.{dec_text}
use Rattle.mach_base.specs.Texts.{newline, address_text}
use Rattle.mach_base.specs.Masks.{has_bit}
use Rattle.mach_base.specs.declared.limits.TheConstants.{MASK_HARTS}
use Rattle.mach_base.specs.declared.event.Cause.{Cause}
use Rattle.mach_base.specs.declared.event.Cause.TheVariants.{Unmapped, NoRight, Misaligned, Illegal, BadService}
use Rattle.mach_base.specs.declared.event.Reason.{Reason}
use Rattle.mach_base.specs.declared.event.Reason.TheVariants.{Start, Breakpoint, Compiled, Step, Fault as FaultReason}
use Rattle.mach_base.specs.declared.event.Ending.{Ending}
use Rattle.mach_base.specs.declared.event.Ending.TheVariants.{ScriptEnd, AllHalted, StepLimit, PlanEnd}
use Rattle.kdb_env.specs.Variables.{value_of}
use Rattle.atom_mach.specs.declared.texts.TheConstants.{BANNER_BYTES}

-- Banners.

-- why an instruction faults, in words
unfoldable pub cause_text : Cause → List ℕ
cause_text Unmapped = codes "unmapped"
cause_text NoRight = codes "no right"
cause_text Misaligned = codes "misaligned"
cause_text Illegal = codes "illegal"
cause_text BadService = codes "bad service"

-- why a session opens, in words
unfoldable pub reason_text : Reason → List ℕ
reason_text Start = codes "Start"
reason_text (Breakpoint i) = codes "Breakpoint " ++ dec_text i
reason_text Compiled = codes "Compiled breakpoint"
reason_text Step = codes "Step"
reason_text (FaultReason f) = codes "Fault " ++ (cause_text f.cause ++ (codes " " ++ address_text f.addr))

-- a number, with a blank before it where it isn't the first
abbrev pub number_text : Bool → ℕ → List ℕ
number_text first h = if first then dec_text h else 32 ∷ dec_text h

-- the numbers, joined by one blank
abbrev pub numbers_text : List ℕ → List ℕ
numbers_text [] = []
numbers_text (h ∷ []) = dec_text h
numbers_text (h ∷ k ∷ hs) = dec_text h ++ (32 ∷ numbers_text (k ∷ hs))

-- the harts of a mask, from the lowest number on
abbrev pub harts_in : ℕ → List ℕ
harts_in mask = filter (has_bit mask) (range_with_len 0 MASK_HARTS)

-- the line that names the late harts, where there are any
unfoldable pub late_text : ℕ → List ℕ
late_text late =
    if late == 0 then []
    else codes "Timed out waiting for secondary CPUs: " ++ (numbers_text (harts_in late) ++ newline)

-- the line that says who entered, why and where
unfoldable pub entering_text : ℕ → Reason → ℕ → List ℕ
entering_text h reason pc =
    codes "Entering kdb on processor " ++ (dec_text h ++ (codes " due to " ++ (reason_text reason ++ (codes " @ " ++ (address_text pc ++ newline)))))

-- the banner of a session: who is late, then who entered
unfoldable pub banner_text : ℕ → ℕ → Reason → ℕ → List ℕ
banner_text late h reason pc = late_text late ++ entering_text h reason pc

-- Prompts.

-- whether a `d` comes first
abbrev pub begins_with_d : List ℕ → Bool
begins_with_d [] = false
begins_with_d (b ∷ bs) = b == 100

-- the template with its first %d replaced by the number
abbrev pub with_number : ℕ → List ℕ → List ℕ
with_number n [] = []
with_number n (a ∷ rest) = if (a == 37) && begins_with_d rest then dec_text n ++ drop 1 rest else a ∷ with_number n rest

-- the template of the prompt: the variable PROMPT, or nothing
abbrev pub prompt_template : List (List ℕ × List ℕ) → List ℕ
prompt_template variables = unwrap_or (value_of variables (codes "PROMPT")) []

-- the prompt by these variables, on this current processor
abbrev pub prompt_by : List (List ℕ × List ℕ) → ℕ → List ℕ
prompt_by variables current = with_number current (prompt_template variables)

-- The end.

-- how a run ends, in words
unfoldable pub ending_text : Ending → List ℕ
ending_text ScriptEnd = codes "script end"
ending_text AllHalted = codes "all halted"
ending_text StepLimit = codes "step limit"
ending_text PlanEnd = codes "plan end"

-- the last line of a transcript
unfoldable pub ending_line : Ending → ℕ → List ℕ
ending_line ending steps =
    codes "kdbsim: " ++ (ending_text ending ++ (codes " after " ++ (dec_text steps ++ (codes " steps" ++ newline))))

-- Laws.

-- the place that the reason names, if it names one, is a number of a byte
abbrev pub HasByte : Reason → Type 0
HasByte (Breakpoint i) = i < 256
HasByte other = Unit {0}

-- a banner is short, however many of 32 harts are late
abbrev pub BannersAreShort : Type 0
BannersAreShort = (late h : ℕ) (reason : Reason) (pc : ℕ) → h < MASK_HARTS → HasByte reason → length (banner_text late h reason pc) ≤ BANNER_BYTES
