-- The limits of macros, after each call that changes them.
use Rattle.std.proofs.Common.{◌≡◌, ℕ, zero, suc, ◌-◌, ◌<◌, Bool, true, false, not, cond, nat_le, List, [], ◌∷◌, ◌++◌, length, Some, None, refl, arith, length-append}
use Rattle.std.specs.Prelude.{slice_set}
use Rattle.std.specs.List.{AllByRecursion, list_any}
use Rattle.std.proofs.lemmas.Bool.Decides.{nat_tests}
use Rattle.std.proofs.lemmas.List.{length-set}
use Rattle.mach_base.specs.Machine.{Macro}
use Rattle.mach_base.specs.declared.limits.TheConstants.{MOST_MACROS, MACRO_LINES}
use Rattle.kdb_env.specs.Variables.{is_name}
use Rattle.kdb_macro.specs.declared.macro_fault.MacroFault.TheVariants.{BadName, Reserved, Duplicate, Full}
use Rattle.kdb_macro.specs.Macros.{MacroList, AreMacros, IsShort, is_named, begin_refusal, begun, last_macro, longer, with_line}

-- each of two lists joined
all-append : (xs ys : List Macro) → AllByRecursion IsShort xs → AllByRecursion IsShort ys → AllByRecursion IsShort (xs ++ ys)
all-append [] ys here there = there
all-append (x ∷ xs) ys here there = (here.0, all-append xs ys here.1 there)

-- with one of them put in the place of another
all-set : (xs : List Macro) (i : ℕ) (m : Macro) → IsShort m → AllByRecursion IsShort xs → AllByRecursion IsShort (slice_set xs i m)
all-set [] i m short all = all
all-set (x ∷ xs) zero m short all = (short, all.1)
all-set (x ∷ xs) (suc i) m short all = (all.0, all-set xs i m short all.1)

room-after : (bad reserved there full : Bool) → cond bad (Some BadName) (cond reserved (Some Reserved) (cond there (Some Duplicate) (cond full (Some Full) None))) ≡ None → full ≡ false
room-after true reserved there full e = absurd (cc)
room-after false true there full e = absurd (cc)
room-after false false true full e = absurd (cc)
room-after false false false true e = absurd (cc)
room-after false false false false e = refl

-- a macro that isn't refused leaves the limits
pub AreMacros-begun : (s : MacroList) (macros : List Macro) (name : List ℕ) (reserved : Bool) → AreMacros s → macros ≡ s.macros → None ≡ begin_refusal macros name reserved → AreMacros (begun s name)
unfolding begin_refusal
AreMacros-begun s macros name reserved are these passed =
    let passes : None ≡ begin_refusal s.macros name reserved = rw these at passed in
    let full : nat_le MOST_MACROS (length s.macros) ≡ false = room-after (not (is_name name)) reserved (list_any (is_named name) s.macros) (nat_le MOST_MACROS (length s.macros)) (cc) in
    let room : length s.macros < MOST_MACROS = grind (arith, nat_tests) in
    let empty : Macro = record { name = name; lines = [] } in
    let size = length-append s.macros (empty ∷ []) in
    record {
      few = omega arith;
      short = all-append s.macros (empty ∷ []) are.short (omega arith, tt);
      begun = λ _. omega arith;
    }

-- so does a line, in a macro that has room
pub AreMacros-with_line : (s : MacroList) (line : List ℕ) → AreMacros s → length (last_macro s.macros).lines < MACRO_LINES → AreMacros (with_line s line)
AreMacros-with_line s line are room =
    let last = last_macro s.macros in
    let size = length-append last.lines (line ∷ []) in
    let same = length-set s.macros (length s.macros - 1) (longer last line) in
    record {
      few = rw same are.few;
      short = all-set s.macros (length s.macros - 1) (longer last line) (omega arith) are.short;
      begun = λ defining. rw same (are.begun defining);
    }
