-- Each late hart is printed: so a journal has at most as many as its transcript has bytes.
use Rattle.std.proofs.Common.{◌≡◌, ℕ, zero, suc, ◌+◌, ◌≤◌, ◌<◌, ◌==◌, ◌^◌, ◌&&◌, Bool, true, false, List, [], ◌∷◌, ◌++◌, length, codes, cond, Option, Some, None, is_none, is_some, arith, refl, sym, ap, ◌∙◌, subst, if◌then◌else◌}
use Rattle.std.specs.Prelude.{option_map}
use Rattle.std.proofs.lemmas.Bool.{eqb-true, false≢true}
use Rattle.std.proofs.lemmas.List.{length-append}
use Rattle.mach_base.specs.Number.{dec_text}
use Rattle.mach_base.specs.Masks.{has_bit}
use Rattle.mach_base.specs.Texts.{newline}
use Rattle.mach_base.specs.declared.event.Hart.{Hart}
use Rattle.mach_base.specs.declared.event.Reason.{Reason}
use Rattle.mach_base.specs.declared.event.Entry.{Entry}
use Rattle.mach_base.specs.declared.event.Entry.TheVariants.{Step, Intr, Send, Take, Open, Pull, Line, Plant, PlantStep, PullStep, Close, Off}
use Rattle.atom_mach.proofs.Booleans.{and_true}
use Rattle.atom_mach.specs.State.{context_at}
use Rattle.atom_mach.specs.Texts.{numbers_text, harts_in, late_text, entering_text, banner_text}
use Rattle.plant_mach.specs.Machine.{PlantedMachine}
use Rattle.plant_mach.specs.Entries.{Made, makes, may, effect, made_by, then_made, prefixed, opened_for, can_sit, reason_now}
use Rattle.kdbsim_load.specs.Counts.{late_at, late_in}

-- numbers that are printed have as many bytes, but for one
numbers_long : (ns : List ℕ) → length ns ≤ length (numbers_text ns) + 1
numbers_long [] = omega arith
numbers_long (h ∷ []) = omega arith
numbers_long (h ∷ k ∷ ns) =
    let rest : length (k ∷ ns) ≤ length (numbers_text (k ∷ ns)) + 1 = numbers_long (k ∷ ns) in
    let long : length (dec_text h ++ (32 ∷ numbers_text (k ∷ ns))) ≡ length (dec_text h) + length (32 ∷ numbers_text (k ∷ ns)) = length-append (dec_text h) (32 ∷ numbers_text (k ∷ ns)) in
    omega arith

nobody : length (harts_in 0) ≤ 0
unfolding has_bit
nobody = omega arith

late_long : (late : ℕ) → length (harts_in late) ≤ length (late_text late)
unfolding late_text
late_long late = by_late (late == 0) refl
  where
    by_late : (b : Bool) → (late == 0) ≡ b → length (harts_in late) ≤ length (cond b [] (codes "Timed out waiting for secondary CPUs: " ++ (numbers_text (harts_in late) ++ newline)))
    by_late true is = subst (λ n. length (harts_in n) ≤ 0) (sym (eqb-true late 0 is)) nobody
    by_late false is =
        let numbers = numbers_long (harts_in late) in
        let line : length (numbers_text (harts_in late) ++ newline) ≡ length (numbers_text (harts_in late)) + length newline = length-append (numbers_text (harts_in late)) newline in
        let whole : length (codes "Timed out waiting for secondary CPUs: " ++ (numbers_text (harts_in late) ++ newline)) ≡ length (codes "Timed out waiting for secondary CPUs: ") + length (numbers_text (harts_in late) ++ newline) = length-append (codes "Timed out waiting for secondary CPUs: ") (numbers_text (harts_in late) ++ newline) in
        omega arith

banner_long : (late h : ℕ) (why : Reason) (pc : ℕ) → length (harts_in late) ≤ length (banner_text late h why pc)
unfolding banner_text
banner_long late h why pc =
    let front = late_long late in
    let whole : length (late_text late ++ entering_text h why pc) ≡ length (late_text late) + length (entering_text h why pc) = length-append (late_text late) (entering_text h why pc) in
    omega arith

open_late : (p : PlantedMachine) (m : Hart) (late : ℕ) (why : Option Reason) → is_some why ≡ true → length (harts_in late) ≤ length (opened_for p m late why).text
open_late p m late None is = absurd (false≢true is)
open_late p m late (Some why) is = banner_long late m.0 why (context_at p.machine m.0).pc

effect_late : (p : PlantedMachine) (e : Entry) → may p e ≡ true → late_at e ≤ length (effect p e).text
unfolding may effect
effect_late p (Open m late) legal = open_late p m late (reason_now p m.0 late) (and_true (can_sit p.machine m.0 late) (is_some (reason_now p m.0 late)) legal).1
effect_late p (Step h) legal = omega arith
effect_late p (Intr h) legal = omega arith
effect_late p (Send h) legal = omega arith
effect_late p (Take h) legal = omega arith
effect_late p (Pull i) legal = omega arith
effect_late p (Line h) legal = omega arith
effect_late p (Plant i) legal = omega arith
effect_late p (PlantStep a) legal = omega arith
effect_late p PullStep legal = omega arith
effect_late p (Close h) legal = omega arith
effect_late p (Off ending) legal = omega arith

none_some : {A : Type 0} (x : A) → None ≡ Some x → ⊥
none_some x e = cc

some_is : {A : Type 0} (x y : A) → Some x ≡ Some y → x ≡ y
some_is x y e = cc

-- what a test lets through
pub record Let (b : Bool) (x d : Made) : Type 0 where
  pub passed : b ≡ true
  pub same : x ≡ d

let_through : (b : Bool) (x d : Made) → (if b then Some x else None) ≡ Some d → Let b x d
let_through true x d is = record { passed = refl; same = some_is x d is }
let_through false x d is = absurd (none_some d is)

made_late : (p : PlantedMachine) (e : Entry) (d : Made) → makes p e ≡ Some d → late_at e ≤ length d.text
unfolding makes
made_late p e d is =
    let t = let_through (is_none p.ending && may p e) (effect p e) d is in
    subst (λ (x : Made). late_at e ≤ length x.text) t.same (effect_late p e (and_true (is_none p.ending) (may p e) t.passed).1)

joined : (o : Option Made) (text : List ℕ) (d : Made) → option_map (prefixed text) o ≡ Some d → (rest : Made) × ((o ≡ Some rest) × (d.text ≡ text ++ rest.text))
joined None text d is = absurd (none_some d is)
joined (Some rest) text d is = (rest, (refl, sym (ap (λ (x : Made). x.text) (some_is (prefixed text rest) d is))))

-- an entry of a legal list, the others, and what they print
pub record Parted (p : PlantedMachine) (e : Entry) (es : List Entry) (d : Made) : Type 0 where
  pub first : Made
  pub made : makes p e ≡ Some first
  pub rest : Made
  pub others : made_by first.next es ≡ Some rest
  pub text : d.text ≡ first.text ++ rest.text

parted_by : (p : PlantedMachine) (e : Entry) (es : List Entry) (d : Made) (o : Option Made) → makes p e ≡ o → then_made o (λ next. made_by next es) ≡ Some d → Parted p e es d
parted_by p e es d None is made = absurd (none_some d made)
parted_by p e es d (Some first) is made =
    let j = joined (made_by first.next es) first.text d made in
    record { first = first; made = is; rest = j.0; others = j.1.0; text = j.1.1 }

parted : (p : PlantedMachine) (e : Entry) (es : List Entry) (d : Made) → made_by p (e ∷ es) ≡ Some d → Parted p e es d
unfolding made_by
parted p e es d made = parted_by p e es d (makes p e) refl made

pub late_printed : (p : PlantedMachine) (es : List Entry) (d : Made) → made_by p es ≡ Some d → late_in es ≤ length d.text
late_printed p [] d made = omega arith
late_printed p (e ∷ es) d made =
    let s = parted p e es d made in
    let one : late_at e ≤ length s.first.text = made_late p e s.first s.made in
    let others : late_in es ≤ length s.rest.text = late_printed s.first.next es s.rest s.others in
    let whole : length d.text ≡ length s.first.text + length s.rest.text = ap length s.text ∙ length-append s.first.text s.rest.text in
    omega arith
