-- Which steps are allowed, step by step.
use Rattle.std.proofs.Common.{◌≡◌, ◌≢◌, ℕ, zero, suc, ◌<◌, ◌==◌, ◌&&◌, ◌||◌, true, false, IsTrue, ◌++◌, Some, None, refl, sym, ap, ◌∙◌, arith, rules}
use Rattle.std.proofs.lemmas.Bool.{false≢true}
use Rattle.mach_base.specs.Machine.{Machine}
use Rattle.mach_base.specs.declared.event.Hart.{Hart}
use Rattle.mach_base.specs.declared.event.Reason.{Reason}
use Rattle.mach_base.specs.declared.event.Ending.TheVariants.{ScriptEnd}
use Rattle.mach_base.specs.Texts.{newline}
use Rattle.mach_base.specs.Masks.{has_bit}
use Rattle.atom_mach.specs.declared.step.Mode.{Mode}
use Rattle.atom_mach.specs.declared.step.Mode.TheVariants.{Free, Hold, Pass, Back, Leave, Over}
use Rattle.atom_mach.specs.declared.step.AStep.TheVariants.{Instr, Session, Enter, Line, End, Off}
use Rattle.atom_mach.specs.State.{hart_count, State}
use Rattle.atom_mach.specs.Modes.{Fits, IsSitting, IsGathered, ReadsWith, is_alone}
use Rattle.atom_mach.specs.Session.{is_hart, opening_reason, session, prompt_text}
use Rattle.atom_mach.specs.Step.{does, may_run, may_pass, opened_for, held_for, held_line, closed, holds_at_end, can_be_late}
use Rattle.atom_mach.proofs.Booleans.{cond_true, cond_false, and_first, either_none}

-- a hart that isn't there does nothing
pub does-Instr-no_hart : (s : State) (h : Hart) → is_hart s.machine h.0 ≡ false → does s (Instr h) ≡ None
unfolding does
does-Instr-no_hart s h e = cond_false (is_hart s.machine h.0 && (may_run s h.0 || may_pass s h.0)) _ _ (and_first _ _ e)

pub does-Session-no_hart : (s : State) (h : Hart) → is_hart s.machine h.0 ≡ false → does s (Session h) ≡ None
unfolding does
does-Session-no_hart s h e = cond_false (is_hart s.machine h.0) _ _ e

-- without a reason no session opens
pub does-Session-none : (s : State) (h : Hart) → opening_reason s.mode s.machine h.0 0 ≡ None → does s (Session h) ≡ None
unfolding does
does-Session-none s h e = rw e (either_none (is_hart s.machine h.0))

-- with a reason it opens
pub does-Session : (s : State) (h : Hart) (reason : Reason) → is_hart s.machine h.0 ≡ true → opening_reason s.mode s.machine h.0 0 ≡ Some reason → does s (Session h) ≡ Some (session s.machine h reason)
unfolding does
does-Session s h reason e f = cond_true (is_hart s.machine h.0) _ _ e ∙ ap (opened_for s h) f

pub does-Enter-not : (s : State) (m : Hart) (late : ℕ) → can_be_late s m late ≡ false → does s (Enter m late) ≡ None
unfolding does
does-Enter-not s m late e = cond_false (can_be_late s m late) _ _ e

pub does-Enter-none : (s : State) (m : Hart) (late : ℕ) → opening_reason s.mode s.machine m.0 late ≡ None → does s (Enter m late) ≡ None
unfolding does
does-Enter-none s m late e = rw e (either_none (can_be_late s m late))

pub does-Enter : (s : State) (m : Hart) (late : ℕ) (reason : Reason) → can_be_late s m late ≡ true → opening_reason s.mode s.machine m.0 late ≡ Some reason → does s (Enter m late) ≡ held_for s m late (Some reason)
unfolding does
does-Enter s m late reason e f = cond_true (can_be_late s m late) _ _ e ∙ ap (held_for s m late) f

-- late harts that can be late are a sitting's
pub can_be_late-sitting : (s : State) (m : Hart) (late : ℕ) → can_be_late s m late ≡ true → IsSitting (hart_count s.machine) m late × (late ≢ 0)
can_be_late-sitting s m late e = search rules

-- no session opens beside one with late harts
pub opening_reads : (mode : Mode) (s : Machine) (m late : ℕ) (reason : Reason) (read_with : ℕ) → opening_reason mode s m late ≡ Some reason → ReadsWith mode read_with
opening_reads Free s m late reason read_with e = tt
opening_reads (Hold k was) s m late reason read_with e = absurd (cc)
opening_reads (Pass k was again) s m late reason read_with e = tt
opening_reads (Back k was) s m late reason read_with e = tt
opening_reads (Leave k was) s m late reason read_with e = tt
opening_reads (Over ending) s m late reason read_with e = tt

-- a processor that isn't late is gathered
pub gathered_in : (mode : Mode) (late current : ℕ) → ReadsWith mode late → has_bit late current ≡ false → IsGathered mode current
gathered_in Free late current reads e = tt
gathered_in (Hold k was) late current reads e = ap (λ l. has_bit l current) reads ∙ e
gathered_in (Pass k was again) late current reads e = tt
gathered_in (Back k was) late current reads e = tt
gathered_in (Leave k was) late current reads e = tt
gathered_in (Over ending) late current reads e = tt

-- lines, closings and the script's end, by the mode

pub does-Line-of : (s : State) → does s Line ≡ held_line s.mode s.machine.unread s.machine
unfolding does
does-Line-of s = refl

pub does-End-of : (s : State) → does s End ≡ closed s.mode s.machine
unfolding does
does-End-of s = refl

pub does-ScriptEnd : (s : State) → holds_at_end s.mode s.machine.unread ≡ true → does s (Off ScriptEnd) ≡ Some (record { text = prompt_text s.machine ++ newline; next = record { machine = s.machine; mode = Over ScriptEnd } })
unfolding does
does-ScriptEnd s e = cond_true (holds_at_end s.mode s.machine.unread) _ _ e

pub does-ScriptEnd-not : (s : State) → holds_at_end s.mode s.machine.unread ≡ false → does s (Off ScriptEnd) ≡ None
unfolding does
does-ScriptEnd-not s e = cond_false (holds_at_end s.mode s.machine.unread) _ _ e

-- with one hart none is late

none_late : (late : ℕ) → late < 2 → has_bit late 0 ≡ false → late ≡ 0
unfolding has_bit
none_late zero lt e = refl
none_late (suc zero) lt e = absurd (false≢true (sym e))
none_late (suc (suc late)) lt e = absurd (omega arith)

sits_alone : (harts : ℕ) (m : Hart) (late : ℕ) → harts ≡ 1 → IsSitting harts m late → (m.0 ≡ 0) × (late ≡ 0)
sits_alone harts m late one sits =
    let first : m.0 ≡ 0 = let lt = sits.master in omega arith in
    let few : late < 2 = rw one at sits.late_ones in
    (first, none_late late few (rw first at sits.on_time))

both_zero : (m late : ℕ) → m ≡ 0 → late ≡ 0 → ((m == 0) && (late == 0)) ≡ true
both_zero m late e f = rw (e, f) refl

pub alone_of : (harts : ℕ) (mode : Mode) → harts ≡ 1 → Fits harts mode → IsTrue (is_alone mode)
alone_of harts Free one fits = refl
alone_of harts (Hold m late) one fits = absurd (fits.1 (sits_alone harts m late one fits.0).1)
alone_of harts (Pass m late again) one fits = both_zero m.0 late (sits_alone harts m late one fits).0 (sits_alone harts m late one fits).1
alone_of harts (Back m late) one fits = both_zero m.0 late (sits_alone harts m late one fits).0 (sits_alone harts m late one fits).1
alone_of harts (Leave m late) one fits = absurd (fits.1 (sits_alone harts m late one fits.0).1)
alone_of harts (Over ending) one fits = refl
