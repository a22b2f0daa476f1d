-- Which steps a machine may make.
use Rattle.std.proofs.Common.{◌≡◌, ◌≢◌, ℕ, ◌<◌, ◌==◌, ◌&&◌, ◌||◌, Bool, true, false, not, cond, IsTrue, List, [], ◌∷◌, length, get_or, Option, Some, None, Result, Ok, Err, nat_lt, is_none, option_map, refl, sym, ◌∙◌, arith, rules}
use Rattle.std.proofs.lemmas.Bool.{false≢true, ltb-true}
use Rattle.mach_base.specs.Machine.{Context, Memory, Machine}
use Rattle.mach_base.specs.declared.event.Hart.{Hart}
use Rattle.mach_base.specs.declared.event.Fault.{Fault}
use Rattle.mach_base.specs.declared.event.Reason.{Reason}
use Rattle.mach_base.specs.declared.event.Reason.TheVariants.{Fault as FaultReason, Compiled, Start}
use Rattle.mach_base.specs.declared.event.Ending.{Ending}
use Rattle.mach_base.specs.declared.event.Ending.TheVariants.{ScriptEnd, AllHalted, StepLimit, PlanEnd}
use Rattle.atom_mach.specs.declared.step.Mode.{Mode}
use Rattle.atom_mach.specs.declared.step.Mode.TheVariants.{Free, Hold, Pass, Back, Leave, Over}
use Rattle.atom_mach.specs.declared.step.AStep.TheVariants.{Instr, Off}
use Rattle.hart_step.specs.Faults.{word_fault}
use Rattle.rv_table.specs.declared.table.TheConstants.{EBREAK}
use Rattle.kdb_bp.specs.Breaks.{first_enabled}
use Rattle.atom_mach.specs.State.{State, Done, hart_count, context_at}
use Rattle.atom_mach.specs.Traps.{executed, trap, late_trap, fault_of, fetched_at, fault_of_fetched, trap_of_fetched, breakpoint_or, console_text}
use Rattle.atom_mach.specs.Modes.{is_free, owes, mode_after, runs, Fits, is_alone}
use Rattle.atom_mach.specs.Session.{is_hart}
use Rattle.atom_mach.specs.Step.{trap_in, may_run, may_pass, may_take, all_halted, ended, does}
use Rattle.trap_ipi.specs.Interrupt.{is_takeable}
use Rattle.mach_base.specs.Masks.{has_bit}
use Rattle.atom_mach.proofs.Masks.{none_has}
use Rattle.atom_mach.proofs.Booleans.{cond_true, cond_false, and_true, and_false, not_is, is_none-None}

-- the endings of a free machine
pub does-Off : (s : State) (e : Ending) → e ≢ ScriptEnd → does s (Off e) ≡ ended s e
unfolding does
does-Off s ScriptEnd h = absurd (h refl)
does-Off s AllHalted h = refl
does-Off s StepLimit h = refl
does-Off s PlanEnd h = sym (cond_false (is_free s.mode && false) _ _ (and_false (is_free s.mode)))

-- a list of one context is that one
pub all_halted-one : (cs : List Context) (d : Context) → length cs ≡ 1 → all_halted cs ≡ (get_or cs 0 d).halted
all_halted-one [] d e = absurd (omega arith)
all_halted-one (c ∷ []) d e = alone c.halted
  where
    alone : (b : Bool) → (b && true) ≡ b
    alone true = refl
    alone false = refl
all_halted-one (c ∷ k ∷ cs) d e = absurd (omega arith)

-- an instruction that is allowed
pub does-Instr : (s : State) (h : Hart) → h.0 < hart_count s.machine → (may_run s h.0 || may_pass s h.0) ≡ true → does s (Instr h) ≡ Some (record { text = console_text s.machine h.0; next = record { machine = executed s.machine h.0; mode = mode_after s.mode h.0 } })
unfolding does
does-Instr s h lt e = cond_true (is_hart s.machine h.0 && (may_run s h.0 || may_pass s h.0)) _ _ (both (is_hart s.machine h.0) (may_run s h.0 || may_pass s h.0) (search rules) e)
  where
    both : (a b : Bool) → a ≡ true → b ≡ true → (a && b) ≡ true
    both a b p q = rw (p, q) refl

-- one that isn't
pub does-Instr-not : (s : State) (h : Hart) → may_run s h.0 ≡ false → may_pass s h.0 ≡ false → does s (Instr h) ≡ None
unfolding does
does-Instr-not s h e f = cond_false (is_hart s.machine h.0 && (may_run s h.0 || may_pass s h.0)) _ _ (neither (is_hart s.machine h.0) (may_run s h.0) (may_pass s h.0) e f)
  where
    neither : (a b c : Bool) → b ≡ false → c ≡ false → (a && (b || c)) ≡ false
    neither a b c p q = rw (p, q) (and_false a)

late_none : (b : Bool) (late : ℕ) → IsTrue (b && (late == 0)) → has_bit late 0 ≡ true → ⊥
late_none false late h e = false≢true h
late_none true late h e =
    let none : late ≡ 0 = search rules in
    false≢true (sym (none_has 0) ∙ rw none at e)

-- with no late hart, hart 0 runs in the free machine alone
runs_alone : (mode : Mode) (opened : Bool) → IsTrue (is_alone mode) → runs mode opened 0 ≡ true → mode ≡ Free
runs_alone Free opened h e = refl
runs_alone (Hold m late) opened h e = absurd (false≢true h)
runs_alone (Pass m late again) opened h e = absurd (late_none (m.0 == 0) late h e)
runs_alone (Back m late) opened h e = absurd (late_none (m.0 == 0) late h e)
runs_alone (Leave m late) opened h e = absurd (false≢true h)
runs_alone (Over ending) opened h e = absurd (false≢true e)

pub may_run-alone : (s : State) → IsTrue (is_alone s.mode) → may_run s 0 ≡ true → s.mode ≡ Free
may_run-alone s alone e = runs_alone s.mode s.machine.opened alone (and_true (runs s.mode s.machine.opened 0) _ e).0

none_fault : (c : Context) (harts : ℕ) (m : Memory) (r : Result ℕ Fault) → trap_of_fetched c harts m r ≡ None → fault_of_fetched c harts m r ≡ None
none_fault c harts m (Err f) e = absurd (cc)
none_fault c harts m (Ok word) e = by_word (word == EBREAK) (word_fault c harts m word) e
  where
    by_word : (b : Bool) (f : Option Fault) → cond b (Some Compiled) (option_map FaultReason f) ≡ None → f ≡ None
    by_word true f e = absurd (cc)
    by_word false None e = refl
    by_word false (Some f) e = absurd (cc)

none_after : (p : Option ℕ) (r : Option Reason) → breakpoint_or p r ≡ None → r ≡ None
none_after None r e = e
none_after (Some i) r e = absurd (cc)

none_unless_start : (a b c : Bool) (r : Option Reason) → c ≡ false → cond (not a && b) (Some Start) (cond c None r) ≡ None → r ≡ None
none_unless_start true b c r e h = sym (cond_false c None r e) ∙ h
none_unless_start false true c r e h = absurd (cc)
none_unless_start false false c r e h = sym (cond_false c None r e) ∙ h

-- a hart with no trap has no fault
fault_of-trap : (s : Machine) (h : ℕ) → (context_at s h).halted ≡ false → trap s h ≡ None → fault_of s h ≡ None
unfolding trap fault_of
fault_of-trap s h awake e =
    none_fault (context_at s h) (hart_count s) s.seen.memory (fetched_at s h) (none_after (first_enabled (context_at s h).pc s.seen.places) _ (none_unless_start s.opened (h == 0) (context_at s h).halted _ awake e))

fault_of-late_trap : (s : Machine) (h : ℕ) → (context_at s h).halted ≡ false → late_trap s h ≡ None → fault_of s h ≡ None
unfolding late_trap fault_of
fault_of-late_trap s h awake e =
    none_fault (context_at s h) (hart_count s) s.seen.memory (fetched_at s h) (none_unless_start s.opened (h == 0) (context_at s h).halted _ awake e)

fault_of-trap_in : (mode : Mode) (s : Machine) (h : ℕ) → (context_at s h).halted ≡ false → trap_in mode s h ≡ None → fault_of s h ≡ None
fault_of-trap_in Free s h awake e = fault_of-trap s h awake e
fault_of-trap_in (Hold m late) s h awake e = fault_of-late_trap s h awake e
fault_of-trap_in (Pass m late again) s h awake e = fault_of-late_trap s h awake e
fault_of-trap_in (Back m late) s h awake e = fault_of-late_trap s h awake e
fault_of-trap_in (Leave m late) s h awake e = fault_of-late_trap s h awake e
fault_of-trap_in (Over ending) s h awake e = fault_of-late_trap s h awake e

-- a hart that may execute has no fault
pub may_run-right : (s : State) (h : ℕ) → may_run s h ≡ true → fault_of s.machine h ≡ None
may_run-right s h e =
    let c = context_at s.machine h in
    let p = and_true (runs s.mode s.machine.opened h) _ e in
    let q = and_true (not c.halted) _ p.1 in
    let r = and_true (not (is_takeable c)) _ q.1 in
    let t = and_true (nat_lt s.machine.steps s.machine.limit) _ r.1 in
    fault_of-trap_in s.mode s.machine h (not_is c.halted q.0) (is_none-None (trap_in s.mode s.machine h) t.1)

-- and there are steps left
pub may_run-below : (s : State) (h : ℕ) → may_run s h ≡ true → s.machine.steps < s.machine.limit
may_run-below s h e =
    let p = and_true (runs s.mode s.machine.opened h) _ e in
    let q = and_true _ _ p.1 in
    let r = and_true _ _ q.1 in
    let t = and_true (nat_lt s.machine.steps s.machine.limit) _ r.1 in
    ltb-true s.machine.steps s.machine.limit t.0

pub may_take-below : (s : State) (h : ℕ) → may_take s h ≡ true → s.machine.steps < s.machine.limit
may_take-below s h e =
    let p = and_true (runs s.mode s.machine.opened h) _ e in
    let q = and_true _ (nat_lt s.machine.steps s.machine.limit) p.1 in
    ltb-true s.machine.steps s.machine.limit q.1

not_owed : (late m h : ℕ) (b : Bool) (x : Mode) (mode : Mode) → (m == h) ≡ b → has_bit late m ≡ false → has_bit late h ≡ true → cond b x mode ≡ mode
not_owed late m h false x mode e on_time runs_is = refl
not_owed late m h true x mode e on_time runs_is =
    let same : m ≡ h = search rules in
    absurd (false≢true (sym (rw same at on_time) ∙ runs_is))

-- and the mode stays: the hart of a pass isn't late
runs-mode : (harts : ℕ) (mode : Mode) (opened : Bool) (h : ℕ) → Fits harts mode → runs mode opened h ≡ true → mode_after mode h ≡ mode
runs-mode harts Free opened h fits e = refl
runs-mode harts (Hold m late) opened h fits e = refl
runs-mode harts (Pass m late again) opened h fits e = not_owed late m.0 h (m.0 == h) _ (Pass m late again) refl fits.on_time e
runs-mode harts (Back m late) opened h fits e = refl
runs-mode harts (Leave m late) opened h fits e = refl
runs-mode harts (Over ending) opened h fits e = refl

pub may_run-mode : (harts : ℕ) (s : State) (h : ℕ) → Fits harts s.mode → may_run s h ≡ true → mode_after s.mode h ≡ s.mode
may_run-mode harts s h fits e = runs-mode harts s.mode s.machine.opened h fits (and_true (runs s.mode s.machine.opened h) _ e).0

-- a hart that owes an instruction and may execute it has no fault
pub may_pass-right : (s : State) (h : ℕ) → may_pass s h ≡ true → (owes s.mode h ≡ true) × (fault_of s.machine h ≡ None)
may_pass-right s h e =
    let p = and_true (owes s.mode h) (is_none (fault_of s.machine h)) e in
    (p.0, is_none-None (fault_of s.machine h) p.1)

-- equal parts make equal answers
pub same_done : (t u : List ℕ) (a b : Machine) (m n : Mode) → u ≡ t → b ≡ a → n ≡ m → ◌≡◌ {A = Done} (record { text = t; next = record { machine = a; mode = m } }) (record { text = u; next = record { machine = b; mode = n } })
same_done t u a b m n e f g = rw (e, f, g) refl
