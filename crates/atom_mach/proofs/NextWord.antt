-- Where the word at the only hart's pc is next and doesn't fault, its instruction is the first step that is allowed.
use Rattle.std.proofs.Common.{◌≡◌, ℕ, ◌<◌, ◌&&◌, ◌||◌, Bool, true, false, not, cond, Option, Some, None, nat_lt, is_none, refl, sym, ap, ◌∙◌}
use Rattle.std.proofs.lemmas.Bool.{lt-ltb}
use Rattle.mach_base.specs.Machine.{Machine}
use Rattle.mach_base.specs.declared.event.Hart.{Hart}
use Rattle.trap_ipi.specs.Interrupt.{is_takeable}
use Rattle.atom_mach.specs.declared.step.Mode.{Mode}
use Rattle.atom_mach.specs.declared.step.AStep.TheVariants.{Instr, Intr, Session}
use Rattle.atom_mach.specs.State.{State, hart_count, context_at}
use Rattle.atom_mach.specs.Traps.{fault_of, trap, executed, console_text}
use Rattle.atom_mach.specs.Modes.{mode_after, runs}
use Rattle.atom_mach.specs.Session.{is_hart}
use Rattle.atom_mach.specs.Step.{does, may_run, may_pass, may_take, trap_in}
use Rattle.atom_mach.specs.Run.{first_allowed}
use Rattle.atom_mach.specs.NextWord.{IsNext}
use Rattle.atom_mach.proofs.Booleans.{cond_false, and_false}
use Rattle.atom_mach.proofs.FirstSteps.{first_allowed-Instr}
use Rattle.atom_mach.proofs.Steps.{does-Instr}

abbrev h0 : Hart
h0 = record { 0 = 0 }

no_trap : (s : State) (word : ℕ) → IsNext s word → fault_of s.machine 0 ≡ None → trap s.machine 0 ≡ None
unfolding trap fault_of
no_trap s word n right =
    rw (n.opened, n.awake, n.no_breakpoint, n.fetched, n.no_ebreak, rw n.fetched at right) refl

all_five : (r h t b p : Bool) → r ≡ true → h ≡ false → t ≡ false → b ≡ true → p ≡ true → (r && (not h && (not t && (b && p)))) ≡ true
all_five r h t b p runs awake unasked below free = rw (runs, awake, unasked, below, free) refl

may_run-next : (s : State) (word : ℕ) → IsNext s word → fault_of s.machine 0 ≡ None → may_run s 0 ≡ true
may_run-next s word n right =
    let running : runs s.mode s.machine.opened 0 ≡ true = ap (λ (m : Mode). runs m s.machine.opened 0) n.mode ∙ n.opened in
    let free : is_none (trap_in s.mode s.machine 0) ≡ true = ap (λ (m : Mode). is_none (trap_in m s.machine 0)) n.mode ∙ ap is_none (no_trap s word n right) in
    all_five (runs s.mode s.machine.opened 0) (context_at s.machine 0).halted (is_takeable (context_at s.machine 0)) (nat_lt s.machine.steps s.machine.limit) (is_none (trap_in s.mode s.machine 0)) running n.awake n.unasked (lt-ltb _ _ n.below) free

no_take : (s : State) (word : ℕ) → IsNext s word → may_take s 0 ≡ false
no_take s word n = rw (n.mode, n.opened, n.unasked) refl

no_intr : (s : State) (word : ℕ) → IsNext s word → does s (Intr h0) ≡ None
unfolding does
no_intr s word n = cond_false (is_hart s.machine 0 && may_take s 0) _ _ (ap (λ (b : Bool). is_hart s.machine 0 && b) (no_take s word n) ∙ and_false (is_hart s.machine 0))

either_none : {A : Type 0} (b : Bool) (o : Option A) → o ≡ None → cond b o None ≡ None
either_none true o e = e
either_none false o e = refl

no_session : (s : State) (word : ℕ) → IsNext s word → fault_of s.machine 0 ≡ None → does s (Session h0) ≡ None
unfolding does
no_session s word n right = either_none (is_hart s.machine 0) _ (rw (n.mode, no_trap s word n right) refl)

either : (a b : Bool) → a ≡ true → (a || b) ≡ true
either a b e = rw e refl

-- the instruction is made, and it was the first step that was allowed
pub turned : (s next : State) (word : ℕ) → IsNext s word → 0 < hart_count s.machine → fault_of s.machine 0 ≡ None → next.machine ≡ executed s.machine 0 → next.mode ≡ mode_after s.mode 0
    → (first_allowed s ≡ Some (Instr h0)) × (does s (Instr h0) ≡ Some (record { text = console_text s.machine 0; next = next }))
turned s next word n some right machine mode =
    let done = does-Instr s h0 some (either (may_run s 0) (may_pass s 0) (may_run-next s word n right)) in
    let same : ◌≡◌ {A = State} (record { machine = executed s.machine 0; mode = mode_after s.mode 0 }) next =
    ap (λ (m : Machine). record { machine = m; mode = mode_after s.mode 0 }) (sym machine) ∙ ap (λ mode. record { machine = next.machine; mode = mode }) (sym mode) in
    let made = done ∙ ap (λ (t : State). Some (record { text = console_text s.machine 0; next = t })) same in
    (first_allowed-Instr s _ (no_intr s word n) (no_session s word n right) made, made)
