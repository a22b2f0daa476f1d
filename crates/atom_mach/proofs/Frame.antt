-- What the steps of one hart leave of the others.
use Rattle.std.proofs.Common.{◌≡◌, ◌≢◌, ◌+◌, ◌==◌, ◌&&◌, ◌||◌, ℕ, Bool, not, cond, Option, Some, None, Result, Ok, Err, option_map, inl, inr, refl, sym, ap, subst, ◌∙◌}
use Rattle.std.proofs.lemmas.List.{length-set}
use Rattle.mach_base.specs.Machine.{Context, Memory, Machine}
use Rattle.mach_base.specs.declared.event.Hart.{Hart}
use Rattle.mach_base.specs.declared.event.Fault.{Fault}
use Rattle.mach_base.specs.declared.event.Reason.{Reason}
use Rattle.mach_base.specs.declared.event.Reason.TheVariants.{Start, Compiled, Fault as FaultReason}
use Rattle.rv_table.specs.declared.table.TheConstants.{EBREAK}
use Rattle.hart_ctx.specs.Context.{IsUnmoved}
use Rattle.mem_map.specs.Access.{fetch_result}
use Rattle.trap_ipi.specs.Interrupt.{after_interrupt}
use Rattle.hart_step.specs.Control.{next_pc as next_of_word}
use Rattle.hart_step.specs.Faults.{word_fault}
use Rattle.hart_step.specs.Execution.{contexts_after, memory_after}
use Rattle.hart_step.proofs.Frame.{keeps_others, keeps_shape, keeps_text, keeps_faults_of_others, interrupt_keeps}
use Rattle.kdb_bp.specs.Breaks.{first_enabled}
use Rattle.atom_mach.specs.declared.step.AStep.TheVariants.{Instr, Intr}
use Rattle.atom_mach.specs.State.{State, Done, hart_count, context_at}
use Rattle.atom_mach.specs.Traps.{fault_of_fetched, next_of_fetched, trap_of_fetched, breakpoint_or, fetched_at, fault_of, next_pc, late_trap, trap, executed, interrupted}
use Rattle.atom_mach.specs.Session.{is_hart}
use Rattle.atom_mach.specs.Step.{does, may_run, may_pass, may_take}
use Rattle.atom_mach.specs.Frame.{IsLeft, InstructionsLeaveOthers, InterruptsLeaveOthers, StepsLeaveOthers}
use Rattle.atom_mach.proofs.Booleans.{and_true, either_case, taken}
use Rattle.atom_mach.proofs.Steps.{may_run-right, may_pass-right}

-- the same context is left
pub IsUnmoved-same : (c d : Context) → d ≡ c → IsUnmoved c d
IsUnmoved-same c d e = record { interrupt = c.pending; granule = c.reservation; same = e }

-- Contexts whose words fault alike and lead alike meet the same.

faults_alike : (c d : Context) (n k : ℕ) (m l : Memory) (r q : Result ℕ Fault) → k ≡ n → q ≡ r → ((word : ℕ) → word_fault d n l word ≡ word_fault c n m word) → fault_of_fetched d k l q ≡ fault_of_fetched c n m r
faults_alike c d n k m l (Ok word) q count fetched faults = rw (count, fetched) (faults word)
faults_alike c d n k m l (Err fault) q count fetched faults = rw (count, fetched) refl

nexts_alike : (c d : Context) (n k : ℕ) (r q : Result ℕ Fault) → k ≡ n → q ≡ r → ((word : ℕ) → next_of_word d n word ≡ next_of_word c n word) → next_of_fetched d k q ≡ next_of_fetched c n r
nexts_alike c d n k (Ok word) q count fetched nexts = rw (count, fetched) (nexts word)
nexts_alike c d n k (Err fault) q count fetched nexts = rw (count, fetched) refl

traps_alike : (c d : Context) (n k : ℕ) (m l : Memory) (r q : Result ℕ Fault) → k ≡ n → q ≡ r → ((word : ℕ) → word_fault d n l word ≡ word_fault c n m word) → trap_of_fetched d k l q ≡ trap_of_fetched c n m r
traps_alike c d n k m l (Ok word) q count fetched faults =
    rw (count, fetched) (ap (λ (f : Option Fault). cond (word == EBREAK) (Some Compiled) (option_map FaultReason f)) (faults word))
traps_alike c d n k m l (Err fault) q count fetched faults = rw (count, fetched) refl

start_or_halted : (b x y : Bool) (p q : Option Reason) → y ≡ x → q ≡ p → cond b (Some Start) (cond y None q) ≡ cond b (Some Start) (cond x None p)
start_or_halted b x y p q e f = rw (e, f) refl

-- A hart meets the same in two machines where its context is left, the harts are as many, the places are the same, and
-- words are fetched, fault and lead alike.
met_alike :
    (s t : Machine) (h : ℕ) → IsUnmoved (context_at s h) (context_at t h) → hart_count t ≡ hart_count s → t.opened ≡ s.opened → t.seen.places ≡ s.seen.places →
    fetched_at t h ≡ fetched_at s h →
    ((word : ℕ) → word_fault (context_at t h) (hart_count s) t.seen.memory word ≡ word_fault (context_at s h) (hart_count s) s.seen.memory word) →
    ((word : ℕ) → next_of_word (context_at t h) (hart_count s) word ≡ next_of_word (context_at s h) (hart_count s) word) →
    IsLeft h s t
unfolding fault_of next_pc late_trap trap
met_alike s t h left count opened places fetched faults nexts =
    let c = context_at s h in
    let d = context_at t h in
    let halted : d.halted ≡ c.halted = ap (λ (x : Context). x.halted) left.same in
    let pc : d.pc ≡ c.pc = ap (λ (x : Context). x.pc) left.same in
    let word = traps_alike c d (hart_count s) (hart_count t) s.seen.memory t.seen.memory (fetched_at s h) (fetched_at t h) count fetched faults in
    let begun : (not t.opened && (h == 0)) ≡ (not s.opened && (h == 0)) = ap (λ o. not o && (h == 0)) opened in
    let breakpoint : first_enabled d.pc t.seen.places ≡ first_enabled c.pc s.seen.places = ap (λ p. first_enabled p t.seen.places) pc ∙ ap (first_enabled c.pc) places in
    record {
      context = left;
      fault = faults_alike c d (hart_count s) (hart_count t) s.seen.memory t.seen.memory (fetched_at s h) (fetched_at t h) count fetched faults;
      next = nexts_alike c d (hart_count s) (hart_count t) (fetched_at s h) (fetched_at t h) count fetched nexts;
      late_trap =
          ap (λ b. cond b (Some Start) (cond d.halted None (trap_of_fetched d (hart_count t) t.seen.memory (fetched_at t h)))) begun
          ∙ start_or_halted (not s.opened && (h == 0)) c.halted d.halted _ _ halted word;
      trap =
          ap (λ b. cond b (Some Start) (cond d.halted None (breakpoint_or (first_enabled d.pc t.seen.places) (trap_of_fetched d (hart_count t) t.seen.memory (fetched_at t h))))) begun
          ∙ start_or_halted (not s.opened && (h == 0)) c.halted d.halted _ _ halted (ap (λ p. breakpoint_or p (trap_of_fetched d (hart_count t) t.seen.memory (fetched_at t h))) breakpoint ∙ ap (breakpoint_or (first_enabled c.pc s.seen.places)) word);
    }

-- Instructions.

-- the machine after hart h executed this word
abbrev after_word : Machine → ℕ → ℕ → Machine
after_word s h word = record s {
  seen = record s.seen {
    harts = contexts_after s.seen.harts s.seen.memory h word;
    memory = memory_after s.seen.memory (context_at s h) word;
  };
  steps = s.steps + 1;
}

executed-word : (s : Machine) (h word : ℕ) → fetched_at s h ≡ Ok word → executed s h ≡ after_word s h word
unfolding executed
executed-word s h word f = rw f refl

word_leaves : (s : Machine) (h other word : ℕ) → other ≢ h → word_fault (context_at s h) (hart_count s) s.seen.memory word ≡ None → IsLeft other s (after_word s h word)
word_leaves s h other word ne right =
    let cs = s.seen.harts in
    let m = s.seen.memory in
    let left = keeps_others cs m h word other ne in
    let pc = ap (λ (x : Context). x.pc) left.same in
    met_alike s (after_word s h word) other left (keeps_shape cs m h word).0 refl refl
    (ap (λ at. fetch_result (memory_after m (context_at s h) word) at) pc ∙ keeps_text (context_at s h) (hart_count s) m word right (context_at s other).pc)
    (λ own. (keeps_faults_of_others cs m h word other (hart_count s) own ne right).0)
    (λ own. (keeps_faults_of_others cs m h word other (hart_count s) own ne right).1)

pub instructions_leave : InstructionsLeaveOthers
unfolding fault_of
instructions_leave s h other ne right = by_fetched (fetched_at s h) refl right
  where
    by_fetched : (r : Result ℕ Fault) → fetched_at s h ≡ r → fault_of_fetched (context_at s h) (hart_count s) s.seen.memory r ≡ None → IsLeft other s (executed s h)
    by_fetched (Ok word) f e = subst (λ (t : Machine). IsLeft other s t) (sym (executed-word s h word f)) (word_leaves s h other word ne e)
    by_fetched (Err fault) f e = absurd (cc)

-- Interrupts.

pub interrupts_leave : InterruptsLeaveOthers
interrupts_leave s h other ne =
    let c = context_at s other in
    let d = context_at (interrupted s h) other in
    let same : d ≡ c = interrupt_keeps s.seen.harts h other ne in
    met_alike s (interrupted s h) other (IsUnmoved-same c d same) (length-set s.seen.harts h (after_interrupt (context_at s h))) refl refl
    (ap (λ (x : Context). fetch_result s.seen.memory x.pc) same)
    (λ word. ap (λ (x : Context). word_fault x (hart_count s) s.seen.memory word) same)
    (λ word. ap (λ (x : Context). next_of_word x (hart_count s) word) same)

-- Steps.

instr_leaves : (s : State) (h : Hart) (d : Done) (other : ℕ) → other ≢ h.0 → does s (Instr h) ≡ Some d → IsLeft other s.machine d.next.machine
unfolding does
instr_leaves s h d other ne e =
    let t = taken (is_hart s.machine h.0 && (may_run s h.0 || may_pass s h.0)) _ d e in
    let allowed = (and_true (is_hart s.machine h.0) _ t.0).1 in
    let right : fault_of s.machine h.0 ≡ None = either_case (may_run s h.0) (may_pass s h.0) allowed (may_run-right s h.0) (λ p. (may_pass-right s h.0 p).1) in
    rw (← t.1) (instructions_leave s.machine h.0 other ne right)

intr_leaves : (s : State) (h : Hart) (d : Done) (other : ℕ) → other ≢ h.0 → does s (Intr h) ≡ Some d → IsLeft other s.machine d.next.machine
unfolding does
intr_leaves s h d other ne e =
    let t = taken (is_hart s.machine h.0 && may_take s h.0) _ d e in
    rw (← t.1) (interrupts_leave s.machine h.0 other ne)

pub steps_leave : StepsLeaveOthers
steps_leave s h d other ne (inl e) = instr_leaves s h d other ne e
steps_leave s h d other ne (inr e) = intr_leaves s h d other ne e
