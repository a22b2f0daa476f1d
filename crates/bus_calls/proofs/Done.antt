-- What a call has done, from what its code did.
use Rattle.std.proofs.Common.{◌≡◌, ℕ, suc, ◌+◌, ◌-◌, ◌*◌, ◌<◌, ◌≤◌, ◌&&◌, Bool, true, false, not, List, length, Option, Some, None, is_none, nat_lt, refl, sym, ap, subst, ◌∙◌, arith}
use Rattle.std.proofs.Math.Logic.{∥∥₁_elim}
use Rattle.std.proofs.Math.Bool.{Bool-set}
use Rattle.std.specs.Coded.{le_prop}
use Rattle.std.proofs.lemmas.Bool.{false≢true, ltb-true}
use Rattle.std.proofs.lemmas.Nat.{mul-le}
use Rattle.mach_base.specs.declared.event.Hart.{Hart}
use Rattle.mach_base.specs.declared.event.Entry.{Entry}
use Rattle.mach_base.specs.declared.event.Entry.TheVariants as entry
use Rattle.deck_core.specs.declared.plain.act.Act.{Act}
use Rattle.deck_core.specs.declared.plain.act.Act.TheVariants as act
use Rattle.deck_core.specs.declared.plain.act.Answer.{Answer}
use Rattle.deck_core.specs.contract.Allowed.{in_session, is_pass, is_address, is_allowed}
use Rattle.deck_core.specs.contract.Calls.{is_lost_line}
use Rattle.hart_ctx.specs.Context.{IsUnmoved}
use Rattle.atom_mach.specs.State.{hart_count, context_at}
use Rattle.atom_mach.proofs.Booleans.{and_true, not_is}
use Rattle.plant_mach.specs.Machine.{PlantedMachine, is_held}
use Rattle.plant_mach.specs.Laws.{is_own, EntriesLeaveOthers}
use Rattle.plant_mach.specs.Entries.{may}
use Rattle.plant_told.specs.Told.{Counted, next_in, plantable_in, told_of}
use Rattle.plant_told.specs.Laws.{IsGoing, IsAllowed}
use Rattle.plant_told.proofs.Legal.{allowed, calls_legal}
use Rattle.plant_room.specs.Room.{most_sends}
use Rattle.plant_room.specs.Laws.{IsWithinCounts}
use Rattle.bus_core.specs.Inner.{is_quiet}
use Rattle.bus_core.specs.Core.{machine_of}
use Rattle.bus_calls.specs.declared.bus.CoreBus.{CoreBus}
use Rattle.bus_calls.specs.Bus.{counted_of, is_over, told}
use Rattle.bus_calls.specs.Calls.{call_of, answer_over, is_silent, is_close, IsLeft, IsMadeBy, IsMade, IsLost, Does, HeldStay}
use Rattle.bus_calls.proofs.Facts.{here_of, going_of, allowed_here}

clash : (b : Bool) → b ≡ true → b ≡ false → ⊥
clash b e f = false≢true (sym f ∙ e)

pub does_over : (call : Act) (a b : CoreBus) (r : Answer) → is_over a ≡ true → r ≡ answer_over call → IsLeft (is_close call) a b → Does call a r b
does_over call a b r over says left = record {
  over = λ _. (says, left);
  going = λ going _. absurd (clash (is_over a) over going);
  lost = λ going _. absurd (clash (is_over a) over going);
}

pub does_make : (call : Act) (a b : CoreBus) (r : Answer) → is_over a ≡ false → is_lost_line r ≡ false → r ≡ (call_of call (machine_of a.core)).answer → IsMade (call_of call (machine_of a.core)).entry a b → Does call a r b
does_make call a b r going kept says made = record {
  over = λ over. absurd (clash (is_over a) over going);
  going = λ _ _. (says, made);
  lost = λ _ lost. absurd (clash (is_lost_line r) lost kept);
}

pub does_lose : (call : Act) (a b : CoreBus) (r : Answer) → is_over a ≡ false → is_lost_line r ≡ true → IsLost a b → Does call a r b
does_lose call a b r going lost is = record {
  over = λ over. absurd (clash (is_over a) over going);
  going = λ _ kept. absurd (clash (is_lost_line r) lost kept);
  lost = λ _ _. is;
}

pub left_alone : (a : CoreBus) → IsLeft false a a
left_alone a = record { core = record { machine = refl; journal = refl; text = refl; lost = refl }; sends = refl; stepped = refl; released = refl; stood = refl }

-- The entry of an allowed call that answers nothing.

pub record IsAsked (b : CoreBus) (e : Entry) : Type 0 where
  pub legal : may (machine_of b.core) e ≡ true
  pub quiet : is_quiet e ≡ true
  pub counts : IsWithinCounts e (counted_of b)

few_sends : (c : Counted) (k : Hart) → IsGoing c → IsAllowed (act.Send k) c → c.sends < most_sends c.machine.machine
unfolding told_of
few_sends c k goes ok =
    let s = c.machine.machine in
    let lt = ltb-true c.sends ((hart_count s - 1) * suc s.lines_read) (and_true (is_none c.machine.session) _ (allowed (act.Send k) c goes ok).1).1 in
    let most = mul-le (hart_count s - 1) (suc s.lines_read) (hart_count s - 1) (suc (s.lines_read + length s.unread)) (omega arith) (omega arith) in
    omega (arith, lt, most)

first_step : (c : Counted) (at : ℕ) → IsGoing c → IsAllowed (act.PlantStep at) c → c.stepped ≡ false
unfolding told_of
first_step c at goes ok =
    let a = and_true (in_session (λ x. is_pass x.stage) c.machine.session) _ (allowed (act.PlantStep at) c goes ok).1 in
    let b = and_true (is_none c.machine.step) _ a.1 in
    not_is c.stepped (and_true (is_address at (next_in c.machine.session c.machine.machine) && plantable_in c.machine.session c.machine.machine) _ b.1).1

of : (b : CoreBus) (x e : Entry) → Some x ≡ Some e → IsAsked b x → IsAsked b e
of b x e is fact = let same : x ≡ e = cc in subst (IsAsked b) same fact

pub asked : (call : Act) (b : CoreBus) (e : Entry) → is_over b ≡ false → is_allowed call (told b) ≡ true → is_silent call ≡ true → (call_of call (machine_of b.core)).entry ≡ Some e → IsAsked b e
asked (act.Send k) b e going may_be silent is =
    let ok = allowed_here (act.Send k) b going may_be in
    of b (entry.Send k) e is (record { legal = ∥∥₁_elim (going_of b going) (Bool-set _ _) (λ goes. calls_legal.send (counted_of b) k goes ok); quiet = refl; counts = ∥∥₁_elim (going_of b going) le_prop (λ goes. few_sends (counted_of b) k goes ok) })
asked (act.Pull i) b e going may_be silent is =
    let ok = allowed_here (act.Pull i) b going may_be in
    of b (entry.Pull i) e is (record { legal = ∥∥₁_elim (going_of b going) (Bool-set _ _) (λ goes. calls_legal.pull (counted_of b) i goes ok); quiet = refl; counts = tt })
asked (act.PlantStep at) b e going may_be silent is =
    let ok = allowed_here (act.PlantStep at) b going may_be in
    of b (entry.PlantStep at) e is (record { legal = ∥∥₁_elim (going_of b going) (Bool-set _ _) (λ goes. calls_legal.plant_step (counted_of b) at goes ok); quiet = refl; counts = ∥∥₁_elim (going_of b going) (Bool-set _ _) (λ goes. first_step (counted_of b) at goes ok) })
asked act.PullStep b e going may_be silent is =
    let ok = allowed_here act.PullStep b going may_be in
    of b entry.PullStep e is (record { legal = ∥∥₁_elim (going_of b going) (Bool-set _ _) (λ goes. calls_legal.pull_step (counted_of b) goes ok); quiet = refl; counts = tt })
asked (act.Plant i) b e going may_be silent is =
    let ok = allowed_here (act.Plant i) b going may_be in
    of b (entry.Plant i) e is (record { legal = ∥∥₁_elim (going_of b going) (Bool-set _ _) (λ goes. calls_legal.plant (counted_of b) i goes ok); quiet = refl; counts = tt })
asked (act.Close h) b e going may_be silent is =
    let ok = allowed_here (act.Close h) b going may_be in
    of b (entry.Close h) e is (record { legal = ∥∥₁_elim (going_of b going) (Bool-set _ _) (λ goes. calls_legal.close (counted_of b) h goes ok); quiet = refl; counts = tt })
asked (act.HartStep h) b e going may_be silent is = absurd (false≢true silent)
asked (act.Check h) b e going may_be silent is = absurd (false≢true silent)
asked (act.Enter h late) b e going may_be silent is = absurd (false≢true silent)
asked (act.Line h) b e going may_be silent is = absurd (false≢true silent)
asked (act.PassStep h) b e going may_be silent is = absurd (false≢true silent)

-- the answer and the entry of such a call
pub silent_answer : (call : Act) (p : PlantedMachine) → is_silent call ≡ true → answer_over call ≡ (call_of call p).answer
silent_answer (act.Send k) p is = refl
silent_answer (act.Pull i) p is = refl
silent_answer (act.PlantStep at) p is = refl
silent_answer act.PullStep p is = refl
silent_answer (act.Plant i) p is = refl
silent_answer (act.Close h) p is = refl
silent_answer (act.HartStep h) p is = absurd (false≢true is)
silent_answer (act.Check h) p is = absurd (false≢true is)
silent_answer (act.Enter h late) p is = absurd (false≢true is)
silent_answer (act.Line h) p is = absurd (false≢true is)
silent_answer (act.PassStep h) p is = absurd (false≢true is)

pub silent_kept : (call : Act) → is_silent call ≡ true → is_lost_line (answer_over call) ≡ false
silent_kept (act.Send k) is = refl
silent_kept (act.Pull i) is = refl
silent_kept (act.PlantStep at) is = refl
silent_kept act.PullStep is = refl
silent_kept (act.Plant i) is = refl
silent_kept (act.Close h) is = refl
silent_kept (act.HartStep h) is = refl
silent_kept (act.Check h) is = refl
silent_kept (act.Enter h late) is = refl
silent_kept (act.Line h) is = refl
silent_kept (act.PassStep h) is = refl

-- harts that a session holds stay where they stood: an entry that isn't their own is made
pub entry_held : EntriesLeaveOthers → (e : Entry) (a b : CoreBus) → ((k : ℕ) → is_held (machine_of a.core) k ≡ true → is_own e k ≡ false) → IsMadeBy e a b → HeldStay a b
entry_held law e a b others made k held =
    subst (λ (p : PlantedMachine). IsUnmoved (context_at (machine_of a.core).machine k) (context_at p.machine k)) (sym made.applied.machine) (law (machine_of a.core) e made.applied.made k made.applied.legal (others k held))

-- nothing is made
pub none_held : (a : CoreBus) → HeldStay a a
none_held a k held =
    let c = context_at (machine_of a.core).machine k in
    record { interrupt = c.pending; granule = c.reservation; same = refl }
