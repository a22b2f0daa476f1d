-- What a hart does outside a session: by cases, and that its entry is legal.
use Rattle.std.proofs.Common.{◌≡◌, ℕ, ◌<◌, eqb, ◌==◌, ◌&&◌, ◌||◌, Bool, true, false, not, cond, Option, Some, None, is_some, is_none, nat_lt, refl, sym, ap, ◌∙◌}
use Rattle.std.proofs.lemmas.Bool.{false≢true, eqb-true}
use Rattle.mach_base.specs.declared.event.Hart.{Hart}
use Rattle.mach_base.specs.declared.event.Ending.{Ending}
use Rattle.mach_base.specs.declared.event.Ending.TheVariants.{AllHalted, StepLimit}
use Rattle.mach_base.specs.declared.event.Entry.{Entry}
use Rattle.mach_base.specs.declared.event.Entry.TheVariants as entry
use Rattle.trap_ipi.specs.Interrupt.{is_takeable}
use Rattle.deck_core.specs.declared.plain.act.Turned.TheVariants as turned
use Rattle.deck_core.specs.declared.plain.act.Answer.TheVariants as answer
use Rattle.atom_mach.specs.State.{context_at}
use Rattle.atom_mach.specs.Traps.{fault_of}
use Rattle.atom_mach.specs.Session.{is_hart}
use Rattle.atom_mach.proofs.Booleans.{and_true}
use Rattle.plant_mach.specs.Machine.{PlantedMachine, is_held}
use Rattle.plant_mach.specs.Entries.{raw_fetched, is_ebreak, faults, may_run, may_pass, may}
use Rattle.plant_told.specs.Told.{Counted}
use Rattle.plant_room.specs.Laws.{IsWithinCounts}
use Rattle.plant_mach.specs.Laws.{is_own}
use Rattle.bus_core.specs.Inner.{is_legal, is_quiet}
use Rattle.bus_calls.specs.Calls.{Call, quietly, making, is_idle, is_trapped, turn_of}

-- a fact of each of the cases is one of the turn
pub turn_cases : (p : PlantedMachine) (h : Hart) (P : Call → Type 0) →
    ((ending : Ending) → is_quiet (entry.Off ending) ≡ true → is_legal p (entry.Off ending) ≡ true → P (making (entry.Off ending) (answer.HartStep turned.Off))) →
    (is_legal p (entry.Take h) ≡ true → P (making (entry.Take h) (answer.HartStep turned.Called))) →
    P (quietly (answer.HartStep turned.Idle)) →
    P (quietly (answer.HartStep turned.Trapped)) →
    (is_idle p h.0 ≡ false → p.machine.opened ≡ true → is_takeable (context_at p.machine h.0) ≡ true → P (making (entry.Intr h) (answer.HartStep turned.Took))) →
    (is_idle p h.0 ≡ false → p.machine.opened ≡ true → is_takeable (context_at p.machine h.0) ≡ false → is_trapped p h.0 ≡ false → P (making (entry.Step h) (answer.HartStep turned.Stepped))) →
    P (turn_of p h)
turn_cases p h P ends takes waits traps interrupts steps = by_halted (is_legal p (entry.Off AllHalted)) refl
  where
    last : Bool → Call
    last b = cond b (quietly (answer.HartStep turned.Trapped)) (making (entry.Step h) (answer.HartStep turned.Stepped))

    sixth : Bool → Call
    sixth b = cond b (making (entry.Intr h) (answer.HartStep turned.Took)) (last (is_trapped p h.0))

    fifth : Bool → Call
    fifth b = cond b (quietly (answer.HartStep turned.Trapped)) (sixth (is_takeable (context_at p.machine h.0)))

    fourth : Bool → Call
    fourth b = cond b (quietly (answer.HartStep turned.Idle)) (fifth (not p.machine.opened))

    third : Bool → Call
    third b = cond b (making (entry.Take h) (answer.HartStep turned.Called)) (fourth (is_idle p h.0))

    second : Bool → Call
    second b = cond b (making (entry.Off StepLimit) (answer.HartStep turned.Off)) (third (is_legal p (entry.Take h)))

    opened_of : (b : Bool) → not b ≡ false → b ≡ true
    opened_of true e = refl
    opened_of false e = absurd (false≢true (sym e))

    by_trap : is_idle p h.0 ≡ false → p.machine.opened ≡ true → is_takeable (context_at p.machine h.0) ≡ false → (b : Bool) → is_trapped p h.0 ≡ b → P (last b)
    by_trap idle opened none true e = traps
    by_trap idle opened none false e = steps idle opened none e

    by_interrupt : is_idle p h.0 ≡ false → p.machine.opened ≡ true → (b : Bool) → is_takeable (context_at p.machine h.0) ≡ b → P (sixth b)
    by_interrupt idle opened true e = interrupts idle opened e
    by_interrupt idle opened false e = by_trap idle opened e (is_trapped p h.0) refl

    by_opened : is_idle p h.0 ≡ false → (b : Bool) → not p.machine.opened ≡ b → P (fifth b)
    by_opened idle true e = traps
    by_opened idle false e = by_interrupt idle (opened_of p.machine.opened e) (is_takeable (context_at p.machine h.0)) refl

    by_idle : (b : Bool) → is_idle p h.0 ≡ b → P (fourth b)
    by_idle true e = waits
    by_idle false e = by_opened e (not p.machine.opened) refl

    by_call : (b : Bool) → is_legal p (entry.Take h) ≡ b → P (third b)
    by_call true e = takes e
    by_call false e = by_idle (is_idle p h.0) refl

    by_limit : (b : Bool) → is_legal p (entry.Off StepLimit) ≡ b → P (second b)
    by_limit true e = ends StepLimit refl e
    by_limit false e = by_call (is_legal p (entry.Take h)) refl

    by_halted : (b : Bool) → is_legal p (entry.Off AllHalted) ≡ b → P (cond b (making (entry.Off AllHalted) (answer.HartStep turned.Off)) (second (is_legal p (entry.Off StepLimit))))
    by_halted true e = ends AllHalted refl e
    by_halted false e = by_limit (is_legal p (entry.Off StepLimit)) refl

-- The entry of a turn is legal.

both : (a b : Bool) → a ≡ true → b ≡ true → (a && b) ≡ true
both a b p q = rw (p, q) refl

either_first : (a b : Bool) → a ≡ true → (a || b) ≡ true
either_first a b p = rw p refl

legal_may : (p : PlantedMachine) (e : Entry) → is_legal p e ≡ true → may p e ≡ true
legal_may p e is = (and_true (is_none p.ending) (may p e) is).1

neither : (a b : Bool) → (a || b) ≡ false → (a ≡ false) × (b ≡ false)
neither true b e = absurd (false≢true (sym e))
neither false b e = (refl, e)

not_false : (b : Bool) → not b ≡ false → b ≡ true
not_false true e = refl
not_false false e = absurd (false≢true (sym e))

-- what a hart that isn't idle has
record IsBusy (p : PlantedMachine) (h : ℕ) : Type 0 where
  awake : (context_at p.machine h).halted ≡ false
  steps : nat_lt p.machine.steps p.machine.limit ≡ true

busy : (p : PlantedMachine) (h : ℕ) → is_idle p h ≡ false → IsBusy p h
busy p h e =
    let a = neither (context_at p.machine h).halted _ e in
    let b = neither (not p.machine.opened && not (eqb h 0)) _ a.1 in
    record { awake = a.0; steps = not_false (nat_lt p.machine.steps p.machine.limit) b.1 }

pub intr-legal : (p : PlantedMachine) (h : Hart) → is_hart p.machine h.0 ≡ true → is_held p h.0 ≡ false → is_idle p h.0 ≡ false → p.machine.opened ≡ true → is_takeable (context_at p.machine h.0) ≡ true → may p (entry.Intr h) ≡ true
unfolding may
intr-legal p h there free idle opened takeable =
    both (is_hart p.machine h.0) _ there (both p.machine.opened _ opened (both (not (is_held p h.0)) _ (ap not free) (both (is_takeable (context_at p.machine h.0)) _ takeable (busy p h.0 idle).steps)))

pub step-legal : (p : PlantedMachine) (h : Hart) → is_hart p.machine h.0 ≡ true → is_held p h.0 ≡ false → is_idle p h.0 ≡ false → p.machine.opened ≡ true → is_takeable (context_at p.machine h.0) ≡ false → is_trapped p h.0 ≡ false → may p (entry.Step h) ≡ true
unfolding may
step-legal p h there free idle opened none untrapped =
    let b = busy p h.0 idle in
    let t = neither (is_ebreak (raw_fetched p h.0)) (faults p h.0) untrapped in
    let runs : may_run p h.0 ≡ true =
    both (not (is_held p h.0)) _ (ap not free) (both (nat_lt p.machine.steps p.machine.limit) _ b.steps (both (not (is_takeable (context_at p.machine h.0))) _ (ap not none) (both (not (is_ebreak (raw_fetched p h.0))) _ (ap not t.0) (ap not t.1)))) in
    both (is_hart p.machine h.0) _ there (both p.machine.opened _ opened (both (not (context_at p.machine h.0).halted) _ (ap not b.awake) (either_first (may_run p h.0) (may_pass p h.0) runs)))

-- an entry that a turn makes: it is legal, and prints no prompt
pub record IsTurnsEntry (p : PlantedMachine) (e : Entry) : Type 0 where
  pub legal : may p e ≡ true
  pub quiet : is_quiet e ≡ true
  pub counts : (c : Counted) → IsWithinCounts e c
  pub others : (k : ℕ) → is_held p k ≡ true → is_own e k ≡ false

pub turn-legal : (p : PlantedMachine) (h : Hart) (e : Entry) → is_hart p.machine h.0 ≡ true → is_held p h.0 ≡ false → (turn_of p h).entry ≡ Some e → IsTurnsEntry p e
turn-legal p h e there free =
    turn_cases p h (λ t. t.entry ≡ Some e → IsTurnsEntry p e)
    (λ ending quiet legal is. of (entry.Off ending) is (record { legal = legal_may p (entry.Off ending) legal; quiet = quiet; counts = λ c. tt; others = λ k held. refl }))
    (λ legal is. of (entry.Take h) is (record { legal = legal_may p (entry.Take h) legal; quiet = refl; counts = λ c. tt; others = λ k held. refl }))
    (λ is. absurd (cc))
    (λ is. absurd (cc))
    (λ idle opened takeable is. of (entry.Intr h) is (record { legal = intr-legal p h there free idle opened takeable; quiet = refl; counts = λ c. tt; others = other }))
    (λ idle opened none untrapped is. of (entry.Step h) is (record { legal = step-legal p h there free idle opened none untrapped; quiet = refl; counts = λ c. tt; others = other }))
  where
    other : (k : ℕ) → is_held p k ≡ true → eqb h.0 k ≡ false
    other k held = by_number (eqb h.0 k) refl
      where
        by_number : (b : Bool) → eqb h.0 k ≡ b → b ≡ false
        by_number false same = refl
        by_number true same = absurd (false≢true (sym free ∙ ap (is_held p) (eqb-true h.0 k same) ∙ held))

    of : (x : Entry) → Some x ≡ Some e → IsTurnsEntry p x → IsTurnsEntry p e
    of x is fact = let same : x ≡ e = cc in rw (← same) fact
