-- A hart that fetches no `ebreak` from raw memory, and whose instruction doesn't fault, has no trap of the word; and none of
-- a breakpoint, where each enabled place is planted.
use Rattle.std.proofs.Common.{◌≡◌, ℕ, zero, suc, eqb, ◌||◌, Bool, true, false, cond, rules, List, [], ◌∷◌, Option, Some, None, Result, Ok, Err, refl, sym, ap, ◌∙◌}
use Rattle.std.specs.Prelude.{slice_index_or}
use Rattle.std.proofs.lemmas.Bool.{false≢true, eqb-true}
use Rattle.std.proofs.lemmas.List.Quantifiers.{position-Some}
use Rattle.mach_base.specs.Machine.{Context, Memory, Place, Machine}
use Rattle.mach_base.specs.declared.event.Fault.{Fault}
use Rattle.rv_table.specs.Rows.{ebreak_word}
use Rattle.kdb_bp.specs.Breaks.{is_enabled_at, first_enabled, place_at}
use Rattle.bus_plant.specs.Planted.{IsPlanted, has_address, is_planted}
use Rattle.bus_plant.specs.Laws.{RawFetches}
use Rattle.atom_mach.specs.State.{hart_count, context_at}
use Rattle.atom_mach.specs.Traps.{fetched_at, fault_of, fault_of_fetched, trap_of_fetched, trap, late_trap}
use Rattle.atom_mach.proofs.Booleans.{and_true}
use Rattle.plant_mach.specs.Machine.{PlantedMachine, memory_in, planted_at, enabled_address, enabled_at}
use Rattle.plant_mach.specs.Entries.{raw_fetched, is_ebreak}

no_ebreak-true : (b : Bool) (r q : Result ℕ Fault) → q ≡ cond b (Ok ebreak_word) r → is_ebreak q ≡ false → (b ≡ false) × (is_ebreak r ≡ false)
no_ebreak-true true r q e f = absurd (false≢true (sym f ∙ ap is_ebreak e))
no_ebreak-true false r q e f = (refl, sym (ap is_ebreak e) ∙ f)

-- nothing is planted where the hart is, and the true word is no `ebreak`
pub no_ebreak : RawFetches → (p : PlantedMachine) (h : ℕ) → IsPlanted (memory_in p) → is_ebreak (raw_fetched p h) ≡ false →
    (is_planted (memory_in p) (context_at p.machine h).pc ≡ false) × (is_ebreak (fetched_at p.machine h) ≡ false)
no_ebreak raw p h words e =
    no_ebreak-true (is_planted (memory_in p) (context_at p.machine h).pc) (fetched_at p.machine h) (raw_fetched p h) (raw (memory_in p) words (context_at p.machine h).pc) e

no_trap-fetched : (c : Context) (harts : ℕ) (m : Memory) (r : Result ℕ Fault) → is_ebreak r ≡ false → fault_of_fetched c harts m r ≡ None → trap_of_fetched c harts m r ≡ None
no_trap-fetched c harts m (Err fault) e f = absurd (cc)
no_trap-fetched c harts m (Ok word) e f = rw (e, f) refl

-- the word has no trap
pub no_trap : (s : Machine) (h : ℕ) → is_ebreak (fetched_at s h) ≡ false → fault_of s h ≡ None → trap_of_fetched (context_at s h) (hart_count s) s.seen.memory (fetched_at s h) ≡ None
unfolding fault_of
no_trap s h e f = no_trap-fetched (context_at s h) (hart_count s) s.seen.memory (fetched_at s h) e f

-- Breakpoints.

planted-there : (xs : List (Option ℕ)) (i addr : ℕ) → slice_index_or xs i None ≡ Some addr → has_address xs addr ≡ true
planted-there xs i addr e = by_list xs i e
  where
    or_true : (b : Bool) → (b || true) ≡ true
    or_true true = refl
    or_true false = refl

    by_list : (ys : List (Option ℕ)) (j : ℕ) → slice_index_or ys j None ≡ Some addr → has_address ys addr ≡ true
    by_list [] j f = absurd (cc)
    by_list (None ∷ ys) zero f = absurd (cc)
    by_list (None ∷ ys) (suc j) f = by_list ys j f
    by_list (Some a ∷ ys) zero f =
        let q : a ≡ addr = cc in
        rw q (search (rules))
    by_list (Some a ∷ ys) (suc j) f = rw (by_list ys j f) (or_true (eqb a addr))

enabled-there : (o : Option Place) (addr : ℕ) → is_enabled_at addr o ≡ true → enabled_address o ≡ Some addr
enabled-there None addr e = absurd (false≢true e)
enabled-there (Some place) addr e =
    let both = and_true place.enabled (eqb place.addr addr) e in
    rw both.0 (ap Some (eqb-true place.addr addr both.1))

-- where each enabled place is planted, and nothing at the hart's pc, there is no breakpoint there
pub no_breakpoint : (p : PlantedMachine) (pc : ℕ) → ((i addr : ℕ) → enabled_at p i ≡ Some addr → planted_at p i ≡ Some addr) → is_planted (memory_in p) pc ≡ false → first_enabled pc p.machine.seen.places ≡ None
no_breakpoint p pc whole e = by_found (first_enabled pc p.machine.seen.places) refl
  where
    in_places : (step : Option ℕ) → has_address p.places pc ≡ true → has_address (step ∷ p.places) pc ≡ true
    in_places None f = f
    in_places (Some a) f = rw f (or_true (eqb a pc))
      where
        or_true : (b : Bool) → (b || true) ≡ true
        or_true true = refl
        or_true false = refl

    by_found : (o : Option ℕ) → first_enabled pc p.machine.seen.places ≡ o → o ≡ None
    by_found None f = refl
    by_found (Some i) f =
        let passes : is_enabled_at pc (place_at p.machine.seen.places i) ≡ true = (position-Some (is_enabled_at pc) p.machine.seen.places i None f).1 in
        let there = whole i pc (enabled-there (place_at p.machine.seen.places i) pc passes) in
        absurd (false≢true (sym e ∙ in_places p.step (planted-there p.places i pc there)))

-- so a hart that isn't halted has no trap once a session was opened: in the free machine, and beside a session
pub no_trap-free : (s : Machine) (h : ℕ) → s.opened ≡ true → (context_at s h).halted ≡ false → first_enabled (context_at s h).pc s.seen.places ≡ None → trap_of_fetched (context_at s h) (hart_count s) s.seen.memory (fetched_at s h) ≡ None → trap s h ≡ None
unfolding trap
no_trap-free s h opened awake none e = rw (opened, awake, none) e

pub no_trap-late : (s : Machine) (h : ℕ) → s.opened ≡ true → (context_at s h).halted ≡ false → trap_of_fetched (context_at s h) (hart_count s) s.seen.memory (fetched_at s h) ≡ None → late_trap s h ≡ None
unfolding late_trap
no_trap-late s h opened awake e = rw (opened, awake) e
