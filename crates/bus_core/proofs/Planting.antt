-- What holds where a word may be planted or pulled.
use Rattle.std.proofs.Common.{◌≡◌, ◌≢◌, ℕ, zero, suc, ◌+◌, ◌<◌, ◌≤◌, ◌&&◌, ◌||◌, ◌==◌, eqb, Bool, true, false, not, cond, List, [], ◌∷◌, length, slice_index_or, Option, Some, None, is_some, is_none, refl, sym, ap, ◌∙◌, add-one, arith, rules}
use Rattle.std.proofs.lemmas.Bool.{false≢true}
use Rattle.std.proofs.Math.Bool.{Bool-set}
use Rattle.std.proofs.Math.Logic.{∥∥₁_elim}
use Rattle.mach_base.specs.Masks.{has_bit, mask_with}
use Rattle.mach_base.specs.Machine.{Place, Machine, is_text_word}
use Rattle.mach_base.specs.declared.limits.TheConstants.{PLACES}
use Rattle.mach_base.specs.declared.event.Entry.TheVariants.{Pull, Plant, PlantStep, PullStep}
use Rattle.mach_base.proofs.Bits.{has_bit-zero, has_bit-with_same}
use Rattle.hart_step.specs.declared.control.After.{After}
use Rattle.hart_step.specs.declared.control.After.TheVariants.{At, Nowhere}
use Rattle.kdb_bp.specs.Breaks.{place_at}
use Rattle.bus_plant.specs.Planted.{has_address, is_planted, planted_mask}
use Rattle.deck_core.specs.declared.plain.notes.Sitting.{Sitting}
use Rattle.deck_core.specs.declared.plain.notes.Stage.{Stage}
use Rattle.deck_core.specs.declared.plain.notes.Stage.TheVariants as stage
use Rattle.deck_core.specs.contract.Allowed.{in_session, is_lines, is_pass, is_leaving, is_address}
use Rattle.atom_mach.specs.State.{context_at}
use Rattle.atom_mach.specs.Traps.{next_pc}
use Rattle.atom_mach.proofs.Booleans.{and_true, is_none-None}
use Rattle.plant_mach.specs.Machine.{PlantedMachine, memory_in, planted_at, enabled_address, enabled_at, enabled_mask, planted_of}
use Rattle.plant_mach.specs.Entries.{text_elsewhere, step_address, may_pull_step, may}
use Rattle.plant_mach.specs.Order.{PlacesFitStage, SessionFits, IsOrderly}

some≢none : {A : Type 0} (x : A) → Some x ≡ None → ⊥
some≢none x e = cc

-- what is something isn't nothing
pub not_none : {A : Type 0} (o : Option A) → is_some o ≡ true → None ≡ o → ⊥
not_none None e none = false≢true e
not_none (Some x) e none = some≢none x (sym none)

-- Addresses among others.

-- the address at which no place is planted isn't among them
not_among : (xs : List (Option ℕ)) (a : ℕ) → ((j : ℕ) → j < length xs → slice_index_or xs j None ≡ Some a → ⊥) → has_address xs a ≡ false
not_among [] a none = refl
not_among (None ∷ xs) a none = not_among xs a (λ j lt. none (suc j) (omega arith))
not_among (Some b ∷ xs) a none = by_test (eqb b a) refl (not_among xs a (λ j lt. none (suc j) (omega arith)))
  where
    by_test : (t : Bool) → eqb b a ≡ t → has_address xs a ≡ false → (eqb b a || has_address xs a) ≡ false
    by_test true e rest =
        let same : b ≡ a = search rules in
        absurd (none 0 (omega arith) (ap Some same))
    by_test false e rest = rw e rest

-- a place that is planted is there
place_there : (xs : List (Option ℕ)) (i : ℕ) → is_some (slice_index_or xs i None) ≡ true → i < length xs
place_there [] i e = absurd (false≢true e)
place_there (x ∷ xs) zero e = omega arith
place_there (x ∷ xs) (suc i) e = let lt = place_there xs i e in omega arith

-- no place is planted where the mask of the planted ones is empty
unplanted_place : (xs : List (Option ℕ)) (n k : ℕ) → planted_mask xs n ≡ 0 → k < n → slice_index_or xs k None ≡ None
unplanted_place xs zero k e lt = absurd (omega arith)
unplanted_place xs (suc n) k e lt =
    let found = here (slice_index_or xs n None) refl e in
    by_number (eqb k n) refl found.0 (λ other. unplanted_place xs n k found.1 (omega arith))
  where
    here : (o : Option ℕ) → slice_index_or xs n None ≡ o → cond (is_some o) (mask_with (planted_mask xs n) n) (planted_mask xs n) ≡ 0 → (slice_index_or xs n None ≡ None) × (planted_mask xs n ≡ 0)
    here None is mask = (is, mask)
    here (Some a) is mask = absurd (false≢true (sym (has_bit-zero n) ∙ ap (λ m. has_bit m n) (sym mask) ∙ has_bit-with_same (planted_mask xs n) n))

    by_number : (b : Bool) → eqb k n ≡ b → slice_index_or xs n None ≡ None → (k ≢ n → slice_index_or xs k None ≡ None) → slice_index_or xs k None ≡ None
    by_number true same last rest = let is_n : k ≡ n = search rules in ap (λ (i : ℕ). slice_index_or xs i None) is_n ∙ last
    by_number false other last rest = let not_n : k ≢ n = search rules in rest not_n

-- Enabled places.

-- a place that is enabled at an address is set there
set_there : (o : Option Place) (a : ℕ) → enabled_address o ≡ Some a → (q : Place) × (o ≡ Some q) × (q.addr ≡ a)
set_there None a e = absurd (some≢none a (sym e))
set_there (Some q) a e = (q, refl, by_switch q.enabled e)
  where
    by_switch : (b : Bool) → cond b (Some q.addr) None ≡ Some a → q.addr ≡ a
    by_switch true e = cc
    by_switch false e = absurd (some≢none a (sym e))

place_set : (o : Option Place) → is_some (enabled_address o) ≡ true → is_some o ≡ true
place_set None e = absurd (false≢true e)
place_set (Some q) e = refl

slot_there : (xs : List (Option Place)) (i : ℕ) → is_some (place_at xs i) ≡ true → i < length xs
slot_there [] i e = absurd (false≢true e)
slot_there (x ∷ xs) zero e = omega arith
slot_there (x ∷ xs) (suc i) e = let lt = slot_there xs i e in omega arith

-- an enabled place is there
pub enabled_there : (p : PlantedMachine) (i : ℕ) → is_some (enabled_at p i) ≡ true → i < length p.machine.seen.places
enabled_there p i e = slot_there p.machine.seen.places i (place_set (place_at p.machine.seen.places i) e)

-- the mask of the enabled places with one place more
pub enabled_more : (places : List (Option Place)) (k mask new : ℕ) → mask ≡ enabled_mask places k → new ≡ cond (is_some (enabled_address (place_at places k))) (mask_with mask k) mask → new ≡ enabled_mask places (k + 1)
enabled_more places k mask new so_far e = e ∙ rw (so_far, add-one k) refl

-- it is a word of text
pub enabled_text : (p : PlantedMachine) (i a : ℕ) → IsOrderly p → enabled_at p i ≡ Some a → is_text_word p.machine.seen.memory a ≡ true
enabled_text p i a order e =
    let set = set_there (place_at p.machine.seen.places i) a e in
    sym (ap (λ (n : ℕ). is_text_word p.machine.seen.memory n) set.2) ∙ order.limits.breakpoints.text i set.0 set.1

-- where no step word stands and the place isn't planted, nothing is planted at its address
pub enabled_free : (p : PlantedMachine) (i a : ℕ) → IsOrderly p → p.step ≡ None → enabled_at p i ≡ Some a → planted_at p i ≡ None → is_planted (memory_in p) a ≡ false
enabled_free p i a order free e unplanted = ap (λ (o : Option ℕ). has_address (o ∷ p.places) a) free ∙ not_among p.places a none
  where
    none : (j : ℕ) → j < length p.places → slice_index_or p.places j None ≡ Some a → ⊥
    none j lt planted =
        let mine = set_there (place_at p.machine.seen.places i) a e in
        let other = set_there (place_at p.machine.seen.places j) a (order.enabled j a planted) in
        let same = order.limits.breakpoints.apart i j mine.0 other.0 mine.1 other.1 (mine.2 ∙ sym other.2) in
        some≢none a (sym planted ∙ ap (λ (k : ℕ). slice_index_or p.places k None) (sym same) ∙ unplanted)

-- Where entries are legal.

-- where the place may be pulled, it is planted
pub record IsPullable (p : PlantedMachine) (i : ℕ) : Type 0 where
  pub there : i < length p.places
  pub planted : is_some (planted_at p i) ≡ true

pub pull_facts : (p : PlantedMachine) (i : ℕ) → may p (Pull i) ≡ true → IsPullable p i
unfolding may
pull_facts p i e =
    let a = and_true (in_session (λ s. is_lines s.stage) p.session) _ e in
    record { there = place_there p.places i a.1; planted = a.1 }

-- where the place may be planted, it is enabled and free, and no step word stands
pub record IsPlantable (p : PlantedMachine) (i : ℕ) : Type 0 where
  pub free : planted_at p i ≡ None
  pub enabled : is_some (enabled_at p i) ≡ true
  pub step : p.step ≡ None

pub plant_facts : (p : PlantedMachine) (i : ℕ) → may p (Plant i) ≡ true → IsPlantable p i
unfolding may
plant_facts p i e =
    let a = and_true (in_session (λ s. is_leaving s.stage) p.session) _ e in
    let b = and_true (is_none p.step) _ a.1 in
    let c = and_true (is_some (enabled_at p i)) _ b.1 in
    record { free = is_none-None (planted_at p i) c.1; enabled = c.0; step = is_none-None p.step b.0 }

-- where the step word may be planted, a word of text stands there, nothing is planted there, and there is no step word
pub record IsStepPlace (p : PlantedMachine) (a : ℕ) : Type 0 where
  pub free : p.step ≡ None
  pub text : is_text_word p.machine.seen.memory a ≡ true
  pub unplanted : is_planted (memory_in p) a ≡ false

address_text : (s : Machine) (pc a : ℕ) (next : After) → is_address a (text_elsewhere s pc next) ≡ true → is_text_word s.seen.memory a ≡ true
address_text s pc a Nowhere e = absurd (false≢true e)
address_text s pc a (At b) e = by_test (is_text_word s.seen.memory b) (eqb b pc) refl e
  where
    by_test : (text here : Bool) → is_text_word s.seen.memory b ≡ text → is_address a (cond (text && not here) (Some b) None) ≡ true → is_text_word s.seen.memory a ≡ true
    by_test true false is same = let here_is : b ≡ a = search rules in rw (← here_is) is
    by_test true true is same = absurd (false≢true same)
    by_test false here is same = absurd (false≢true same)

pass_unplanted : (p : PlantedMachine) (s : Stage) → is_pass s ≡ true → PlacesFitStage s (planted_of p) → planted_of p ≡ 0
pass_unplanted p (stage.Pass again) e fits = fits
pass_unplanted p stage.Lines e fits = absurd (false≢true e)
pass_unplanted p stage.Back e fits = absurd (false≢true e)
pass_unplanted p stage.Leaving e fits = absurd (false≢true e)

step_place : (p : PlantedMachine) (session : Option Sitting) (a : ℕ) → in_session (λ s. is_pass s.stage && is_address a (step_address p.machine s.master.0)) session ≡ true → SessionFits session p → (is_text_word p.machine.seen.memory a ≡ true) × (planted_of p ≡ 0)
step_place p None a e fits = absurd (false≢true e)
step_place p (Some s) a e fits =
    let both = and_true (is_pass s.stage) _ e in (
      address_text p.machine (context_at p.machine s.master.0).pc a (next_pc p.machine s.master.0) both.1,
      pass_unplanted p s.stage both.0 fits.1,
    )

pub step_place_facts : (p : PlantedMachine) (a : ℕ) → IsOrderly p → may p (PlantStep a) ≡ true → IsStepPlace p a
unfolding may
step_place_facts p a order e =
    let both = and_true (in_session (λ s. is_pass s.stage && is_address a (step_address p.machine s.master.0)) p.session) _ e in
    let free = is_none-None p.step both.1 in
    let found = step_place p p.session a both.0 order.session in
    record {
      free = free;
      text = found.0;
      unplanted = ap (λ (o : Option ℕ). has_address (o ∷ p.places) a) free ∙ not_among p.places a (none found.1);
    }
  where
    none : planted_of p ≡ 0 → (j : ℕ) → j < length p.places → slice_index_or p.places j None ≡ Some a → ⊥
    none mask j lt planted =
        let count = order.words.places in
        some≢none a (sym planted ∙ unplanted_place p.places PLACES j mask (omega arith))

-- where the step word may be pulled, it stands
pub pull_step_facts : (p : PlantedMachine) → may p PullStep ≡ true → is_some p.step ≡ true
unfolding may
pull_step_facts p e = (and_true (is_some p.step) _ e).0

-- The same, where only that the machine is in order is known.

pub enabled_text_here : (p : PlantedMachine) (i a : ℕ) → ∥ IsOrderly p ∥₁ → enabled_at p i ≡ Some a → is_text_word p.machine.seen.memory a ≡ true
enabled_text_here p i a order e = ∥∥₁_elim order (Bool-set _ _) (λ x. enabled_text p i a x e)

pub enabled_free_here : (p : PlantedMachine) (i a : ℕ) → ∥ IsOrderly p ∥₁ → may p (Plant i) ≡ true → enabled_at p i ≡ Some a → is_planted (memory_in p) a ≡ false
enabled_free_here p i a order legal e =
    let facts = plant_facts p i legal in
    ∥∥₁_elim order (Bool-set _ _) (λ x. enabled_free p i a x facts.step e facts.free)

pub step_text_here : (p : PlantedMachine) (a : ℕ) → ∥ IsOrderly p ∥₁ → may p (PlantStep a) ≡ true → is_text_word p.machine.seen.memory a ≡ true
step_text_here p a order legal = ∥∥₁_elim order (Bool-set _ _) (λ x. (step_place_facts p a x legal).text)

pub step_unplanted_here : (p : PlantedMachine) (a : ℕ) → ∥ IsOrderly p ∥₁ → may p (PlantStep a) ≡ true → is_planted (memory_in p) a ≡ false
step_unplanted_here p a order legal = ∥∥₁_elim order (Bool-set _ _) (λ x. (step_place_facts p a x legal).unplanted)

pub step_free_here : (p : PlantedMachine) (a : ℕ) → may p (PlantStep a) ≡ true → p.step ≡ None
unfolding may
step_free_here p a e = is_none-None p.step (and_true _ (is_none p.step) e).1
