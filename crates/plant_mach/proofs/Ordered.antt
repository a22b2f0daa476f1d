-- The machine is in order at the start, and every legal entry keeps the order.
use Rattle.std.proofs.Common.{◌≡◌, ℕ, zero, suc, ◌%◌, ◌≤◌, ◌<◌, ◌^◌, eqb, ◌==◌, ◌&&◌, Bool, true, false, not, cond, List, [], ◌∷◌, length, replicate, Option, Some, None, is_some, is_none, Result, Ok, Err, option_map, refl, sym, ap, subst, ◌∙◌, ◌⊎◌, inl, inr, arith}
use Rattle.std.specs.Prelude.{slice_index_or, slice_set, nat_lt}
use Rattle.std.proofs.lemmas.Bool.{false≢true, eqb-true, ltb-true, cases_lt}
use Rattle.std.proofs.lemmas.List.{length-set, length-replicate, get_or_past}
use Rattle.std.proofs.lemmas.List.FromFn.{length-map-range_with_len}
use Rattle.mach_base.specs.Machine.{Memory, Part, Place, Machine, is_text_word, is_text_segment, segment_at, memory_of}
use Rattle.mach_base.specs.Masks.{has_bit}
use Rattle.mach_base.specs.declared.limits.TheConstants.{PLACES}
use Rattle.mach_base.specs.declared.event.Hart.{Hart}
use Rattle.mach_base.specs.declared.event.Fault.{Fault}
use Rattle.mach_base.specs.declared.event.Ending.{Ending}
use Rattle.mach_base.specs.declared.event.Entry.{Entry}
use Rattle.mach_base.specs.declared.event.Entry.TheVariants as entry
use Rattle.img_text.specs.Boot.{first_context}
use Rattle.mem_map.specs.Parts.{AreParts}
use Rattle.mem_map.specs.Access.{access_fault}
use Rattle.mem_map.specs.declared.rights.Access.{Access}
use Rattle.mem_map.specs.declared.rights.Access.TheVariants.{Fetch}
use Rattle.mem_map.proofs.Lookups.{is_ok-text}
use Rattle.hart_step.specs.declared.control.After.TheVariants.{At, Nowhere}
use Rattle.hart_step.proofs.Frame.{keeps_faults}
use Rattle.kdb_bp.specs.Breaks.{place_at}
use Rattle.kdb_env.proofs.Allowed.{AreVariables-defaults}
use Rattle.kdb_macro.specs.Macros.{AreMacros}
use Rattle.bus_plant.specs.Planted.{PlantedMemory, IsPlanted, planted_addresses, is_planted, has_address}
use Rattle.bus_plant.proofs.Stay.{keep_planted}
use Rattle.bus_plant.proofs.WithWords.{text-same, faultless}
use Rattle.deck_core.specs.declared.plain.notes.Sitting.{Sitting}
use Rattle.deck_core.specs.declared.plain.notes.Stage.{Stage}
use Rattle.deck_core.specs.declared.plain.notes.Stage.TheVariants as stage
use Rattle.deck_core.specs.contract.Allowed.{is_of, is_lines, is_pass, is_leaving, is_address}
use Rattle.atom_mach.specs.State.{hart_count, context_at, start_state}
use Rattle.atom_mach.specs.Traps.{fetched_at, fault_of, fault_of_fetched, next_pc, executed}
use Rattle.atom_mach.specs.Modes.{IsSitting}
use Rattle.atom_mach.specs.Session.{is_hart, with_read, line_effect}
use Rattle.atom_mach.proofs.Booleans.{and_true, not_is, is_none-None, taken}
use Rattle.atom_mach.proofs.StartWithin.{debugger_within}
use Rattle.atom_mach.proofs.Kept.{executed_kept, interrupted_kept, entered_kept, line_kept}
use Rattle.plant_mach.specs.Machine.{PlantedMachine, planted_start, memory_in, planted_at, enabled_at, enabled_address, planted_of, enabled_of}
use Rattle.plant_mach.specs.Entries.{Made, after_pass, after_step, opened_for, stage_after, line_made, step_address, text_elsewhere, may, effect, makes}
use Rattle.plant_mach.specs.Order.{IsSeated, StepFits, StepFitsStage, PlacesFitStage, SessionFits, IsOrderly}
use Rattle.plant_mach.specs.Laws.{EntriesKeepOrder, StartsAreOrderly}
use Rattle.plant_mach.proofs.Sessions.{IsOpen, in_session-open, reads_line, is_lines-Lines, is_leaving-Leaving, is_pass-Pass}
use Rattle.plant_mach.proofs.Opens.{open-opened}
use Rattle.plant_mach.proofs.Executes.{step-right}
use Rattle.plant_mach.proofs.Lines.{line_keeps_faults}
use Rattle.plant_mach.proofs.Places.{planted-bit, enabled-bit, none_planted, no_address, set-cases}

-- Text.

-- words of text stay where segments and faults do
text-kept : (m n : Memory) → n.segments ≡ m.segments → ((access : Access) (at size : ℕ) → access_fault n access at size ≡ access_fault m access at size) → ((addr : ℕ) → is_text_word m addr ≡ true → access_fault m Fetch addr 4 ≡ None) → (addr : ℕ) → is_text_word n addr ≡ true → access_fault n Fetch addr 4 ≡ None
text-kept m n segments faults text addr e =
    faults Fetch addr 4 ∙ text addr (ap (λ g. (eqb (addr % 4) 0) && is_text_segment (segment_at g addr)) (sym segments) ∙ e)

words-kept : (p : PlantedMemory) (n : Memory) → ((access : Access) (at size : ℕ) → access_fault n access at size ≡ access_fault p.memory access at size) → IsPlanted p → IsPlanted (record p { memory = n })
words-kept p n faults is = record { places = is.places; text = text-same p.memory n (planted_addresses p) faults is.text; distinct = is.distinct }

-- Instructions.

executed-faults : (s : Machine) (h : ℕ) → fault_of s h ≡ None → (access : Access) (at size : ℕ) → access_fault (executed s h).seen.memory access at size ≡ access_fault s.seen.memory access at size
unfolding executed fault_of
executed-faults s h right access at size = by_fetched (fetched_at s h) refl right
  where
    by_fetched : (r : Result ℕ Fault) → fetched_at s h ≡ r → fault_of_fetched (context_at s h) (hart_count s) s.seen.memory r ≡ None → access_fault (executed s h).seen.memory access at size ≡ access_fault s.seen.memory access at size
    by_fetched (Err fault) f e = absurd (cc)
    by_fetched (Ok word) f e = rw f (keeps_faults (context_at s h) (hart_count s) s.seen.memory word e access at size)

seated-after_step : (harts h : ℕ) (session : Option Sitting) → IsSeated harts session → IsSeated harts (option_map (after_step h) session)
seated-after_step harts h None seated = tt
seated-after_step harts h (Some s) seated = by_master (is_of h s)
  where
    by_master : (b : Bool) → IsSeated harts (Some (cond b (record s { stage = after_pass s.stage }) s))
    by_master true = record { master = seated.master; late_ones = seated.late_ones; on_time = seated.on_time }
    by_master false = seated

step-after_pass : (g : Stage) (step : Option ℕ) → StepFitsStage g step → StepFitsStage (after_pass g) step
step-after_pass stage.Lines step fits = fits
step-after_pass (stage.Pass true) step fits = tt
step-after_pass (stage.Pass false) step fits = tt
step-after_pass stage.Back step fits = tt
step-after_pass stage.Leaving step fits = tt

step-after_step : (h : ℕ) (session : Option Sitting) (step : Option ℕ) → StepFits session step → StepFits (option_map (after_step h) session) step
step-after_step h None step fits = fits
step-after_step h (Some s) step fits = by_master (is_of h s)
  where
    by_master : (b : Bool) → StepFits (Some (cond b (record s { stage = after_pass s.stage }) s)) step
    by_master true = step-after_pass s.stage step fits
    by_master false = fits

places-after_pass : (g : Stage) (planted : ℕ) → PlacesFitStage g planted → PlacesFitStage (after_pass g) planted
places-after_pass stage.Lines planted fits = tt
places-after_pass (stage.Pass true) planted fits = fits
places-after_pass (stage.Pass false) planted fits = tt
places-after_pass stage.Back planted fits = fits
places-after_pass stage.Leaving planted fits = tt

session-after_step : (h : ℕ) (session : Option Sitting) (p next : PlantedMachine) → next.machine.opened ≡ p.machine.opened → planted_of next ≡ planted_of p → SessionFits session p → SessionFits (option_map (after_step h) session) next
session-after_step h None p next opened planted fits = tt
session-after_step h (Some s) p next opened planted fits = by_master (is_of h s)
  where
    by_master : (b : Bool) → SessionFits (Some (cond b (record s { stage = after_pass s.stage }) s)) next
    by_master true = (opened ∙ fits.0, subst (PlacesFitStage (after_pass s.stage)) (sym planted) (places-after_pass s.stage (planted_of p) fits.1))
    by_master false = (opened ∙ fits.0, subst (PlacesFitStage s.stage) (sym planted) fits.1)

none-after_step : (h : ℕ) (session : Option Sitting) → option_map (after_step h) session ≡ None → session ≡ None
none-after_step h None e = refl
none-after_step h (Some s) e = absurd (cc)

keeps-Step : (p : PlantedMachine) (h : Hart) → IsOrderly p → may p (entry.Step h) ≡ true → IsOrderly (effect p (entry.Step h)).next
unfolding effect executed
keeps-Step p h o e =
    let s = p.machine in
    let kept = executed_kept s h.0 in
    let faults = executed-faults s h.0 (step-right p h e) in
    let next = (effect p (entry.Step h)).next in
    record {
      limits = kept.debugger o.limits;
      text = text-kept s.seen.memory (executed s h.0).seen.memory kept.segments faults o.text;
      words = words-kept (memory_in p) (executed s h.0).seen.memory faults o.words;
      enabled = o.enabled;
      whole = λ none. o.whole (none-after_step h.0 p.session none);
      seated = seated-after_step (hart_count (executed s h.0)) h.0 p.session (subst (λ n. IsSeated n p.session) (sym kept.harts) o.seated);
      step = step-after_step h.0 p.session p.step o.step;
      session = session-after_step h.0 p.session p next refl refl o.session;
      calls = o.calls ∙ sym kept.harts;
    }

-- Entries that change the machine's contexts, calls or ending alone.

session-same : (session : Option Sitting) (p next : PlantedMachine) → next.machine.opened ≡ p.machine.opened → planted_of next ≡ planted_of p → SessionFits session p → SessionFits session next
session-same None p next opened planted fits = tt
session-same (Some s) p next opened planted fits = (opened ∙ fits.0, subst (PlacesFitStage s.stage) (sym planted) fits.1)

keeps-Intr : (p : PlantedMachine) (h : Hart) → IsOrderly p → IsOrderly (effect p (entry.Intr h)).next
unfolding effect
keeps-Intr p h o =
    let kept = interrupted_kept p.machine h.0 in
    record {
      limits = kept.debugger o.limits;
      text = o.text;
      words = o.words;
      enabled = o.enabled;
      whole = o.whole;
      seated = subst (λ n. IsSeated n p.session) (sym kept.harts) o.seated;
      step = o.step;
      session = session-same p.session p _ refl refl o.session;
      calls = o.calls ∙ sym kept.harts;
    }

with_calls : (p : PlantedMachine) (calls : List Bool) (ending : Option Ending) → length calls ≡ length p.calls → IsOrderly p → IsOrderly (record p { calls = calls; ending = ending })
with_calls p calls ending count o = record {
  limits = o.limits;
  text = o.text;
  words = o.words;
  enabled = o.enabled;
  whole = o.whole;
  seated = o.seated;
  step = o.step;
  session = session-same p.session p _ refl refl o.session;
  calls = count ∙ o.calls;
}

keeps-call : (p : PlantedMachine) (h : ℕ) (b : Bool) → IsOrderly p → IsOrderly (record p { calls = slice_set p.calls h b })
keeps-call p h b o = with_calls p (slice_set p.calls h b) p.ending (length-set p.calls h b) o

-- Openings.

fits-nothing : (session : Option Sitting) (x : Sitting) → session ≡ Some x → session ≡ None → ⊥
fits-nothing session x e f = let g : Some x ≡ None = sym e ∙ f in cc

keeps-Open : (p : PlantedMachine) (m : Hart) (late : ℕ) → IsOrderly p → may p (entry.Open m late) ≡ true → IsOrderly (effect p (entry.Open m late)).next
unfolding effect
keeps-Open p m late o e =
    let x = open-opened p m late e in
    let kept = entered_kept p.machine m.0 in
    let next = (opened_for p m late (Some x.why)).next in
    let there = and_true (is_hart p.machine m.0) _ x.sits in
    let few = and_true (nat_lt late (2 ^ hart_count p.machine)) _ there.1 in
    subst (λ reason. IsOrderly (opened_for p m late reason).next) (sym x.reason) (record {
      limits = kept.debugger o.limits;
      text = o.text;
      words = o.words;
      enabled = o.enabled;
      whole = λ none. absurd (fits-nothing next.session _ refl none);
      seated = record { master = ltb-true _ _ there.0; late_ones = ltb-true _ _ few.0; on_time = not_is (has_bit late m.0) few.1 };
      step = x.bare o.step;
      session = (refl, tt);
      calls = o.calls;
    })

-- Lines.

after_line-step : (g : Stage) (step : Option ℕ) → step ≡ None → StepFitsStage g step
after_line-step stage.Lines step none = none
after_line-step (stage.Pass again) step none = tt
after_line-step stage.Back step none = tt
after_line-step stage.Leaving step none = tt

after_line-places : (g : Stage) (planted : ℕ) → planted ≡ 0 → PlacesFitStage g planted
after_line-places stage.Lines planted none = tt
after_line-places (stage.Pass again) planted none = none
after_line-places stage.Back planted none = none
after_line-places stage.Leaving planted none = tt

line-opened : (m : Hart) (late : ℕ) (line : List ℕ) (rest : List (List ℕ)) (s : Machine) → (line_effect m late line (with_read s rest)).machine.opened ≡ s.opened
unfolding line_effect
line-opened m late line rest s = refl

line-faults : (m : Hart) (late : ℕ) (line : List ℕ) (rest : List (List ℕ)) (s : Machine) (access : Access) (at size : ℕ) → access_fault (line_effect m late line (with_read s rest)).machine.seen.memory access at size ≡ access_fault s.seen.memory access at size
unfolding line_effect
line-faults m late line rest s access at size = line_keeps_faults _ m.0 line s.seen access at size

keeps-line : (p : PlantedMachine) (s : Sitting) (line : List ℕ) (rest : List (List ℕ)) → IsOrderly p → p.session ≡ Some s → s.stage ≡ stage.Lines → planted_of p ≡ 0 → p.machine.unread ≡ line ∷ rest →
    IsOrderly (line_made p s (line_effect s.master s.late line (with_read p.machine rest))).next
keeps-line p s line rest o is lines none unread =
    let c = line_effect s.master s.late line (with_read p.machine rest) in
    let kept = line_kept s.master s.late line rest p.machine unread in
    let faults = line-faults s.master s.late line rest p.machine in
    let seated : IsSitting (hart_count p.machine) s.master s.late = subst (IsSeated (hart_count p.machine)) is o.seated in
    let seat : IsSitting (hart_count c.machine) s.master s.late = subst (λ n. IsSitting n s.master s.late) (sym kept.harts) seated in
    let bare : p.step ≡ None = subst (λ g. StepFitsStage g p.step) lines (subst (λ session. StepFits session p.step) is o.step) in
    let opened = (subst (λ session. SessionFits session p) is o.session).0 in
    record {
      limits = kept.debugger o.limits;
      text = text-kept p.machine.seen.memory c.machine.seen.memory kept.segments faults o.text;
      words = words-kept (memory_in p) c.machine.seen.memory faults o.words;
      enabled = λ i addr e. absurd (nothing i addr e);
      whole = λ empty. absurd (fits-nothing (Some (record s { stage = stage_after c.left })) _ refl empty);
      seated = record { master = seat.master; late_ones = seat.late_ones; on_time = seat.on_time };
      step = after_line-step (stage_after c.left) p.step bare;
      session = (line-opened s.master s.late line rest p.machine ∙ opened, after_line-places (stage_after c.left) (planted_of p) none);
      calls = o.calls ∙ sym kept.harts;
    }
  where
    nothing : (i addr : ℕ) → planted_at p i ≡ Some addr → ⊥
    nothing i addr e = let f : None ≡ Some addr = sym (none_planted p.places PLACES i o.words.places none) ∙ e in cc

keeps-Line : (p : PlantedMachine) (h : Hart) → IsOrderly p → may p (entry.Line h) ≡ true → IsOrderly (effect p (entry.Line h)).next
unfolding effect may
keeps-Line p h o e =
    let b = and_true _ _ e in
    let c = and_true (planted_of p == 0) _ b.1 in
    let r = reads_line p h.0 b.0 c.1 in
    subst (λ (d : Made). IsOrderly d.next) (sym r.made) (keeps-line p r.sitting r.line r.rest o r.is r.lines (eqb-true (planted_of p) 0 c.0) r.unread)

-- What is planted and pulled.

keeps-Pull : (p : PlantedMachine) (i : ℕ) → IsOrderly p → may p (entry.Pull i) ≡ true → IsOrderly (effect p (entry.Pull i)).next
unfolding effect may
keeps-Pull p i o e =
    let found = in_session-open (λ s. is_lines s.stage) p.session (and_true _ _ e).0 in
    let s = found.sitting in
    let next = record p { places = slice_set p.places i None } in
    let opened = (subst (λ session. SessionFits session p) found.is o.session).0 in
    record {
      limits = o.limits;
      text = o.text;
      words = keep_planted.pull (memory_in p) i o.words;
      enabled = λ j addr f. by_case j addr (set-cases p.places i j None addr f);
      whole = λ none. absurd (fits-nothing p.session s found.is none);
      seated = o.seated;
      step = o.step;
      session = subst (λ session. SessionFits session next) (sym found.is) (opened, subst (λ g. PlacesFitStage g (planted_of next)) (sym (is_lines-Lines s.stage found.passes)) tt);
      calls = o.calls;
    }
  where
    by_case : (j addr : ℕ) → (None ≡ Some addr × (j ≡ i)) ⊎ (slice_index_or p.places j None ≡ Some addr) → enabled_at p j ≡ Some addr
    by_case j addr (inl (f, same)) = absurd (cc)
    by_case j addr (inr f) = o.enabled j addr f

record IsWanted (s : Machine) (h addr : ℕ) : Type 0 where
  text : is_text_word s.seen.memory addr ≡ true

wanted : (s : Machine) (h addr : ℕ) → is_address addr (step_address s h) ≡ true → IsWanted s h addr
wanted s h addr e = by_next (next_pc s h) e
  where
    by_test : (b : Bool) (a : ℕ) → (b ≡ true → is_text_word s.seen.memory a ≡ true) → is_address addr (cond b (Some a) None) ≡ true → IsWanted s h addr
    by_test false a text f = absurd (false≢true f)
    by_test true a text f = let same = eqb-true a addr f in record { text = ap (is_text_word s.seen.memory) (sym same) ∙ text refl }

    by_next : (next : _) → is_address addr (text_elsewhere s (context_at s h).pc next) ≡ true → IsWanted s h addr
    by_next (At a) f = by_test (is_text_word s.seen.memory a && not (eqb a (context_at s h).pc)) a (λ t. (and_true (is_text_word s.seen.memory a) _ t).0) f
    by_next Nowhere f = absurd (false≢true f)

-- with no place planted there is nothing at any address
bare-address : (p : PlantedMachine) (addr : ℕ) → length p.places ≡ PLACES → planted_of p ≡ 0 → p.step ≡ None → is_planted (memory_in p) addr ≡ false
bare-address p addr count none bare =
    ap (λ step. has_address (step ∷ p.places) addr) bare
    ∙ no_address p.places addr (λ i e. let f : None ≡ Some addr = sym (none_planted p.places PLACES i count none) ∙ e in cc)

keeps-PlantStep : (p : PlantedMachine) (addr : ℕ) → IsOrderly p → may p (entry.PlantStep addr) ≡ true → IsOrderly (effect p (entry.PlantStep addr)).next
unfolding effect may
keeps-PlantStep p addr o e =
    let b = and_true _ (is_none p.step) e in
    let test : Sitting → Bool = λ s. is_pass s.stage && is_address addr (step_address p.machine s.master.0) in
    let found = in_session-open test p.session b.0 in
    let s = found.sitting in
    let c = and_true (is_pass s.stage) _ found.passes in
    let pass = is_pass-Pass s.stage c.0 in
    let bare = is_none-None p.step b.1 in
    let fits = subst (λ session. SessionFits session p) found.is o.session in
    let none : planted_of p ≡ 0 = subst (λ g. PlacesFitStage g (planted_of p)) pass.is fits.1 in
    let text = o.text addr (wanted p.machine s.master.0 addr c.1).text in
    record {
      limits = o.limits;
      text = o.text;
      words = keep_planted.plant_step (memory_in p) addr o.words bare text (bare-address p addr o.words.places none bare);
      enabled = o.enabled;
      whole = o.whole;
      seated = o.seated;
      step = subst (λ session. StepFits session (Some addr)) (sym found.is) (subst (λ g. StepFitsStage g (Some addr)) (sym pass.is) tt);
      session = session-same p.session p _ refl refl o.session;
      calls = o.calls;
    }

step-pulled : (session : Option Sitting) → StepFits session None
step-pulled None = refl
step-pulled (Some s) = after_line-step s.stage None refl

keeps-PullStep : (p : PlantedMachine) → IsOrderly p → IsOrderly (effect p entry.PullStep).next
unfolding effect
keeps-PullStep p o = record {
  limits = o.limits;
  text = o.text;
  words = keep_planted.pull_step (memory_in p) o.words;
  enabled = o.enabled;
  whole = o.whole;
  seated = o.seated;
  step = step-pulled p.session;
  session = session-same p.session p _ refl refl o.session;
  calls = o.calls;
}

-- the place that is enabled at an address
record IsSet (p : PlantedMachine) (i addr : ℕ) : Type 0 where
  place : Place
  is : place_at p.machine.seen.places i ≡ Some place
  here : place.addr ≡ addr

set-at : (p : PlantedMachine) (i addr : ℕ) → enabled_at p i ≡ Some addr → IsSet p i addr
set-at p i addr e = by_place (place_at p.machine.seen.places i) refl e
  where
    by_enabled : (place : Place) → place_at p.machine.seen.places i ≡ Some place → (b : Bool) → cond b (Some place.addr) None ≡ Some addr → IsSet p i addr
    by_enabled place f true g = record { place = place; is = f; here = cc }
    by_enabled place f false g = absurd (cc)

    by_place : (o : Option Place) → place_at p.machine.seen.places i ≡ o → enabled_address o ≡ Some addr → IsSet p i addr
    by_place None f g = absurd (cc)
    by_place (Some place) f g = by_enabled place f place.enabled g

keeps-Plant : (p : PlantedMachine) (i : ℕ) → IsOrderly p → may p (entry.Plant i) ≡ true → IsOrderly (effect p (entry.Plant i)).next
unfolding effect may
keeps-Plant p i o e =
    let b = and_true _ _ e in
    let c = and_true (is_none p.step) _ b.1 in
    let d = and_true (is_some (enabled_at p i)) _ c.1 in
    let found = in_session-open (λ s. is_leaving s.stage) p.session b.0 in
    by_address found (is_none-None p.step c.0) (is_none-None (planted_at p i) d.1) (enabled_at p i) refl d.0
  where
    none≢some : (addr : ℕ) → None ≡ Some addr → ⊥
    none≢some addr f = cc

    elsewhere : (addr : ℕ) → enabled_at p i ≡ Some addr → planted_at p i ≡ None → (j : ℕ) → slice_index_or p.places j None ≡ Some addr → ⊥
    elsewhere addr here free j f =
        let x = set-at p i addr here in
        let y = set-at p j addr (o.enabled j addr f) in
        let same : i ≡ j = o.limits.breakpoints.apart i j x.place y.place x.is y.is (x.here ∙ sym y.here) in
        none≢some addr (sym free ∙ ap (planted_at p) same ∙ f)

    by_case : (addr j a : ℕ) → enabled_at p i ≡ Some addr → (Some addr ≡ Some a × (j ≡ i)) ⊎ (slice_index_or p.places j None ≡ Some a) → enabled_at p j ≡ Some a
    by_case addr j a here (inl (f, same)) = ap (enabled_at p) same ∙ here ∙ f
    by_case addr j a here (inr f) = o.enabled j a f

    by_address : IsOpen (λ s. is_leaving s.stage) p.session → p.step ≡ None → planted_at p i ≡ None → (a : Option ℕ) → enabled_at p i ≡ a → is_some a ≡ true → IsOrderly (record p { places = slice_set p.places i (enabled_at p i) })
    by_address found bare free None here f = absurd (false≢true f)
    by_address found bare free (Some addr) here f =
        let s = found.sitting in
        let next = record p { places = slice_set p.places i (Some addr) } in
        let set = set-at p i addr here in
        let text = o.text addr (ap (is_text_word p.machine.seen.memory) (sym set.here) ∙ o.limits.breakpoints.text i set.place set.is) in
        let apart : is_planted (memory_in p) addr ≡ false = ap (λ step. has_address (step ∷ p.places) addr) bare ∙ no_address p.places addr (elsewhere addr here free) in
        let fits = subst (λ session. SessionFits session p) found.is o.session in
        subst (λ x. IsOrderly (record p { places = slice_set p.places i x })) (sym here) (record {
          limits = o.limits;
          text = o.text;
          words = keep_planted.plant (memory_in p) i addr o.words text apart;
          enabled = λ j a g. by_case addr j a here (set-cases p.places i j (Some addr) a g);
          whole = λ none. absurd (fits-nothing p.session s found.is none);
          seated = o.seated;
          step = o.step;
          session = subst (λ session. SessionFits session next) (sym found.is) (fits.0, subst (λ g. PlacesFitStage g (planted_of next)) (sym (is_leaving-Leaving s.stage found.passes)) tt);
          calls = o.calls;
        })

-- Closings.

keeps-Close : (p : PlantedMachine) (h : Hart) → IsOrderly p → may p (entry.Close h) ≡ true → IsOrderly (effect p (entry.Close h)).next
unfolding effect may
keeps-Close p h o e =
    let b = and_true _ _ e in
    let c = and_true (is_none p.step) _ b.1 in
    record {
      limits = o.limits;
      text = o.text;
      words = o.words;
      enabled = o.enabled;
      whole = λ none i addr f. planted i addr (eqb-true (planted_of p) (enabled_of p) c.1) f;
      seated = tt;
      step = is_none-None p.step c.0;
      session = tt;
      calls = o.calls;
    }
  where
    same_address : (i addr : ℕ) → enabled_at p i ≡ Some addr → (a : Option ℕ) → planted_at p i ≡ a → is_some a ≡ true → a ≡ Some addr
    same_address i addr f None g h = absurd (false≢true h)
    same_address i addr f (Some x) g h = sym (o.enabled i x g) ∙ f

    within : (i addr : ℕ) → enabled_at p i ≡ Some addr → i < PLACES
    within i addr f = let set = set-at p i addr f in by_number (cases_lt i PLACES) set.place set.is
      where
        by_number : (i < PLACES) ⊎ (PLACES ≤ i) → (q : Place) → place_at p.machine.seen.places i ≡ Some q → i < PLACES
        by_number (inl lt) q g = lt
        by_number (inr ge) q g =
            let none : None ≡ Some q = sym (get_or_past p.machine.seen.places i None (let many = o.limits.places in omega arith)) ∙ g in absurd (cc)

    planted : (i addr : ℕ) → planted_of p ≡ enabled_of p → enabled_at p i ≡ Some addr → planted_at p i ≡ Some addr
    planted i addr same f =
        let lt = within i addr f in
        let there : is_some (planted_at p i) ≡ true = sym (planted-bit p.places PLACES i lt) ∙ ap (λ m. has_bit m i) same ∙ enabled-bit p.machine.seen.places PLACES i lt ∙ ap is_some f in
        same_address i addr f (planted_at p i) refl there

keeps-Off : (p : PlantedMachine) (ending : Ending) → IsOrderly p → IsOrderly (effect p (entry.Off ending)).next
unfolding effect
keeps-Off p ending o = with_calls p p.calls (Some ending) refl o

-- Entries.

effect_keeps : (p : PlantedMachine) (e : Entry) → IsOrderly p → may p e ≡ true → IsOrderly (effect p e).next
unfolding effect
effect_keeps p (entry.Step h) o e = keeps-Step p h o e
effect_keeps p (entry.Intr h) o e = keeps-Intr p h o
effect_keeps p (entry.Send h) o e = keeps-call p h.0 true o
effect_keeps p (entry.Take h) o e = keeps-call p h.0 false o
effect_keeps p (entry.Open m late) o e = keeps-Open p m late o e
effect_keeps p (entry.Pull i) o e = keeps-Pull p i o e
effect_keeps p (entry.Line h) o e = keeps-Line p h o e
effect_keeps p (entry.Plant i) o e = keeps-Plant p i o e
effect_keeps p (entry.PlantStep addr) o e = keeps-PlantStep p addr o e
effect_keeps p entry.PullStep o e = keeps-PullStep p o
effect_keeps p (entry.Close h) o e = keeps-Close p h o e
effect_keeps p (entry.Off ending) o e = keeps-Off p ending o

pub entries_keep_order : EntriesKeepOrder
unfolding makes
entries_keep_order p e d o is =
    let t = taken (is_none p.ending && may p e) (effect p e) d is in
    subst (λ (x : Made). IsOrderly x.next) t.1 (effect_keeps p e o (and_true (is_none p.ending) (may p e) t.0).1)

-- The start.

nothing_at : {A : Type 0} (n i : ℕ) → ◌≡◌ {A = Option A} (slice_index_or (replicate n None) i None) None
nothing_at zero i = refl
nothing_at (suc n) zero = refl
nothing_at (suc n) (suc i) = nothing_at n i

no_macros : AreMacros (record { macros = []; defining = false })
no_macros = record { few = omega arith; short = tt; begun = λ e. absurd (false≢true e) }

image-text : (ps : List Part) → AreParts ps → (addr : ℕ) → is_text_word (memory_of ps) addr ≡ true → access_fault (memory_of ps) Fetch addr 4 ≡ None
image-text ps are addr e = faultless (memory_of ps) addr (is_ok-text ps addr are ∙ e)

pub starts_are_orderly : StartsAreOrderly
unfolding planted_start start_state
starts_are_orderly image symbols lines harts limit is = record {
  limits = debugger_within (start_state image symbols lines harts limit).machine.seen refl AreVariables-defaults no_macros;
  text = image-text image.parts (record { segments = is.segments; whole = is.whole });
  words = record { places = length-replicate {A = Option ℕ} PLACES None; text = tt; distinct = tt };
  enabled = λ i addr e. absurd (none≢some addr (sym (nothing_at PLACES i) ∙ e));
  whole = λ none i addr e. absurd (none≢some addr (sym (ap enabled_address (nothing_at PLACES i)) ∙ e));
  seated = tt;
  step = refl;
  session = tt;
  calls = length-replicate {A = Bool} harts false ∙ sym (length-map-range_with_len (first_context image) 0 harts);
}
  where
    none≢some : (addr : ℕ) → None ≡ Some addr → ⊥
    none≢some addr e = cc
