-- Lists of entries, entries that are never legal, and what entries keep.
use Rattle.std.proofs.Common.{◌≡◌, ◌≢◌, ℕ, ◌≤◌, eqb, ◌&&◌, Bool, true, false, List, [], ◌∷◌, ◌++◌, append_assoc, Option, Some, None, is_none, option_map, refl, sym, ap, subst, ◌∙◌, arith}
use Rattle.std.proofs.lemmas.Bool.{false≢true, eq-eqb, ltb-true, lt-ltb}
use Rattle.mach_base.specs.declared.event.Hart.{Hart}
use Rattle.mach_base.specs.declared.event.Ending.{Ending}
use Rattle.mach_base.specs.declared.event.Ending.TheVariants.{PlanEnd}
use Rattle.mach_base.specs.declared.event.Entry.{Entry}
use Rattle.mach_base.specs.declared.event.Entry.TheVariants.{Step, Intr, Send, Take, Open, Pull, Line, Plant, PlantStep, PullStep, Close, Off}
use Rattle.hart_ctx.specs.Context.{IsUnmoved}
use Rattle.deck_core.specs.declared.plain.notes.Sitting.{Sitting}
use Rattle.deck_core.specs.contract.Allowed.{is_lines, is_leaving}
use Rattle.atom_mach.specs.State.{hart_count, context_at}
use Rattle.atom_mach.specs.Session.{is_hart}
use Rattle.atom_mach.specs.Limits.{IsKept}
use Rattle.atom_mach.proofs.Booleans.{and_true, taken, cond_false, and_first, and_second}
use Rattle.atom_mach.proofs.Frame.{IsUnmoved-same, instructions_leave, interrupts_leave}
use Rattle.atom_mach.proofs.Kept.{IsKept-same, executed_kept, interrupted_kept, entered_kept, line_kept}
use Rattle.plant_mach.specs.Machine.{PlantedMachine}
use Rattle.plant_mach.specs.Entries.{Made, can_sit, opened_for, reason_now, read_in, may, effect, makes, prefixed, then_made, made_by}
use Rattle.plant_mach.specs.Order.{IsOrderly}
use Rattle.plant_mach.specs.Laws.{ListsJoin, hart_named, NeverLegal, is_own, EntriesLeaveOthers, EntriesKeep}
use Rattle.plant_mach.proofs.Sessions.{master_there}
use Rattle.plant_mach.proofs.Executes.{step-right}

-- Lists.

prefixed-nothing : (o : Option Made) → option_map (prefixed []) o ≡ o
prefixed-nothing None = refl
prefixed-nothing (Some d) = refl

prefixed-twice : (a b : List ℕ) (o : Option Made) → option_map (prefixed a) (option_map (prefixed b) o) ≡ option_map (prefixed (a ++ b)) o
prefixed-twice a b None = refl
prefixed-twice a b (Some d) = ap (λ t. Some (record { text = t; next = d.next })) (sym (append_assoc a b d.text))

then_made-prefixed : (text : List ℕ) (o : Option Made) (rest : PlantedMachine → Option Made) → option_map (prefixed text) (then_made o rest) ≡ then_made (option_map (prefixed text) o) rest
then_made-prefixed text None rest = refl
then_made-prefixed text (Some d) rest = prefixed-twice text d.text (rest d.next)

pub lists_join : ListsJoin
unfolding made_by
lists_join p [] after = sym (prefixed-nothing (made_by p after))
lists_join p (e ∷ before) after = by_entry (makes p e) (λ next. lists_join next before after)
  where
    by_entry : (o : Option Made) → ((next : PlantedMachine) → made_by next (before ++ after) ≡ then_made (made_by next before) (λ n. made_by n after)) → then_made o (λ n. made_by n (before ++ after)) ≡ then_made (then_made o (λ n. made_by n before)) (λ n. made_by n after)
    by_entry None joined = refl
    by_entry (Some d) joined = ap (option_map (prefixed d.text)) (joined d.next) ∙ then_made-prefixed d.text (made_by d.next before) (λ n. made_by n after)

-- Never legal.

after_the_end : (p : PlantedMachine) (e : Entry) (ending : Ending) → p.ending ≡ Some ending → makes p e ≡ None
unfolding makes
after_the_end p e ending over = cond_false (is_none p.ending && may p e) _ _ (and_first (is_none p.ending) (may p e) (ap is_none over))

not_may : (p : PlantedMachine) (e : Entry) → may p e ≡ false → makes p e ≡ None
unfolding makes
not_may p e no_may = cond_false (is_none p.ending && may p e) _ _ (and_second (is_none p.ending) (may p e) no_may)

plan_end : (p : PlantedMachine) → makes p (Off PlanEnd) ≡ None
unfolding may
plan_end p = not_may p (Off PlanEnd) refl

-- a legal entry names a hart that is there
named : (p : PlantedMachine) (e : Entry) (h : ℕ) → IsOrderly p → hart_named e ≡ Some h → may p e ≡ true → is_hart p.machine h ≡ true
unfolding may
named p (Step k) h o is e = let same : k.0 ≡ h = cc in ap (is_hart p.machine) (sym same) ∙ (and_true (is_hart p.machine k.0) _ e).0
named p (Intr k) h o is e = let same : k.0 ≡ h = cc in ap (is_hart p.machine) (sym same) ∙ (and_true (is_hart p.machine k.0) _ e).0
named p (Send k) h o is e = let same : k.0 ≡ h = cc in ap (is_hart p.machine) (sym same) ∙ (and_true (is_hart p.machine k.0) _ e).0
named p (Take k) h o is e = let same : k.0 ≡ h = cc in ap (is_hart p.machine) (sym same) ∙ (and_true (is_hart p.machine k.0) _ e).0
named p (Open m late) h o is e =
    let same : m.0 ≡ h = cc in
    let sits = (and_true (can_sit p.machine m.0 late) _ e).0 in
    ap (is_hart p.machine) (sym same) ∙ (and_true (is_hart p.machine m.0) _ sits).0
named p (Pull i) h o is e = absurd (cc)
named p (Line k) h o is e =
    let same : k.0 ≡ h = cc in
    let there = master_there p.session (hart_count p.machine) k.0 (λ s. is_lines s.stage) o.seated (and_true _ _ e).0 in
    ap (is_hart p.machine) (sym same) ∙ lt-ltb k.0 (hart_count p.machine) there
named p (Plant i) h o is e = absurd (cc)
named p (PlantStep addr) h o is e = absurd (cc)
named p PullStep h o is e = absurd (cc)
named p (Close k) h o is e =
    let same : k.0 ≡ h = cc in
    let there = master_there p.session (hart_count p.machine) k.0 (λ s. is_leaving s.stage) o.seated (and_true _ _ e).0 in
    ap (is_hart p.machine) (sym same) ∙ lt-ltb k.0 (hart_count p.machine) there
named p (Off ending) h o is e = absurd (cc)

no_hart : (p : PlantedMachine) (e : Entry) (h : ℕ) → IsOrderly p → hart_named e ≡ Some h → hart_count p.machine ≤ h → makes p e ≡ None
no_hart p e h o is past = not_may p e (by_test (may p e) refl)
  where
    by_test : (b : Bool) → may p e ≡ b → b ≡ false
    by_test false f = refl
    by_test true f = let below = ltb-true h (hart_count p.machine) (named p e h o is f) in absurd (omega arith)

pub never_legal : NeverLegal
never_legal = record { after_the_end = after_the_end; plan_end = plan_end; no_hart = no_hart }

-- What entries keep.

line-left : (session : Option Sitting) (unread : List (List ℕ)) (p : PlantedMachine) → p.machine.unread ≡ unread → IsKept p.machine (read_in session unread p).next.machine
line-left None [] p e = IsKept-same p.machine
line-left None (line ∷ rest) p e = IsKept-same p.machine
line-left (Some s) [] p e = IsKept-same p.machine
line-left (Some s) (line ∷ rest) p e = line_kept s.master s.late line rest p.machine e

opened-kept : (p : PlantedMachine) (m : Hart) (late : ℕ) (o : Option _) → IsKept p.machine (opened_for p m late o).next.machine
opened-kept p m late None = IsKept-same p.machine
opened-kept p m late (Some why) = entered_kept p.machine m.0

effect_kept : (p : PlantedMachine) (e : Entry) → IsKept p.machine (effect p e).next.machine
unfolding effect
effect_kept p (Step h) = executed_kept p.machine h.0
effect_kept p (Intr h) = interrupted_kept p.machine h.0
effect_kept p (Send h) = IsKept-same p.machine
effect_kept p (Take h) = IsKept-same p.machine
effect_kept p (Open m late) = opened-kept p m late (reason_now p m.0 late)
effect_kept p (Pull i) = IsKept-same p.machine
effect_kept p (Line h) = line-left p.session p.machine.unread p refl
effect_kept p (Plant i) = IsKept-same p.machine
effect_kept p (PlantStep addr) = IsKept-same p.machine
effect_kept p PullStep = IsKept-same p.machine
effect_kept p (Close h) = IsKept-same p.machine
effect_kept p (Off ending) = IsKept-same p.machine

pub entries_keep : EntriesKeep
unfolding makes
entries_keep p e d is =
    let t = taken (is_none p.ending && may p e) (effect p e) d is in
    subst (λ (x : Made). IsKept p.machine x.next.machine) t.1 (effect_kept p e)

-- Other harts.

other_hart : (k h : ℕ) → eqb k h ≡ false → h ≢ k
other_hart k h e same = false≢true (sym e ∙ eq-eqb k h (sym same))

unmoved : (p : PlantedMachine) (h : ℕ) → IsUnmoved (context_at p.machine h) (context_at p.machine h)
unmoved p h = IsUnmoved-same (context_at p.machine h) (context_at p.machine h) refl

opened-leaves : (p : PlantedMachine) (m : Hart) (late h : ℕ) (o : Option _) → IsUnmoved (context_at p.machine h) (context_at (opened_for p m late o).next.machine h)
opened-leaves p m late h None = unmoved p h
opened-leaves p m late h (Some why) = unmoved p h

effect_leaves : (p : PlantedMachine) (e : Entry) (h : ℕ) → may p e ≡ true → is_own e h ≡ false → IsUnmoved (context_at p.machine h) (context_at (effect p e).next.machine h)
unfolding effect
effect_leaves p (Step k) h e other = (instructions_leave p.machine k.0 h (other_hart k.0 h other) (step-right p k e)).context
effect_leaves p (Intr k) h e other = (interrupts_leave p.machine k.0 h (other_hart k.0 h other)).context
effect_leaves p (Send k) h e other = unmoved p h
effect_leaves p (Take k) h e other = unmoved p h
effect_leaves p (Open m late) h e other = opened-leaves p m late h (reason_now p m.0 late)
effect_leaves p (Pull i) h e other = unmoved p h
effect_leaves p (Line m) h e other = absurd (false≢true (sym other))
effect_leaves p (Plant i) h e other = unmoved p h
effect_leaves p (PlantStep addr) h e other = unmoved p h
effect_leaves p PullStep h e other = unmoved p h
effect_leaves p (Close k) h e other = unmoved p h
effect_leaves p (Off ending) h e other = unmoved p h

pub entries_leave_others : EntriesLeaveOthers
unfolding makes
entries_leave_others p e d h is other =
    let t = taken (is_none p.ending && may p e) (effect p e) d is in
    subst (λ (x : Made). IsUnmoved (context_at p.machine h) (context_at x.next.machine h)) t.1 (effect_leaves p e h (and_true (is_none p.ending) (may p e) t.0).1 other)
