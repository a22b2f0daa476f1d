-- The ending among the entries of a legal list is the one that stands after them.
use Rattle.std.proofs.Common.{◌≡◌, ℕ, ◌&&◌, Bool, true, false, List, [], ◌∷◌, ◌++◌, Option, Some, None, is_none, refl, sym, ap, ◌∙◌, subst, if◌then◌else◌}
use Rattle.std.specs.Prelude.{option_map}
use Rattle.mach_base.specs.declared.event.Ending.{Ending}
use Rattle.mach_base.specs.declared.event.Hart.{Hart}
use Rattle.mach_base.specs.declared.event.Reason.{Reason}
use Rattle.mach_base.specs.declared.event.Entry.{Entry}
use Rattle.mach_base.specs.declared.event.Entry.TheVariants.{Step, Intr, Send, Take, Open, Pull, Line, Plant, PlantStep, PullStep, Close, Off}
use Rattle.deck_core.specs.declared.plain.notes.Sitting.{Sitting}
use Rattle.plant_mach.specs.Machine.{PlantedMachine}
use Rattle.plant_mach.specs.Entries.{Made, makes, may, effect, made_by, then_made, prefixed, opened_for, read_in}
use Rattle.plant_mach.specs.Laws.{NeverLegal}
use Rattle.kdbsim_runs.specs.Record.{ending_entry, ending_in, first_of}

-- what an entry leaves standing: its own ending, or what stood
opened_ending : (p : PlantedMachine) (m : Hart) (late : ℕ) (why : Option Reason) → (opened_for p m late why).next.ending ≡ p.ending
opened_ending p m late None = refl
opened_ending p m late (Some why) = refl

read_ending : (p : PlantedMachine) (session : Option Sitting) (unread : List (List ℕ)) → (read_in session unread p).next.ending ≡ p.ending
read_ending p None unread = refl
read_ending p (Some s) [] = refl
read_ending p (Some s) (line ∷ rest) = refl

effect_ending : (p : PlantedMachine) (e : Entry) → (effect p e).next.ending ≡ first_of (ending_entry e) p.ending
unfolding effect
effect_ending p (Step h) = refl
effect_ending p (Intr h) = refl
effect_ending p (Send h) = refl
effect_ending p (Take h) = refl
effect_ending p (Open m late) = opened_ending p m late _
effect_ending p (Pull i) = refl
effect_ending p (Line h) = read_ending p p.session p.machine.unread
effect_ending p (Plant i) = refl
effect_ending p (PlantStep a) = refl
effect_ending p PullStep = refl
effect_ending p (Close h) = refl
effect_ending p (Off ending) = refl

none_some : {A : Type 0} (x : A) → None ≡ Some x → ⊥
none_some x e = cc

some_is : {A : Type 0} (x y : A) → Some x ≡ Some y → x ≡ y
some_is x y e = cc

taken : (b : Bool) (p : PlantedMachine) (e : Entry) (d : Made) → (if b then Some (effect p e) else None) ≡ Some d → effect p e ≡ d
taken true p e d is = some_is (effect p e) d is
taken false p e d is = absurd (none_some d is)

-- a legal entry leaves this
made_ending : (p : PlantedMachine) (e : Entry) (d : Made) → makes p e ≡ Some d → d.next.ending ≡ first_of (ending_entry e) p.ending
unfolding makes
made_ending p e d is = sym (ap (λ (x : Made). x.next.ending) (taken (is_none p.ending && may p e) p e d is)) ∙ effect_ending p e

joined : (o : Option Made) (text : List ℕ) (d : Made) → option_map (prefixed text) o ≡ Some d → (rest : Made) × (o ≡ Some rest) × (d.next ≡ rest.next)
joined None text d is = absurd (none_some d is)
joined (Some rest) text d is = (rest, refl, sym (ap (λ (x : Made). x.next) (some_is (prefixed text rest) d is)))

-- an entry of a legal list, and the others
pub record Split (p : PlantedMachine) (e : Entry) (es : List Entry) (d : Made) : Type 0 where
  pub first : Made
  pub made : makes p e ≡ Some first
  pub rest : Made
  pub others : made_by first.next es ≡ Some rest
  pub last : d.next ≡ rest.next

split_by : (p : PlantedMachine) (e : Entry) (es : List Entry) (d : Made) (o : Option Made) → makes p e ≡ o → then_made o (λ next. made_by next es) ≡ Some d → Split p e es d
split_by p e es d None is made = absurd (none_some d made)
split_by p e es d (Some first) is made =
    let j = joined (made_by first.next es) first.text d made in
    record { first = first; made = is; rest = j.0; others = j.1; last = j.2 }

pub split : (p : PlantedMachine) (e : Entry) (es : List Entry) (d : Made) → made_by p (e ∷ es) ≡ Some d → Split p e es d
unfolding made_by
split p e es d made = split_by p e es d (makes p e) refl made

empty_list : (p : PlantedMachine) (d : Made) → made_by p [] ≡ Some d → d.next ≡ p
unfolding made_by
empty_list p d made = sym (ap (λ (x : Made). x.next) (some_is (record { text = []; next = p }) d made))

-- once an ending stands no entry is legal
nothing_more : NeverLegal → (p : PlantedMachine) (ending : Ending) (es : List Entry) (d : Made) → p.ending ≡ Some ending → made_by p es ≡ Some d → (es ≡ []) × (d.next ≡ p)
nothing_more never p ending [] d over made = (refl, empty_list p d made)
nothing_more never p ending (e ∷ es) d over made =
    let s = split p e es d made in
    absurd (none_some s.first (sym (never.after_the_end p e ending over) ∙ s.made))

by_entry : NeverLegal → (e : Entry) (es : List Entry) (q : PlantedMachine) (d : Made) (o : Option Ending) → q.ending ≡ first_of o None → made_by q es ≡ Some d → (q.ending ≡ None → d.next.ending ≡ ending_in es) → d.next.ending ≡ first_of o (ending_in es)
by_entry never e es q d None is made rest = rest is
by_entry never e es q d (Some ending) is made rest = ap (λ (x : PlantedMachine). x.ending) (nothing_more never q ending es d is made).1 ∙ is

pub ending_of_list : NeverLegal → (p : PlantedMachine) (es : List Entry) (d : Made) → p.ending ≡ None → made_by p es ≡ Some d → d.next.ending ≡ ending_in es
ending_of_list never p [] d none made = ap (λ (x : PlantedMachine). x.ending) (empty_list p d made) ∙ none
ending_of_list never p (e ∷ es) d none made =
    let s = split p e es d made in
    let now : s.first.next.ending ≡ first_of (ending_entry e) None = made_ending p e s.first s.made ∙ ap (first_of (ending_entry e)) none in
    ap (λ (x : PlantedMachine). x.ending) s.last
    ∙ by_entry never e es s.first.next s.rest (ending_entry e) now s.others (λ free. ending_of_list never s.first.next es s.rest free s.others)
