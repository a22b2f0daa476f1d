-- Programs side by side on the pure deck.
use Rattle.std.proofs.Common.{◌≡◌, ℕ, suc, ◌+◌, ◌<◌, ◌≤◌, ◌&&◌, Bool, true, false, List, [], ◌∷◌, ◌++◌, length, get_or, set, drop, Option, Some, None, refl, sym, ◌∙◌, ap, subst, inl, inr, arith, if◌then◌else◌, length-append}
use Rattle.std.proofs.lemmas.Bool.{cases_eq, cases_lt, cases_Bool, both_ways, cond-true, cond-false}
use Rattle.std.proofs.lemmas.List.{get_or-set_same, get_or-set_other, get_or_append_left, length-set}
use Rattle.std.proofs.Math.Seq.{get_or-append_seam}
use Rattle.mach_base.specs.declared.event.Hart.{Hart}
use Rattle.deck_core.specs.contract.Told.{Told}
use Rattle.deck_core.specs.contract.Calls.{HonestCall}
use Rattle.deck_core.specs.ticks.Configuration.{Configuration, opening}
use Rattle.deck_core.specs.ticks.Phases.{holds}
use Rattle.deck_core.specs.ticks.NextPhase.{is_transaction, act_of}
use Rattle.deck_core.specs.ticks.Tick.{tick, Ticks, makes_call}
use Rattle.deck_core.specs.ticks.Run.{TickWith, BusMoves, BusTicks, RunsWith}
use Rattle.deck_core.specs.decks.Seat.{Seat, seat_of}
use Rattle.deck_core.specs.declared.plain.phase.Phase.TheVariants as phase
use Rattle.deck_core.specs.declared.plain.phase.Place.TheVariants as place
use Rattle.deck_core.specs.declared.plain.act.Act.{Act}
use Rattle.deck_core.specs.declared.plain.act.Answer.{Answer}
use Rattle.deck_core.proofs.Steps.{tick_moves, quiet_tick}
use Rattle.deck_core.proofs.Late.{limit_stays, harts_stay}
use Rattle.hart_prog.specs.Program.{Stands, IsNew, is_at, calls_now, WholeTicksWith, Advances}
use Rattle.hart_prog.specs.Plan.{hart_numbers, AllBelow, ProgramsStand, AllStand, WholeRuns}
use Rattle.hart_prog.specs.declared.progress.Progress.{Progress}
use Rattle.hart_prog.specs.declared.prog.Prog.{Prog}

-- ---- new programs

-- so many programs were made
pub record ProgramsMade (n harts limit : ℕ) (progs : List Prog) : Type 0 where
  pub made : length progs ≡ n
  pub each : (k : ℕ) (other : Prog) → k < length progs → IsNew k harts limit (get_or progs k other)

pub none_made : (harts limit : ℕ) → ProgramsMade 0 harts limit []
none_made harts limit = record { made = refl; each = λ k other lt. absurd (omega (arith, lt)) }

pub one_more : (n harts limit : ℕ) (progs : List Prog) (prog : Prog) → ProgramsMade n harts limit progs → IsNew n harts limit prog → ProgramsMade (n + 1) harts limit (progs ++ (prog ∷ []))
one_more n harts limit progs prog m new = record {
  made = length-append progs (prog ∷ []) ∙ ap (λ x. x + 1) m.made;
  each = λ k other lt. elim (cases_lt k (length progs)) [
    | inl before ↦ subst (IsNew k harts limit) (sym (get_or_append_left progs (prog ∷ []) other k before)) (m.each k other before)
    | inr last ↦
        let more : length (progs ++ (prog ∷ [])) ≡ length progs + 1 = length-append progs (prog ∷ []) in
        let at : k ≡ length progs = omega (arith, more, lt, last) in
        let same : get_or (progs ++ (prog ∷ [])) k other ≡ prog = ap (λ j. get_or (progs ++ (prog ∷ [])) j other) at ∙ get_or-append_seam progs prog [] other in
        subst (IsNew k harts limit) (sym same) (subst (λ j. IsNew j harts limit prog) (sym (at ∙ m.made)) new)
  ];
}

pub all_made : (harts limit : ℕ) (progs : List Prog) (told : Told) → ProgramsMade harts harts limit progs → told.harts ≡ harts → ProgramsStand (opening limit told) progs
all_made harts limit progs told m e = record {
  each = e ∙ sym m.made;
  stand = λ k other lt.
      let new : IsNew k harts limit (get_or progs k other) = m.each k other lt in
      record {
        hart = new.hart;
        harts = new.of_harts ∙ sym e;
        limit = new.of_limit;
        phase = new.phase;
        place = ap (λ a. is_at a place.Peek) new.place;
      };
}

-- ---- one tick among several harts

some_same : (c d : Configuration) → Some c ≡ Some d → c ≡ d
some_same c d e = cc

-- the program of hart h stands where the deck is, once that hart is selected
pub selected_stands : (c c2 : Configuration) (progs : List Prog) (h k : ℕ) (idle : Bool) (other : Prog) → ProgramsStand c progs → Some c2 ≡ Some c → k ≡ h → h < length progs → Stands (get_or progs h other) (seat_of k idle c2)
selected_stands c c2 progs h k idle other p e same lt =
    let s : Stands (get_or progs h other) (seat_of h false c) = p.stand h other lt in
    let s2 : Stands (get_or progs h other) (seat_of k false c2) =
    subst (λ j. Stands (get_or progs h other) (seat_of j false c2)) (sym same) (subst (λ x. Stands (get_or progs h other) (seat_of h false x)) (sym (some_same c2 c e)) s) in
    record { hart = s2.hart; harts = s2.harts; limit = s2.limit; phase = s2.phase; place = s2.place }

-- a tick with this answer is a tick
pub is_tick : (h : ℕ) (c next : Configuration) (a : Answer) (b : Told) → TickWith h c a b next → Ticks h c next
is_tick h c next a b t = record { answer = a; after = b; honest = t.honest; ticked = t.ticked }

-- the others' programs stand where they did, and the hart's own where it is now
pub still_stand : (c next : Configuration) (progs : List Prog) (h : ℕ) (prog : Prog) (idle : Bool) → ProgramsStand c progs → h < length progs → Ticks h c next → Stands prog (seat_of h idle next) → ProgramsStand next (set progs h prog)
still_stand c next progs h prog idle p lt t s =
    let m = tick_moves c h t.answer t.after in
    let harts : next.told.harts ≡ c.told.harts = harts_stay c next h t in
    let limit : next.limit ≡ c.limit = limit_stays c next h t in
    record {
      each = harts ∙ (p.each ∙ sym (length-set progs h prog));
      stand = λ k other below. elim (cases_eq k h) [
        | inl same ↦
            subst (λ x. Stands x (seat_of k false next)) (sym (ap (λ j. get_or (set progs h prog) j other) same ∙ get_or-set_same progs h prog other lt))
            (subst (λ j. Stands prog (seat_of j false next)) (sym same) (record { hart = s.hart; harts = s.harts; limit = s.limit; phase = s.phase; place = s.place }))
        | inr ne ↦
            let o : Stands (get_or progs k other) (seat_of k false c) = p.stand k other (subst (λ n. k < n) (length-set progs h prog) below) in
            let stays : next.phase k ≡ c.phase k = ap (λ n. n.phase k) t.ticked ∙ m.1.phases.others k ne in
            let places : next.place k ≡ c.place k = ap (λ n. n.place k) t.ticked ∙ m.1.places.others k ne in
            subst (λ x. Stands x (seat_of k false next)) (sym (get_or-set_other progs h k prog other ne)) (record {
              hart = o.hart;
              harts = o.harts ∙ sym harts;
              limit = o.limit ∙ sym limit;
              phase = o.phase ∙ sym stays;
              place = ap (is_at (get_or progs k other).at) places ∙ o.place;
            })
      ];
    }

-- a tick's bus tells what the configuration then has
pub told_now : (h : ℕ) (c next : Configuration) (a : Answer) (b now : Told) → TickWith h c a b next → next.told ≡ now → TickWith h c a now next
told_now h c next a b now t e =
    let tells : next.told ≡ (if makes_call h c then b else c.told) = ap (λ n. n.told) t.ticked ∙ (tick_moves c h a b).1.tells in
    elim (cases_Bool (makes_call h c)) [
      | inl made ↦
          let same : b ≡ now = sym (tells ∙ cond-true (makes_call h c) b c.told made) ∙ e in
          subst (λ x. TickWith h c a x next) same t
      | inr none ↦ record {
        honest = λ m. absurd (both_ways (makes_call h c) none m);
        ticked = t.ticked ∙ quiet_tick h a a b now c none;
      }
    ]

-- ---- a tick and a run on the pure deck: c and b before, c2 after the selection of the hart, next and after at the end
pub one_runs : {B : Type 0} (told : B → Told) (does : Act → B → Answer → B → Type 0) (c c2 next : Configuration) (b b2 after : B) (h k k3 : ℕ) (idle now : Bool) (prog : Prog) (made : Progress) → h < c.told.harts → Some c2 ≡ Some c → b2 ≡ b → k ≡ h → next.told ≡ told after → Advances does prog (seat_of k idle c2) (seat_of k3 now next) b2 after (Some c2) (Some next) made → RunsWith told does (h ∷ []) c b next after
one_runs told does c c2 next b b2 after h k k3 idle now prog made lt e f same tells v =
    let t : TickWith k c2 v.answer v.ticks.0 v.ticks.1.0 = v.ticks.1.1.1 in
    let is_next : v.ticks.1.0 ≡ next = some_same v.ticks.1.0 next (sym v.ticks.1.1.0) in
    let t2 : TickWith h c v.answer v.ticks.0 next =
    subst (λ j. TickWith j c v.answer v.ticks.0 next) same
    (subst (λ x. TickWith k x v.answer v.ticks.0 next) (some_same c2 c e) (subst (λ x. TickWith k c2 v.answer v.ticks.0 x) is_next t)) in
    let m : BusMoves does (makes_call h c) (act_of h (c.phase h)) b v.answer after =
    subst (λ x. BusMoves does (makes_call h c) (act_of h (c.phase h)) x v.answer after) f
    (subst (λ j. BusMoves does (makes_call j c) (act_of j (c.phase j)) b2 v.answer after) same
    (subst (λ x. BusMoves does (makes_call k x) (act_of k (x.phase k)) b2 v.answer after) (some_same c2 c e) v.bus)) in
    (lt, (next, (after, ((v.answer, (told_now h c next v.answer v.ticks.0 (told after) t2 tells, m)), (refl, refl)))))

-- and the programs stand
pub advanced_stand : {B : Type 0} (does : Act → B → Answer → B → Type 0) (c c2 next : Configuration) (b2 after : B) (progs : List Prog) (h k k3 : ℕ) (idle now : Bool) (prog : Prog) (made : Progress) → ProgramsStand c progs → Some c2 ≡ Some c → k ≡ h → h < length progs → Advances does prog (seat_of k idle c2) (seat_of k3 now next) b2 after (Some c2) (Some next) made → ProgramsStand next (set progs h prog)
advanced_stand does c c2 next b2 after progs h k k3 idle now prog made p e same lt v =
    let t : Ticks k c2 v.ticks.1.0 = is_tick k c2 v.ticks.1.0 v.answer v.ticks.0 v.ticks.1.1.1 in
    let t2 : Ticks h c next =
    subst (λ j. Ticks j c next) same
    (subst (λ x. Ticks k x next) (some_same c2 c e) (subst (λ x. Ticks k c2 x) (some_same v.ticks.1.0 next (sym v.ticks.1.1.0)) t)) in
    still_stand c next progs h prog now p lt t2 (subst (λ j. Stands prog (seat_of j now next)) (v.same.hart ∙ same) v.stands)

-- a run begins with a tick
pub runs_from : {B : Type 0} (told : B → Told) (does : Act → B → Answer → B → Type 0) (h : ℕ) (plan : List ℕ) (c mid last : Configuration) (b bmid end : B) → RunsWith told does (h ∷ []) c b mid bmid → RunsWith told does plan mid bmid last end → RunsWith told does (h ∷ plan) c b last end
runs_from told does h plan c mid last b bmid end one rest =
    let next = one.1.0 in
    let after = one.1.1.0 in
    let t = one.1.1.1.0 in
    let done = one.1.1.1.1 in
    (one.0, (next, (after, (t, subst (λ x. RunsWith told does plan x after last end) done.0 (subst (λ x. RunsWith told does plan mid x last end) done.1 rest)))))

-- ---- the loop over a plan

-- so far: the programs stand, the harts that are left are there, and what runs from here on runs from the beginning
pub record PlanRuns {B : Type 0} (told : B → Told) (does : Act → B → Answer → B → Type 0) (plan : List Hart) (i : ℕ) (first : Option Configuration) (begin : B) (whole : Option Configuration) (b : B) (progs : List Prog) : Type 0 where
  pub stand : AllStand whole progs
  pub below : AllBelow (length progs) (drop i plan)
  pub runs : (last : Option Configuration) (end : B) → WholeRuns told does (hart_numbers (drop i plan)) whole b last end → WholeRuns told does (hart_numbers plan) first begin last end

whole_from : {B : Type 0} (told : B → Told) (does : Act → B → Answer → B → Type 0) (h : ℕ) (plan : List ℕ) (whole mid last : Option Configuration) (b bmid end : B) → WholeRuns told does (h ∷ []) whole b mid bmid → WholeRuns told does plan mid bmid last end → WholeRuns told does (h ∷ plan) whole b last end
whole_from told does h plan None mid last b bmid end one rest = one
whole_from told does h plan (Some c) mid last b bmid end one rest =
    let rest2 : WholeRuns told does plan (Some one.0) bmid last end = subst (λ x. WholeRuns told does plan x bmid last end) one.1.0 rest in
    (rest2.0, (rest2.1.0, runs_from told does h plan c one.0 rest2.0 b bmid end one.1.1 rest2.1.1))

pub here_below : (n : ℕ) (plan rest : List Hart) (h : Hart) → plan ≡ h ∷ rest → AllBelow n plan → (h.0 < n) × AllBelow n rest
here_below n plan rest h e a = subst (AllBelow n) e a

pub plan_on : {B : Type 0} (told : B → Told) (does : Act → B → Answer → B → Type 0) (plan : List Hart) (i : ℕ) (h : Hart) (first whole whole2 : Option Configuration) (begin b b2 : B) (progs progs2 : List Prog) → PlanRuns told does plan i first begin whole b progs → drop i plan ≡ h ∷ drop (i + 1) plan → AllStand whole2 progs2 → length progs2 ≡ length progs → WholeRuns told does (h.0 ∷ []) whole b whole2 b2 → PlanRuns told does plan (i + 1) first begin whole2 b2 progs2
plan_on told does plan i h first whole whole2 begin b b2 progs progs2 p e stand same one = record {
  stand = stand;
  below = subst (λ n. AllBelow n (drop (i + 1) plan)) (sym same) (here_below (length progs) (drop i plan) (drop (i + 1) plan) h e p.below).1;
  runs = λ last end rest.
      p.runs last end
      (subst (λ x. WholeRuns told does (hart_numbers x) whole b last end) (sym e)
      (whole_from told does h.0 (hart_numbers (drop (i + 1) plan)) whole whole2 last b b2 end one rest));
}

pub plan_begins : {B : Type 0} (told : B → Told) (does : Act → B → Answer → B → Type 0) (plan : List Hart) (whole : Option Configuration) (b : B) (progs : List Prog) → AllStand whole progs → AllBelow (length progs) plan → PlanRuns told does plan 0 whole b whole b progs
plan_begins told does plan whole b progs s a = record { stand = s; below = a; runs = λ last end r. r }

nothing_runs : {B : Type 0} (told : B → Told) (does : Act → B → Answer → B → Type 0) (whole : Option Configuration) (b : B) (progs : List Prog) → AllStand whole progs → WholeRuns told does [] whole b whole b
nothing_runs told does None b progs s = s
nothing_runs told does (Some c) b progs s = (c, (refl, (refl, refl)))

pub plan_ends : {B : Type 0} (told : B → Told) (does : Act → B → Answer → B → Type 0) (plan : List Hart) (i : ℕ) (first whole : Option Configuration) (begin b : B) (progs : List Prog) → PlanRuns told does plan i first begin whole b progs → drop i plan ≡ [] → WholeRuns told does (hart_numbers plan) first begin whole b
plan_ends told does plan i first whole begin b progs p e =
    p.runs whole b (subst (λ x. WholeRuns told does (hart_numbers x) whole b whole b) (sym e) (nothing_runs told does whole b progs p.stand))
