-- From what a deck's call says to one advance of the program.
use Rattle.std.proofs.Common.{◌≡◌, ◌&&◌, ℕ, Bool, true, false, Option, Some, None, refl, sym, ◌∙◌, ap, subst, if◌then◌else◌}
use Rattle.std.proofs.lemmas.Bool.{both_ways, cond-true, cond-false}
use Rattle.deck_core.specs.ticks.Configuration.{Configuration}
use Rattle.deck_core.specs.ticks.Phases.{holds, is_finished}
use Rattle.deck_core.specs.ticks.NextPhase.{is_transaction, act_of, after_answer}
use Rattle.deck_core.specs.ticks.Tick.{tick, tick_in, makes_call}
use Rattle.deck_core.specs.ticks.Run.{BusMoves}
use Rattle.deck_core.specs.decks.Seat.{Seat, Agrees, Found, WholeTicks, WholeGives, in_phase, at_place, after_its_call, is_answer_of, seen_at}
use Rattle.deck_core.specs.declared.plain.phase.Phase.{Phase}
use Rattle.deck_core.specs.declared.plain.phase.Phase.TheVariants as phase
use Rattle.deck_core.specs.declared.plain.phase.Place.{Place}
use Rattle.deck_core.specs.declared.plain.phase.Place.TheVariants as place
use Rattle.deck_core.specs.declared.plain.act.Act.{Act}
use Rattle.deck_core.specs.declared.plain.act.Answer.{Answer}
use Rattle.deck_core.specs.declared.plain.act.Answer.TheVariants as answer
use Rattle.deck_core.proofs.Steps.{quiet_tick}
use Rattle.hart_prog.specs.Progress.{finds_turn, finds_word, finds, answered, turn_progress, word_progress, progress_of, is_done}
use Rattle.hart_prog.specs.Program.{is_at, Stands, SameNumbers, calls_now, Moves, WholeTicksWith, Advances}
use Rattle.hart_prog.specs.declared.progress.At.{At}
use Rattle.hart_prog.specs.declared.progress.At.TheVariants as at
use Rattle.hart_prog.specs.declared.progress.Progress.{Progress}
use Rattle.hart_prog.specs.declared.progress.Progress.TheVariants as progress
use Rattle.hart_prog.specs.declared.prog.Prog.{Prog}
use Rattle.hart_prog.proofs.Seats.{peek_is, take_is, give_is, transaction_unfinished, word_undone, give_done}

-- a tick without a call, in the whole configuration
whole_quiet : (seat : Seat) (whole after : Option Configuration) → Agrees seat whole → calls_now seat ≡ false → WholeTicks seat.hart whole after → WholeTicksWith seat.hart answer.Send whole after
whole_quiet seat None after a n t = t
whole_quiet seat (Some c) after a n t =
    let no = ap calls_now (sym a) ∙ n in (
      c.told,
      (
        t.0,
        (
          t.1.0,
          record {
            honest = λ m. absurd (both_ways _ no m);
            ticked = t.1.1.ticked ∙ quiet_tick seat.hart t.1.1.answer answer.Send t.1.1.after c.told c no;
          },
        ),
      ),
    )

-- what is found, and the progress, in a transaction and in another phase
saw_turn : (seat : Seat) (found : Bool) (whole : Option Configuration) → is_transaction seat.phase ≡ true → Found found (finds_turn seat seat.place) whole → Found found (finds seat) whole
saw_turn seat found None t f = tt
saw_turn seat found (Some c) t f = f ∙ sym (cond-true (is_transaction seat.phase) (finds_turn seat seat.place c) (finds_word seat.phase c) t)

saw_word : (seat : Seat) (found : Bool) (whole : Option Configuration) → is_transaction seat.phase ≡ false → Found found (finds_word seat.phase) whole → Found found (finds seat) whole
saw_word seat found None t f = tt
saw_word seat found (Some c) t f = f ∙ sym (cond-false (is_transaction seat.phase) (finds_turn seat seat.place c) (finds_word seat.phase c) t)

pub found_true : (whole : Option Configuration) → Found true (λ c. true) whole
found_true None = tt
found_true (Some c) = refl

-- the program goes on where the hart's own phase and place are these
pub record Goes (prog next : Prog) (p : Phase) (a : At) : Type 0 where
  pub hart : next.hart.0 ≡ prog.hart.0
  pub harts : next.harts ≡ prog.harts
  pub limit : next.limit ≡ prog.limit
  pub phase : next.phase ≡ p
  pub place : next.at ≡ a

stands_after : (prog next : Prog) (before after : Seat) (p : Phase) (a : At) → Stands prog before → Goes prog next p a → SameNumbers before after → after.phase ≡ p → is_at a after.place ≡ true → Stands next after
stands_after prog next before after p a s g n e t = record {
  hart = g.hart ∙ (s.hart ∙ sym n.hart);
  harts = g.harts ∙ (s.harts ∙ sym n.harts);
  limit = g.limit ∙ (s.limit ∙ sym n.limit);
  phase = g.phase ∙ sym e;
  place = ap (λ x. is_at x after.place) g.place ∙ t;
}

-- an advance in a phase that makes no call
pub step_advances : {B : Type 0} (does : Act → B → Answer → B → Type 0) (prog next : Prog) (before after : Seat) (here there : B) (whole whole_after : Option Configuration) (p : Phase) (found : Bool) (made : Progress) → Stands prog before → Agrees before whole → is_transaction prog.phase ≡ false → is_finished prog.phase ≡ false → Moves prog before after here there whole whole_after p found → is_finished p ≡ false → Goes prog next p prog.at → made ≡ word_progress prog.phase found → Advances does next before after here there whole whole_after made
step_advances does prog next before after here there whole whole_after p found made s a quiet unfinished m goes_on g e =
    let t : is_transaction before.phase ≡ false = ap is_transaction (sym s.phase) ∙ quiet in
    let no : calls_now before ≡ false = ap (λ b. b && holds before.place) t in
    let numbers : SameNumbers before after = record { hart = ap (λ x. x.hart) m.seat; harts = ap (λ x. x.harts) m.seat; limit = ap (λ x. x.limit) m.seat } in
    let says : made ≡ word_progress before.phase found = e ∙ ap (λ q. word_progress q found) s.phase in
    record {
      answer = answer.Send;
      found = found;
      stands = stands_after prog next before after p prog.at s g numbers (ap (λ x. x.phase) m.seat) (ap (λ x. is_at prog.at x.place) m.seat ∙ s.place);
      same = numbers;
      ticks = whole_quiet before whole whole_after a no m.ticks;
      bus = subst (λ b. BusMoves does b (act_of before.hart before.phase) here answer.Send there) (sym no) m.bus;
      saw = saw_word before found whole t m.saw;
      says = says ∙ sym (cond-false (is_transaction before.phase) (turn_progress before.place found answer.Send) (word_progress before.phase found) t);
      done = (ap is_done e ∙ word_undone prog.phase found unfinished) ∙ sym (ap (λ x. is_finished x.phase) m.seat ∙ goes_on);
    }

-- an advance before the call of a transaction
pub turn_advances : {B : Type 0} (does : Act → B → Answer → B → Type 0) (prog next : Prog) (before after : Seat) (here there : B) (whole whole_after : Option Configuration) (at_next : At) (to : Place) (found : Bool) (made : Progress) → Stands prog before → Agrees before whole → is_transaction prog.phase ≡ true → holds before.place ≡ false → Goes prog next prog.phase at_next → after ≡ record before { place = to; idle = false } → is_at at_next to ≡ true → there ≡ here → WholeTicks before.hart whole whole_after → Found found (finds_turn before before.place) whole → made ≡ turn_progress before.place found answer.Send → is_done made ≡ false → Advances does next before after here there whole whole_after made
turn_advances does prog next before after here there whole whole_after at_next to found made s a trans free g seat fits stays ticks saw says undone =
    let t : is_transaction before.phase ≡ true = ap is_transaction (sym s.phase) ∙ trans in
    let no : calls_now before ≡ false = ap (λ b. b && holds before.place) t ∙ free in
    let numbers : SameNumbers before after = record { hart = ap (λ x. x.hart) seat; harts = ap (λ x. x.harts) seat; limit = ap (λ x. x.limit) seat } in
    let same : after.phase ≡ prog.phase = ap (λ x. x.phase) seat ∙ sym s.phase in
    record {
      answer = answer.Send;
      found = found;
      stands = stands_after prog next before after prog.phase at_next s g numbers same (ap (λ x. is_at at_next x.place) seat ∙ fits);
      same = numbers;
      ticks = whole_quiet before whole whole_after a no ticks;
      bus = subst (λ b. BusMoves does b (act_of before.hart before.phase) here answer.Send there) (sym no) stays;
      saw = saw_turn before found whole t saw;
      says = says ∙ sym (cond-true (is_transaction before.phase) (turn_progress before.place found answer.Send) (word_progress before.phase found) t);
      done = undone ∙ sym (ap is_finished same ∙ transaction_unfinished prog.phase trans);
    }

-- the call, in the whole configuration
whole_call : (h : ℕ) (a : Answer) (whole after : Option Configuration) → WholeGives h a whole after → WholeTicksWith h a whole after
whole_call h a None after t = t
whole_call h a (Some c) after t = (t.0, (tick h a t.0 c, (t.1.1, record { honest = λ m. t.1.0; ticked = refl })))

-- a load of the turn word that found it free, and one that found it busy
pub peek_advances : {B : Type 0} (does : Act → B → Answer → B → Type 0) (prog next : Prog) (before after : Seat) (here there : B) (whole whole_after : Option Configuration) (word : ℕ) → Stands prog before → Agrees before whole → is_transaction prog.phase ≡ true → prog.at ≡ at.Peek → Goes prog next prog.phase at.Take → after ≡ at_place (place.Take word) before → there ≡ here → WholeTicks before.hart whole whole_after → Found true (finds_turn before place.Peek) whole → Advances does next before after here there whole whole_after progress.Again
peek_advances does prog next before after here there whole whole_after word s a trans e g seat stays ticks saw =
    let stood : before.place ≡ place.Peek = peek_is before.place (ap (λ x. is_at x before.place) (sym e) ∙ s.place) in
    turn_advances does prog next before after here there whole whole_after at.Take (place.Take word) true progress.Again s a trans (ap holds stood) g seat refl stays ticks
    (subst (λ q. Found true (finds_turn before q) whole) (sym stood) saw) (ap (λ q. turn_progress q true answer.Send) (sym stood)) refl

pub peek_waits : {B : Type 0} (does : Act → B → Answer → B → Type 0) (prog next : Prog) (before after : Seat) (here there : B) (whole whole_after : Option Configuration) → Stands prog before → Agrees before whole → is_transaction prog.phase ≡ true → prog.at ≡ at.Peek → Goes prog next prog.phase at.Peek → after ≡ record before { idle = false } → there ≡ here → WholeTicks before.hart whole whole_after → Found false (finds_turn before place.Peek) whole → Advances does next before after here there whole whole_after progress.Waits
peek_waits does prog next before after here there whole whole_after s a trans e g seat stays ticks saw =
    let stood : before.place ≡ place.Peek = peek_is before.place (ap (λ x. is_at x before.place) (sym e) ∙ s.place) in
    turn_advances does prog next before after here there whole whole_after at.Peek before.place false progress.Waits s a trans (ap holds stood) g seat (ap (is_at at.Peek) stood) stays ticks
    (subst (λ q. Found false (finds_turn before q) whole) (sym stood) saw) (ap (λ q. turn_progress q false answer.Send) (sym stood)) refl

-- the attempt to take the turn
took : (taken : Bool) → is_at (if taken then at.Give else at.Peek) (if taken then place.Give else place.Peek) ≡ true
took true = refl
took false = refl

pub take_advances : {B : Type 0} (does : Act → B → Answer → B → Type 0) (prog next : Prog) (before after : Seat) (here there : B) (whole whole_after : Option Configuration) (taken : Bool) → Stands prog before → Agrees before whole → is_transaction prog.phase ≡ true → prog.at ≡ at.Take → Goes prog next prog.phase (if taken then at.Give else at.Peek) → after ≡ at_place (if taken then place.Give else place.Peek) before → there ≡ here → WholeTicks before.hart whole whole_after → Found taken (finds_turn before (place.Take (seen_at before.place))) whole → Advances does next before after here there whole whole_after progress.Again
take_advances does prog next before after here there whole whole_after taken s a trans e g seat stays ticks saw =
    let stood : before.place ≡ place.Take (seen_at before.place) = take_is before.place (ap (λ x. is_at x before.place) (sym e) ∙ s.place) in
    turn_advances does prog next before after here there whole whole_after (if taken then at.Give else at.Peek) (if taken then place.Give else place.Peek) taken progress.Again s a trans (ap holds stood) g seat (took taken) stays ticks
    (subst (λ q. Found taken (finds_turn before q) whole) (sym stood) saw) (ap (λ q. turn_progress q taken answer.Send) (sym stood)) refl

saw_call : (seat : Seat) (whole : Option Configuration) → seat.place ≡ place.Give → Found true (finds_turn seat seat.place) whole
saw_call seat whole e = subst (λ q. Found true (finds_turn seat q) whole) (sym e) (found_true whole)

-- an advance that makes the call
pub call_advances : {B : Type 0} (does : Act → B → Answer → B → Type 0) (prog next : Prog) (before after : Seat) (here there : B) (whole whole_after : Option Configuration) (a : Answer) (made : Progress) → Stands prog before → is_transaction prog.phase ≡ true → holds before.place ≡ true → Goes prog next (after_answer prog.harts prog.hart.0 prog.phase a) at.Peek → after ≡ after_its_call a before → does (act_of prog.hart.0 prog.phase) here a there → is_answer_of (act_of prog.hart.0 prog.phase) a ≡ true → WholeGives before.hart a whole whole_after → made ≡ answered a → Advances does next before after here there whole whole_after made
call_advances does prog next before after here there whole whole_after a made s trans held g seat did fits ticks says =
    let t : is_transaction before.phase ≡ true = ap is_transaction (sym s.phase) ∙ trans in
    let yes : calls_now before ≡ true = ap (λ b. b && holds before.place) t ∙ held in
    let numbers : SameNumbers before after = record { hart = ap (λ x. x.hart) seat; harts = ap (λ x. x.harts) seat; limit = ap (λ x. x.limit) seat } in
    let given : before.place ≡ place.Give = give_is before.place held in
    let leads : after_answer before.harts before.hart before.phase a ≡ after_answer prog.harts prog.hart.0 prog.phase a =
    ap (λ n. after_answer n before.hart before.phase a) (sym s.harts)
    ∙ (ap (λ h. after_answer prog.harts h before.phase a) (sym s.hart) ∙ ap (λ q. after_answer prog.harts prog.hart.0 q a) (sym s.phase)) in
    let same : after.phase ≡ after_answer prog.harts prog.hart.0 prog.phase a = ap (λ x. x.phase) seat ∙ leads in
    let act_same : act_of prog.hart.0 prog.phase ≡ act_of before.hart before.phase = ap (λ h. act_of h prog.phase) s.hart ∙ ap (act_of before.hart) s.phase in
    record {
      answer = a;
      found = true;
      stands = stands_after prog next before after (after_answer prog.harts prog.hart.0 prog.phase a) at.Peek s g numbers same (ap (λ x. is_at at.Peek x.place) seat);
      same = numbers;
      ticks = whole_call before.hart a whole whole_after ticks;
      bus = subst (λ b. BusMoves does b (act_of before.hart before.phase) here a there) (sym yes) (subst (λ x. does x here a there) act_same did);
      saw = saw_turn before true whole t (saw_call before whole given);
      says = says ∙ (sym (ap (λ q. turn_progress q true a) given) ∙ sym (cond-true (is_transaction before.phase) (turn_progress before.place true a) (word_progress before.phase true) t));
      done = ap is_done says ∙ (give_done prog.harts prog.hart.0 prog.phase a trans fits ∙ sym (ap is_finished same));
    }

-- a finished hart's tick
whole_finished : (seat : Seat) (whole : Option Configuration) → Agrees seat whole → seat.phase ≡ phase.Finished → WholeTicksWith seat.hart answer.Send whole whole
unfolding tick
whole_finished seat None a e = refl
whole_finished seat (Some c) a e =
    let here : c.phase seat.hart ≡ phase.Finished = sym (ap (λ s. s.phase) a) ∙ e in (
      c.told,
      (
        c,
        (
          refl,
          record {
            honest = λ m. absurd (both_ways (makes_call seat.hart c) (ap (λ q. is_transaction q && holds (c.place seat.hart)) here) m);
            ticked = sym (ap (λ q. tick_in q seat.hart answer.Send c.told c) here);
          },
        ),
      ),
    )

pub finished_advances : {B : Type 0} (does : Act → B → Answer → B → Type 0) (prog : Prog) (seat : Seat) (here : B) (whole : Option Configuration) → Stands prog seat → Agrees seat whole → prog.phase ≡ phase.Finished → Advances does prog seat seat here here whole whole progress.Finished
finished_advances does prog seat here whole s a e =
    let f : seat.phase ≡ phase.Finished = sym s.phase ∙ e in
    let quiet : is_transaction seat.phase ≡ false = ap is_transaction f in
    let no : calls_now seat ≡ false = ap (λ b. b && holds seat.place) quiet in
    record {
      answer = answer.Send;
      found = true;
      stands = s;
      same = record { hart = refl; harts = refl; limit = refl };
      ticks = whole_finished seat whole a f;
      bus = subst (λ b. BusMoves does b (act_of seat.hart seat.phase) here answer.Send here) (sym no) refl;
      saw = saw_word seat true whole quiet (subst (λ q. Found true (finds_word q) whole) (sym f) (found_true whole));
      says = sym (ap (λ q. word_progress q true) f) ∙ sym (cond-false (is_transaction seat.phase) (turn_progress seat.place true answer.Send) (word_progress seat.phase true) quiet);
      done = sym (ap is_finished f);
    }
