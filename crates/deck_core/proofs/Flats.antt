-- Ticks of the pure deck.
use Rattle.std.proofs.Common.{◌≡◌, ℕ, suc, ◌<◌, ◌==◌, Bool, true, false, not, Some, refl, sym, ◌∙◌, ap, subst, inl, inr, if◌then◌else◌}
use Rattle.std.proofs.Math.Path.{fun_ext}
use Rattle.std.proofs.Props.{props}
use Rattle.std.proofs.Math.Bool.{Bool-set}
use Rattle.std.proofs.Math.Logic.{∥∥₁_map, ∥∥₁_elim}
use Rattle.std.proofs.lemmas.Bool.{both_ways, and_parts, and_left, and_right, and_from, cases_eq, cases_Bool, cond-true, cond-false, not-true, not-false}
use Rattle.deck_core.specs.ticks.Phases.{holds}
use Rattle.deck_core.specs.contract.Told.{Told}
use Rattle.deck_core.specs.ticks.Configuration.{Configuration, put}
use Rattle.deck_core.specs.contract.Calls.{HonestCall, CallLeaves, Changes, LineLeaves, PassLeaves, sent, pulled, replanted, step_planted, step_pulled}
use Rattle.deck_core.specs.contract.Allowed.{is_allowed}
use Rattle.deck_core.specs.ticks.Tick.{tick, tick_in, Ticks, makes_call, peeks, takes, gives, transacts, writes, enters, goes, waits_at, tries_master, is_busy, mark_counts}
use Rattle.deck_core.specs.ticks.NextPhase.{is_transaction, act_of, after_answer, after_gate, CanGoOn, after_look}
use Rattle.deck_core.specs.plain.Words.{turn_word, mask_of}
use Rattle.deck_core.specs.Invariant.{Sound}
use Rattle.deck_core.specs.laws.Keeps.{GiveKeeps}
use Rattle.deck_core.specs.decks.Seat.{seat_of, WholeTicks, WholeGives, clears, sees_gate, is_peek, is_answer_of, looks_in}
use Rattle.deck_core.specs.ticks.NextPhase.{after_clear}
use Rattle.deck_core.specs.declared.plain.phase.Phase.{Phase}
use Rattle.deck_core.specs.declared.plain.phase.Phase.TheVariants as phase
use Rattle.deck_core.specs.declared.plain.phase.Place.{Place}
use Rattle.deck_core.specs.declared.plain.phase.Place.TheVariants as place
use Rattle.deck_core.specs.declared.plain.act.Answer.{Answer}
use Rattle.deck_core.specs.declared.plain.act.Answer.TheVariants as answer
use Rattle.deck_core.specs.declared.plain.phase.Looks.{Looks}
use Rattle.deck_core.specs.declared.plain.act.Act.{Act}
use Rattle.deck_core.specs.declared.plain.act.Act.TheVariants as act
use Rattle.deck_core.specs.declared.plain.act.Lined.{Lined}
use Rattle.deck_core.specs.declared.plain.act.Lined.TheVariants as lined
use Rattle.deck_core.specs.declared.plain.act.Passed.{Passed}
use Rattle.deck_core.specs.declared.plain.act.Passed.TheVariants as passed
use Rattle.deck_core.proofs.Frame.{put_same, put_other, mine}
use Rattle.deck_core.proofs.Conditions.{call_is_allowed}
use Rattle.deck_core.proofs.EveryTick.{every_tick_keeps}

-- a tick in a phase that is no transaction
pub quiet : (c next : Configuration) (h : ℕ) (p : Phase) → c.phase h ≡ p → is_transaction p ≡ false → next ≡ tick_in p h answer.Send c.told c → Ticks h c next
unfolding tick
quiet c next h p e t n = record {
  answer = answer.Send;
  after = c.told;
  honest = λ m. absurd (both_ways (makes_call h c) (and_left (is_transaction (c.phase h)) (holds (c.place h)) (ap is_transaction e ∙ t)) m);
  ticked = n ∙ ap (λ q. tick_in q h answer.Send c.told c) (sym e);
}

-- the invariant over a tick
pub sound_on : (c next : Configuration) (h : ℕ) → ∥ Sound c ∥₁ → h < c.told.harts → Ticks h c next → ∥ Sound next ∥₁
sound_on c next h s lt t = ∥∥₁_map s (λ x. every_tick_keeps c h next x lt t)

-- the whole configuration over a tick
pub whole_on : (c next : Configuration) (h : ℕ) → Ticks h c next → WholeTicks h (Some c) (Some next)
whole_on c next h t = (next, (refl, t))

-- the seat of a hart that went to another phase
pub seat_moved : (c next : Configuration) (h master gate : ℕ) (own : ℕ → ℕ) (p : Phase) (idle : Bool) → next ≡ record c { master = master; gate = gate; own = own; phase = put c.phase h p } → seat_of h false next ≡ record (seat_of h idle c) { phase = p; idle = false }
seat_moved c next h master gate own p idle e =
    ap (seat_of h false) e ∙ ap (λ q. record (seat_of h idle c) { phase = q; idle = false }) (put_same c.phase h p)

-- ---- the own word, the gate's number and the master word

-- a function put to the value that it has
pub put_again : {A : Type 0} (f : ℕ → A) (h : ℕ) (v : A) → f h ≡ v → put f h v ≡ f
put_again f h v e = fun_ext (λ k.
    elim (cases_eq k h) [
      | inl q ↦ subst (λ j. put f h v j ≡ f j) (sym q) (put_same f h v ∙ sym e)
      | inr ne ↦ put_other f h v k ne
    ])

pub clear_ticks : (c next : Configuration) (h : ℕ) (p : Phase) → c.phase h ≡ p → clears p ≡ true → next ≡ writes h 0 (after_clear p) c → Ticks h c next
clear_ticks c next h (phase.Unmark gate) e t n = quiet c next h (phase.Unmark gate) e refl n
clear_ticks c next h phase.Drop e t n = quiet c next h phase.Drop e refl n
clear_ticks c next h _ e t n = absurd (both_ways false refl t)

gate_next : (c : Configuration) (h at : ℕ) → c.phase h ≡ phase.Parked at → enters h (after_gate (phase.Parked at) c.gate) c ≡ waits_at h at c
gate_next c h at e =
    let f : Bool → Configuration = λ b. enters h (if b then phase.Parked at else phase.Unmark at) c in
    let g : Bool → Configuration = λ b. if b then c else enters h (phase.Unmark at) c in
    elim (cases_Bool (c.gate == at)) [
      | inl t ↦ subst (λ b. f b ≡ g b) (sym t) (ap (λ q. record c { phase = q }) (put_again c.phase h (phase.Parked at) e))
      | inr t ↦ subst (λ b. f b ≡ g b) (sym t) refl
    ]

pub gate_ticks : (c next : Configuration) (h : ℕ) (p : Phase) → c.phase h ≡ p → sees_gate p ≡ true → next ≡ enters h (after_gate p c.gate) c → Ticks h c next
gate_ticks c next h phase.Called e t n = quiet c next h phase.Called e refl n
gate_ticks c next h (phase.Parked at) e t n = quiet c next h (phase.Parked at) e refl (n ∙ gate_next c h at e)
gate_ticks c next h _ e t n = absurd (both_ways false refl t)

pub try_seat : (c next : Configuration) (h : ℕ) (result idle : Bool) → c.phase h ≡ phase.Want → result ≡ (c.master == 0) → next ≡ tries_master h c → seat_of h false next ≡ record (seat_of h idle c) { phase = if result then phase.Own else phase.Want; idle = false }
try_seat c next h result idle e r n =
    let won : Configuration = record c { master = suc h; phase = put c.phase h phase.Own } in
    let f : Bool → Type 0 = λ b. seat_of h false (if b then won else c) ≡ record (seat_of h idle c) { phase = if b then phase.Own else phase.Want; idle = false } in
    let step : f result =
    elim (cases_Bool result) [
      | inl t ↦ subst f (sym t) (ap (λ q. record (seat_of h idle c) { phase = q; idle = false }) (put_same c.phase h phase.Own))
      | inr t ↦ subst f (sym t) (ap (λ q. record (seat_of h idle c) { phase = q; idle = false }) e)
    ] in
    (ap (seat_of h false) (n ∙ ap (λ b. if b then won else c) (sym r))) ∙ step

-- ---- transactions

-- a tick in a transaction's phase
pub transaction_tick : (h : ℕ) (p : Phase) (a : Answer) (after : Told) (c : Configuration) → is_transaction p ≡ true → tick_in p h a after c ≡ transacts h p (c.place h) a after c
transaction_tick h phase.Run a after c t = refl
transaction_tick h phase.Own a after c t = refl
transaction_tick h (phase.Send to) a after c t = refl
transaction_tick h (phase.Enter kept reopens) a after c t = refl
transaction_tick h (phase.Pull kept left) a after c t = refl
transaction_tick h (phase.Lines kept) a after c t = refl
transaction_tick h (phase.PlantStep kept at) a after c t = refl
transaction_tick h (phase.PassStep kept planted) a after c t = refl
transaction_tick h (phase.PullStep kept follows) a after c t = refl
transaction_tick h (phase.Plant kept left) a after c t = refl
transaction_tick h (phase.Close kept) a after c t = refl
transaction_tick h _ a after c t = absurd (both_ways false refl t)

-- the tick of a hart in a transaction, by its place
pub tick_transacts : (h : ℕ) (at : Place) (a : Answer) (after : Told) (c : Configuration) → is_transaction (c.phase h) ≡ true → c.place h ≡ at → tick h a after c ≡ transacts h (c.phase h) at a after c
unfolding tick
tick_transacts h at a after c t e = transaction_tick h (c.phase h) a after c t ∙ ap (λ q. transacts h (c.phase h) q a after c) e

-- a tick that makes no call, since the hart doesn't hold the turn
pub unheld : (c next : Configuration) (h : ℕ) (at : Place) → is_transaction (c.phase h) ≡ true → c.place h ≡ at → holds at ≡ false → next ≡ transacts h (c.phase h) at answer.Send c.told c → Ticks h c next
unheld c next h at t e out n = record {
  answer = answer.Send;
  after = c.told;
  honest = λ m. absurd (both_ways (makes_call h c) (and_right (is_transaction (c.phase h)) (holds (c.place h)) (ap holds e ∙ out)) m);
  ticked = n ∙ sym (tick_transacts h at answer.Send c.told c t e);
}

-- a place before the load is Peek, one before the taking has a word that was seen
peek_is : (at : Place) → is_peek at ≡ true → at ≡ place.Peek
peek_is place.Peek t = refl
peek_is (place.Take seen) t = absurd (both_ways false refl t)
peek_is place.Give t = absurd (both_ways false refl t)

pub peek_ticks : (c next : Configuration) (h : ℕ) → is_transaction (c.phase h) ≡ true → is_peek (c.place h) ≡ true → next ≡ peeks h (c.phase h) c → Ticks h c next
peek_ticks c next h t e n = unheld c next h place.Peek t (peek_is (c.place h) e) refl n

pub peek_seen : (c next : Configuration) (h : ℕ) (idle : Bool) → not (is_busy h (c.phase h) c.turn) ≡ true → next ≡ peeks h (c.phase h) c → seat_of h false next ≡ record (seat_of h idle c) { place = place.Take c.turn; idle = false }
peek_seen c next h idle t n =
    let free : is_busy h (c.phase h) c.turn ≡ false = not-true (is_busy h (c.phase h) c.turn) t in
    ap (seat_of h false) (n ∙ cond-false (is_busy h (c.phase h) c.turn) c (goes h (place.Take c.turn) c) free)
    ∙ ap (λ q. record (seat_of h idle c) { place = q; idle = false }) (put_same c.place h (place.Take c.turn))

pub peek_busy : (c next : Configuration) (h : ℕ) (idle : Bool) → not (is_busy h (c.phase h) c.turn) ≡ false → next ≡ peeks h (c.phase h) c → seat_of h false next ≡ record (seat_of h idle c) { idle = false }
peek_busy c next h idle t n =
    let busy : is_busy h (c.phase h) c.turn ≡ true = not-false (is_busy h (c.phase h) c.turn) t in
    ap (seat_of h false) (n ∙ cond-true (is_busy h (c.phase h) c.turn) c (goes h (place.Take c.turn) c) busy)

pub take_ticks : (c next : Configuration) (h seen : ℕ) → is_transaction (c.phase h) ≡ true → c.place h ≡ place.Take seen → next ≡ takes h seen c → Ticks h c next
take_ticks c next h seen t e n = unheld c next h (place.Take seen) t e refl n

pub take_seat : (c next : Configuration) (h seen : ℕ) (result idle : Bool) → result ≡ (c.turn == seen) → next ≡ takes h seen c → seat_of h false next ≡ record (seat_of h idle c) { place = if result then place.Give else place.Peek; idle = false }
take_seat c next h seen result idle r n =
    let taken : Configuration = record c { turn = turn_word (mask_of c.turn) (suc h); place = put c.place h place.Give } in
    let f : Bool → Type 0 = λ b. seat_of h false (if b then taken else goes h place.Peek c) ≡ record (seat_of h idle c) { place = if b then place.Give else place.Peek; idle = false } in
    let step : f result =
    elim (cases_Bool result) [
      | inl t ↦ subst f (sym t) (ap (λ q. record (seat_of h idle c) { place = q; idle = false }) (put_same c.place h place.Give))
      | inr t ↦ subst f (sym t) (ap (λ q. record (seat_of h idle c) { place = q; idle = false }) (put_same c.place h place.Peek))
    ] in
    ap (seat_of h false) (n ∙ ap (λ b. if b then taken else goes h place.Peek c) (sym r)) ∙ step

-- ---- the call

give_is : (at : Place) → holds at ≡ true → at ≡ place.Give
give_is place.Give t = refl
give_is place.Peek t = absurd (both_ways false refl t)
give_is (place.Take seen) t = absurd (both_ways false refl t)

-- the tick of the call
pub give_tick : (c : Configuration) (h : ℕ) (a : Answer) (after : Told) → is_transaction (c.phase h) ≡ true → holds (c.place h) ≡ true → tick h a after c ≡ gives h (after_answer c.told.harts h (c.phase h) a) after c
give_tick c h a after t e = tick_transacts h place.Give a after c t (give_is (c.place h) e)

pub give_ticks : (c next : Configuration) (h : ℕ) (a : Answer) (after : Told) → is_transaction (c.phase h) ≡ true → holds (c.place h) ≡ true → HonestCall (act_of h (c.phase h)) c.told a after → next ≡ gives h (after_answer c.told.harts h (c.phase h) a) after c → Ticks h c next
give_ticks c next h a after t e acts n = record {
  answer = a;
  after = after;
  honest = λ m. acts;
  ticked = n ∙ sym (give_tick c h a after t e);
}

pub give_seat : (c next : Configuration) (h : ℕ) (p : Phase) (after : Told) (now idle : Bool) → after.harts ≡ c.told.harts → next ≡ gives h p after c → seat_of h now next ≡ record (seat_of h idle c) { phase = p; place = place.Peek; idle = now }
give_seat c next h p after now idle harts n =
    ap (seat_of h now) n
    ∙ (ap (λ x. record (seat_of h idle c) { harts = x; phase = put c.phase h p h; place = put c.place h place.Peek h; idle = now }) harts
    ∙ (ap (λ x. record (seat_of h idle c) { phase = x; place = put c.place h place.Peek h; idle = now }) (put_same c.phase h p)
    ∙ ap (λ x. record (seat_of h idle c) { phase = p; place = x; idle = now }) (put_same c.place h place.Peek)))

-- the number of harts stays over a call
changes_harts : (b after to : Told) → Changes b after to → to.harts ≡ b.harts → after.harts ≡ b.harts
changes_harts b after to g e =
    elim (cases_Bool b.over) [ inl o ↦ ap (λ x. x.harts) (g.ended o) | inr w ↦ ap (λ x. x.harts) (g.working w) ∙ e ]

lines_harts : (b after : Told) (r : Lined) → LineLeaves b r after → after.harts ≡ b.harts
lines_harts b after lined.Stay g = ap (λ x. x.harts) g
lines_harts b after (lined.Pass at again) g = ap (λ x. x.harts) g.0
lines_harts b after (lined.Free enabled) g = ap (λ x. x.harts) g.0
lines_harts b after lined.Ended g = ap (λ x. x.harts) g
lines_harts b after lined.Lost g = g.harts

pass_harts : (h : ℕ) (b after : Told) (r : Passed) → PassLeaves h b r after → after.harts ≡ b.harts
pass_harts h b after passed.Faulted g = ap (λ x. x.harts) g.1
pass_harts h b after passed.Back g = ap (λ x. x.harts) g.1
pass_harts h b after (passed.Free enabled) g = ap (λ x. x.harts) g.1.1

pub acts_harts : (a : Act) (b after : Told) (r : Answer) → CallLeaves a b r after → after.harts ≡ b.harts
acts_harts (act.HartStep h) b after r g = ap (λ x. x.harts) g.1.1.told
acts_harts (act.Check h) b after r g = ap (λ x. x.harts) g.1.1.told
acts_harts (act.Send h) b after r g = changes_harts b after (sent b) g.1 refl
acts_harts (act.Pull i) b after r g = changes_harts b after (pulled i b) g.1 refl
acts_harts (act.PlantStep at) b after r g = changes_harts b after (step_planted at b) g.1 refl
acts_harts act.PullStep b after r g = changes_harts b after (step_pulled b) g.1 refl
acts_harts (act.Plant i) b after r g = changes_harts b after (replanted i b) g.1 refl
acts_harts (act.Close h) b after r g =
    elim (cases_Bool b.over) [ inl o ↦ ap (λ x. x.harts) (g.1.ended o) | inr w ↦ ap (λ x. x.harts) (g.1.working w) ]
acts_harts (act.Enter h late) b after r g =
    elim (cases_Bool b.over) [ inl o ↦ ap (λ x. x.harts) (g.1.1.ended o).1 | inr w ↦ ap (λ x. x.harts) (g.1.1.working w).1 ]
acts_harts (act.Line h) b after r g =
    elim (cases_Bool b.over) [ inl o ↦ ap (λ x. x.harts) (g.1.1.ended o).1 | inr w ↦ lines_harts b after g.0 (g.1.1.working w) ]
acts_harts (act.PassStep h) b after r g =
    elim (cases_Bool b.over) [ inl o ↦ ap (λ x. x.harts) (g.1.1.ended o).1 | inr w ↦ pass_harts h.0 b after g.0 (g.1.1.working w) ]

-- the answer is one of the call
pub acts_answer : (a : Act) (b after : Told) (r : Answer) → CallLeaves a b r after → is_answer_of a r ≡ true
acts_answer (act.HartStep h) b after r g = ap (is_answer_of (act.HartStep h)) g.1.0
acts_answer (act.Check h) b after r g = ap (is_answer_of (act.Check h)) g.1.0
acts_answer (act.Send h) b after r g = ap (is_answer_of (act.Send h)) g.0
acts_answer (act.Pull i) b after r g = ap (is_answer_of (act.Pull i)) g.0
acts_answer (act.PlantStep at) b after r g = ap (is_answer_of (act.PlantStep at)) g.0
acts_answer act.PullStep b after r g = ap (is_answer_of act.PullStep) g.0
acts_answer (act.Plant i) b after r g = ap (is_answer_of (act.Plant i)) g.0
acts_answer (act.Close h) b after r g = ap (is_answer_of (act.Close h)) g.0
acts_answer (act.Enter h late) b after r g = ap (is_answer_of (act.Enter h late)) g.1.0
acts_answer (act.Line h) b after r g = ap (is_answer_of (act.Line h)) g.1.0
acts_answer (act.PassStep h) b after r g = ap (is_answer_of (act.PassStep h)) g.1.0

-- the call of a hart's phase is allowed
pub allowed_here : (c : Configuration) (h : ℕ) → ∥ Sound c ∥₁ → h < c.told.harts → is_transaction (c.phase h) ≡ true → holds (c.place h) ≡ true → is_allowed (act_of h (c.phase h)) c.told ≡ true
allowed_here c h s lt t e = ∥∥₁_elim s (Bool-set _ _) (λ x. call_is_allowed c h x lt (and_from (is_transaction (c.phase h)) (holds (c.place h)) t e))

-- what the phase keeps is in range for the next one
can_go_on_prop : (harts : ℕ) (p : Phase) → IsProp (CanGoOn harts p)
can_go_on_prop harts (phase.Send to) = hlevel props
can_go_on_prop harts (phase.Pull kept left) = hlevel props
can_go_on_prop harts (phase.Plant kept left) = hlevel props
can_go_on_prop harts _ = hlevel props

kept_in_range : (c : Configuration) (h : ℕ) (p : Phase) → Sound c → c.phase h ≡ p → CanGoOn c.told.harts p
kept_in_range c h (phase.Send to) s e = (mine c h (phase.Send to) s e refl).lead.range.below
kept_in_range c h (phase.Pull kept left) s e = (mine c h (phase.Pull kept left) s e refl).lead.range.1.some
kept_in_range c h (phase.Plant kept left) s e = (mine c h (phase.Plant kept left) s e refl).lead.range.1.some
kept_in_range c h _ s e = tt

pub goes_on_here : (c : Configuration) (h : ℕ) → ∥ Sound c ∥₁ → CanGoOn c.told.harts (c.phase h)
goes_on_here c h s = ∥∥₁_elim s (can_go_on_prop c.told.harts (c.phase h)) (λ x. kept_in_range c h (c.phase h) x refl)

-- ---- the look

pub look_ticks : (c next : Configuration) (h : ℕ) (looks : Looks) (k : ℕ) (result : Bool) → c.phase h ≡ phase.Gather looks → k ≡ (looks_in (c.phase h)).next → result ≡ mark_counts c k → next ≡ enters h (after_look c.limit c.told.harts h looks result) c → Ticks h c next
look_ticks c next h looks k result e at r n =
    let same : k ≡ looks.next = at ∙ ap (λ p. (looks_in p).next) e in
    quiet c next h (phase.Gather looks) e refl
    (n ∙ ap (λ x. enters h (after_look c.limit c.told.harts h looks x) c) (r ∙ ap (mark_counts c) same))

pub look_seat : (c next : Configuration) (h : ℕ) (looks : Looks) (result idle : Bool) → c.phase h ≡ phase.Gather looks → next ≡ enters h (after_look c.limit c.told.harts h looks result) c → seat_of h false next ≡ record (seat_of h idle c) { phase = after_look c.limit c.told.harts h (looks_in (c.phase h)) result; idle = false }
look_seat c next h looks result idle e n =
    seat_moved c next h c.master c.gate c.own (after_look c.limit c.told.harts h looks result) idle n
    ∙ ap (λ p. record (seat_of h idle c) { phase = after_look c.limit c.told.harts h (looks_in p) result; idle = false }) (sym e)

-- the same move to a phase that is known by an equation
pub gives_to : (c next : Configuration) (h : ℕ) (p q : Phase) (after : Told) → next ≡ gives h q after c → q ≡ p → next ≡ gives h p after c
gives_to c next h p q after n e = n ∙ ap (λ x. gives h x after c) e

pub enters_to : (c next : Configuration) (h : ℕ) (p q : Phase) → next ≡ enters h q c → q ≡ p → next ≡ enters h p c
enters_to c next h p q n e = n ∙ ap (λ x. enters h x c) e

-- the phase after the answer, as the code finds it
pub answered : (harts n h : ℕ) (p q next : Phase) (a : Answer) → next ≡ after_answer n h q a → n ≡ harts → q ≡ p → next ≡ after_answer harts h p a
answered harts n h p q next a e en eq = e ∙ (ap (λ x. after_answer x h q a) en ∙ ap (λ x. after_answer harts h x a) eq)

-- the phase after a look, as the code finds it
pub looked_at : (limit harts n h : ℕ) (looks : Looks) (result : Bool) (next : Phase) → next ≡ after_look limit n h looks result → n ≡ harts → next ≡ after_look limit harts h looks result
looked_at limit harts n h looks result next e en = e ∙ ap (λ x. after_look limit x h looks result) en

-- the seat after the call, with what was found of the answer
pub give_seat_idle : (c next : Configuration) (h : ℕ) (p : Phase) (after : Told) (now was idle : Bool) → after.harts ≡ c.told.harts → next ≡ gives h p after c → now ≡ was → seat_of h now next ≡ record (seat_of h idle c) { phase = p; place = place.Peek; idle = was }
give_seat_idle c next h p after now was idle harts n e =
    give_seat c next h p after now idle harts n ∙ ap (λ i. record (seat_of h idle c) { phase = p; place = place.Peek; idle = i }) e

-- the whole configuration over the call
pub whole_gives : (c next : Configuration) (h : ℕ) (a : Answer) (after : Told) → is_transaction (c.phase h) ≡ true → holds (c.place h) ≡ true → HonestCall (act_of h (c.phase h)) c.told a after → next ≡ gives h (after_answer c.told.harts h (c.phase h) a) after c → WholeGives h a (Some c) (Some next)
whole_gives c next h a after t e acts n = (after, (acts, ap Some (n ∙ sym (give_tick c h a after t e))))

-- the call keeps the invariant
pub give_keeps : GiveKeeps
give_keeps c h a after s lt m acts =
    let p = and_parts (is_transaction (c.phase h)) (holds (c.place h)) m in
    let next : Configuration = gives h (after_answer c.told.harts h (c.phase h) a) after c in
    every_tick_keeps c h next s lt (give_ticks c next h a after p.0 p.1 acts refl)
