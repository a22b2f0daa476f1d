-- What a call of the bus does to what the bus tells, and what it answers.
use Rattle.std.specs.Prelude.{◌≡◌, ℕ, suc, ◌&&◌, ◌||◌, Bool, true, false, not, Option, Some, None, is_some}
use Rattle.mach_base.specs.Masks.{all_but, has_bit, mask_with, mask_without}
use Rattle.deck_core.specs.contract.Allowed.{in_session, is_of}
use Rattle.deck_core.specs.contract.Told.{IsTold, Told}
use Rattle.mach_base.specs.declared.event.Ending.{Ending}
use Rattle.mach_base.specs.declared.event.Reason.{Reason}
use Rattle.deck_core.specs.declared.plain.act.Act.{Act}
use Rattle.deck_core.specs.declared.plain.act.Act.TheVariants as act
use Rattle.deck_core.specs.declared.plain.act.Answer.{Answer}
use Rattle.deck_core.specs.declared.plain.act.Answer.TheVariants as answer
use Rattle.deck_core.specs.declared.plain.act.Turned.{Turned}
use Rattle.deck_core.specs.declared.plain.act.Turned.TheVariants as turned
use Rattle.deck_core.specs.declared.plain.act.Entered.{Entered}
use Rattle.deck_core.specs.declared.plain.act.Entered.TheVariants as entered
use Rattle.deck_core.specs.declared.plain.act.Lined.{Lined}
use Rattle.deck_core.specs.declared.plain.act.Lined.TheVariants as lined
use Rattle.deck_core.specs.declared.plain.act.Passed.{Passed}
use Rattle.deck_core.specs.declared.plain.act.Passed.TheVariants as passed
use Rattle.deck_core.specs.declared.plain.notes.Sitting.{Sitting}
use Rattle.deck_core.specs.declared.plain.notes.Stage.{Stage}
use Rattle.deck_core.specs.declared.plain.notes.Stage.TheVariants as stage

-- whether the session opens again after its single-step pass
abbrev pub is_again : Stage → Bool
is_again (stage.Pass again) = again
is_again _ = false

-- the session in another stage
abbrev pub in_stage : Stage → Option Sitting → Option Sitting
in_stage to None = None
in_stage to (Some sitting) = Some (record sitting { stage = to })

-- whether the answer is Off
abbrev pub is_off : Turned → Bool
is_off turned.Off = true
is_off _ = false

-- `hart_step` of h changes nothing but h's own trap and fault, its next address where it is the session's master, and
-- whether an ending stands; it answers Off exactly where one then stands
pub record HartStepGives (h : ℕ) (b : Told) (answer : Turned) (after : Told) : Type 0 where
  pub told : after ≡ record b { over = after.over; traps = after.traps; faults = after.faults; next = after.next; plantable = after.plantable }
  pub stays_over : b.over ≡ true → after.over ≡ true
  pub off : is_off answer ≡ after.over
  pub traps : (k : ℕ) → (k ≡ h → ⊥) → has_bit after.traps k ≡ has_bit b.traps k
  pub faults : (k : ℕ) → (k ≡ h → ⊥) → has_bit after.faults k ≡ has_bit b.faults k
  pub next : in_session (is_of h) b.session ≡ false → after.next ≡ b.next
  pub plantable : in_session (is_of h) b.session ≡ false → after.plantable ≡ b.plantable

-- `check` changes nothing; it answers a reason exactly where h has a trap and no ending stands
pub record CheckGives (h : ℕ) (b : Told) (answer : Option Reason) (after : Told) : Type 0 where
  pub told : after ≡ b
  pub some : is_some answer ≡ (not b.over && has_bit b.traps h)

-- what a call does where an ending stands, and where none does
pub record Gives (over : Bool) (P : Type 0) (Q : Type 0) : Type 0 where
  pub ended : over ≡ true → P
  pub working : over ≡ false → Q

-- a call that changes this much, and nothing where an ending stands
abbrev pub Changes : Told → Told → Told → Type 0
Changes b after to = Gives b.over (after ≡ b) (after ≡ to)

-- the mask after the opening of a session: all but the late harts, and as it was where the session opens again
abbrev pub mask_inside : ℕ → Told → Option Sitting → ℕ
mask_inside late b None = all_but b.harts late
mask_inside late b (Some sitting) = b.mask

-- the session opens; nothing is said of traps, faults and the next address
abbrev pub opened : ℕ → ℕ → Told → Told → Told
opened h late b after = record b {
  mask = mask_inside late b b.session;
  session = Some (record { master = record { 0 = h }; late = late; stage = stage.Lines });
  traps = after.traps;
  faults = after.faults;
  next = after.next;
  plantable = after.plantable;
}

-- `enter` answers Off exactly where an ending stands
abbrev pub EnterGives : ℕ → ℕ → Told → Entered → Told → Type 0
EnterGives h late b answer after =
    Gives b.over ((answer ≡ entered.Off) × (after ≡ b)) ((answer ≡ entered.Inside b.planted) × (after ≡ opened h late b after))

-- a line was read, and left the session in this stage; it may have changed which places are enabled
abbrev pub line_read : Stage → Told → Told → Told
line_read to b after = record b {
  session = in_stage to b.session;
  lines = suc b.lines;
  stepped = false;
  enabled = after.enabled;
  traps = after.traps;
  faults = after.faults;
  next = after.next;
  plantable = after.plantable;
}

-- the step address: the next address, where that is a text word other than the pc
abbrev pub IsStepAddress : Option ℕ → Told → Type 0
IsStepAddress None b = b.plantable ≡ false
IsStepAddress (Some at) b = (b.next ≡ Some at) × (b.plantable ≡ true)

-- once memory has run out an ending counts as standing, and only these are claimed
pub record Lost (b : Told) (after : Told) : Type 0 where
  pub over : after.over ≡ true
  pub harts : after.harts ≡ b.harts
  pub mask : after.mask ≡ b.mask
  pub lines : after.lines ≡ b.lines
  pub sends : after.sends ≡ b.sends

-- what a line leaves, by its answer
abbrev pub LineLeaves : Told → Lined → Told → Type 0
LineLeaves b lined.Stay after = after ≡ line_read stage.Lines b after
LineLeaves b (lined.Pass at again) after = (after ≡ line_read (stage.Pass again) b after) × IsStepAddress at after
LineLeaves b (lined.Free enabled) after = (after ≡ line_read stage.Leaving b after) × (enabled ≡ after.enabled)
LineLeaves b lined.Ended after = after ≡ record b { over = true }
LineLeaves b lined.Lost after = Lost b after

-- `line` leaves what its answer says; once an ending stands, it answers Ended and changes nothing
abbrev pub LineGives : Told → Lined → Told → Type 0
LineGives b answer after = Gives b.over ((answer ≡ lined.Ended) × (after ≡ b)) (LineLeaves b answer after)

-- the instruction of a single-step pass was executed, and left the session in this stage
abbrev pub executed : Stage → Told → Told → Told
executed to b after = record b {
  session = in_stage to b.session;
  traps = after.traps;
  faults = after.faults;
  next = after.next;
  plantable = after.plantable;
}

-- what that instruction leaves, by the answer: Faulted exactly where it faults, else Back where the session opens again
abbrev pub PassLeaves : ℕ → Told → Passed → Told → Type 0
PassLeaves h b passed.Faulted after = (has_bit b.faults h ≡ true) × (after ≡ b)
PassLeaves h b passed.Back after =
    ((has_bit b.faults h ≡ false) × (in_session (λ s. is_again s.stage) b.session ≡ true)) × (after ≡ executed stage.Back b after)
PassLeaves h b (passed.Free enabled) after =
    ((has_bit b.faults h ≡ false) × (in_session (λ s. is_again s.stage) b.session ≡ false))
    × ((enabled ≡ b.enabled) × (after ≡ executed stage.Leaving b after))

-- `pass_step` of h leaves what its answer says; once an ending stands, it answers Free of no place and changes nothing
abbrev pub PassGives : ℕ → Told → Passed → Told → Type 0
PassGives h b answer after =
    Gives b.over ((answer ≡ passed.Free 0) × (after ≡ b)) (PassLeaves h b answer after)

-- the session closes, and takes the mask away; after an ending only the mask goes
abbrev pub CloseGives : Told → Told → Type 0
CloseGives b after =
    Gives b.over (after ≡ record b { mask = 0 }) (after ≡ record b { mask = 0; session = None; next = after.next; plantable = after.plantable })

-- one more call sent
abbrev pub sent : Told → Told
sent b = record b { sends = suc b.sends }

-- a place taken out
abbrev pub pulled : ℕ → Told → Told
pulled i b = record b { planted = mask_without b.planted i }

-- a place put in
abbrev pub replanted : ℕ → Told → Told
replanted i b = record b { planted = mask_with b.planted i }

-- the step word put in
abbrev pub step_planted : ℕ → Told → Told
step_planted at b = record b { step = Some at; stepped = true }

-- the step word taken out
abbrev pub step_pulled : Told → Told
step_pulled b = record b { step = None }

-- what a call does to what the bus tells, by the call and its answer
abbrev pub CallLeaves : Act → Told → Answer → Told → Type 0
CallLeaves (act.HartStep h) b a after = (r : Turned) × ((a ≡ answer.HartStep r) × HartStepGives h.0 b r after)
CallLeaves (act.Check h) b a after = (r : Option Reason) × ((a ≡ answer.Check r) × CheckGives h.0 b r after)
CallLeaves (act.Send h) b a after = (a ≡ answer.Send) × Changes b after (sent b)
CallLeaves (act.Pull i) b a after = (a ≡ answer.Pull) × Changes b after (pulled i b)
CallLeaves (act.PlantStep at) b a after = (a ≡ answer.PlantStep) × Changes b after (step_planted at b)
CallLeaves act.PullStep b a after = (a ≡ answer.PullStep) × Changes b after (step_pulled b)
CallLeaves (act.Plant i) b a after = (a ≡ answer.Plant) × Changes b after (replanted i b)
CallLeaves (act.Close h) b a after = (a ≡ answer.Close) × CloseGives b after
CallLeaves (act.Enter h late) b a after = (r : Entered) × ((a ≡ answer.Enter r) × EnterGives h.0 late b r after)
CallLeaves (act.Line h) b a after = (r : Lined) × ((a ≡ answer.Line r) × LineGives b r after)
CallLeaves (act.PassStep h) b a after = (r : Passed) × ((a ≡ answer.PassStep r) × PassGives h.0 b r after)

-- what a call of an honest bus does
pub record HonestCall (a : Act) (b : Told) (answer : Answer) (after : Told) : Type 0 where
  pub does : CallLeaves a b answer after
  pub fits : IsTold after

-- whether a line ran out of memory
abbrev pub is_lost_line : Answer → Bool
is_lost_line (answer.Line lined.Lost) = true
is_lost_line _ = false

-- over a call with this answer: an ending that stands stays, and none comes to stand once memory has run out; memory
-- runs out in a line alone, and that stays
pub record StaysEnded (a : Answer) (ending : Option Ending) (is_lost : Bool) (ending_after : Option Ending) (is_lost_after : Bool) : Type 0 where
  pub ended : (is_some ending || is_lost) ≡ true → ending_after ≡ ending
  pub lost : is_lost_after ≡ (is_lost_line a || is_lost)
