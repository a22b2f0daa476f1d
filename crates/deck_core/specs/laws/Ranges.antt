-- For the program of a hart, which sees phases and answers alone: what a phase keeps stays in range.
use Rattle.std.specs.Prelude.{ℕ, ◌<◌, Bool}
use Rattle.deck_core.specs.ticks.NextPhase.{CanGoOn, GoesOn, after_answer, after_gate, after_look, after_shut}
use Rattle.deck_core.specs.declared.plain.phase.Phase.{Phase}
use Rattle.deck_core.specs.declared.plain.phase.Looks.{Looks}
use Rattle.deck_core.specs.declared.plain.act.Answer.{Answer}

-- what a phase keeps stays in range over the answer of its call
abbrev pub AnswersGoOn : Type 0
AnswersGoOn = (limit harts h : ℕ) (p : Phase) (a : Answer) → 0 < limit → h < harts → GoesOn limit harts h p → GoesOn limit harts h (after_answer harts h p a)

-- what a phase keeps is in range after a look
abbrev pub LooksGoOn : Type 0
LooksGoOn = (limit harts h : ℕ) (looks : Looks) (counts : Bool) → looks.next < harts → looks.rounds < limit → GoesOn limit harts h (after_look limit harts h looks counts)

-- what a phase keeps is in range after the shutting of the gate
abbrev pub ShutGoesOn : Type 0
ShutGoesOn = (limit harts h : ℕ) → GoesOn limit harts h (after_shut harts h)

-- what a phase keeps stays in range over a load of the gate's number
abbrev pub GateGoesOn : Type 0
GateGoesOn = (limit harts h gate : ℕ) (p : Phase) → GoesOn limit harts h p → GoesOn limit harts h (after_gate p gate)

-- and is what the next phase asks for
abbrev pub CanGoOnNow : Type 0
CanGoOnNow = (limit harts h : ℕ) (p : Phase) → GoesOn limit harts h p → CanGoOn harts p
