-- What a line of the debugger answers.
use Rattle.std.specs.Prelude.{ℕ, List, slice_set}
use Rattle.mach_base.specs.Machine.{Context, LineState}
use Rattle.kdb_cmd.specs.declared.outcomes.Outcome.{Outcome}
use Rattle.kdb_cmd.specs.declared.outcomes.Said.{Said}

-- what a line prints, the state that it leaves, and whether the session goes on
pub record Answer : Type 0 where
  pub output : List ℕ
  pub state : LineState
  pub outcome : Outcome

-- what a line has printed and what follows it, with the state that it leaves
abbrev pub answer_with : Said → LineState → Answer
answer_with said s = record { output = said.text; state = s; outcome = said.outcome }

-- the state in which the current processor has this context
abbrev pub with_current : LineState → Context → LineState
with_current s c = record s { harts = slice_set s.harts s.current c }
