-- What a line works on, and what each function that works on it leaves.
use Rattle.std.specs.Prelude.{◌≡◌, ◌<◌, ◌^◌, true, length, Result, Ok, Err, IfOk}
use Rattle.mach_base.specs.Machine.{Memory, LineState}
use Rattle.mach_base.specs.Masks.{has_bit}
use Rattle.mach_base.specs.declared.byte_text.OutOfMemory.{OutOfMemory}
use Rattle.kdb_cmd.specs.declared.desk.Desk.{Desk}
use Rattle.kdb_table.specs.declared.diagnostics.Diagnostic.{Diagnostic}
use Rattle.kdb_cmd.specs.declared.outcomes.Said.{Said}
use Rattle.kdb_table.specs.declared.refusals.Refusal.{Refusal}
use Rattle.kdb_cmd.specs.declared.desk.Gathering.{Gathering}
use Rattle.kdb_view.specs.State.{state_of}
use Rattle.kdb_cmd.specs.Answer.{Answer, answer_with}
use Rattle.kdb_table.specs.Refused.{Refuses}

-- the state that lies on the desk
abbrev pub desk_state : {M : Type 0} → (M → Memory) → Desk M → LineState
desk_state memory d = state_of d.ctxs.now (memory d.mem.now) d.kdb.now d.names.now

-- the processors of the session are processors of the machine, and the current one is one of them
pub record IsReady {M : Type 0} (memory : M → Memory) (d : Desk M) : Type 0 where
  pub gathered : d.gathering.gathered < 2 ^ length d.ctxs.now
  pub current : has_bit d.gathering.gathered d.kdb.now.current ≡ true

-- what no command changes: which values lie on the desk, the processors, and what the memory holds besides its bytes
pub record IsSameDesk {M R : Type 0} (rest : M → R) (before : Desk M) (after : Desk M) : Type 0 where
  pub ctxs : after.ctxs.ghost_name ≡ before.ctxs.ghost_name
  pub kdb : after.kdb.ghost_name ≡ before.kdb.ghost_name
  pub mem : after.mem.ghost_name ≡ before.mem.ghost_name
  pub names : after.names ≡ before.names
  pub gathering : after.gathering ≡ before.gathering
  pub harts : length after.ctxs.now ≡ length before.ctxs.now
  pub held : rest after.mem.now ≡ rest before.mem.now

-- what a command says and the state that it leaves are the ones that are meant; a refusal leaves the state
abbrev pub Changes : {M : Type 0} → (M → Memory) → Result Said Refusal → Desk M → Desk M → (Gathering → LineState → Result Answer Diagnostic) → Type 0
Changes memory (Ok said) before after meaning =
    meaning before.gathering (desk_state memory before) ≡ Ok (answer_with said (desk_state memory after))
Changes memory (Err refusal) before after meaning =
    Refuses refusal (meaning before.gathering (desk_state memory before)) × (desk_state memory after ≡ desk_state memory before)

-- what a line says and the state that it leaves are the ones that are meant
abbrev pub Says : {M : Type 0} → (M → Memory) → Result Said OutOfMemory → Desk M → Desk M → (Gathering → LineState → Answer) → Type 0
Says memory result before after meaning = IfOk result (λ said.
    meaning before.gathering (desk_state memory before) ≡ answer_with said (desk_state memory after))
