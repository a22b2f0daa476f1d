-- Where an instruction leads: the pc after it.
use Rattle.std.specs.Prelude.{ℕ, ◌-◌, ◌%◌, ◌==◌, Option, Some, None, if◌then◌else◌}
use Rattle.std.specs.Option.{unwrap_or}
use Rattle.mach_base.specs.Machine.{Context}
use Rattle.rv_alu.specs.Results.{branch_taken}
use Rattle.rv_decode.specs.Fields.{Fields, decoded}
use Rattle.trap_ipi.specs.Service.{is_known, service_number, argument}
use Rattle.hart_step.specs.declared.class.Class.{Class}
use Rattle.hart_step.specs.declared.class.Class.TheVariants as class
use Rattle.hart_step.specs.declared.control.After.{After}
use Rattle.hart_step.specs.declared.control.After.TheVariants.{At, Nowhere}
use Rattle.hart_step.specs.Operands.{class_of, register, immediate, wrapped_sum, address}

-- the number with its lowest bit 0
abbrev pub even : ℕ → ℕ
even n = n - n % 2

-- Where the instruction jumps to, if it does ("Control Transfer Instructions"): `jal`, `jalr` and a branch that is taken.
unfoldable pub target : Class → Context → Fields → Option ℕ
target class.Jump c f = Some (wrapped_sum c.pc (immediate f))
target class.JumpRegister c f = Some (even (address c f))
target class.Branch c f =
    if branch_taken f.op (register c f.rs1) (register c f.rs2) then Some (wrapped_sum c.pc (immediate f)) else None
target other c f = None

-- the pc of the next instruction in memory
abbrev pub following_pc : Context → ℕ
following_pc c = wrapped_sum c.pc 4

-- the pc after an instruction that is no service
abbrev pub pc_after : Class → Context → Fields → ℕ
pc_after class c f = unwrap_or (target class c f) (following_pc c)

-- the pc after a jump to the target, or of the next instruction where it doesn't jump; nowhere at a target that is no
-- multiple of 4
abbrev pub after_target : Context → Option ℕ → After
after_target c None = At (following_pc c)
after_target c (Some t) = if t % 4 == 0 then At t else Nowhere

-- the pc after the service that the hart asks for: its epc for the return from an interrupt; nowhere for an unknown one
abbrev pub after_service_call : Context → ℕ → After
after_service_call c harts =
    if is_known harts (service_number c) (argument c)
    then (if service_number c == 7 then At c.epc else At (following_pc c))
    else Nowhere

-- where an instruction of this class leads
unfoldable pub next_in : Class → Context → ℕ → Fields → After
next_in class.Service c harts f = after_service_call c harts
next_in class c harts f = after_target c (target class c f)

-- the pc after the instruction, if it is one
abbrev pub next_of : Context → ℕ → Option Fields → After
next_of c harts None = Nowhere
next_of c harts (Some f) = next_in (class_of f.op) c harts f

-- The pc after the word; nowhere where the word is no instruction, jumps to a target that is no multiple of 4, or asks for
-- an unknown service.
unfoldable pub next_pc : Context → ℕ → ℕ → After
next_pc c harts word = next_of c harts (decoded word)
