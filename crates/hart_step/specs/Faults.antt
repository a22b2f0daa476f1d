-- The fault of the word at the pc, after those of fetching it.
use Rattle.std.specs.Prelude.{ℕ, ◌%◌, ◌==◌, Option, Some, None, if◌then◌else◌}
use Rattle.mach_base.specs.Machine.{Context, Memory}
use Rattle.mach_base.specs.declared.event.Fault.{Fault}
use Rattle.mach_base.specs.declared.event.Cause.TheVariants.{Misaligned, Illegal, BadService}
use Rattle.mem_map.specs.Access.{access_fault, store_fault, fault_at}
use Rattle.mem_map.specs.declared.rights.Access.TheVariants as access
use Rattle.rv_decode.specs.Fields.{Fields, decoded}
use Rattle.trap_ipi.specs.Service.{is_known, service_number, argument}
use Rattle.hart_step.specs.declared.class.Class.{Class}
use Rattle.hart_step.specs.declared.class.Class.TheVariants as class
use Rattle.hart_step.specs.Operands.{class_of, register, address}
use Rattle.hart_step.specs.Control.{target}

-- a jump to a target that is no multiple of 4 faults with the target
abbrev pub target_fault : Option ℕ → Option Fault
target_fault None = None
target_fault (Some t) = if t % 4 == 0 then None else fault_at Misaligned t

-- an unknown service faults with its number
abbrev pub service_fault : Context → ℕ → Option Fault
service_fault c harts =
    if is_known harts (service_number c) (argument c) then None else fault_at BadService (service_number c)

-- The fault of an instruction of this class: a load needs the right to load, and a store, an `lr`, an `sc` and an atomic
-- operation the right to store.
unfoldable pub own_fault : Class → Context → ℕ → Memory → Fields → Option Fault
own_fault (class.Load width signed) c harts m f = access_fault m access.Load (address c f) width
own_fault (class.Store width) c harts m f = store_fault m (address c f) width
own_fault (class.Reserve width) c harts m f = store_fault m (register c f.rs1) width
own_fault (class.Conditional width) c harts m f = store_fault m (register c f.rs1) width
own_fault (class.Atomic width) c harts m f = store_fault m (register c f.rs1) width
own_fault class.Service c harts m f = service_fault c harts
own_fault class c harts m f = target_fault (target class c f)

-- the fault of the instruction, or of the word where it is none
abbrev pub fault_of : Context → ℕ → Memory → ℕ → Option Fields → Option Fault
fault_of c harts m word None = fault_at Illegal word
fault_of c harts m word (Some f) = own_fault (class_of f.op) c harts m f

-- The first fault of the word in this context, among so many harts: the word is no instruction, or the instruction's own.
unfoldable pub word_fault : Context → ℕ → Memory → ℕ → Option Fault
word_fault c harts m word = fault_of c harts m word (decoded word)
