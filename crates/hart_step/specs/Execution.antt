-- What an instruction that doesn't fault does (RISC-V unprivileged specification, RV64I, "M" and "A").
use Rattle.std.specs.Prelude.{ℕ, Bool, true, false, List, length, Option, Some, None, slice_set, if◌then◌else◌}
use Rattle.mach_base.specs.Machine.{Context, Memory}
use Rattle.mach_base.specs.declared.event.Fault.{Fault}
use Rattle.mach_base.specs.Bytes.{number_in}
use Rattle.mem_map.specs.Access.{after_store}
use Rattle.hart_ctx.specs.Context.{context_of, with_register}
use Rattle.hart_ctx.specs.Reservation.{granule_of, is_among, without_reservations}
use Rattle.rv_alu.specs.Results.{alu_result, amo_result}
use Rattle.rv_decode.specs.Fields.{Fields, decoded}
use Rattle.trap_ipi.specs.Service.{after_service, answer}
use Rattle.trap_ipi.specs.declared.firmware.Served.{Served}
use Rattle.trap_ipi.specs.declared.firmware.Served.TheVariants.{Plain, Byte, Unknown}
use Rattle.hart_step.specs.declared.class.Class.{Class}
use Rattle.hart_step.specs.declared.class.Class.TheVariants as class
use Rattle.hart_step.specs.declared.execution.Did.{Did}
use Rattle.hart_step.specs.declared.execution.Did.TheVariants as did
use Rattle.hart_step.specs.Operands.{class_of, register, immediate, wrapped_sum, address, extension}
use Rattle.hart_step.specs.Control.{following_pc, pc_after}
use Rattle.hart_step.specs.Faults.{own_fault, word_fault}

-- whether an `sc` succeeds: its hart's reservation is on the granule of its address
abbrev pub holds_reservation : Context → Fields → Bool
holds_reservation c f = is_among (granule_of (register c f.rs1)) (granule_of (register c f.rs1)) c.reservation

-- the hart's context after the instruction, but for its pc
unfoldable pub with_result : Class → Memory → Context → Fields → Context
with_result class.Upper m c f = with_register c f.rd (immediate f)
with_result class.UpperPc m c f = with_register c f.rd (wrapped_sum c.pc (immediate f))
with_result class.Jump m c f = with_register c f.rd (following_pc c)
with_result class.JumpRegister m c f = with_register c f.rd (following_pc c)
with_result (class.Load width signed) m c f = with_register c f.rd (extension width signed (number_in m (address c f) width))
with_result class.Immediate m c f = with_register c f.rd (alu_result f.op (register c f.rs1) (immediate f))
with_result class.Registers m c f = with_register c f.rd (alu_result f.op (register c f.rs1) (register c f.rs2))
with_result (class.Reserve width) m c f =
    record (with_register c f.rd (extension width true (number_in m (register c f.rs1) width))) { reservation = Some (granule_of (register c f.rs1)) }
with_result (class.Conditional width) m c f =
    record (with_register c f.rd (if holds_reservation c f then 0 else 1)) { reservation = None }
with_result (class.Atomic width) m c f = with_register c f.rd (extension width true (number_in m (register c f.rs1) width))
with_result other m c f = c

-- the hart's context after the instruction
abbrev pub context_after : Class → Memory → Context → Fields → Context
context_after class m c f = record (with_result class m c f) { pc = pc_after class c f }

-- the granule that the instruction stores into, if it does
unfoldable pub stored_granule : Class → Context → Fields → Option ℕ
stored_granule (class.Store width) c f = Some (granule_of (address c f))
stored_granule (class.Conditional width) c f =
    if holds_reservation c f then Some (granule_of (register c f.rs1)) else None
stored_granule (class.Atomic width) c f = Some (granule_of (register c f.rs1))
stored_granule other c f = None

-- a store ends the reservations on its granule; those of all harts here, and the storing hart's own is put back
abbrev pub contexts_after_store : Option ℕ → List Context → List Context
contexts_after_store None cs = cs
contexts_after_store (Some granule) cs = without_reservations granule granule cs

-- The contexts after an instruction of hart h: a service does what its table says; else the hart's own context is that
-- after the instruction, and the others lose their reservations on a granule that it stores into.
unfoldable pub contexts_in : Class → List Context → Memory → ℕ → Fields → List Context
contexts_in class.Service cs m h f = after_service cs h
contexts_in class cs m h f = slice_set (contexts_after_store (stored_granule class (context_of cs h) f) cs) h (context_after class m (context_of cs h) f)

-- memory after the instruction
unfoldable pub memory_in : Class → Memory → Context → Fields → Memory
memory_in (class.Store width) m c f = after_store m (address c f) width (register c f.rs2)
memory_in (class.Conditional width) m c f =
    if holds_reservation c f then after_store m (register c f.rs1) width (register c f.rs2) else m
memory_in (class.Atomic width) m c f =
    after_store m (register c f.rs1) width (amo_result f.op (extension width true (number_in m (register c f.rs1) width)) (register c f.rs2))
memory_in other m c f = m

-- the byte that a service sends to the console
abbrev pub served_byte : Served → Option ℕ
served_byte (Byte b) = Some b
served_byte Plain = None
served_byte (Unknown n) = None

-- the byte that an instruction of this class sends to the console, if any
unfoldable pub byte_in : Class → List Context → ℕ → Option ℕ
byte_in class.Service cs h = served_byte (answer cs h)
byte_in other cs h = None

-- the contexts after the instruction, if it is one
abbrev contexts_of : List Context → Memory → ℕ → Option Fields → List Context
contexts_of cs m h None = cs
contexts_of cs m h (Some f) = contexts_in (class_of f.op) cs m h f

-- The contexts of all harts after hart h executed the word.
unfoldable pub contexts_after : List Context → Memory → ℕ → ℕ → List Context
contexts_after cs m h word = contexts_of cs m h (decoded word)

-- memory after the instruction, if it is one
abbrev memory_of : Memory → Context → Option Fields → Memory
memory_of m c None = m
memory_of m c (Some f) = memory_in (class_of f.op) m c f

-- Memory after a hart in this context executed the word.
unfoldable pub memory_after : Memory → Context → ℕ → Memory
memory_after m c word = memory_of m c (decoded word)

-- its byte to the console, if it is one
abbrev byte_of : List Context → ℕ → Option Fields → Option ℕ
byte_of cs h None = None
byte_of cs h (Some f) = byte_in (class_of f.op) cs h

-- The byte that the word sends to the console, if any.
unfoldable pub byte_sent : List Context → ℕ → ℕ → Option ℕ
byte_sent cs h word = byte_of cs h (decoded word)

-- what is done: the fault, if there is one, else the instruction with its console byte
abbrev pub did_by : Option Fault → Option ℕ → Did
did_by None byte = did.Done byte
did_by (Some fault) byte = did.Fault fault

-- the value after, where there is no fault, else the one before
abbrev pub unless_faulted : {A : Type 0} → Option Fault → A → A → A
unless_faulted None before after = after
unless_faulted (Some fault) before after = before

-- the fault of the word for hart h, among all harts
abbrev pub fault_for : List Context → Memory → ℕ → ℕ → Option Fault
fault_for cs m h word = word_fault (context_of cs h) (length cs) m word

-- the fault of an instruction of this class for hart h
abbrev pub own_fault_for : Class → List Context → Memory → ℕ → Fields → Option Fault
own_fault_for class cs m h f = own_fault class (context_of cs h) (length cs) m f

-- memory after an instruction of this class of hart h: as before, where it faults
abbrev pub own_memory_after : Class → List Context → Memory → ℕ → Fields → Memory
own_memory_after class cs m h f = unless_faulted (own_fault_for class cs m h f) m (memory_in class m (context_of cs h) f)

-- it touches registers and the pc alone
abbrev pub IsLocal : Class → Type 0
IsLocal (class.Load width signed) = ⊥
IsLocal (class.Store width) = ⊥
IsLocal (class.Reserve width) = ⊥
IsLocal (class.Conditional width) = ⊥
IsLocal (class.Atomic width) = ⊥
IsLocal class.Service = ⊥
IsLocal other = Unit {0}
