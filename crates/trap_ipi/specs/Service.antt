-- The services of the firmware, which an ecall asks for. docs/machine.md, "Services", has the table.
use Rattle.std.specs.Prelude.{ℕ, ◌+◌, ◌%◌, ◌^◌, ◌==◌, Bool, true, false, List, nat_lt, length, slice_index, slice_set, if◌then◌else◌}
use Rattle.mach_base.specs.Machine.{Context}
use Rattle.hart_ctx.specs.Context.{context_of, with_register}
use Rattle.trap_ipi.specs.declared.firmware.Served.{Served}
use Rattle.trap_ipi.specs.declared.firmware.Served.TheVariants.{Plain, Byte, Unknown}

-- the number of the service, in a7
abbrev pub service_number : Context → ℕ
service_number c = slice_index c.registers 17

-- its argument, in a0
abbrev pub argument : Context → ℕ
argument c = slice_index c.registers 10

-- whether there is such a service among so many harts: the numbers below 8, but 6 for a hart that there is
abbrev pub is_known : ℕ → ℕ → ℕ → Bool
is_known harts number arg = if number == 6 then nat_lt arg harts else nat_lt number 8

-- the context after the ecall, but for what its service does
abbrev pub after_ecall : Context → Context
after_ecall c = record c { pc = (c.pc + 4) % 2 ^ 64 }

-- The context of the hart h that asks, after the service of this number.
unfoldable pub caller_after : ℕ → ℕ → Context → Context
caller_after number h c =
    if number == 0 then record (after_ecall c) { halted = true }
    else (if number == 2 then with_register (after_ecall c) 10 h
    else (if number == 3 then record (after_ecall c) { masked = true }
    else (if number == 4 then record (after_ecall c) { masked = false }
    else (if number == 5 then record (after_ecall c) { vector = argument c }
    else (if number == 7 then record c { pc = c.epc; masked = false }
    else after_ecall c)))))

-- an interrupt is pending for the hart
abbrev pub with_pending : List Context → ℕ → List Context
with_pending cs h = slice_set cs h (record (context_of cs h) { pending = true })

-- the contexts after a known service of this number and argument
abbrev pub after_known : ℕ → ℕ → List Context → ℕ → List Context
after_known number arg cs h =
    if number == 6 then with_pending (slice_set cs h (caller_after number h (context_of cs h))) arg
    else slice_set cs h (caller_after number h (context_of cs h))

-- The contexts after the service that hart h asks for; an unknown one changes nothing.
unfoldable pub after_service : List Context → ℕ → List Context
after_service cs h =
    if is_known (length cs) (service_number (context_of cs h)) (argument (context_of cs h))
    then after_known (service_number (context_of cs h)) (argument (context_of cs h)) cs h
    else cs

-- the answer of a known service: the low byte of a0 for number 1
abbrev pub answer_of_known : ℕ → ℕ → Served
answer_of_known number arg = if number == 1 then Byte (arg % 256) else Plain

-- The answer of the service that hart h asks for.
unfoldable pub answer : List Context → ℕ → Served
answer cs h =
    if is_known (length cs) (service_number (context_of cs h)) (argument (context_of cs h))
    then answer_of_known (service_number (context_of cs h)) (argument (context_of cs h))
    else Unknown (service_number (context_of cs h))
