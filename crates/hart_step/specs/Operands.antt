-- What the instructions of each class take: their registers, immediates and addresses.
use Rattle.std.specs.Prelude.{ℕ, ◌+◌, ◌-◌, ◌/◌, ◌%◌, ◌^◌, ◌*◌, Bool, true, false, nat_lt, slice_index, if◌then◌else◌}
use Rattle.std.specs.Int.{w64, cast_unsigned}
use Rattle.mach_base.specs.Machine.{Context}
use Rattle.rv_table.specs.declared.op.Op.{Op}
use Rattle.rv_table.specs.declared.op.Op.TheVariants.{Lui, Auipc, Jal, Jalr, Lb, Lh, Lw, Ld, Lbu, Lhu, Lwu, Addi, Slti, Sltiu, Xori, Ori, Andi, Slli, Srli, Srai, Addiw, Slliw, Srliw, Sraiw, Fence, Sb, Sh, Sw, Sd, LrW, LrD, ScW, ScD, AmoswapD, AmoaddD, AmoxorD, AmoandD, AmoorD, AmominD, AmomaxD, AmominuD, AmomaxuD, Ecall}
use Rattle.rv_alu.specs.Results.{is_alu, is_branch, is_amo}
use Rattle.mach_base.specs.Bytes.{IsWidth}
use Rattle.rv_decode.specs.Fields.{Fields}
use Rattle.hart_step.specs.declared.class.Class.{Class}
use Rattle.hart_step.specs.declared.class.Class.TheVariants as class

-- the computing operations that take an immediate
unfoldable pub has_immediate : Op → Bool
has_immediate Addi = true
has_immediate Slti = true
has_immediate Sltiu = true
has_immediate Xori = true
has_immediate Ori = true
has_immediate Andi = true
has_immediate Addiw = true
has_immediate Slli = true
has_immediate Srli = true
has_immediate Srai = true
has_immediate Slliw = true
has_immediate Srliw = true
has_immediate Sraiw = true
has_immediate other = false

-- the width in bytes of an atomic operation
unfoldable pub atomic_width : Op → ℕ
atomic_width AmoswapD = 8
atomic_width AmoaddD = 8
atomic_width AmoxorD = 8
atomic_width AmoandD = 8
atomic_width AmoorD = 8
atomic_width AmominD = 8
atomic_width AmomaxD = 8
atomic_width AmominuD = 8
atomic_width AmomaxuD = 8
atomic_width other = 4

-- the class of an operation that neither branches nor computes; a load says whether it carries the sign on
unfoldable pub other_class : Op → Class
other_class Lui = class.Upper
other_class Auipc = class.UpperPc
other_class Jal = class.Jump
other_class Jalr = class.JumpRegister
other_class Lb = class.Load 1 true
other_class Lh = class.Load 2 true
other_class Lw = class.Load 4 true
other_class Ld = class.Load 8 false
other_class Lbu = class.Load 1 false
other_class Lhu = class.Load 2 false
other_class Lwu = class.Load 4 false
other_class Sb = class.Store 1
other_class Sh = class.Store 2
other_class Sw = class.Store 4
other_class Sd = class.Store 8
other_class Fence = class.Order
other_class LrW = class.Reserve 4
other_class LrD = class.Reserve 8
other_class ScW = class.Conditional 4
other_class ScD = class.Conditional 8
other_class Ecall = class.Service
other_class other = class.Breakpoint

-- The class of an operation.
unfoldable pub class_of : Op → Class
class_of op =
    if is_alu op then (if has_immediate op then class.Immediate else class.Registers)
    else (if is_branch op then class.Branch
    else (if is_amo op then class.Atomic (atomic_width op)
    else other_class op))

-- the width of its access, if it has one, is 1, 2, 4 or 8
abbrev pub HasWidth : Class → Type 0
HasWidth (class.Load width signed) = IsWidth width
HasWidth (class.Store width) = IsWidth width
HasWidth (class.Reserve width) = IsWidth width
HasWidth (class.Conditional width) = IsWidth width
HasWidth (class.Atomic width) = IsWidth width
HasWidth other = Unit {0}

-- it neither branches nor computes
abbrev pub IsOther : Class → Type 0
IsOther class.Immediate = ⊥
IsOther class.Registers = ⊥
IsOther class.Branch = ⊥
IsOther (class.Atomic width) = ⊥
IsOther other = Unit {0}

-- the value of a register
abbrev pub register : Context → ℕ → ℕ
register c n = slice_index c.registers n

-- the immediate as a 64-bit pattern
abbrev pub immediate : Fields → ℕ
immediate f = cast_unsigned w64 f.imm

-- the sum modulo 2^64
abbrev pub wrapped_sum : ℕ → ℕ → ℕ
wrapped_sum a b = (a + b) % 2 ^ 64

-- the address of a load or a store: rs1 and the immediate ("Load and Store Instructions")
abbrev pub address : Context → Fields → ℕ
address c f = wrapped_sum (register c f.rs1) (immediate f)

-- the number of so many bits with its sign carried on to 64
abbrev pub sign_extension : ℕ → ℕ → ℕ
sign_extension bits value = if nat_lt value (2 ^ (bits - 1)) then value else value + (2 ^ 64 - 2 ^ bits)

-- what a load of so many bytes puts into a register
abbrev pub extension : ℕ → Bool → ℕ → ℕ
extension width signed value = if signed then sign_extension (8 * width) value else value
