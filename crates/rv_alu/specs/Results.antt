-- The results of the operations. Where an operation isn't of a class, its result there means nothing.
use Rattle.std.specs.Prelude.{ℕ, ◌*◌, ◌/◌, ◌^◌, Bool, true, false, not, ◌==◌, nat_lt, pos, ◌*ℤ◌, int_lt, bit_and, bit_or, bit_xor}
use Rattle.std.specs.Int.{w32, w64, cast_signed, from_bool}
use Rattle.rv_table.specs.declared.op.Op.{Op}
use Rattle.rv_table.specs.declared.op.Op.TheVariants.{Add, Addi, Sub, Sll, Slli, Slt, Slti, Sltu, Sltiu, Xor, Xori, Srl, Srli, Sra, Srai, Or, Ori, And, Andi, Mul, Mulh, Mulhsu, Mulhu, Div, Divu, Rem, Remu, Addw, Addiw, Subw, Sllw, Slliw, Srlw, Srliw, Sraw, Sraiw, Mulw, Divw, Divuw, Remw, Remuw, Beq, Bne, Blt, Bge, Bltu, Bgeu, AmoswapD, AmoaddD, AmoxorD, AmoandD, AmoorD, AmominD, AmomaxD, AmominuD, AmomaxuD, AmoswapW, AmoaddW, AmoxorW, AmoandW, AmoorW, AmominW, AmomaxW, AmominuW, AmomaxuW}
use Rattle.rv_alu.specs.Words.{low, sign_extended, sum, difference, product, left_shift, right_shift, shifted_right_signed, high_half, quotient, remainder, quotient_unsigned, remainder_unsigned, least, greatest, least_unsigned, greatest_unsigned}

-- the operations on two registers, and on a register and an immediate
unfoldable pub is_alu : Op → Bool
is_alu Add = true
is_alu Addi = true
is_alu Sub = true
is_alu Sll = true
is_alu Slli = true
is_alu Slt = true
is_alu Slti = true
is_alu Sltu = true
is_alu Sltiu = true
is_alu Xor = true
is_alu Xori = true
is_alu Srl = true
is_alu Srli = true
is_alu Sra = true
is_alu Srai = true
is_alu Or = true
is_alu Ori = true
is_alu And = true
is_alu Andi = true
is_alu Mul = true
is_alu Mulh = true
is_alu Mulhsu = true
is_alu Mulhu = true
is_alu Div = true
is_alu Divu = true
is_alu Rem = true
is_alu Remu = true
is_alu Addw = true
is_alu Addiw = true
is_alu Subw = true
is_alu Sllw = true
is_alu Slliw = true
is_alu Srlw = true
is_alu Srliw = true
is_alu Sraw = true
is_alu Sraiw = true
is_alu Mulw = true
is_alu Divw = true
is_alu Divuw = true
is_alu Remw = true
is_alu Remuw = true
is_alu _ = false

-- what they put into rd; b is rs2 or the immediate, sign-extended. The forms on 32 bits sign-extend what the operation
-- gives on the low 32 bits
unfoldable pub alu_result : Op → ℕ → ℕ → ℕ
alu_result Add a b = sum w64 a b
alu_result Addi a b = sum w64 a b
alu_result Sub a b = difference w64 a b
alu_result Sll a b = left_shift w64 a b
alu_result Slli a b = left_shift w64 a b
alu_result Slt a b = from_bool (int_lt (cast_signed w64 a) (cast_signed w64 b))
alu_result Slti a b = from_bool (int_lt (cast_signed w64 a) (cast_signed w64 b))
alu_result Sltu a b = from_bool (nat_lt a b)
alu_result Sltiu a b = from_bool (nat_lt a b)
alu_result Xor a b = bit_xor a b
alu_result Xori a b = bit_xor a b
alu_result Srl a b = right_shift w64 a b
alu_result Srli a b = right_shift w64 a b
alu_result Sra a b = shifted_right_signed w64 a b
alu_result Srai a b = shifted_right_signed w64 a b
alu_result Or a b = bit_or a b
alu_result Ori a b = bit_or a b
alu_result And a b = bit_and a b
alu_result Andi a b = bit_and a b
alu_result Mul a b = product w64 a b
alu_result Mulh a b = high_half (cast_signed w64 a *ℤ cast_signed w64 b)
alu_result Mulhsu a b = high_half (cast_signed w64 a *ℤ pos b)
alu_result Mulhu a b = a * b / 2 ^ 64
alu_result Div a b = quotient w64 a b
alu_result Divu a b = quotient_unsigned w64 a b
alu_result Rem a b = remainder w64 a b
alu_result Remu a b = remainder_unsigned a b
alu_result Addw a b = sign_extended (sum w32 (low a) (low b))
alu_result Addiw a b = sign_extended (sum w32 (low a) (low b))
alu_result Subw a b = sign_extended (difference w32 (low a) (low b))
alu_result Sllw a b = sign_extended (left_shift w32 (low a) (low b))
alu_result Slliw a b = sign_extended (left_shift w32 (low a) (low b))
alu_result Srlw a b = sign_extended (right_shift w32 (low a) (low b))
alu_result Srliw a b = sign_extended (right_shift w32 (low a) (low b))
alu_result Sraw a b = sign_extended (shifted_right_signed w32 (low a) (low b))
alu_result Sraiw a b = sign_extended (shifted_right_signed w32 (low a) (low b))
alu_result Mulw a b = sign_extended (product w32 (low a) (low b))
alu_result Divw a b = sign_extended (quotient w32 (low a) (low b))
alu_result Divuw a b = sign_extended (quotient_unsigned w32 (low a) (low b))
alu_result Remw a b = sign_extended (remainder w32 (low a) (low b))
alu_result Remuw a b = sign_extended (remainder_unsigned (low a) (low b))
alu_result _ a b = 0

-- the conditional branches
unfoldable pub is_branch : Op → Bool
is_branch Beq = true
is_branch Bne = true
is_branch Blt = true
is_branch Bge = true
is_branch Bltu = true
is_branch Bgeu = true
is_branch _ = false

-- whether they are taken
unfoldable pub branch_taken : Op → ℕ → ℕ → Bool
branch_taken Beq a b = a == b
branch_taken Bne a b = not (a == b)
branch_taken Blt a b = int_lt (cast_signed w64 a) (cast_signed w64 b)
branch_taken Bge a b = not (int_lt (cast_signed w64 a) (cast_signed w64 b))
branch_taken Bltu a b = nat_lt a b
branch_taken Bgeu a b = not (nat_lt a b)
branch_taken _ a b = false

-- the atomic memory operations
unfoldable pub is_amo : Op → Bool
is_amo AmoswapD = true
is_amo AmoaddD = true
is_amo AmoxorD = true
is_amo AmoandD = true
is_amo AmoorD = true
is_amo AmominD = true
is_amo AmomaxD = true
is_amo AmominuD = true
is_amo AmomaxuD = true
is_amo AmoswapW = true
is_amo AmoaddW = true
is_amo AmoxorW = true
is_amo AmoandW = true
is_amo AmoorW = true
is_amo AmominW = true
is_amo AmomaxW = true
is_amo AmominuW = true
is_amo AmomaxuW = true
is_amo _ = false

-- what they store in place of `old`: a word of 64 bits, or of 32 for the forms on 32 bits
unfoldable pub amo_result : Op → ℕ → ℕ → ℕ
amo_result AmoswapD old b = b
amo_result AmoaddD old b = sum w64 old b
amo_result AmoxorD old b = bit_xor old b
amo_result AmoandD old b = bit_and old b
amo_result AmoorD old b = bit_or old b
amo_result AmominD old b = least w64 old b
amo_result AmomaxD old b = greatest w64 old b
amo_result AmominuD old b = least_unsigned old b
amo_result AmomaxuD old b = greatest_unsigned old b
amo_result AmoswapW old b = low b
amo_result AmoaddW old b = sum w32 (low old) (low b)
amo_result AmoxorW old b = bit_xor (low old) (low b)
amo_result AmoandW old b = bit_and (low old) (low b)
amo_result AmoorW old b = bit_or (low old) (low b)
amo_result AmominW old b = least w32 (low old) (low b)
amo_result AmomaxW old b = greatest w32 (low old) (low b)
amo_result AmominuW old b = least_unsigned (low old) (low b)
amo_result AmomaxuW old b = greatest_unsigned (low old) (low b)
amo_result _ old b = 0
