-- What a line may mean. A line is read loosely here: digits may be too many or no digits, marks may be missing. Whether
-- it spells the word is decided by writing the word again.
use Rattle.std.specs.Prelude.{ℕ, ◌+◌, ◌-◌, ◌*◌, ◌%◌, ◌^◌, ◌<◌, Bool, true, false, not, ◌==◌, ◌||◌, List, [], ◌∷◌, codes, length, take, drop, Option, Some, None, option_map, option_and_then, if◌then◌else◌, ℤ, pos, neg_ℤ}
use Rattle.std.specs.List.{prefix_len, ends_with}
use Rattle.std.specs.Str.{bytes_eq}
use Rattle.std.specs.Str.Parse.{digits_value}
use Rattle.rv_table.specs.declared.op.Op.{Op}
use Rattle.rv_table.specs.Mnemonics.{op_named}
use Rattle.rv_table.specs.Rows.{row_for}
use Rattle.rv_decode.specs.Bits.{signed}
use Rattle.rv_decode.specs.Encoding.{encoded}
use Rattle.rv_decode.specs.Fields.{Fields, fits_form}
use Rattle.hart_ctx.specs.RegisterName.{register_named}
use Rattle.hart_ctx.specs.declared.register_name.RegName.{RegName}
use Rattle.hart_ctx.specs.declared.register_name.RegName.TheVariants.{X}
use Rattle.rv_asm.specs.declared.loose.Operands.{Operands}
use Rattle.rv_asm.specs.declared.parts.Part.{Part}
use Rattle.rv_asm.specs.declared.parts.Part.TheVariants.{Rd, Rs1, Rs2, Imm, Upper, Comma, Open, Close}
use Rattle.rv_asm.specs.Parts.{parts_of}

-- whether the byte ends a word: a blank, a comma or a parenthesis
abbrev pub is_mark : ℕ → Bool
is_mark b = (b == 32) || ((b == 44) || ((b == 40) || (b == 41)))

-- how long the word at the head of a text is
unfoldable pub word_len : List ℕ → ℕ
word_len text = prefix_len (λ b. not (is_mark b)) text

-- the number that digits write, modulo 2^32
unfoldable pub value_of : ℕ → List ℕ → ℕ
value_of radix text = digits_value radix text % 2 ^ 32

-- the number of a register, 0 where the name is none
abbrev pub number_in : Option RegName → ℕ
number_in (Some (X n)) = n
number_in _ = 0

-- the number of the register of this name, 0 where there is none
abbrev pub register_meant : List ℕ → ℕ
register_meant name = number_in (register_named name)

-- a signed number, of 31 bits at most
unfoldable pub number_meant : List ℕ → ℤ
number_meant [] = pos 0
number_meant (b ∷ text) = if b == 45 then neg_ℤ (pos (value_of 10 text % 2 ^ 31)) else pos (value_of 10 (b ∷ text) % 2 ^ 31)

-- an upper immediate: 20 bits after 0x
unfoldable pub upper_meant : List ℕ → ℤ
upper_meant text = signed 32 (value_of 16 (drop 2 text) % 2 ^ 20 * 2 ^ 12)

-- the operands where this text stands for this part
unfoldable pub with_part : Part → List ℕ → Operands → Operands
with_part Rd text o = record o { rd = register_meant text }
with_part Rs1 text o = record o { rs1 = register_meant text }
with_part Rs2 text o = record o { rs2 = register_meant text }
with_part Imm text o = record o { imm = number_meant text }
with_part Upper text o = record o { imm = upper_meant text }
with_part _ text o = o

-- how many bytes of a text a part takes: a mark its own, all else a word
unfoldable pub part_len : Part → List ℕ → ℕ
part_len Comma text = 2
part_len Open text = 1
part_len Close text = 1
part_len _ text = word_len text

-- the operands of parts that stand one after the other
abbrev pub operands_meant : List Part → List ℕ → Operands → Operands
operands_meant [] text o = o
operands_meant (part ∷ parts) text o =
    operands_meant parts (drop (part_len part text) text) (with_part part (take (part_len part text) text) o)

-- an operation with its ordering bits
abbrev pub with_order : Bool → Bool → Option Op → Option (Op × Bool × Bool)
with_order aq rl op = option_map (λ o. (o, aq, rl)) op

-- the name without so many bytes at its end
abbrev pub front : ℕ → List ℕ → List ℕ
front n name = take (length name - n) name

-- the operation and the ordering bits of a name
unfoldable pub named : List ℕ → Option (Op × Bool × Bool)
named name =
    if ends_with (λ a b. a == b) name (codes ".aqrl") then with_order true true (op_named (front 5 name))
    else (if ends_with (λ a b. a == b) name (codes ".aq") then with_order true false (op_named (front 3 name))
    else (if ends_with (λ a b. a == b) name (codes ".rl") then with_order false true (op_named (front 3 name))
    else with_order false false (op_named name)))

-- no operand
abbrev pub no_operands : Operands
no_operands = record { rd = 0; rs1 = 0; rs2 = 0; imm = pos 0 }

-- the numbers of registers
abbrev pub HasRegisters : Operands → Type 0
HasRegisters o = (o.rd < 32) × (o.rs1 < 32) × (o.rs2 < 32)

-- an operation with what was read of its operands
abbrev pub fields_meant : Op × Bool × Bool → Operands → Fields
fields_meant head o = record { op = head.0; rd = o.rd; rs1 = o.rs1; rs2 = o.rs2; imm = o.imm; aq = head.1; rl = head.2 }

-- the fields fit the operation's form
abbrev pub fits : Fields → Bool
fits f = fits_form (row_for f.op).form f.rd f.rs1 f.rs2 f.imm f.aq f.rl

-- the word of fields that fit
abbrev pub word_if_fits : Fields → Option ℕ
word_if_fits f = if fits f then Some (encoded f) else None

-- the word of an instruction by its name and its operands
abbrev pub instruction_meant : List ℕ → List ℕ → Option ℕ
instruction_meant name text =
    option_and_then (λ head. word_if_fits (fields_meant head (operands_meant (parts_of head.0) text no_operands))) (named name)

-- the word that a line may spell: data, or an instruction
unfoldable pub word_meant : List ℕ → Option ℕ
word_meant line =
    if bytes_eq (take (word_len line) line) (codes ".word") then Some (value_of 16 (drop (word_len line + 3) line))
    else instruction_meant (take (word_len line) line) (drop (word_len line + 1) line)
