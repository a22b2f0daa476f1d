-- The one spelling of each word.
use Rattle.std.specs.Prelude.{ℕ, Bool, true, false, List, [], ◌∷◌, ◌++◌, codes, Option, Some, None}
use Rattle.std.specs.Fmt.{digits, signed_decimal}
use Rattle.std.specs.Int.{w32, cast_unsigned}
use Rattle.mach_base.specs.Number.{hex_text}
use Rattle.hart_ctx.specs.RegisterName.{name_of}
use Rattle.hart_ctx.specs.declared.register_name.RegName.TheVariants.{X}
use Rattle.rv_table.specs.Mnemonics.{op_name}
use Rattle.rv_decode.specs.Bits.{bits_at}
use Rattle.rv_decode.specs.Fields.{Fields, decoded}
use Rattle.rv_asm.specs.declared.parts.Part.{Part}
use Rattle.rv_asm.specs.declared.parts.Part.TheVariants.{Rd, Rs1, Rs2, Imm, Upper, Comma, Open, Close}
use Rattle.rv_asm.specs.Parts.{parts_of}

-- bits 12 to 31 of an upper immediate, as a number without a sign
abbrev pub upper_bits : Fields → ℕ
upper_bits f = bits_at (cast_unsigned w32 f.imm) 12 20

-- how each part is written: a register by its ABI name, an immediate in decimal with `-` before a negative one and
-- without leading zeros, an upper immediate as 0x and its lower-case digits without leading zeros
unfoldable pub part_text : Fields → Part → List ℕ
part_text f Rd = name_of (X f.rd)
part_text f Rs1 = name_of (X f.rs1)
part_text f Rs2 = name_of (X f.rs2)
part_text f Imm = signed_decimal f.imm
part_text f Upper = codes "0x" ++ digits 16 false (upper_bits f)
part_text f Comma = codes ", "
part_text f Open = codes "("
part_text f Close = codes ")"

-- the parts one after the other
abbrev pub parts_text : Fields → List Part → List ℕ
parts_text f [] = []
parts_text f (part ∷ parts) = part_text f part ++ parts_text f parts

-- the operands after a blank, and nothing at all where there are none
abbrev pub operands_text : Fields → List Part → List ℕ
operands_text f [] = []
operands_text f (part ∷ parts) = codes " " ++ parts_text f (part ∷ parts)

-- how the ordering bits aq and rl are written after the mnemonic
abbrev pub order_text : Bool → Bool → List ℕ
order_text true true = codes ".aqrl"
order_text true false = codes ".aq"
order_text false true = codes ".rl"
order_text false false = []

-- an instruction
unfoldable pub instruction_text : Fields → List ℕ
instruction_text f = op_name f.op ++ (order_text f.aq f.rl ++ operands_text f (parts_of f.op))

-- a word that is no instruction: its eight digits
unfoldable pub data_text : ℕ → List ℕ
data_text word = codes ".word 0x" ++ hex_text 8 word

-- the text of the instruction, or else of the data
abbrev pub text_or : ℕ → Option Fields → List ℕ
text_or word (Some f) = instruction_text f
text_or word None = data_text word

-- the spelling of a word
unfoldable pub insn_text : ℕ → List ℕ
insn_text word = text_or word (decoded word)
