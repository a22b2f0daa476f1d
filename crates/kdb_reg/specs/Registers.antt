-- How registers are shown, and what setting one leaves.
use Rattle.std.specs.Prelude.{ℕ, zero, suc, ◌+◌, ◌-◌, ◌*◌, ◌==◌, Bool, false, List, [], ◌++◌, length, codes, replicate, slice_index}
use Rattle.mach_base.specs.Number.{hex_text}
use Rattle.mach_base.specs.Texts.{newline, address_text}
use Rattle.mach_base.specs.Machine.{Context}
use Rattle.hart_ctx.specs.declared.register_name.RegName.{RegName}
use Rattle.hart_ctx.specs.declared.register_name.RegName.TheVariants.{X, Pc}
use Rattle.hart_ctx.specs.RegisterName.{name_of}
use Rattle.hart_ctx.specs.Context.{with_register}

-- a register and its value: the name right in 4 places, then 16 digits
unfoldable pub register_item : Context → ℕ → List ℕ
register_item c n =
    replicate (4 - length (name_of (X n))) 32 ++ (name_of (X n) ++ (codes ": " ++ hex_text 16 (slice_index c.registers n)))

-- four registers on a line, from this one on
unfoldable pub register_row : Context → ℕ → List ℕ
register_row c n =
    register_item c n ++ (codes "  " ++ (register_item c (n + 1) ++ (codes "  " ++ (register_item c (n + 2) ++ (codes "  " ++ (register_item c (n + 3) ++ newline))))))

-- the first rows
abbrev pub register_rows : Context → ℕ → List ℕ
register_rows c zero = []
register_rows c (suc n) = register_rows c n ++ register_row c (4 * n)

-- all registers, four on a line, then the pc alone
unfoldable pub registers_text : Context → List ℕ
registers_text c = register_rows c 8 ++ (codes "  pc: " ++ (hex_text 16 c.pc ++ newline))

-- whether it is register 0, which is always 0
abbrev pub is_zero : RegName → Bool
is_zero (X n) = n == 0
is_zero Pc = false

-- the context after a write to the register that is named
abbrev pub with_named : Context → RegName → ℕ → Context
with_named c (X n) value = with_register c n value
with_named c Pc value = record c { pc = value }

-- the line that says which value a register was given
unfoldable pub set_text : RegName → ℕ → List ℕ
set_text reg value = name_of reg ++ (codes " = " ++ (address_text value ++ newline))
