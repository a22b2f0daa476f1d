-- A register's item from its parts.
use Rattle.std.proofs.Common.{◌≡◌, ◌-◌, List, ◌++◌, ℕ, codes, length, replicate, slice_index, refl}
use Rattle.mach_base.specs.Number.{hex_text}
use Rattle.mach_base.specs.Machine.{Context}
use Rattle.hart_ctx.specs.declared.register_name.RegName.TheVariants.{X}
use Rattle.hart_ctx.specs.RegisterName.{name_of}
use Rattle.kdb_reg.specs.Registers.{register_item}

pub register_item-parts : (c : Context) (n count value : ℕ) (name : List ℕ) → name ≡ name_of (X n) → count ≡ 4 - length name → value ≡ slice_index c.registers n → replicate count 32 ++ (name ++ (codes ": " ++ hex_text 16 value)) ≡ register_item c n
unfolding register_item
register_item-parts c n count value name e f g = rw (f, e, g) refl
