-- The names of the registers (RISC-V calling convention, "Integer Register Convention").
use Rattle.std.specs.Prelude.{ℕ, ◌+◌, ◌-◌, ◌*◌, ◌<◌, ◌==◌, ◌&&◌, Bool, List, [], ◌∷◌, codes, slice_index_or, Option, Some, None, find, nat_le, nat_lt, if◌then◌else◌}
use Rattle.std.specs.List.{range_with_len}
use Rattle.std.specs.Str.{bytes_eq}
use Rattle.hart_ctx.specs.declared.register_name.RegName.{RegName}
use Rattle.hart_ctx.specs.declared.register_name.RegName.TheVariants.{X, Pc}

-- the ABI names of x0 to x31
abbrev pub abi_names : List (List ℕ)
abi_names =
    codes "zero" ∷ codes "ra" ∷ codes "sp" ∷ codes "gp" ∷ codes "tp" ∷ codes "t0" ∷ codes "t1" ∷ codes "t2"
    ∷ codes "s0" ∷ codes "s1" ∷ codes "a0" ∷ codes "a1" ∷ codes "a2" ∷ codes "a3" ∷ codes "a4" ∷ codes "a5"
    ∷ codes "a6" ∷ codes "a7" ∷ codes "s2" ∷ codes "s3" ∷ codes "s4" ∷ codes "s5" ∷ codes "s6" ∷ codes "s7"
    ∷ codes "s8" ∷ codes "s9" ∷ codes "s10" ∷ codes "s11" ∷ codes "t3" ∷ codes "t4" ∷ codes "t5" ∷ codes "t6" ∷ []

-- the number of an integer register is below 32
abbrev pub IsRegister : RegName → Type 0
IsRegister (X n) = n < 32
IsRegister Pc = Unit {0}

-- how a register is printed
unfoldable pub name_of : RegName → List ℕ
name_of (X n) = slice_index_or abi_names n []
name_of Pc = codes "pc"

-- the number of the register of this ABI name
abbrev pub abi_number : List ℕ → Option ℕ
abi_number name = find (λ n. bytes_eq (slice_index_or abi_names n []) name) (range_with_len 0 32)

-- whether the byte is a decimal digit
abbrev pub is_decimal : ℕ → Bool
is_decimal b = nat_le 48 b && nat_le b 57

-- the number of the register that is named by its number: x0 to x31, without leading zeros
abbrev pub x_number : List ℕ → Option ℕ
x_number (x ∷ d ∷ []) = if (x == 120) && is_decimal d then Some (d - 48) else None
x_number (x ∷ t ∷ u ∷ []) =
    if (x == 120) && (nat_le 49 t && (is_decimal t && (is_decimal u && nat_lt (10 * (t - 48) + (u - 48)) 32))) then Some (10 * (t - 48) + (u - 48)) else None
x_number other = None

-- the register of this number, or else the other one
abbrev pub register_or : Option ℕ → Option RegName → Option RegName
register_or (Some n) other = Some (X n)
register_or None other = other

-- The register of a name without %: pc, fp (which is s0), an ABI name, or x and its number.
unfoldable pub register_of : List ℕ → Option RegName
register_of name =
    if bytes_eq name (codes "pc") then Some Pc
    else (if bytes_eq name (codes "fp") then Some (X 8)
    else register_or (abi_number name) (register_or (x_number name) None))

-- the name without a % at its head
abbrev pub bare : List ℕ → List ℕ
bare [] = []
bare (b ∷ bs) = if b == 37 then bs else b ∷ bs

-- the register that is named, with or without a leading %
abbrev pub register_named : List ℕ → Option RegName
register_named name = register_of (bare name)
