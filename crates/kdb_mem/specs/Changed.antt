-- What a write to memory prints, and when it is refused. `with_value` of mach_base says what it leaves.
use Rattle.std.specs.Prelude.{ℕ, ◌*◌, ◌^◌, nat_lt, List, ◌++◌, codes, Option, Some, None, if◌then◌else◌}
use Rattle.mach_base.specs.Texts.{newline, address_text}
use Rattle.mach_base.specs.Machine.{Memory}
use Rattle.kdb_mem.specs.declared.mem_fault.MemFault.{MemFault}
use Rattle.kdb_mem.specs.declared.mem_fault.MemFault.TheVariants.{BadAddr, TooWide}
use Rattle.kdb_mem.specs.Range.{first_unmapped}

-- the refusal of a value that needs more than `width` bytes
abbrev pub width_refusal : ℕ → ℕ → Option MemFault
width_refusal width value = if nat_lt value (2 ^ (8 * width)) then None else Some TooWide

-- the refusal of an unmapped address, if there is one, else the other
abbrev pub address_or : Option ℕ → Option MemFault → Option MemFault
address_or (Some addr) other = Some (BadAddr addr)
address_or None other = other

-- the first refusal of a write of the value in `width` bytes at the address
abbrev pub modify_refusal : Memory → ℕ → ℕ → ℕ → Option MemFault
modify_refusal m addr width value = address_or (first_unmapped m addr width) (width_refusal width value)

-- the line that says which value was written where
unfoldable pub modify_text : ℕ → ℕ → List ℕ
modify_text addr value = address_text addr ++ (codes " = " ++ (address_text value ++ newline))
