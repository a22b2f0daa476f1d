-- Causes of refusal in their order.
use Rattle.std.specs.Prelude.{◌≡◌, Bool, List, [], ◌∷◌, Option, Some, None, Result, Ok, Err, if◌then◌else◌}
use Rattle.elf_img.specs.declared.fault.ElfFault.{ElfFault}
use Rattle.elf_img.specs.declared.fault.ElfFault.TheVariants.{Bad, TooLarge, OutOfMemory}

-- whether something is wrong, and the fault that it is
abbrev pub Cause : Type 0
Cause = Bool × ElfFault

-- the fault of the first cause that is so
abbrev pub first_fault : List Cause → Option ElfFault
first_fault [] = None
first_fault (c ∷ cs) = if c.0 then Some c.1 else first_fault cs

-- a fault is that of the first cause that is so, unless memory ran out
abbrev pub IsFirst : ElfFault → List Cause → Type 0
IsFirst (Bad why) causes = first_fault causes ≡ Some (Bad why)
IsFirst (TooLarge what size) causes = first_fault causes ≡ Some (TooLarge what size)
IsFirst OutOfMemory causes = Unit {0}

-- a call answers only where no cause is so, and refuses for the first one, or for lack of memory
abbrev pub Passes : {A : Type 0} → Result A ElfFault → List Cause → Type 0
Passes (Ok x) causes = first_fault causes ≡ None
Passes (Err fault) causes = IsFirst fault causes
