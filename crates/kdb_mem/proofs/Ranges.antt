-- Ranges that are not empty.
use Rattle.std.proofs.Common.{◌≡◌, ℕ, zero, suc, ◌/◌, ◌%◌, ◌<◌, true, Some, refl, arith}
use Rattle.std.proofs.Math.Nat.{zero-div, zero-mod}
use Rattle.mach_base.specs.Machine.{Memory}
use Rattle.kdb_mem.specs.Range.{is_unmapped, first_unmapped}

-- where the first address of a range is unmapped, it is the first unmapped one
pub unmapped_at_once : (m : Memory) (addr len : ℕ) → 0 < len → is_unmapped m addr ≡ true → first_unmapped m addr len ≡ Some addr
unmapped_at_once m addr zero some is = absurd (omega arith)
unmapped_at_once m addr (suc n) some is = rw is refl

-- nothing divided is nothing
pub some_to_divide : (count k : ℕ) → 0 < count / k → 0 < count
some_to_divide zero k h = absurd (omega (arith, zero-div k))
some_to_divide (suc n) k h = omega arith

pub some_left : (count k : ℕ) → 0 < count % k → 0 < count
some_left zero k h = absurd (omega (arith, zero-mod k))
some_left (suc n) k h = omega arith
