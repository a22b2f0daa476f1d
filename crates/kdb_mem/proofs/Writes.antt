-- The bytes of a mapped range stay mapped while they are written.
use Rattle.std.proofs.Common.{◌≡◌, ℕ, zero, suc, ◌+◌, ◌*◌, ◌/◌, ◌%◌, ◌^◌, ◌<◌, Bool, true, false, cond, is_none, IsTrue, ◌↔◌, Option, Some, None, refl, sym, ap, ◌∙◌, arith}
use Rattle.std.proofs.lemmas.Bool.{false≢true}
use Rattle.std.specs.Ordering.{nat_cmp, eq_by_cmp}
use Rattle.std.specs.FinMap.{get, insert, get-insert}
use Rattle.std.specs.Bool.{OnTrue}
use Rattle.std.specs.Cmp.{nat_cmp_total}
use Rattle.mach_base.specs.Machine.{Memory, byte_at}
use Rattle.kdb_mem.specs.Range.{is_unmapped, first_unmapped}
use Rattle.mach_base.specs.Bytes.{with_bytes, with_value}

find_none : (b : Bool) (addr : ℕ) (rest : Option ℕ) → cond b (Some addr) rest ≡ None → (b ≡ false) × (rest ≡ None)
find_none true addr rest h = absurd (cc)
find_none false addr rest h = (refl, h)

-- where no address of a range is unmapped, each of them is mapped
pub all_mapped : (m : Memory) (addr len k : ℕ) → first_unmapped m addr len ≡ None → k < len → byte_at m (addr + k) ≡ None → ⊥
all_mapped m addr zero k none lt h = absurd (omega arith)
all_mapped m addr (suc n) zero none lt h =
    let here = (find_none (is_unmapped m addr) addr (first_unmapped m (addr + 1) n) none).0 in
    let at : addr + 0 ≡ addr = omega arith in
    let out : is_unmapped m addr ≡ true = ap is_none (rw at at h) in
    false≢true (sym here ∙ out)
all_mapped m addr (suc n) (suc k) none lt h =
    let rest = (find_none (is_unmapped m addr) addr (first_unmapped m (addr + 1) n) none).1 in
    let at : addr + suc k ≡ (addr + 1) + k = omega arith in
    all_mapped m (addr + 1) n k rest (omega arith) (rw at at h)

unhidden : (b : Bool) (byte : ℕ) (old : Option ℕ) → cond b (Some byte) old ≡ None → old ≡ None
unhidden true byte old h = absurd (cc)
unhidden false byte old h = h

-- what is mapped stays so when bytes are written
pub still_mapped : (m : Memory) (addr n value at : ℕ) → byte_at (with_value m addr n value) at ≡ None → byte_at m at ≡ None
still_mapped m addr zero value at h = h
still_mapped m addr (suc n) value at h =
    let byte = value / 2 ^ (8 * n) % 256 in
    let old = with_bytes m.bytes addr n value in
    still_mapped m addr n value at (unhidden (eq_by_cmp nat_cmp at (addr + n)) byte (get old at) (sym (get-insert nat_cmp_total old (addr + n) byte at) ∙ h))

-- one byte more is written: memory before the first of them, before this one, and after it
pub one_more : (before old new : Memory) (addr n width value at byte : ℕ) (done : Bool) → old ≡ with_value before addr n value → first_unmapped before addr width ≡ None → n < width → at ≡ addr + n → byte ≡ value / 2 ^ (8 * n) % 256 → (IsTrue done ↔ (byte_at old at ≡ None → ⊥)) → OnTrue done (new ≡ record old { bytes = insert old.bytes at byte }) → new ≡ with_value before addr (suc n) value
one_more before old new addr n width value at byte true is none lt place part told written =
    written ∙ rw (is, place, part) refl
one_more before old new addr n width value at byte false is none lt place part told written =
    let mapped : byte_at old at ≡ None → ⊥ = λ h. all_mapped before addr width n none lt (still_mapped before addr n value (addr + n) (rw (is, place) at h)) in
    absurd (false≢true (told.1 mapped))
