-- Look-ups and writes are those of the list of bytes.
use Rattle.std.proofs.Common.{◌≡◌, ℕ, zero, suc, ◌+◌, ◌<◌, ◌≤◌, true, false, cond, List, [], ◌∷◌, length, get_or, set, Some, None, refl, sym, ap, ◌∙◌, arith}
use Rattle.std.specs.Prelude.{slice_get}
use Rattle.std.proofs.lemmas.Bool.{eq-eqb, ne_eqb}
use Rattle.std.proofs.Math.Dec.{eqb-suc-suc}
use Rattle.std.proofs.lemmas.Option.{slice_get_past}
use Rattle.std.specs.Ordering.{nat_cmp, eq_by_cmp}
use Rattle.std.specs.Cmp.{nat_cmp_total, unsigned_tied}
use Rattle.std.specs.FinMap.{get, find, insert, from_entries, same_map, get-insert, get-from_entries, nat_cmp-IsAntisymmetric}
use Rattle.mach_base.specs.Machine.{numbered}

same_key : (q a : ℕ) → q ≡ a → eq_by_cmp nat_cmp q a ≡ true
same_key q a e = unsigned_tied q a ∙ eq-eqb q a e

other_key : (q a : ℕ) → (q ≡ a → ⊥) → eq_by_cmp nat_cmp q a ≡ false
other_key q a ne = unsigned_tied q a ∙ ne_eqb q a ne

find-numbered : (q at k : ℕ) (bs : List ℕ) → q ≡ at + k → find nat_cmp q (numbered at bs) ≡ slice_get bs k
find-numbered q at k [] e = refl
find-numbered q at zero (b ∷ bs) e =
    ap (λ t. cond t (Some b) (find nat_cmp q (numbered (at + 1) bs))) (same_key q at (omega arith))
find-numbered q at (suc k) (b ∷ bs) e =
    ap (λ t. cond t (Some b) (find nat_cmp q (numbered (at + 1) bs))) (other_key q at (λ e'. omega arith)) ∙ find-numbered q (at + 1) k bs (omega arith)

-- the byte at an address
get_numbered : (bs : List ℕ) (addr : ℕ) → get (from_entries {R = nat_cmp} (numbered 0 bs)) addr ≡ slice_get bs addr
get_numbered bs addr = get-from_entries nat_cmp_total (numbered 0 bs) addr ∙ find-numbered addr 0 addr bs (omega arith)

slice_get-set : (bs : List ℕ) (k b q : ℕ) → k < length bs → slice_get (set bs k b) q ≡ cond (eq_by_cmp nat_cmp q k) (Some b) (slice_get bs q)
slice_get-set [] k b q lt = absurd (omega arith)
slice_get-set (x ∷ xs) zero b zero lt = sym (ap (λ t. cond t (Some b) (Some x)) (same_key 0 0 refl))
slice_get-set (x ∷ xs) zero b (suc q) lt = sym (ap (λ t. cond t (Some b) (slice_get xs q)) (other_key (suc q) 0 (λ e. omega arith)))
slice_get-set (x ∷ xs) (suc k) b zero lt = sym (ap (λ t. cond t (Some b) (Some x)) (other_key 0 (suc k) (λ e. omega arith)))
slice_get-set (x ∷ xs) (suc k) b (suc q) lt =
    slice_get-set xs k b q (omega arith) ∙ ap (λ t. cond t (Some b) (slice_get xs q)) (next q k)
  where
    next : (q k : ℕ) → eq_by_cmp nat_cmp q k ≡ eq_by_cmp nat_cmp (suc q) (suc k)
    next q k = unsigned_tied q k ∙ sym (eqb-suc-suc q k) ∙ sym (unsigned_tied (suc q) (suc k))

-- the bytes after a write
pub insert_numbered : (bs : List ℕ) (addr byte : ℕ) → addr < length bs → from_entries {R = nat_cmp} (numbered 0 (set bs addr byte)) ≡ insert (from_entries (numbered 0 bs)) addr byte
insert_numbered bs addr byte lt =
    same_map nat_cmp_total nat_cmp-IsAntisymmetric _ _ (λ q.
    get_numbered (set bs addr byte) q ∙ slice_get-set bs addr byte q lt ∙ ap (λ x. cond (eq_by_cmp nat_cmp q addr) (Some byte) x) (sym (get_numbered bs q)) ∙ sym (get-insert nat_cmp_total (from_entries (numbered 0 bs)) addr byte q))

slice_get-within : (bs : List ℕ) (k : ℕ) → k < length bs → slice_get bs k ≡ Some (get_or bs k 0)
slice_get-within [] k lt = absurd (omega arith)
slice_get-within (b ∷ bs) zero lt = refl
slice_get-within (b ∷ bs) (suc k) lt = slice_get-within bs k (omega arith)

-- which addresses are mapped
pub byte_within : (bs : List ℕ) (addr : ℕ) → addr < length bs → get (from_entries {R = nat_cmp} (numbered 0 bs)) addr ≡ Some (get_or bs addr 0)
byte_within bs addr lt = get_numbered bs addr ∙ slice_get-within bs addr lt

pub mapped_within : (bs : List ℕ) (addr : ℕ) → addr < length bs → get (from_entries {R = nat_cmp} (numbered 0 bs)) addr ≡ None → ⊥
mapped_within bs addr lt none =
    let is = byte_within bs addr lt in
    absurd (cc)

pub unmapped_past : (bs : List ℕ) (addr : ℕ) → length bs ≤ addr → get (from_entries {R = nat_cmp} (numbered 0 bs)) addr ≡ None
unmapped_past bs addr out = get_numbered bs addr ∙ slice_get_past bs addr out
