-- Two rows that fix a common bit to different values are disjoint, and all pairs of the table's rows are so.
use Rattle.std.proofs.Common.{◌≡◌, ℕ, zero, suc, ◌<◌, List, [], ◌∷◌, length, get_or, Bool, true, not, ◌&&◌, refl, sym, ap, ◌∙◌, arith, bit_and, AllPairs}
use Rattle.std.specs.Prelude.{◌==◌}
use Rattle.std.specs.List.{list_all}
use Rattle.std.proofs.lemmas.Bool.Decides.{Decides-eqb}
use Rattle.std.proofs.lemmas.Bool.{false≢true, and_parts, true_from_ne_false}
use Rattle.std.proofs.lemmas.List.Folds.{list_all_at}
use Rattle.std.proofs.lemmas.Nat.{and_comm, and_assoc}
use Rattle.rv_table.specs.declared.table.Row.{Row}
use Rattle.rv_table.specs.Rows.{row_for, the_ops, the_rows, Disjoint}

-- the two rows want different values of a bit that both fix
abbrev pub apart : Row → Row → Bool
apart r s = not (bit_and r.value s.mask == bit_and s.value r.mask)

-- each element passes a test that the whole list passes
pub list_all_true : {X : Type 0} (test : X → Bool) (xs : List X) → list_all test xs ≡ true
    → (i : ℕ) (d : X) → i < length xs → test (get_or xs i d) ≡ true
list_all_true test xs h i d p =
    true_from_ne_false _ (λ f. false≢true (sym (list_all_at test xs i d p f) ∙ h))

-- each two rows of the list are apart
abbrev pub all_apart : List Row → Bool
all_apart [] = true
all_apart (r ∷ rs) = list_all (apart r) rs && all_apart rs

-- both values, cut to the bits that both rows fix, are the word cut to them
same_cut : (word m n u v : ℕ) → bit_and word m ≡ u → bit_and word n ≡ v → bit_and u n ≡ bit_and v m
same_cut word m n u v p q =
    ap (λ x. bit_and x n) (sym p) ∙ and_assoc n word m ∙ ap (bit_and word) (and_comm m n) ∙ sym (and_assoc m word n)
    ∙ ap (λ x. bit_and x m) q

pub Disjoint-apart : (r s : Row) → apart r s ≡ true → Disjoint r s
Disjoint-apart r s h word p q =
    let u : bit_and word r.mask ≡ r.value = (Decides-eqb _ _).0 p in
    let v : bit_and word s.mask ≡ s.value = (Decides-eqb _ _).0 q in
    let e : (bit_and r.value s.mask == bit_and s.value r.mask) ≡ true =
    (Decides-eqb _ _).1 (same_cut word r.mask s.mask r.value s.value u v) in
    let f : not true ≡ true = rw e at h in
    cc

pub AllPairs-all_apart : (rs : List Row) → all_apart rs ≡ true → AllPairs Disjoint rs
AllPairs-all_apart [] h i j d p q = absurd (omega arith)
AllPairs-all_apart (r ∷ rs) h i zero d p q = absurd (omega arith)
AllPairs-all_apart (r ∷ rs) h zero (suc j) d p q =
    Disjoint-apart r (get_or rs j d) (list_all_true (apart r) rs ((and_parts _ _ h).0) j d (omega arith))
AllPairs-all_apart (r ∷ rs) h (suc i) (suc j) d p q =
    AllPairs-all_apart rs ((and_parts _ _ h).1) i j d (omega arith) (omega arith)

pub the_rows_apart : all_apart the_rows ≡ true
unfolding the_rows the_ops row_for
the_rows_apart = refl
