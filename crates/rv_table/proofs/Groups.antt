-- A look-up among the rows of the word's major opcode is a look-up among all rows.
use Rattle.std.proofs.Common.{◌≡◌, ℕ, zero, suc, ◌+◌, ◌-◌, ◌<◌, ◌≤◌, ◌/◌, ◌%◌, ◌^◌, List, [], ◌∷◌, length, get_or, take, drop, Bool, true, false, not, ◌&&◌, refl, sym, ap, ◌∙◌, arith, bit_and, Option, Some, None, add-zero, zero-add, subst}
use Rattle.std.specs.Prelude.{◌==◌, find}
use Rattle.std.specs.List.{list_all}
use Rattle.std.specs.Option.{option_or}
use Rattle.std.proofs.lemmas.Bool.{and_parts, not-true, both_ways, cond-false, eqb-true, leb-true, false_from_ne_true, eq-eqb}
use Rattle.std.proofs.lemmas.List.{take-append-drop}
use Rattle.std.proofs.lemmas.List.Folds.{find-append}
use Rattle.std.proofs.lemmas.Nat.{and_shr, and_mod, and_mask}
use Rattle.rv_table.specs.declared.table.Row.{Row}
use Rattle.rv_table.specs.Groups.{major_opcode, has_other_opcode, is_group, IsGroup}
use Rattle.rv_table.specs.Rows.{the_rows, matches, row_of}

-- a word under a mask that fixes the major opcode keeps its own
major_opcode-and : (word mask : ℕ) → major_opcode mask ≡ 31 → major_opcode (bit_and word mask) ≡ major_opcode word
major_opcode-and word mask h =
    ap (λ x. x % 2 ^ 5) (and_shr word mask 2)
    ∙ and_mod (word / 2 ^ 2) (mask / 2 ^ 2) 5
    ∙ ap (bit_and (word / 2 ^ 2 % 2 ^ 5)) h
    ∙ and_mask (word / 2 ^ 2 % 2 ^ 5) 5
    ∙ omega arith

-- such a row is not the word's
matches-other_opcode : (word : ℕ) (r : Row) → has_other_opcode (major_opcode word) r ≡ true → matches word r ≡ false
matches-other_opcode word r h =
    let parts = and_parts (major_opcode r.mask == 31) (not (major_opcode r.value == major_opcode word)) h in
    false_from_ne_true _ (λ m. both_ways _ (not-true _ parts.1) (eq-eqb _ _
    (ap major_opcode (sym (eqb-true _ _ m)) ∙ major_opcode-and word r.mask (eqb-true _ _ parts.0))))

find-other_opcode : (word : ℕ) (rs : List Row) → list_all (has_other_opcode (major_opcode word)) rs ≡ true
    → find (matches word) rs ≡ None
find-other_opcode word [] h = refl
find-other_opcode word (r ∷ rs) h =
    let parts = and_parts (has_other_opcode (major_opcode word) r) (list_all (has_other_opcode (major_opcode word)) rs) h in
    cond-false _ _ _ (matches-other_opcode word r parts.0) ∙ find-other_opcode word rs parts.1

or_none : (o : Option Row) → option_or o None ≡ o
or_none None = refl
or_none (Some r) = refl

-- nothing is found in the front nor in the rear, so what is found is in the middle
find-middle : (test : Row → Bool) (rs : List Row) (from to : ℕ) → find test (take from rs) ≡ None
    → find test (drop (to - from) (drop from rs)) ≡ None
    → find test (take (to - from) (drop from rs)) ≡ find test rs
find-middle test rs from to p q =
    let middle : List Row = take (to - from) (drop from rs) in
    let rear : List Row = drop (to - from) (drop from rs) in
    let whole : find test rs ≡ option_or (find test (take from rs)) (find test (drop from rs)) =
    ap (find test) (sym (take-append-drop from rs)) ∙ find-append test (take from rs) (drop from rs) in
    let rest : find test (drop from rs) ≡ option_or (find test middle) (find test rear) =
    ap (find test) (sym (take-append-drop (to - from) (drop from rs))) ∙ find-append test middle rear in
    sym (whole ∙ ap (λ o. option_or o (find test (drop from rs))) p ∙ rest
    ∙ ap (option_or (find test middle)) q ∙ or_none (find test middle))

pub row_of-in_group : (word : ℕ) (g : ℕ × ℕ) → IsGroup (major_opcode word) g
    → find (matches word) (take (g.1 - g.0) (drop g.0 the_rows)) ≡ row_of word
unfolding row_of
row_of-in_group word g h =
    let p = and_parts _ _ h.holds in
    let q = and_parts _ _ p.1 in
    let r = and_parts _ _ q.1 in
    find-middle (matches word) the_rows g.0 g.1 (find-other_opcode word _ r.0) (find-other_opcode word _ r.1)

pub group_within : (opcode : ℕ) (g : ℕ × ℕ) → IsGroup opcode g → (g.0 ≤ g.1) × (g.1 ≤ length the_rows)
group_within opcode g h =
    let p = and_parts _ _ h.holds in
    (leb-true _ _ p.0, leb-true _ _ (and_parts _ _ p.1).0)

-- the list has the groups of the opcodes from this one on
abbrev pub are_groups : ℕ → List (ℕ × ℕ) → Bool
are_groups opcode [] = true
are_groups opcode (g ∷ gs) = is_group opcode g && are_groups (suc opcode) gs

pub are_groups-at : (opcode : ℕ) (gs : List (ℕ × ℕ)) → are_groups opcode gs ≡ true → (i : ℕ) (d : ℕ × ℕ) → i < length gs
    → IsGroup (opcode + i) (get_or gs i d)
are_groups-at opcode [] h i d p = absurd (omega arith)
are_groups-at opcode (g ∷ gs) h zero d p = rw add-zero (record { holds = (and_parts _ _ h).0 })
are_groups-at opcode (g ∷ gs) h (suc i) d p =
    let e : suc opcode + i ≡ opcode + suc i = omega arith in
    let rest : IsGroup (suc opcode + i) (get_or gs i d) = are_groups-at (suc opcode) gs (and_parts _ _ h).1 i d (omega arith) in
    subst (λ k. IsGroup k (get_or gs i d)) e rest

pub are_groups_from_zero : (gs : List (ℕ × ℕ)) → are_groups 0 gs ≡ true → (i : ℕ) (d : ℕ × ℕ) → i < length gs
    → IsGroup i (get_or gs i d)
are_groups_from_zero gs h i d p = subst (λ k. IsGroup k (get_or gs i d)) (zero-add i) (are_groups-at 0 gs h i d p)
