-- The entries of the table, and the variables that they are.
use Rattle.std.proofs.Common.{◌≡◌, ℕ, Bool, true, false, cond, List, [], ◌∷◌, Some, Vec, Global, refl, ap, ◌∙◌}
use Rattle.std.specs.Option.{option_map}
use Rattle.std.specs.List.{AllZip}
use Rattle.std.specs.Map.{lookup}
use Rattle.std.specs.Str.{bytes_eq}
use Rattle.indexmap.specs.IndexMap.{insert_entry}
use Rattle.kdb_env.specs.Variables.{Variables, value_of, with_value}
use Rattle.kdb_env.specs.Table.{pairs_of}

-- inserted in its place or as the last
pub pairs_of-insert_entry : (es : List (Vec ℕ Global × Vec ℕ Global)) (k v : Vec ℕ Global) → pairs_of (insert_entry (λ x y. bytes_eq x.items y.items) es k v) ≡ with_value (pairs_of es) k.items v.items
pairs_of-insert_entry [] k v = refl
pairs_of-insert_entry (e ∷ es) k v = by (bytes_eq k.items e.0.items) (pairs_of-insert_entry es k v)
  where
    by : (t : Bool) → pairs_of (insert_entry (λ x y. bytes_eq x.items y.items) es k v) ≡ with_value (pairs_of es) k.items v.items → pairs_of (cond t ((e.0, v) ∷ es) (e ∷ insert_entry (λ x y. bytes_eq x.items y.items) es k v)) ≡ cond t ((e.0.items, v.items) ∷ pairs_of es) ((e.0.items, e.1.items) ∷ with_value (pairs_of es) k.items v.items)
    by true rest = refl
    by false rest = ap (λ vs. (e.0.items, e.1.items) ∷ vs) rest

-- found by its name
pub value_of-pairs_of : (es : List (Vec ℕ Global × Vec ℕ Global)) (name : List ℕ) → option_map (λ (v : Vec ℕ Global). v.items) (lookup (λ (k : Vec ℕ Global). bytes_eq name k.items) es) ≡ value_of (pairs_of es) name
value_of-pairs_of [] name = refl
value_of-pairs_of (e ∷ es) name = by (bytes_eq name e.0.items) (value_of-pairs_of es name)
  where
    by : (t : Bool) → option_map (λ (v : Vec ℕ Global). v.items) (lookup (λ (k : Vec ℕ Global). bytes_eq name k.items) es) ≡ value_of (pairs_of es) name → option_map (λ (v : Vec ℕ Global). v.items) (cond t (Some e.1) (lookup (λ (k : Vec ℕ Global). bytes_eq name k.items) es)) ≡ cond t (Some e.1.items) (value_of (pairs_of es) name)
    by true rest = refl
    by false rest = rest

-- entries that are clones of each other are the same variables
pub pairs_of-clones : (C : Vec ℕ Global → Vec ℕ Global → Type 0) → ((v w : Vec ℕ Global) → C v w → w.items ≡ v.items) → (es fs : List (Vec ℕ Global × Vec ℕ Global)) → AllZip (λ p q. C p.0 q.0 × C p.1 q.1) es fs → pairs_of fs ≡ pairs_of es
pairs_of-clones C same [] [] all = refl
pairs_of-clones C same [] (f ∷ fs) all = absurd all
pairs_of-clones C same (e ∷ es) [] all = absurd all
pairs_of-clones C same (e ∷ es) (f ∷ fs) all =
    let rest = pairs_of-clones C same es fs all.1 in
    ap (λ (n : List ℕ). (n, f.1.items) ∷ pairs_of fs) (same e.0 f.0 all.0.0)
    ∙ ap (λ (n : List ℕ). (e.0.items, n) ∷ pairs_of fs) (same e.1 f.1 all.0.1)
    ∙ ap (λ (vs : Variables). (e.0.items, e.1.items) ∷ vs) rest
