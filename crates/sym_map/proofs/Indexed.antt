-- An index with an entry more.
use Rattle.std.proofs.Common.{◌≡◌, ℕ, suc, ◌<◌, Bool, true, false, cond, List, [], ◌∷◌, length, drop, get_or, Option, Some, Vec, Global, refl, sym, ap, ◌∙◌, drop-cons}
use Rattle.std.specs.declared.cmp.Ordering.{Ordering}
use Rattle.std.specs.declared.cmp.Ordering.TheVariants.{Less, Equal, Greater}
use Rattle.std.specs.Ordering.{nat_cmp, is_eq, match_ordering}
use Rattle.std.specs.Cmp.Lexicographic.{slice_cmp}
use Rattle.std.specs.Map.{lookup}
use Rattle.std.specs.Option.{option_map}
use Rattle.std.specs.Str.{bytes_eq}
use Rattle.std.specs.BTreeMap.{is_at, insert_entry}
use Rattle.std.specs.List.{find}
use Rattle.std.proofs.lemmas.Map.Text.{is_eq-slice_cmp}
use Rattle.std.proofs.lemmas.Map.Lookups.{exact_bytes}
use Rattle.mach_base.specs.Machine.{Symbol}
use Rattle.sym_map.specs.Lookups.{is_named, addr_of}
use Rattle.sym_map.specs.Index.{ByName, IndexesNames}

abbrev Entries : Type 0
Entries = List (Vec ℕ Global × ℕ)

abbrev by_items : Vec ℕ Global → Vec ℕ Global → Ordering
by_items x y = slice_cmp nat_cmp x.items y.items

-- whether a key has these bytes
abbrev has : List ℕ → Vec ℕ Global → Bool
has name = is_at (λ k. slice_cmp nat_cmp name k.items)

is_eq-Equal : (o : Ordering) → is_eq o ≡ true → o ≡ Equal
is_eq-Equal Less h = absurd (cc)
is_eq-Equal Equal h = refl
is_eq-Equal Greater h = absurd (cc)

-- what is found under a name once an entry is in
pub lookup-insert_entry : (es : Entries) (k : Vec ℕ Global) (v : ℕ) (name : List ℕ) → lookup (has name) (insert_entry by_items es k v) ≡ cond (has name k) (Some v) (lookup (has name) es)
lookup-insert_entry [] k v name = refl
lookup-insert_entry (e ∷ es) k v name = by (by_items k e.0) refl (lookup-insert_entry es k v name)
  where
    two : (a b : Bool) (x y z : Option ℕ) → (a ≡ true → b ≡ true → x ≡ y) → cond a x (cond b y z) ≡ cond b y (cond a x z)
    two true true x y z h = h refl refl
    two true false x y z h = refl
    two false true x y z h = refl
    two false false x y z h = refl

    -- two keys that differ don't have one name
    apart : (a b : List ℕ) → is_eq (slice_cmp nat_cmp name a) ≡ true → is_eq (slice_cmp nat_cmp name b) ≡ true → slice_cmp nat_cmp b a ≡ Greater → Some e.1 ≡ Some v
    apart a b p q greater =
        let at : slice_cmp nat_cmp name a ≡ Equal = is_eq-Equal _ p in
        let same : name ≡ b = exact_bytes _ _ (is_eq-Equal _ q) in
        let back : slice_cmp nat_cmp name a ≡ slice_cmp nat_cmp b a = ap (λ n. slice_cmp nat_cmp n a) same in
        absurd (cc)

    once : (a b : Bool) (x y z : Option ℕ) → a ≡ b → cond a x z ≡ cond b x (cond a y z)
    once true true x y z h = refl
    once true false x y z h = absurd (cc)
    once false true x y z h = absurd (cc)
    once false false x y z h = refl

    by : (o : Ordering) → by_items k e.0 ≡ o → lookup (has name) (insert_entry by_items es k v) ≡ cond (has name k) (Some v) (lookup (has name) es) → lookup (has name) (match_ordering o ((k, v) ∷ e ∷ es) ((e.0, v) ∷ es) (e ∷ insert_entry by_items es k v)) ≡ cond (has name k) (Some v) (cond (has name e.0) (Some e.1) (lookup (has name) es))
    by Less h rest = refl
    by Equal h rest = once (has name e.0) (has name k) (Some v) (Some e.1) (lookup (has name) es) (ap (λ n. is_eq (slice_cmp nat_cmp name n)) (sym (exact_bytes _ _ h)))
    by Greater h rest = ap (λ o. cond (has name e.0) (Some e.1) o) rest ∙ two (has name e.0) (has name k) (Some e.1) (Some v) (lookup (has name) es) (λ a b. apart e.0.items k.items a b h)

-- the first of the symbols comes in front of the others
pub addr_of-cons : (s : Symbol) (ss : List Symbol) (name : List ℕ) → cond (is_eq (slice_cmp nat_cmp name s.name)) (Some s.addr) (addr_of ss name) ≡ addr_of (s ∷ ss) name
addr_of-cons s ss name = rw is_eq-slice_cmp (by (bytes_eq name s.name))
  where
    by : (t : Bool) → cond t (Some s.addr) (addr_of ss name) ≡ option_map (λ (x : Symbol). x.addr) (cond t (Some s) (find (is_named name) ss))
    by true = refl
    by false = refl

-- the index of the names from one symbol further in front
pub names_more : (old new : ByName) (symbols : List Symbol) (left n : ℕ) (k : Vec ℕ Global) (s : Symbol) → left ≡ suc n → n < length symbols → s ≡ get_or symbols n s → k.items ≡ s.name → new.entries ≡ insert_entry by_items old.entries k s.addr → IndexesNames old (drop left symbols) → IndexesNames new (drop n symbols)
names_more old new symbols left n k s next within is key put told = λ name.
    let here : get_or symbols n s ≡ s = sym is in
    let told_here : lookup (has name) old.entries ≡ addr_of (drop (suc n) symbols) name = told name ∙ ap (λ m. addr_of (drop m symbols) name) next in
    let key_here : has name k ≡ is_eq (slice_cmp nat_cmp name s.name) = ap (λ b. is_eq (slice_cmp nat_cmp name b)) key in
    let split : drop n symbols ≡ s ∷ drop (suc n) symbols = drop-cons symbols n s within ∙ ap (λ x. x ∷ drop (suc n) symbols) here in
    ap (λ es. lookup (has name) es) put
    ∙ lookup-insert_entry old.entries k s.addr name
    ∙ ap (λ b. cond b (Some s.addr) (lookup (has name) old.entries)) key_here
    ∙ ap (λ o. cond (is_eq (slice_cmp nat_cmp name s.name)) (Some s.addr) o) told_here
    ∙ addr_of-cons s (drop (suc n) symbols) name
    ∙ ap (λ xs. addr_of xs name) (sym split)
