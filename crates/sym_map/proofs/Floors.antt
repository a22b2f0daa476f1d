-- The greatest address below another, and the symbol there.
use Rattle.std.proofs.Common.{◌≡◌, ℕ, suc, ◌+◌, ◌-◌, ◌<◌, ◌≤◌, ◌==◌, nat_lt, nat_le, max, Bool, true, false, cond, List, [], ◌∷◌, length, get_or, Option, Some, None, IsSome, refl, sym, ap, ◌∙◌, arith}
use Rattle.std.specs.List.{find, position_from}
use Rattle.std.proofs.lemmas.Bool.{eqb-true, eq-eqb, leb-true}
use Rattle.std.proofs.lemmas.Bool.Decides.{nat_tests}
use Rattle.mach_base.specs.Machine.{Symbol}
use Rattle.std.specs.BTreeMap.{get}
use Rattle.std.specs.Ordering.{nat_cmp}
use Rattle.sym_map.specs.Index.{ByAddr, IndexesAddrs}
use Rattle.sym_map.specs.Lookups.{is_at, floor_of, greater, near_of, AreBelow}

-- where a symbol is first, from this number on
abbrev first_at : ℕ → ℕ → List Symbol → Option ℕ
first_at addr k symbols = position_from (is_at addr) k symbols

-- the number of the first symbol at an address is the place where it is found
pub found_at : (addr k n : ℕ) (xs : List Symbol) (d : Symbol) → first_at addr k xs ≡ Some n → (k ≤ n) × (n < k + length xs) × (find (is_at addr) xs ≡ Some (get_or xs (n - k) d))
found_at addr k n [] d h = absurd (cc)
found_at addr k n (x ∷ xs) d h = by (is_at addr x) h (λ g. found_at addr (k + 1) n xs d g)
  where
    by : (t : Bool) → cond t (Some k) (first_at addr (k + 1) xs) ≡ Some n → (first_at addr (k + 1) xs ≡ Some n → (k + 1 ≤ n) × (n < k + 1 + length xs) × (find (is_at addr) xs ≡ Some (get_or xs (n - (k + 1)) d))) → (k ≤ n) × (n < k + suc (length xs)) × (cond t (Some x) (find (is_at addr) xs) ≡ Some (get_or (x ∷ xs) (n - k) d))
    by true h rest =
        let e : k ≡ n = cc in
        let none : n - k ≡ 0 = omega arith in
        (omega arith, omega arith, rw none refl)
    by false h rest =
        let r = rest h in
        let low : k + 1 ≤ n = r.0 in
        let step : n - k ≡ suc (n - (k + 1)) = omega arith in
        (omega arith, omega (arith, r.1), rw step r.2)

-- no symbol is at or below the address
pub floor_of-none : (k : ℕ) (xs : List Symbol) (addr : ℕ) → ((q : ℕ) → q ≤ addr → first_at q k xs ≡ None) → floor_of xs addr ≡ None
floor_of-none k [] addr none = refl
floor_of-none k (x ∷ xs) addr none = by (nat_le x.addr addr) refl (floor_of-none (k + 1) xs addr (λ q le. later (is_at q x) q (none q le)))
  where
    later : (t : Bool) (q : ℕ) → cond t (Some k) (first_at q (k + 1) xs) ≡ None → first_at q (k + 1) xs ≡ None
    later true q h = absurd (cc)
    later false q h = h

    here : x.addr ≤ addr → first_at x.addr k (x ∷ xs) ≡ None
    here le = none x.addr le

    by : (t : Bool) → nat_le x.addr addr ≡ t → floor_of xs addr ≡ None → cond t (Some (greater x.addr (floor_of xs addr))) (floor_of xs addr) ≡ None
    by true le rest =
        let h : cond (x.addr == x.addr) (Some k) (first_at x.addr (k + 1) xs) ≡ None = here (leb-true _ _ le) in
        let same : (x.addr == x.addr) ≡ true = eq-eqb x.addr x.addr refl in
        let h2 = rw same at h in
        absurd (cc)
    by false le rest = rest

-- no symbol at or below the address is above this one
abbrev pub Bounds : ℕ → List Symbol → ℕ → ℕ → Type 0
Bounds k xs addr top = (q : ℕ) → q ≤ addr → IsSome (first_at q k xs) → q ≤ top

bounds_tail : (k : ℕ) (x : Symbol) (xs : List Symbol) (addr top : ℕ) → Bounds k (x ∷ xs) addr top → Bounds (k + 1) xs addr top
bounds_tail k x xs addr top h = λ q le some. h q le (kept (is_at q x) (first_at q (k + 1) xs) some)
  where
    kept : (t : Bool) (o : Option ℕ) → IsSome o → IsSome (cond t (Some k) o)
    kept true o s = refl
    kept false o s = s

bounds_head : (k : ℕ) (x : Symbol) (xs : List Symbol) (addr top : ℕ) → Bounds k (x ∷ xs) addr top → x.addr ≤ addr → x.addr ≤ top
bounds_head k x xs addr top h le = h x.addr le (rw (eq-eqb x.addr x.addr refl) refl)

-- what the floor of some symbols is, is no higher
floor_of-le : (k : ℕ) (xs : List Symbol) (addr top : ℕ) → Bounds k xs addr top → greater 0 (floor_of xs addr) ≤ top
floor_of-le k [] addr top h = omega arith
floor_of-le k (x ∷ xs) addr top h = by (nat_le x.addr addr) refl (floor_of xs addr) (floor_of-le (k + 1) xs addr top (bounds_tail k x xs addr top h))
  where
    by : (t : Bool) → nat_le x.addr addr ≡ t → (o : Option ℕ) → greater 0 o ≤ top → greater 0 (cond t (Some (greater x.addr o)) o) ≤ top
    by true le None rest = let here = bounds_head k x xs addr top h (leb-true _ _ le) in omega (arith, here)
    by true le (Some b) rest = let here = bounds_head k x xs addr top h (leb-true _ _ le) in omega (arith, here, rest)
    by false le o rest = rest

-- the floor is an address at or below this one that has a symbol, where none that has one is between
pub floor_of-found : (k n : ℕ) (xs : List Symbol) (addr top : ℕ) → top ≤ addr → first_at top k xs ≡ Some n → Bounds k xs addr top → floor_of xs addr ≡ Some top
floor_of-found k n [] addr top le found h = absurd (cc)
floor_of-found k n (x ∷ xs) addr top le found h =
    by (is_at top x) refl found (nat_le x.addr addr) refl (floor_of xs addr) refl (λ g. floor_of-found (k + 1) n xs addr top le g (bounds_tail k x xs addr top h)) (floor_of-le (k + 1) xs addr top (bounds_tail k x xs addr top h))
  where
    by : (t : Bool) → is_at top x ≡ t → cond t (Some k) (first_at top (k + 1) xs) ≡ Some n → (u : Bool) → nat_le x.addr addr ≡ u → (o : Option ℕ) → floor_of xs addr ≡ o → (first_at top (k + 1) xs ≡ Some n → floor_of xs addr ≡ Some top) → greater 0 o ≤ top → cond u (Some (greater x.addr o)) o ≡ Some top
    by true at first true low None is rest below = ap Some (eqb-true _ _ at)
    by true at first true low (Some b) is rest below = let e : x.addr ≡ top = eqb-true _ _ at in let m : max x.addr b ≡ top = omega (arith, below) in ap Some m
    by true at first false low o is rest below = let e : x.addr ≡ top = eqb-true _ _ at in let no : nat_le x.addr addr ≡ true = grind (arith, nat_tests) in absurd (cc)
    by false at first true low o is rest below =
        let f = sym is ∙ rest first in
        let here = bounds_head k x xs addr top h (leb-true _ _ low) in
        let m : max x.addr top ≡ top = omega (arith, here) in
        rw f (ap Some m)
    by false at first false low o is rest below = sym is ∙ rest first

-- the symbol that an address is near
pub near_of-none : (symbols : List Symbol) (addr : ℕ) → floor_of symbols addr ≡ None → near_of symbols addr ≡ None
unfolding near_of
near_of-none symbols addr h = rw h refl

pub near_of-far : (symbols : List Symbol) (addr at : ℕ) → floor_of symbols addr ≡ Some at → 1048576 ≤ addr - at → near_of symbols addr ≡ None
unfolding near_of
near_of-far symbols addr at h far =
    let no : nat_lt (addr - at) 1048576 ≡ false = grind (arith, nat_tests) in
    rw (h, no) refl

pub near_of-found : (symbols : List Symbol) (addr at : ℕ) (s : Symbol) → floor_of symbols addr ≡ Some at → addr - at < 1048576 → find (is_at at) symbols ≡ Some s → near_of symbols addr ≡ Some (s.name, addr - at)
unfolding near_of
near_of-found symbols addr at s h near found =
    let yes : nat_lt (addr - at) 1048576 ≡ true = grind (arith, nat_tests) in
    rw (h, yes, found) refl

-- the greatest address that an index has at or below another, with the number of its symbol, is the floor
pub floor_of-index : (index : ByAddr) (symbols : List Symbol) (addr at number : ℕ) → IndexesAddrs index 0 symbols → get nat_cmp index at ≡ Some number → at ≤ addr → ((q : ℕ) → q ≤ addr → IsSome (get nat_cmp index q) → q ≤ at) → floor_of symbols addr ≡ Some at
floor_of-index index symbols addr at number told here le top =
    floor_of-found 0 number symbols addr at le (sym (told at) ∙ here) (λ q low some. top q low (rw (told q) some))

pub floor_of-no_index : (index : ByAddr) (symbols : List Symbol) (addr : ℕ) → IndexesAddrs index 0 symbols → ((q : ℕ) → q ≤ addr → get nat_cmp index q ≡ None) → floor_of symbols addr ≡ None
floor_of-no_index index symbols addr told none = floor_of-none 0 symbols addr (λ q le. sym (told q) ∙ none q le)

-- the symbol of an index's number
pub found_by_index : (index : ByAddr) (symbols : List Symbol) (at number : ℕ) (d : Symbol) → IndexesAddrs index 0 symbols → get nat_cmp index at ≡ Some number → (number < length symbols) × (find (is_at at) symbols ≡ Some (get_or symbols number d))
found_by_index index symbols at number d told here =
    let f = found_at at 0 number symbols d (sym (told at) ∙ here) in
    let whole : number - 0 ≡ number = omega arith in
    (omega (arith, f.1), f.2 ∙ ap (λ n. Some (get_or symbols n d)) whole)

-- where the floor is so far below the address, so is each symbol that isn't above it
pub floor_of-below : (symbols : List Symbol) (addr top distance : ℕ) → greater 0 (floor_of symbols addr) ≤ top → top + distance ≤ addr → AreBelow addr distance symbols
floor_of-below [] addr top distance h far = tt
floor_of-below (s ∷ ss) addr top distance h far =
    by (nat_le s.addr addr) refl (floor_of ss addr) h (λ g. floor_of-below ss addr top distance g far)
  where
    by : (t : Bool) → nat_le s.addr addr ≡ t → (o : Option ℕ) → greater 0 (cond t (Some (greater s.addr o)) o) ≤ top → (greater 0 o ≤ top → AreBelow addr distance ss) → (s.addr ≤ addr → s.addr + distance ≤ addr) × AreBelow addr distance ss
    by true low None g rest = (λ le. omega (arith, g), rest (omega arith))
    by true low (Some b) g rest = (λ le. omega (arith, g), rest (omega (arith, g)))
    by false high o g rest = (λ le. absurd (above le), rest g)
      where
        above : s.addr ≤ addr → ⊥
        above le = let no : nat_le s.addr addr ≡ true = grind (arith, nat_tests) in cc

-- without a floor each symbol is above the address
pub floor_of-above : (symbols : List Symbol) (addr distance : ℕ) → floor_of symbols addr ≡ None → AreBelow addr distance symbols
floor_of-above [] addr distance h = tt
floor_of-above (s ∷ ss) addr distance h = by (nat_le s.addr addr) refl h (λ g. floor_of-above ss addr distance g)
  where
    by : (t : Bool) → nat_le s.addr addr ≡ t → cond t (Some (greater s.addr (floor_of ss addr))) (floor_of ss addr) ≡ None → (floor_of ss addr ≡ None → AreBelow addr distance ss) → (s.addr ≤ addr → s.addr + distance ≤ addr) × AreBelow addr distance ss
    by true low h rest = absurd (cc)
    by false high h rest = (λ le. absurd (above le), rest h)
      where
        above : s.addr ≤ addr → ⊥
        above le = let no : nat_le s.addr addr ≡ true = grind (arith, nat_tests) in cc
