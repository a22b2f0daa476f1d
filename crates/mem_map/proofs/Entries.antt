-- Look-ups among the bytes and the segments of parts.
use Rattle.std.proofs.Common.{◌≡◌, ℕ, zero, suc, ◌+◌, ◌-◌, ◌<◌, ◌≤◌, ◌⊎◌, inl, inr, true, false, cond, ltb, leb, List, [], ◌∷◌, ◌++◌, length, get_or, refl, ap, ◌∙◌, arith}
use Rattle.std.specs.Prelude.{Option, Some, None, is_some}
use Rattle.std.specs.List.{AllByRecursion}
use Rattle.std.specs.Ordering.{nat_cmp, eq_by_cmp}
use Rattle.std.specs.Cmp.{unsigned_tied}
use Rattle.std.specs.FinMap.{find}
use Rattle.std.proofs.lemmas.Bool.{and_parts, and_cases, and_from, leb-true, leb-false, ltb-true, ltb-false, le-leb, lt-ltb, eq-eqb, ne_eqb}
use Rattle.mach_base.specs.declared.memory_range.Segment.{Segment}
use Rattle.mach_base.specs.Machine.{Part, entries_of, numbered, holds, segment_at}
use Rattle.mem_map.specs.Parts.{IsWhole, segments_of, NoneHolds, IsFirstAt}

same_key : (q a : ℕ) → q ≡ a → eq_by_cmp nat_cmp q a ≡ true
same_key q a e = unsigned_tied q a ∙ eq-eqb q a e

other_key : (q a : ℕ) → (q ≡ a → ⊥) → eq_by_cmp nat_cmp q a ≡ false
other_key q a ne = unsigned_tied q a ∙ ne_eqb q a ne

-- the first answer, or else the second
abbrev pub either : Option ℕ → Option ℕ → Option ℕ
either None y = y
either (Some x) y = Some x

pub find-append : (q : ℕ) (xs ys : List (ℕ × ℕ)) → find nat_cmp q (xs ++ ys) ≡ either (find nat_cmp q xs) (find nat_cmp q ys)
find-append q [] ys = refl
find-append q (e ∷ es) ys =
    elim (eq_by_cmp nat_cmp q e.0) as (λ b. cond b (Some e.1) (find nat_cmp q (es ++ ys)) ≡ either (cond b (Some e.1) (find nat_cmp q es)) (find nat_cmp q ys)) [
      | true ↦ refl
      | false ↦ find-append q es ys
    ]

pub find-numbered_below : (q a : ℕ) (bs : List ℕ) → q < a → find nat_cmp q (numbered a bs) ≡ None
find-numbered_below q a [] h = refl
find-numbered_below q a (b ∷ bs) h =
    ap (λ t. cond t (Some b) (find nat_cmp q (numbered (a + 1) bs))) (other_key q a (λ e. omega arith)) ∙ find-numbered_below q (a + 1) bs (omega arith)

pub find-numbered_past : (q a : ℕ) (bs : List ℕ) → a + length bs ≤ q → find nat_cmp q (numbered a bs) ≡ None
find-numbered_past q a [] h = refl
find-numbered_past q a (b ∷ bs) h =
    ap (λ t. cond t (Some b) (find nat_cmp q (numbered (a + 1) bs))) (other_key q a (λ e. omega arith)) ∙ find-numbered_past q (a + 1) bs (omega arith)

pub find-numbered_at : (q a k : ℕ) (bs : List ℕ) → q ≡ a + k → k < length bs → find nat_cmp q (numbered a bs) ≡ Some (get_or bs k 0)
find-numbered_at q a k [] e h = absurd (omega arith)
find-numbered_at q a zero (b ∷ bs) e h =
    ap (λ t. cond t (Some b) (find nat_cmp q (numbered (a + 1) bs))) (same_key q a (omega arith))
find-numbered_at q a (suc k) (b ∷ bs) e h =
    ap (λ t. cond t (Some b) (find nat_cmp q (numbered (a + 1) bs))) (other_key q a (λ e'. omega arith)) ∙ find-numbered_at q (a + 1) k bs (omega arith) (omega arith)

-- what a segment holds
pub holds-true : (s : Segment) (addr : ℕ) → holds s addr ≡ true → (s.base ≤ addr) × (addr < s.base + s.len)
holds-true s addr h =
    let parts = and_parts _ _ h in
    (leb-true s.base addr parts.0, ltb-true addr (s.base + s.len) parts.1)

pub holds-from : (s : Segment) (addr : ℕ) → s.base ≤ addr → addr < s.base + s.len → holds s addr ≡ true
holds-from s addr low high = and_from _ _ (le-leb s.base addr low) (lt-ltb addr (s.base + s.len) high)

outside : (s : Segment) (addr : ℕ) → holds s addr ≡ false → (addr < s.base) ⊎ (s.base + s.len ≤ addr)
outside s addr h =
    elim (and_cases (leb s.base addr) (ltb addr (s.base + s.len)) h) as (λ _. (addr < s.base) ⊎ (s.base + s.len ≤ addr)) [ inl e ↦ inl (leb-false s.base addr e) | inr e ↦ inr (ltb-false addr (s.base + s.len) e) ]

-- the bytes of one whole part
find-part_held : (p : Part) (addr : ℕ) → IsWhole p → holds p.segment addr ≡ true → find nat_cmp addr (numbered p.segment.base p.bytes) ≡ Some (get_or p.bytes (addr - p.segment.base) 0)
find-part_held p addr whole h =
    let in_it = holds-true p.segment addr h in
    find-numbered_at addr p.segment.base (addr - p.segment.base) p.bytes (omega arith) (omega arith)

pub find-part_outside : (p : Part) (addr : ℕ) → IsWhole p → holds p.segment addr ≡ false → find nat_cmp addr (numbered p.segment.base p.bytes) ≡ None
find-part_outside p addr whole h =
    elim (outside p.segment addr h) as (λ _. find nat_cmp addr (numbered p.segment.base p.bytes) ≡ None) [
      | inl low ↦ find-numbered_below addr p.segment.base p.bytes low
      | inr high ↦ find-numbered_past addr p.segment.base p.bytes (omega arith)
    ]

-- the next part is the first, counted from the end of this one
pub first_behind : (p : Part) (ps : List Part) (addr i : ℕ) → IsFirstAt (p ∷ ps) addr (suc i) → IsFirstAt ps addr i
first_behind p ps addr i f = record {
  within = omega (arith, f.within);
  here = f.here;
  before = λ k d h. f.before (suc k) d (omega arith);
}

-- the byte at an address, by its part
pub find-first : (ps : List Part) (addr i : ℕ) (d : Part) → IsFirstAt ps addr i → AllByRecursion IsWhole ps → find nat_cmp addr (entries_of ps) ≡ Some (get_or (get_or ps i d).bytes (addr - (get_or ps i d).segment.base) 0)
find-first [] addr i d f w = absurd (omega (arith, f.within))
find-first (p ∷ ps) addr zero d f w =
    find-append addr (numbered p.segment.base p.bytes) (entries_of ps) ∙ ap (λ o. either o (find nat_cmp addr (entries_of ps))) (find-part_held p addr w.0 (f.here d))
find-first (p ∷ ps) addr (suc i) d f w =
    find-append addr (numbered p.segment.base p.bytes) (entries_of ps)
    ∙ ap (λ o. either o (find nat_cmp addr (entries_of ps))) (find-part_outside p addr w.0 (f.before 0 d (omega arith)))
    ∙ find-first ps addr i d (first_behind p ps addr i f) w.1

pub find-none : (ps : List Part) (addr : ℕ) → NoneHolds ps addr → AllByRecursion IsWhole ps → find nat_cmp addr (entries_of ps) ≡ None
find-none [] addr n w = refl
find-none (p ∷ ps) addr n w =
    find-append addr (numbered p.segment.base p.bytes) (entries_of ps)
    ∙ ap (λ o. either o (find nat_cmp addr (entries_of ps))) (find-part_outside p addr w.0 (n 0 p (omega arith)))
    ∙ find-none ps addr (λ k d h. n (suc k) d (omega arith)) w.1

-- the segment of an address, by its part
pub segment_at-first : (ps : List Part) (addr i : ℕ) (d : Part) → IsFirstAt ps addr i → segment_at (segments_of ps) addr ≡ Some (get_or ps i d).segment
segment_at-first [] addr i d f = absurd (omega (arith, f.within))
segment_at-first (p ∷ ps) addr zero d f = ap (λ t. cond t (Some p.segment) (segment_at (segments_of ps) addr)) (f.here d)
segment_at-first (p ∷ ps) addr (suc i) d f =
    ap (λ t. cond t (Some p.segment) (segment_at (segments_of ps) addr)) (f.before 0 d (omega arith)) ∙ segment_at-first ps addr i d (first_behind p ps addr i f)

pub segment_at-none : (ps : List Part) (addr : ℕ) → NoneHolds ps addr → segment_at (segments_of ps) addr ≡ None
segment_at-none [] addr n = refl
segment_at-none (p ∷ ps) addr n =
    ap (λ t. cond t (Some p.segment) (segment_at (segments_of ps) addr)) (n 0 p (omega arith)) ∙ segment_at-none ps addr (λ k d h. n (suc k) d (omega arith))

-- exactly the addresses of the segments have a byte
pub is_some-find : (ps : List Part) (addr : ℕ) → AllByRecursion IsWhole ps → is_some (find nat_cmp addr (entries_of ps)) ≡ is_some (segment_at (segments_of ps) addr)
is_some-find [] addr w = refl
is_some-find (p ∷ ps) addr w =
    let head = numbered p.segment.base p.bytes in
    ap is_some (find-append addr head (entries_of ps))
    ∙ elim (holds p.segment addr) as (λ b. holds p.segment addr ≡ b → is_some (either (find nat_cmp addr head) (find nat_cmp addr (entries_of ps))) ≡ is_some (cond b (Some p.segment) (segment_at (segments_of ps) addr))) [
      | true ↦ λ h. ap (λ o. is_some (either o (find nat_cmp addr (entries_of ps)))) (find-part_held p addr w.0 h)
      | false ↦ λ h. ap (λ o. is_some (either o (find nat_cmp addr (entries_of ps)))) (find-part_outside p addr w.0 h) ∙ is_some-find ps addr w.1
    ] refl
