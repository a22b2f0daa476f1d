-- Which part a page is in, and which page an address.
use Rattle.std.proofs.Common.{◌≡◌, ℕ, zero, suc, ◌+◌, ◌-◌, ◌*◌, ◌/◌, ◌%◌, ◌<◌, ◌≤◌, inl, inr, true, false, cond, ltb, ◌&&◌, List, [], ◌∷◌, length, get_or, refl, sym, ap, ◌∙◌, arith, min}
use Rattle.std.specs.Prelude.{Some}
use Rattle.std.specs.List.{AllByRecursion}
use Rattle.std.specs.List.Sorted.{IsNonDecreasing, IsNonDecreasingBy}
use Rattle.std.proofs.lemmas.Bool.{le-leb, lt-leb, lt-ltb, le-ltb, cases_lt}
use Rattle.std.proofs.lemmas.List.{get_or_default}
use Rattle.std.proofs.lemmas.List.Sums.{sum_by-cons}
use Rattle.mach_base.specs.declared.memory_range.Segment.{Segment}
use Rattle.mach_base.specs.Bytes.{IsWidth}
use Rattle.mach_base.specs.Machine.{Part, HasBounds, AreInOrder, AreSegments, memory_size, holds, segment_at}
use Rattle.mem_map.specs.Pages.{pages_in, page_total, page_base, page_length, page_of, first_pages, IsInPage, ArePages, IsCountUpTo, IsSpot}
use Rattle.mem_map.specs.Parts.{AreParts, AreBegun, IsFirstAt, NoneHolds, segments_of}
use Rattle.mem_map.proofs.Entries.{holds-true, holds-from, first_behind, segment_at-first}
use Rattle.mem_map.proofs.Natural.{whole_at, below_too, holds-beside}

-- parts in order

from-in_order : (end : ℕ) (ps : List Part) (j : ℕ) (d : Part) → AreInOrder end (segments_of ps) → j < length ps → end ≤ (get_or ps j d).segment.base
from-in_order end [] j d o h = absurd (omega arith)
from-in_order end (p ∷ ps) zero d o h = o.0
from-in_order end (p ∷ ps) (suc j) d o h =
    let rest = from-in_order (p.segment.base + p.segment.len) ps j d o.1 (omega arith) in
    omega (arith, o.0, rest)

-- the end of a part isn't above the base of a later one
pub below-in_order : (end : ℕ) (ps : List Part) (k j : ℕ) (d : Part) → AreInOrder end (segments_of ps) → k < j → j < length ps → (get_or ps k d).segment.base + (get_or ps k d).segment.len ≤ (get_or ps j d).segment.base
below-in_order end [] k j d o lt h = absurd (omega arith)
below-in_order end (p ∷ ps) k zero d o lt h = absurd (omega arith)
below-in_order end (p ∷ ps) zero (suc j) d o lt h = from-in_order (p.segment.base + p.segment.len) ps j d o.1 (omega arith)
below-in_order end (p ∷ ps) (suc k) (suc j) d o lt h = below-in_order (p.segment.base + p.segment.len) ps k j d o.1 (omega arith) (omega arith)

pub rising-bases : (ps : List Part) → AreParts ps → IsNonDecreasingBy (λ p. p.segment.base) ps
rising-bases ps are i j d le h =
    elim (cases_lt i j) as (λ _. (get_or ps i d).segment.base ≤ (get_or ps j d).segment.base) [
      | inl lt ↦ omega (arith, below-in_order 0 ps i j d are.segments.order lt h)
      | inr ge ↦
          let same : i ≡ j = omega arith in
          omega (arith, ap (λ k. (get_or ps k d).segment.base) same)
    ]

below-holds : (s : Segment) (addr : ℕ) → addr < s.base → holds s addr ≡ false
below-holds s addr low = ap (λ t. t && ltb addr (s.base + s.len)) (lt-leb s.base addr low)

past-holds : (s : Segment) (addr : ℕ) → s.base + s.len ≤ addr → holds s addr ≡ false
past-holds s addr high = ap (λ t. t && ltb addr (s.base + s.len)) (le-leb s.base addr (omega arith)) ∙ le-ltb addr (s.base + s.len) high

-- the part whose bounds an address is within is the first that holds it
pub first_in : (ps : List Part) (addr i : ℕ) (d : Part) → AreParts ps → i < length ps → (get_or ps i d).segment.base ≤ addr → addr < (get_or ps i d).segment.base + (get_or ps i d).segment.len → IsFirstAt ps addr i
first_in ps addr i d are within low high = record {
  within = within;
  here = λ p. ap (λ x. holds x.segment addr) (get_or_default ps i p d within) ∙ holds-from (get_or ps i d).segment addr low high;
  before = λ k p lt. past-holds (get_or ps k p).segment addr (omega (arith, below-in_order 0 ps k i p are.segments.order lt within, ap (λ x. x.segment.base) (get_or_default ps i p d within)));
}

-- a part that holds an address is the first
pub first_held : (ps : List Part) (addr i : ℕ) (p : Part) → AreParts ps → i < length ps → p ≡ get_or ps i p → holds p.segment addr ≡ true → IsFirstAt ps addr i
first_held ps addr i p are within e held =
    let bounds = holds-true (get_or ps i p).segment addr (ap (λ x. holds x.segment addr) (sym e) ∙ held) in
    first_in ps addr i p are within bounds.0 bounds.1

-- the last part that begins at an address or below it, if any, is the only one that may hold it
pub first_begun : (ps : List Part) (addr count : ℕ) (p : Part) → AreParts ps → AreBegun ps addr count → 0 < count → p ≡ get_or ps (count - 1) p → holds p.segment addr ≡ true → IsFirstAt ps addr (count - 1)
first_begun ps addr count p are begun some e held = first_held ps addr (count - 1) p are (omega (arith, begun.within)) e held

pub none_begun : (ps : List Part) (addr count : ℕ) (p : Part) → AreParts ps → AreBegun ps addr count → 0 < count → p ≡ get_or ps (count - 1) p → holds p.segment addr ≡ false → NoneHolds ps addr
none_begun ps addr count p are begun some e free k q within =
    elim (cases_lt k (count - 1)) as (λ _. holds (get_or ps k q).segment addr ≡ false) [
      | inl lt ↦ past-holds (get_or ps k q).segment addr (omega (arith, below-in_order 0 ps k (count - 1) q are.segments.order lt (omega (arith, begun.within)), begun.low (count - 1) q (omega arith)))
      | inr ge ↦ elim (cases_lt k count) as (λ _. holds (get_or ps k q).segment addr ≡ false) [
        | inl last ↦
            let same : k ≡ count - 1 = omega arith in
            ap (λ x. holds x.segment addr) (get_or_default ps k q p within ∙ ap (λ j. get_or ps j p) same ∙ sym e) ∙ free
        | inr past ↦ below-holds (get_or ps k q).segment addr (begun.high k q past within)
      ]
    ]

-- the first page of each segment

pub length-first_pages : (n : ℕ) (ps : List Part) → length (first_pages n (segments_of ps)) ≡ length ps
length-first_pages n [] = refl
length-first_pages n (p ∷ ps) = ap suc (length-first_pages (n + pages_in p.segment) ps)

from-first_pages : (n : ℕ) (ps : List Part) (j d : ℕ) → j < length ps → n ≤ get_or (first_pages n (segments_of ps)) j d
from-first_pages n [] j d h = absurd (omega arith)
from-first_pages n (p ∷ ps) zero d h = omega arith
from-first_pages n (p ∷ ps) (suc j) d h = omega (arith, from-first_pages (n + pages_in p.segment) ps j d (omega arith))

pub rising-first_pages : (n : ℕ) (ps : List Part) → IsNonDecreasing (first_pages n (segments_of ps))
rising-first_pages n [] i j d le h = absurd (omega arith)
rising-first_pages n (p ∷ ps) zero zero d le h = omega arith
rising-first_pages n (p ∷ ps) (suc i) zero d le h = absurd (omega arith)
rising-first_pages n (p ∷ ps) zero (suc j) d le h =
    let lengths = length-first_pages (n + pages_in p.segment) ps in
    omega (arith, from-first_pages (n + pages_in p.segment) ps j d (omega arith))
rising-first_pages n (p ∷ ps) (suc i) (suc j) d le h = rising-first_pages (n + pages_in p.segment) ps i j d (omega arith) (omega arith)

pub few-pages : (ss : List Segment) → AllByRecursion HasBounds ss → page_total ss ≤ memory_size ss
few-pages [] b = omega arith
few-pages (s ∷ ss) b = omega (arith, few-pages ss b.1, sum_by-cons (λ x. x.len) s ss, b.0.2)

-- The page of an address is counted from the first page of its part.
pub page_of-first : (n : ℕ) (ps : List Part) (addr i : ℕ) (d : Part) → IsFirstAt ps addr i → n + page_of (segments_of ps) addr ≡ get_or (first_pages n (segments_of ps)) i 0 + (addr - (get_or ps i d).segment.base) / 4096
page_of-first n [] addr i d f = absurd (omega (arith, f.within))
page_of-first n (p ∷ ps) addr zero d f =
    ap (λ t. n + cond t ((addr - p.segment.base) / 4096) (pages_in p.segment + page_of (segments_of ps) addr)) (f.here d)
page_of-first n (p ∷ ps) addr (suc i) d f =
    ap (λ t. n + cond t ((addr - p.segment.base) / 4096) (pages_in p.segment + page_of (segments_of ps) addr)) (f.before 0 d (omega arith))
    ∙ omega (arith, page_of-first (n + pages_in p.segment) ps addr i d (first_behind p ps addr i f))

pub page_of-within : (ss : List Segment) (addr : ℕ) (s : Segment) → segment_at ss addr ≡ Some s → page_of ss addr < page_total ss
page_of-within [] addr s e = absurd (cc)
page_of-within (x ∷ ss) addr s e =
    elim (holds x addr) as (λ t. holds x addr ≡ t → cond t (Some x) (segment_at ss addr) ≡ Some s → cond t ((addr - x.base) / 4096) (pages_in x + page_of ss addr) < pages_in x + page_total ss) [
      | true ↦ λ h _. omega (arith, holds-true x addr h)
      | false ↦ λ h e'. omega (arith, page_of-within ss addr s e')
    ] refl e

-- what is known of a page, counted from the first page of its part
record IsLocated (n : ℕ) (ps : List Part) (i s : ℕ) (d : Part) : Type 0 where
  within : i - get_or (first_pages n (segments_of ps)) s 0 < pages_in (get_or ps s d).segment
  base : page_base (segments_of ps) (i - n) ≡ (get_or ps s d).segment.base + 4096 * (i - get_or (first_pages n (segments_of ps)) s 0)
  size : page_length (segments_of ps) (i - n) ≡ min 4096 ((get_or ps s d).segment.len - 4096 * (i - get_or (first_pages n (segments_of ps)) s 0))

located : (n : ℕ) (ps : List Part) (i s : ℕ) (d : Part) → s < length ps → get_or (first_pages n (segments_of ps)) s 0 ≤ i → ((k : ℕ) → s < k → k < length ps → i < get_or (first_pages n (segments_of ps)) k 0) → i < n + page_total (segments_of ps) → IsLocated n ps i s d
located n [] i s d h low high within = absurd (omega arith)
located n (p ∷ ps) i zero d h low high within =
    let inside : i - n < pages_in p.segment = last ps high within in
    let is : ltb (i - n) (pages_in p.segment) ≡ true = lt-ltb (i - n) (pages_in p.segment) inside in
    record {
      within = inside;
      base = ap (λ t. cond t (p.segment.base + 4096 * (i - n)) (page_base (segments_of ps) (i - n - pages_in p.segment))) is;
      size = ap (λ t. cond t (min 4096 (p.segment.len - 4096 * (i - n))) (page_length (segments_of ps) (i - n - pages_in p.segment))) is;
    }
  where
    last : (rest : List Part) → ((k : ℕ) → 0 < k → k < length (p ∷ rest) → i < get_or (first_pages n (segments_of (p ∷ rest))) k 0) → i < n + page_total (segments_of (p ∷ rest)) → i - n < pages_in p.segment
    last [] high within = omega arith
    last (q ∷ rest) high within = omega (arith, high 1 (omega arith) (omega arith))
located n (p ∷ ps) i (suc s) d h low high within =
    let from = from-first_pages (n + pages_in p.segment) ps s 0 (omega arith) in
    let past : ltb (i - n) (pages_in p.segment) ≡ false = le-ltb (i - n) (pages_in p.segment) (omega arith) in
    let behind : i - n - pages_in p.segment ≡ i - (n + pages_in p.segment) = omega arith in
    let rest = located (n + pages_in p.segment) ps i s d (omega arith) low (λ k lt lt'. high (suc k) (omega arith) (omega arith)) (omega arith) in
    record {
      within = rest.within;
      base = ap (λ t. cond t (p.segment.base + 4096 * (i - n)) (page_base (segments_of ps) (i - n - pages_in p.segment))) past ∙ ap (page_base (segments_of ps)) behind ∙ rest.base;
      size = ap (λ t. cond t (min 4096 (p.segment.len - 4096 * (i - n))) (page_length (segments_of ps) (i - n - pages_in p.segment))) past ∙ ap (page_length (segments_of ps)) behind ∙ rest.size;
    }

-- where a page is, by a count of the segments that begin with it or before it

pub some-begun : (ps : List Part) (i count : ℕ) → i < page_total (segments_of ps) → IsCountUpTo (first_pages 0 (segments_of ps)) i count → 0 < count
some-begun [] i count h c = absurd (omega arith)
some-begun (p ∷ ps) i zero h c = absurd (omega (arith, c.high 0 (omega arith) (omega arith)))
some-begun (p ∷ ps) i (suc count) h c = omega arith

module _ (ps : List Part) (are : AreParts ps) (i count : ℕ) (h : i < page_total (segments_of ps)) (c : IsCountUpTo (first_pages 0 (segments_of ps)) i count) where
  spot-of : (d : Part) → IsLocated 0 ps i (count - 1) d
  spot-of d =
      let some = some-begun ps i count h c in
      let lengths = length-first_pages 0 ps in
      located 0 ps i (count - 1) d (omega (arith, c.within)) (c.low (count - 1) (omega arith)) (λ k lt lt'. c.high k (omega arith) (omega arith)) (omega arith)

  pub spot-within : count - 1 < length ps
  spot-within = omega (arith, c.within, some-begun ps i count h c, length-first_pages 0 ps)

  pub spot-first : get_or (first_pages 0 (segments_of ps)) (count - 1) 0 ≤ i
  spot-first = c.low (count - 1) (omega (arith, some-begun ps i count h c))

  pub is-spot : IsSpot ps i (record { piece = count - 1; place = (i - get_or (first_pages 0 (segments_of ps)) (count - 1) 0) * 4096 })
  is-spot =
      let whole = λ (d : Part). whole_at ps (count - 1) d are.whole spot-within in
      let from : i - 0 ≡ i = omega arith in
      record {
        within = spot-within;
        base = λ d. omega (arith, (spot-of d).base, ap (page_base (segments_of ps)) from);
        size = λ d. omega (arith, (spot-of d).size, ap (page_length (segments_of ps)) from, whole d);
        place = λ d. omega (arith, (spot-of d).within, whole d);
      }

-- pages and addresses

later-page : (end : ℕ) (ss : List Segment) (i : ℕ) → AreInOrder end ss → i < page_total ss → end ≤ page_base ss i
later-page end [] i o h = absurd (omega arith)
later-page end (s ∷ ss) i o h =
    elim (cases_lt i (pages_in s)) as (λ _. end ≤ page_base (s ∷ ss) i) [
      | inl lt ↦ omega (arith, o.0, ap (λ t. cond t (s.base + 4096 * i) (page_base ss (i - pages_in s))) (lt-ltb i (pages_in s) lt))
      | inr ge ↦
          let rest = later-page (s.base + s.len) ss (i - pages_in s) o.1 (omega arith) in
          omega (arith, o.0, rest, ap (λ t. cond t (s.base + 4096 * i) (page_base ss (i - pages_in s))) (le-ltb i (pages_in s) ge))
    ]

pub page-here : (ss : List Segment) (addr : ℕ) (s : Segment) → segment_at ss addr ≡ Some s → IsInPage ss (page_of ss addr) addr
page-here [] addr s e = absurd (cc)
page-here (x ∷ ss) addr s e =
    elim (holds x addr) as (λ t. holds x addr ≡ t → cond t (Some x) (segment_at ss addr) ≡ Some s → IsInPage (x ∷ ss) (cond t ((addr - x.base) / 4096) (pages_in x + page_of ss addr)) addr) [
      | true ↦ λ h _. held (holds-true x addr h)
      | false ↦ λ h e'. behind (page-here ss addr s e')
    ] refl e
  where
    held : (x.base ≤ addr) × (addr < x.base + x.len) → IsInPage (x ∷ ss) ((addr - x.base) / 4096) addr
    held b =
        let i = (addr - x.base) / 4096 in
        let is : ltb i (pages_in x) ≡ true = lt-ltb i (pages_in x) (omega (arith, b)) in
        let base : page_base (x ∷ ss) i ≡ x.base + 4096 * i = ap (λ t. cond t (x.base + 4096 * i) (page_base ss (i - pages_in x))) is in
        let size : page_length (x ∷ ss) i ≡ min 4096 (x.len - 4096 * i) = ap (λ t. cond t (min 4096 (x.len - 4096 * i)) (page_length ss (i - pages_in x))) is in
        (omega (arith, b, base), omega (arith, b, base, size))

    behind : IsInPage ss (page_of ss addr) addr → IsInPage (x ∷ ss) (pages_in x + page_of ss addr) addr
    behind r =
        let i = page_of ss addr in
        let past : ltb (pages_in x + i) (pages_in x) ≡ false = le-ltb (pages_in x + i) (pages_in x) (omega arith) in
        let back : pages_in x + i - pages_in x ≡ i = omega arith in
        let base : page_base (x ∷ ss) (pages_in x + i) ≡ page_base ss i = ap (λ t. cond t (x.base + 4096 * (pages_in x + i)) (page_base ss (pages_in x + i - pages_in x))) past ∙ ap (page_base ss) back in
        let size : page_length (x ∷ ss) (pages_in x + i) ≡ page_length ss i = ap (λ t. cond t (min 4096 (x.len - 4096 * (pages_in x + i))) (page_length ss (pages_in x + i - pages_in x))) past ∙ ap (page_length ss) back in
        (omega (arith, r, base), omega (arith, r, base, size))

pub page-apart : (end : ℕ) (ss : List Segment) (i addr : ℕ) → AreInOrder end ss → i < page_total ss → IsInPage ss i addr → page_of ss addr ≡ i
page-apart end [] i addr o h r = absurd (omega arith)
page-apart end (s ∷ ss) i addr o h r =
    elim (cases_lt i (pages_in s)) as (λ _. page_of (s ∷ ss) addr ≡ i) [
      | inl lt ↦ here lt
      | inr ge ↦ behind (page-apart (s.base + s.len) ss (i - pages_in s) addr o.1) ge
    ]
  where
    here : i < pages_in s → page_of (s ∷ ss) addr ≡ i
    here lt =
        let is : ltb i (pages_in s) ≡ true = lt-ltb i (pages_in s) lt in
        let base : page_base (s ∷ ss) i ≡ s.base + 4096 * i = ap (λ t. cond t (s.base + 4096 * i) (page_base ss (i - pages_in s))) is in
        let size : page_length (s ∷ ss) i ≡ min 4096 (s.len - 4096 * i) = ap (λ t. cond t (min 4096 (s.len - 4096 * i)) (page_length ss (i - pages_in s))) is in
        let held : holds s addr ≡ true = holds-from s addr (omega (arith, r, base)) (omega (arith, r, base, size)) in
        let found : page_of (s ∷ ss) addr ≡ (addr - s.base) / 4096 = ap (λ t. cond t ((addr - s.base) / 4096) (pages_in s + page_of ss addr)) held in
        omega (arith, r, base, size, found)

    behind : (i - pages_in s < page_total ss → IsInPage ss (i - pages_in s) addr → page_of ss addr ≡ i - pages_in s) → pages_in s ≤ i → page_of (s ∷ ss) addr ≡ i
    behind again ge =
        let past : ltb i (pages_in s) ≡ false = le-ltb i (pages_in s) ge in
        let base : page_base (s ∷ ss) i ≡ page_base ss (i - pages_in s) = ap (λ t. cond t (s.base + 4096 * i) (page_base ss (i - pages_in s))) past in
        let size : page_length (s ∷ ss) i ≡ page_length ss (i - pages_in s) = ap (λ t. cond t (min 4096 (s.len - 4096 * i)) (page_length ss (i - pages_in s))) past in
        let later = later-page (s.base + s.len) ss (i - pages_in s) o.1 (omega arith) in
        let free : holds s addr ≡ false = past-holds s addr (omega (arith, r, base, later)) in
        let found : page_of (s ∷ ss) addr ≡ pages_in s + page_of ss addr = ap (λ t. cond t ((addr - s.base) / 4096) (pages_in s + page_of ss addr)) free in
        let rest = again (omega arith) (omega (arith, r, base), omega (arith, r, base, size)) in
        omega (arith, found, rest)

-- no page ends within an aligned access
pub page-access : (ss : List Segment) (addr width k : ℕ) → AllByRecursion HasBounds ss → IsWidth width → addr % width ≡ 0 → k < width → page_of ss (addr + k) ≡ page_of ss addr
page-access [] addr width k b w a h = refl
page-access (s ∷ ss) addr width k b w a h =
    let same = holds-beside s width addr k b.0 w a h in
    elim (holds s addr) as (λ t. holds s addr ≡ t → page_of (s ∷ ss) (addr + k) ≡ cond t ((addr - s.base) / 4096) (pages_in s + page_of ss addr)) [
      | true ↦ λ e. ap (λ t. cond t ((addr + k - s.base) / 4096) (pages_in s + page_of ss (addr + k))) (same ∙ e) ∙ inside (holds-true s addr e).0
      | false ↦ λ e. ap (λ t. cond t ((addr + k - s.base) / 4096) (pages_in s + page_of ss (addr + k))) (same ∙ e) ∙ ap (λ x. pages_in s + x) (page-access ss addr width k b.1 w a h)
    ] refl
  where
    inside : s.base ≤ addr → (addr + k - s.base) / 4096 ≡ (addr - s.base) / 4096
    inside low =
        let end = s.base + 4096 * ((addr - s.base) / 4096 + 1) in
        let beside = below_too width end addr k w (omega (arith, b.0.0)) a h (omega arith) in
        omega (arith, beside)

pub are-pages : (ss : List Segment) → AreSegments ss → ArePages ss
are-pages ss are = record {
  within = page_of-within ss;
  here = page-here ss;
  apart = λ i addr. page-apart 0 ss i addr are.order;
  accesses = λ addr width k. page-access ss addr width k are.bounds;
}

-- the page of an address, through its part
pub page_of-read : (ps : List Part) (numbers : List ℕ) (addr i place : ℕ) (p : Part) → numbers ≡ first_pages 0 (segments_of ps) → IsFirstAt ps addr i → p ≡ get_or ps i p → place ≡ addr - p.segment.base → get_or numbers i 0 + place / 4096 ≡ page_of (segments_of ps) addr
page_of-read ps numbers addr i place p is first e at =
    let base : p.segment.base ≡ (get_or ps i p).segment.base = ap (λ q. q.segment.base) e in
    omega (arith, page_of-first 0 ps addr i p first, ap (λ l. get_or l i 0) is, base, at)

pub page_of-total : (ps : List Part) (addr i : ℕ) (d : Part) → IsFirstAt ps addr i → page_of (segments_of ps) addr < page_total (segments_of ps)
page_of-total ps addr i d first = page_of-within (segments_of ps) addr (get_or ps i d).segment (segment_at-first ps addr i d first)
