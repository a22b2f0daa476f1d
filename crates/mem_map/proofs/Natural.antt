-- A natural access never leaves its segment: all bounds are multiples of 8.
use Rattle.std.proofs.Common.{◌≡◌, ℕ, zero, suc, ◌+◌, ◌-◌, ◌%◌, ◌<◌, inl, inr, Bool, true, false, cond, ltb, leb, not, ◌&&◌, List, [], ◌∷◌, length, get_or, refl, sym, ap, ◌∙◌, arith}
use Rattle.std.specs.Prelude.{Option, Some, None, is_some}
use Rattle.std.specs.List.{AllByRecursion}
use Rattle.std.specs.Cmp.{nat_cmp_total}
use Rattle.std.specs.FinMap.{get-from_entries}
use Rattle.std.proofs.lemmas.Bool.{le-leb, lt-leb, lt-ltb, le-ltb, eq-eqb, ne_eqb, cases_lt}
use Rattle.mach_base.specs.declared.event.Fault.{Fault}
use Rattle.mach_base.specs.declared.event.Cause.TheVariants.{Unmapped, NoRight, Misaligned}
use Rattle.mach_base.specs.declared.memory_range.Segment.{Segment}
use Rattle.mach_base.specs.Machine.{Memory, Part, HasBounds, memory_of, holds, segment_at}
use Rattle.mem_map.specs.declared.rights.Access.{Access}
use Rattle.mach_base.specs.Bytes.{IsWidth, is_mapped, all_bytes}
use Rattle.mem_map.specs.Access.{allows, allowed_in, has_right, fault_at, access_fault}
use Rattle.mem_map.specs.Parts.{IsWhole, AreParts, IsFirstAt, NoneHolds, IsAllowedIn, segments_of}
use Rattle.mem_map.proofs.Entries.{segment_at-first, segment_at-none, is_some-find, holds-true}

-- between multiples of the width no bound of a segment lies
pub below_too : (width bound addr k : ℕ) → IsWidth width → bound % 8 ≡ 0 → addr % width ≡ 0 → k < width → addr < bound → addr + k < bound
below_too width bound addr k w b a h lt =
    elim w as (λ _. addr + k < bound) [
      | inl e ↦ omega (arith, e)
      | inr w' ↦ elim w' as (λ _. addr + k < bound) [
        | inl e ↦ two (rw e at a) (rw e at h)
        | inr w'' ↦ elim w'' as (λ _. addr + k < bound) [ inl e ↦ four (rw e at a) (rw e at h) | inr e ↦ eight (rw e at a) (rw e at h) ]
      ]
    ]
  where
    two : addr % 2 ≡ 0 → k < 2 → addr + k < bound
    two a h = omega arith

    four : addr % 4 ≡ 0 → k < 4 → addr + k < bound
    four a h = omega arith

    eight : addr % 8 ≡ 0 → k < 8 → addr + k < bound
    eight a h = omega arith

pub holds-beside : (s : Segment) (width addr k : ℕ) → HasBounds s → IsWidth width → addr % width ≡ 0 → k < width → holds s (addr + k) ≡ holds s addr
holds-beside s width addr k b w a h =
    let low : leb s.base (addr + k) ≡ leb s.base addr =
    elim (cases_lt addr s.base) as (λ _. leb s.base (addr + k) ≡ leb s.base addr) [
      | inl lt ↦ lt-leb s.base (addr + k) (below_too width s.base addr k w b.0 a h lt) ∙ sym (lt-leb s.base addr lt)
      | inr ge ↦ le-leb s.base (addr + k) (omega arith) ∙ sym (le-leb s.base addr ge)
    ]
    in
    let end : (s.base + s.len) % 8 ≡ 0 = omega (arith, b.0, b.1) in
    let high : ltb (addr + k) (s.base + s.len) ≡ ltb addr (s.base + s.len) =
    elim (cases_lt addr (s.base + s.len)) as (λ _. ltb (addr + k) (s.base + s.len) ≡ ltb addr (s.base + s.len)) [
      | inl lt ↦ lt-ltb (addr + k) (s.base + s.len) (below_too width (s.base + s.len) addr k w end a h lt) ∙ sym (lt-ltb addr (s.base + s.len) lt)
      | inr ge ↦ le-ltb (addr + k) (s.base + s.len) (omega arith) ∙ sym (le-ltb addr (s.base + s.len) ge)
    ]
    in
    ap (λ t. t && ltb (addr + k) (s.base + s.len)) low ∙ ap (λ t. leb s.base addr && t) high

segment_at-beside : (ss : List Segment) (width addr k : ℕ) → AllByRecursion HasBounds ss → IsWidth width → addr % width ≡ 0 → k < width → segment_at ss (addr + k) ≡ segment_at ss addr
segment_at-beside [] width addr k b w a h = refl
segment_at-beside (s ∷ ss) width addr k b w a h =
    ap (λ t. cond t (Some s) (segment_at ss (addr + k))) (holds-beside s width addr k b.0 w a h)
    ∙ ap (λ o. cond (holds s addr) (Some s) o) (segment_at-beside ss width addr k b.1 w a h)

pub bounds_at : (ps : List Part) (i : ℕ) (d : Part) → AllByRecursion HasBounds (segments_of ps) → i < length ps → HasBounds (get_or ps i d).segment
bounds_at [] i d b h = absurd (omega arith)
bounds_at (p ∷ ps) zero d b h = b.0
bounds_at (p ∷ ps) (suc i) d b h = bounds_at ps i d b.1 (omega arith)

pub whole_at : (ps : List Part) (i : ℕ) (d : Part) → AllByRecursion IsWhole ps → i < length ps → IsWhole (get_or ps i d)
whole_at [] i d b h = absurd (omega arith)
whole_at (p ∷ ps) zero d b h = b.0
whole_at (p ∷ ps) (suc i) d b h = whole_at ps i d b.1 (omega arith)

first-beside : (ps : List Part) (width addr k i : ℕ) → AllByRecursion HasBounds (segments_of ps) → IsWidth width → addr % width ≡ 0 → k < width → IsFirstAt ps addr i → IsFirstAt ps (addr + k) i
first-beside ps width addr k i b w a h f = record {
  within = f.within;
  here = λ d. holds-beside (get_or ps i d).segment width addr k (bounds_at ps i d b f.within) w a h ∙ f.here d;
  before = λ j d lt. holds-beside (get_or ps j d).segment width addr k (bounds_at ps j d b (omega (arith, f.within))) w a h ∙ f.before j d lt;
}

all_same : (test : ℕ → Bool) (addr n : ℕ) → ((k : ℕ) → k < suc n → test (addr + k) ≡ test addr) → all_bytes test addr (suc n) ≡ test addr
all_same test addr zero same = same 0 (omega arith)
all_same test addr (suc n) same =
    ap (λ t. t && test (addr + suc n)) (all_same test addr n (λ k h. same k (omega arith)))
    ∙ ap (λ t. test addr && t) (same (suc n) (omega arith))
    ∙ twice (test addr)
  where
    twice : (b : Bool) → (b && b) ≡ b
    twice true = refl
    twice false = refl

pub all_bytes-same : (test : ℕ → Bool) (addr width : ℕ) → IsWidth width → ((k : ℕ) → k < width → test (addr + k) ≡ test addr) → all_bytes test addr width ≡ test addr
all_bytes-same test addr zero w same = absurd (nothing w)
  where
    nothing : IsWidth 0 → ⊥
    nothing w = omega (arith, w)
all_bytes-same test addr (suc n) w same = all_same test addr n same

-- the fault of an aligned access, by whether its bytes are mapped and whether they may be used so
abbrev pub otherwise : ℕ → Bool → Bool → Option Fault
otherwise addr is_there may = cond (not is_there) (fault_at Unmapped addr) (cond (not may) (fault_at NoRight addr) None)

pub fault_misaligned : (m : Memory) (access : Access) (addr width : ℕ) → (addr % width ≡ 0 → ⊥) → access_fault m access addr width ≡ fault_at Misaligned addr
unfolding access_fault
fault_misaligned m access addr width ne =
    ap (λ t. cond (not t) (fault_at Misaligned addr) (otherwise addr (all_bytes (is_mapped m) addr width) (all_bytes (has_right m access) addr width))) (ne_eqb (addr % width) 0 ne)

module _ (ps : List Part) (are : AreParts ps) (access : Access) (addr width : ℕ) (w : IsWidth width) where
  mapped : addr % width ≡ 0 → all_bytes (is_mapped (memory_of ps)) addr width ≡ is_some (segment_at (segments_of ps) addr)
  mapped a =
      let at : (q : ℕ) → is_mapped (memory_of ps) q ≡ is_some (segment_at (segments_of ps) q) = λ q. ap is_some (get-from_entries nat_cmp_total _ q) ∙ is_some-find ps q are.whole in
      all_bytes-same (is_mapped (memory_of ps)) addr width w (λ k h. at (addr + k) ∙ ap is_some (segment_at-beside (segments_of ps) width addr k are.segments.bounds w a h) ∙ sym (at addr)) ∙ at addr

  allowed : addr % width ≡ 0 → all_bytes (has_right (memory_of ps) access) addr width ≡ allowed_in access (segment_at (segments_of ps) addr)
  allowed a =
      all_bytes-same (has_right (memory_of ps) access) addr width w (λ k h. ap (allowed_in access) (segment_at-beside (segments_of ps) width addr k are.segments.bounds w a h))

  pub fault_aligned : addr % width ≡ 0 → access_fault (memory_of ps) access addr width ≡ otherwise addr (is_some (segment_at (segments_of ps) addr)) (allowed_in access (segment_at (segments_of ps) addr))
  unfolding access_fault
  fault_aligned a =
      ap (λ t. cond (not t) (fault_at Misaligned addr) (otherwise addr (all_bytes (is_mapped (memory_of ps)) addr width) (all_bytes (has_right (memory_of ps) access) addr width))) (eq-eqb (addr % width) 0 a)
      ∙ ap (λ t. otherwise addr t (all_bytes (has_right (memory_of ps) access) addr width)) (mapped a)
      ∙ ap (λ t. otherwise addr (is_some (segment_at (segments_of ps) addr)) t) (allowed a)

  pub fault_unmapped : addr % width ≡ 0 → NoneHolds ps addr → access_fault (memory_of ps) access addr width ≡ fault_at Unmapped addr
  fault_unmapped a none =
      fault_aligned a ∙ ap (λ o. otherwise addr (is_some o) (allowed_in access o)) (segment_at-none ps addr none)

  fault_in : (i : ℕ) (d : Part) → addr % width ≡ 0 → IsFirstAt ps addr i → access_fault (memory_of ps) access addr width ≡ cond (not (allows access (get_or ps i d).segment.kind)) (fault_at NoRight addr) None
  fault_in i d a f =
      fault_aligned a ∙ ap (λ o. otherwise addr (is_some o) (allowed_in access o)) (segment_at-first ps addr i d f)

  pub fault_no_right : (i : ℕ) (d : Part) → addr % width ≡ 0 → IsFirstAt ps addr i → allows access (get_or ps i d).segment.kind ≡ false → access_fault (memory_of ps) access addr width ≡ fault_at NoRight addr
  fault_no_right i d a f no_right = fault_in i d a f ∙ ap (λ t. cond (not t) (fault_at NoRight addr) None) no_right

  pub allowed_in_part : (i : ℕ) (d : Part) → addr % width ≡ 0 → IsFirstAt ps addr i → allows access (get_or ps i d).segment.kind ≡ true → IsAllowedIn ps access addr width i
  allowed_in_part i d a f right = record {
    within = f.within;
    low = λ p. (holds-true (get_or ps i p).segment addr (f.here p)).0;
    high = λ p.
        let end = below_too width ((get_or ps i p).segment.base + (get_or ps i p).segment.len) addr (width - 1) w (omega (arith, (bounds_at ps i p are.segments.bounds f.within).0, (bounds_at ps i p are.segments.bounds f.within).1)) a (omega (arith, w)) (holds-true (get_or ps i p).segment addr (f.here p)).1 in
        let whole : length (get_or ps i p).bytes ≡ (get_or ps i p).segment.len = whole_at ps i p are.whole f.within in
        omega (arith, w);
    first = λ k h. first-beside ps width addr k i are.segments.bounds w a h f;
    faultless = fault_in i d a f ∙ ap (λ t. cond (not t) (fault_at NoRight addr) None) right;
  }
