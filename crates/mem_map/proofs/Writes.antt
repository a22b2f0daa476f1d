-- What a write to a part leaves of memory.
use Rattle.std.proofs.Common.{◌≡◌, ℕ, zero, suc, ◌+◌, ◌-◌, ◌<◌, ◌≤◌, inl, inr, Bool, true, false, cond, eqb, List, [], ◌∷◌, length, get_or, set, refl, sym, ap, ◌∙◌, arith}
use Rattle.std.specs.Prelude.{Option, Some, None}
use Rattle.std.specs.List.{AllByRecursion}
use Rattle.std.specs.Ordering.{nat_cmp, eq_by_cmp}
use Rattle.std.specs.Cmp.{nat_cmp_total, unsigned_tied}
use Rattle.std.specs.FinMap.{find, insert, from_entries, get-insert, get-from_entries, same_map, nat_cmp-IsAntisymmetric}
use Rattle.std.proofs.lemmas.Bool.{eq-eqb, ne_eqb, cases_lt, cases_eq}
use Rattle.std.proofs.lemmas.List.{get_or-set_same, get_or-set_other, length-set, set-set, set-get_or}
use Rattle.mach_base.specs.Machine.{Memory, Part, memory_of, entries_of, numbered, holds}
use Rattle.mach_base.specs.declared.event.Fault.{Fault}
use Rattle.mem_map.specs.declared.rights.Access.TheVariants.{Store}
use Rattle.mach_base.specs.Bytes.{with_bytes, byte_of}
use Rattle.mem_map.specs.Access.{access_fault, store_fault, after_store}
use Rattle.mem_map.specs.Parts.{IsWhole, AreParts, IsAllowedIn, segments_of, IsFirstAt, with_each}
use Rattle.mem_map.specs.Pages.{with_first, with_text}
use Rattle.mem_map.proofs.Natural.{whole_at}
use Rattle.mem_map.proofs.Entries.{either, find-append, find-part_outside, find-numbered_below, find-numbered_past, find-numbered_at, first_behind, holds-true}

-- the part with one byte written
abbrev pub put_byte : Part → ℕ → ℕ → Part
put_byte p place byte = record p { bytes = set p.bytes place byte }

find-numbered-set : (q a place byte : ℕ) (bs : List ℕ) → place < length bs → find nat_cmp q (numbered a (set bs place byte)) ≡ cond (eqb q (a + place)) (Some byte) (find nat_cmp q (numbered a bs))
find-numbered-set q a place byte bs lt =
    let same : length (set bs place byte) ≡ length bs = length-set bs place byte in
    elim (cases_eq q (a + place)) as (λ _. find nat_cmp q (numbered a (set bs place byte)) ≡ cond (eqb q (a + place)) (Some byte) (find nat_cmp q (numbered a bs))) [
      | inl e ↦
          find-numbered_at q a place (set bs place byte) e (omega arith)
          ∙ ap Some (get_or-set_same bs place byte 0 lt)
          ∙ ap (λ t. cond t (Some byte) (find nat_cmp q (numbered a bs))) (sym (eq-eqb q (a + place) e))
      | inr ne ↦ elsewhere ne same ∙ ap (λ t. cond t (Some byte) (find nat_cmp q (numbered a bs))) (sym (ne_eqb q (a + place) ne))
    ]
  where
    elsewhere : (q ≡ a + place → ⊥) → length (set bs place byte) ≡ length bs → find nat_cmp q (numbered a (set bs place byte)) ≡ find nat_cmp q (numbered a bs)
    elsewhere ne same =
        elim (cases_lt q a) as (λ _. find nat_cmp q (numbered a (set bs place byte)) ≡ find nat_cmp q (numbered a bs)) [
          | inl low ↦ find-numbered_below q a (set bs place byte) low ∙ sym (find-numbered_below q a bs low)
          | inr ge ↦ elim (cases_lt q (a + length bs)) as (λ _. find nat_cmp q (numbered a (set bs place byte)) ≡ find nat_cmp q (numbered a bs)) [
            | inl in_it ↦
                find-numbered_at q a (q - a) (set bs place byte) (omega arith) (omega arith)
                ∙ ap Some (get_or-set_other bs place (q - a) byte 0 (λ e. ne (omega arith)))
                ∙ sym (find-numbered_at q a (q - a) bs (omega arith) (omega arith))
            | inr past ↦ find-numbered_past q a (set bs place byte) (omega arith) ∙ sym (find-numbered_past q a bs past)
          ]
        ]

either-cond : (t : Bool) (byte : ℕ) (x y : Option ℕ) → either (cond t (Some byte) x) y ≡ cond t (Some byte) (either x y)
either-cond true byte x y = refl
either-cond false byte x y = refl

find-put : (ps : List Part) (addr i byte q : ℕ) (d : Part) → IsFirstAt ps addr i → AllByRecursion IsWhole ps → find nat_cmp q (entries_of (set ps i (put_byte (get_or ps i d) (addr - (get_or ps i d).segment.base) byte))) ≡ cond (eqb q addr) (Some byte) (find nat_cmp q (entries_of ps))
find-put [] addr i byte q d f w = absurd (omega (arith, f.within))
find-put (p ∷ ps) addr zero byte q d f w =
    let bounds = holds-true p.segment addr (f.here d) in
    let place = addr - p.segment.base in
    let back : p.segment.base + place ≡ addr = omega arith in
    find-append q (numbered p.segment.base (set p.bytes place byte)) (entries_of ps)
    ∙ ap (λ o. either o (find nat_cmp q (entries_of ps))) (find-numbered-set q p.segment.base place byte p.bytes (omega arith))
    ∙ ap (λ k. either (cond (eqb q k) (Some byte) (find nat_cmp q (numbered p.segment.base p.bytes))) (find nat_cmp q (entries_of ps))) back
    ∙ either-cond (eqb q addr) byte (find nat_cmp q (numbered p.segment.base p.bytes)) (find nat_cmp q (entries_of ps))
    ∙ ap (λ o. cond (eqb q addr) (Some byte) o) (sym (find-append q (numbered p.segment.base p.bytes) (entries_of ps)))
find-put (p ∷ ps) addr (suc i) byte q d f w =
    let head = numbered p.segment.base p.bytes in
    let rest = entries_of (set ps i (put_byte (get_or ps i d) (addr - (get_or ps i d).segment.base) byte)) in
    find-append q head rest
    ∙ ap (λ o. either (find nat_cmp q head) o) (find-put ps addr i byte q d (first_behind p ps addr i f) w.1)
    ∙ elim (cases_eq q addr) as (λ _. either (find nat_cmp q head) (cond (eqb q addr) (Some byte) (find nat_cmp q (entries_of ps))) ≡ cond (eqb q addr) (Some byte) (either (find nat_cmp q head) (find nat_cmp q (entries_of ps)))) [
      | inl e ↦
          ap (λ t. either (find nat_cmp q head) (cond t (Some byte) (find nat_cmp q (entries_of ps)))) (eq-eqb q addr e)
          ∙ ap (λ o. either o (Some byte)) (ap (λ k. find nat_cmp k head) e ∙ find-part_outside p addr w.0 (f.before 0 d (omega arith)))
          ∙ ap (λ t. cond t (Some byte) (either (find nat_cmp q head) (find nat_cmp q (entries_of ps)))) (sym (eq-eqb q addr e))
      | inr ne ↦
          ap (λ t. either (find nat_cmp q head) (cond t (Some byte) (find nat_cmp q (entries_of ps)))) (ne_eqb q addr ne)
          ∙ ap (λ t. cond t (Some byte) (either (find nat_cmp q head) (find nat_cmp q (entries_of ps)))) (sym (ne_eqb q addr ne))
    ]
    ∙ ap (λ o. cond (eqb q addr) (Some byte) o) (sym (find-append q head (entries_of ps)))

-- a part that is replaced by one of the same segment
pub segments_of-set : (ps : List Part) (i : ℕ) (d q : Part) → q.segment ≡ (get_or ps i d).segment → segments_of (set ps i q) ≡ segments_of ps
segments_of-set [] i d q e = refl
segments_of-set (p ∷ ps) zero d q e = ap (λ s. s ∷ segments_of ps) e
segments_of-set (p ∷ ps) (suc i) d q e = ap (λ ss. p.segment ∷ ss) (segments_of-set ps i d q e)

pub whole-set : (ps : List Part) (i : ℕ) (q : Part) → AllByRecursion IsWhole ps → IsWhole q → AllByRecursion IsWhole (set ps i q)
whole-set [] i q w h = w
whole-set (p ∷ ps) zero q w h = (h, w.1)
whole-set (p ∷ ps) (suc i) q w h = (w.0, whole-set ps i q w.1 h)

-- a write to a part is the write to memory
pub memory_of-put : (ps : List Part) (addr i byte : ℕ) (d : Part) → AreParts ps → IsFirstAt ps addr i → memory_of (set ps i (put_byte (get_or ps i d) (addr - (get_or ps i d).segment.base) byte)) ≡ record (memory_of ps) { bytes = insert (memory_of ps).bytes addr byte }
memory_of-put ps addr i byte d are first =
    let q = put_byte (get_or ps i d) (addr - (get_or ps i d).segment.base) byte in
    let segments = segments_of-set ps i d q refl in
    let bytes : from_entries {R = nat_cmp} (entries_of (set ps i q)) ≡ insert (from_entries (entries_of ps)) addr byte =
    same_map nat_cmp_total nat_cmp-IsAntisymmetric _ _ (λ k. get-from_entries nat_cmp_total (entries_of (set ps i q)) k
    ∙ find-put ps addr i byte k d first are.whole
    ∙ ap (λ t. cond t (Some byte) (find nat_cmp k (entries_of ps))) (sym (unsigned_tied k addr))
    ∙ ap (λ o. cond (eq_by_cmp nat_cmp k addr) (Some byte) o) (sym (get-from_entries nat_cmp_total (entries_of ps) k))
    ∙ sym (get-insert nat_cmp_total (from_entries (entries_of ps)) addr byte k))
    in
    λ j. record { segments = segments j; bytes = bytes j }

pub are-set : (ps : List Part) (i : ℕ) (d q : Part) → AreParts ps → q.segment ≡ (get_or ps i d).segment → IsWhole q → AreParts (set ps i q)
are-set ps i d q are e h = record { segments = rw (segments_of-set ps i d q e) are.segments; whole = whole-set ps i q are.whole h }

-- the byte that is written through the part
pub are-written : (ps : List Part) (i place byte : ℕ) (d q : Part) → AreParts ps → i < length ps → d ≡ get_or ps i d → q ≡ put_byte d place byte → AreParts (set ps i q)
are-written ps i place byte d q are within e is =
    let whole : IsWhole (get_or ps i d) = whole_at ps i d are.whole within in
    let same : IsWhole (put_byte d place byte) = length-set d.bytes place byte ∙ ap (λ p. length p.bytes) e ∙ whole ∙ ap (λ p. p.segment.len) (sym e) in
    are-set ps i d q are (ap (λ p. p.segment) is ∙ ap (λ p. p.segment) e) (rw is same)

pub memory_of-written : (ps : List Part) (addr i place byte : ℕ) (d q : Part) → AreParts ps → IsFirstAt ps addr i → d ≡ get_or ps i d → place ≡ addr - d.segment.base → q ≡ put_byte d place byte → memory_of (set ps i q) ≡ record (memory_of ps) { bytes = insert (memory_of ps).bytes addr byte }
memory_of-written ps addr i place byte d q are first e at is =
    ap (λ p. memory_of (set ps i p)) is
    ∙ ap (λ k. memory_of (set ps i (put_byte d k byte))) at
    ∙ ap (λ p. memory_of (set ps i (put_byte p (addr - p.segment.base) byte))) e
    ∙ memory_of-put ps addr i byte d are first

length-with_each : (bytes : List ℕ) (place n : ℕ) (others : ℕ → ℕ) → length (with_each bytes place others n) ≡ length bytes
length-with_each bytes place zero others = refl
length-with_each bytes place (suc n) others = length-set (with_each bytes place others n) (place + n) (others n) ∙ length-with_each bytes place n others

-- a part that is replaced by one of the same segment is found as before
first-set : (ps : List Part) (addr i : ℕ) (d q : Part) → IsFirstAt ps addr i → q.segment ≡ (get_or ps i d).segment → IsFirstAt (set ps i q) addr i
first-set ps addr i d q first e = record {
  within = rw length-set first.within;
  here = λ p. ap (λ x. holds x.segment addr) (get_or-set_same ps i q p first.within) ∙ ap (λ s. holds s addr) e ∙ first.here d;
  before = λ k p h. ap (λ x. holds x.segment addr) (get_or-set_other ps i k q p (λ e'. omega arith)) ∙ first.before k p h;
}

abbrev put_each : Part → ℕ → (ℕ → ℕ) → ℕ → Part
put_each p place others n = record p { bytes = with_each p.bytes place others n }

abbrev with_byte : Memory → ℕ → ℕ → Memory
with_byte m addr byte = record m { bytes = insert m.bytes addr byte }

-- memory with other bytes, given by their number from 0 on, from the address on: so many of them
abbrev pub with_others : Memory → ℕ → (ℕ → ℕ) → ℕ → Memory
with_others m addr others zero = m
with_others m addr others (suc n) = with_byte (with_others m addr others n) (addr + n) (others n)

-- bytes that are written through the part, one after another
memory_of-each : (n : ℕ) (ps : List Part) (addr i place : ℕ) (others : ℕ → ℕ) (d : Part) → AreParts ps → ((k : ℕ) → k < n → IsFirstAt ps (addr + k) i) → i < length ps → d.segment.base ≤ addr → d ≡ get_or ps i d → place ≡ addr - d.segment.base → memory_of (set ps i (put_each d place others n)) ≡ with_others (memory_of ps) addr others n
memory_of-each zero ps addr i place others d are first within low e at = ap (λ p. memory_of (set ps i p)) e ∙ ap memory_of (set-get_or ps i d)
memory_of-each (suc n) ps addr i place others d are first within low e at =
    let so_far = put_each d place others n in
    let ps' = set ps i so_far in
    let whole : IsWhole (get_or ps i d) = whole_at ps i d are.whole within in
    let whole' : IsWhole so_far = length-with_each d.bytes place n others ∙ ap (λ p. length p.bytes) e ∙ whole ∙ ap (λ p. p.segment.len) (sym e) in
    let are' = are-set ps i d so_far are (ap (λ p. p.segment) e) whole' in
    let first' = first-set ps (addr + n) i d so_far (first n (omega arith)) (ap (λ p. p.segment) e) in
    let at' : place + n ≡ addr + n - d.segment.base = omega arith in
    ap memory_of (sym (set-set ps i so_far (put_byte so_far (place + n) (others n))))
    ∙ memory_of-written ps' (addr + n) i (place + n) (others n) so_far (put_byte so_far (place + n) (others n)) are' first' (sym (get_or-set_same ps i so_far so_far within)) at' refl
    ∙ ap (λ m. with_byte m (addr + n) (others n)) (memory_of-each n ps addr i place others d are (λ k h. first k (omega arith)) within low e at)

pub are-each : (ps : List Part) (i place n : ℕ) (others : ℕ → ℕ) (d q : Part) → AreParts ps → i < length ps → d ≡ get_or ps i d → q ≡ put_each d place others n → AreParts (set ps i q)
are-each ps i place n others d q are within e is =
    let whole : IsWhole (get_or ps i d) = whole_at ps i d are.whole within in
    let same : IsWhole (put_each d place others n) = length-with_each d.bytes place n others ∙ ap (λ p. length p.bytes) e ∙ whole ∙ ap (λ p. p.segment.len) (sym e) in
    are-set ps i d q are (ap (λ p. p.segment) is ∙ ap (λ p. p.segment) e) (rw is same)

-- the segments of parts of which one is written to
pub segments_of-each : (ps : List Part) (i place n : ℕ) (others : ℕ → ℕ) (d q : Part) → d ≡ get_or ps i d → q ≡ put_each d place others n → segments_of (set ps i q) ≡ segments_of ps
segments_of-each ps i place n others d q e is = segments_of-set ps i d q (ap (λ p. p.segment) is ∙ ap (λ p. p.segment) e)

with_others-value : (m : Memory) (addr n value : ℕ) → with_others m addr (byte_of value) n ≡ record m { bytes = with_bytes m.bytes addr n value }
with_others-value m addr zero value = refl
with_others-value m addr (suc n) value = ap (λ x. with_byte x (addr + n) (byte_of value n)) (with_others-value m addr n value)

with_others-text : (m : Memory) (addr n : ℕ) (text : List ℕ) → with_others m addr (λ k. get_or text k 0) n ≡ record m { bytes = with_first m.bytes addr text n }
with_others-text m addr zero text = refl
with_others-text m addr (suc n) text = ap (λ x. with_byte x (addr + n) (get_or text n 0)) (with_others-text m addr n text)

-- the number that is written through the part
pub memory_of-after_store : (ps : List Part) (addr width i place value : ℕ) (d q : Part) → AreParts ps → IsAllowedIn ps Store addr width i → d ≡ get_or ps i d → place ≡ addr - d.segment.base → q ≡ put_each d place (byte_of value) width → memory_of (set ps i q) ≡ after_store (memory_of ps) addr width value
unfolding after_store
memory_of-after_store ps addr width i place value d q are may e at is =
    let low : d.segment.base ≤ addr = rw e (may.low d) in
    ap (λ p. memory_of (set ps i p)) is ∙ memory_of-each width ps addr i place (byte_of value) d are may.first may.within low e at ∙ with_others-value (memory_of ps) addr width value

-- the text that is written through the part
pub memory_of-with_text : (ps : List Part) (addr i place : ℕ) (text : List ℕ) (d q : Part) → AreParts ps → ((k : ℕ) → k < length text → IsFirstAt ps (addr + k) i) → i < length ps → d.segment.base ≤ addr → d ≡ get_or ps i d → place ≡ addr - d.segment.base → q ≡ put_each d place (λ k. get_or text k 0) (length text) → memory_of (set ps i q) ≡ with_text (memory_of ps) addr text
memory_of-with_text ps addr i place text d q are first within low e at is =
    ap (λ p. memory_of (set ps i p)) is ∙ memory_of-each (length text) ps addr i place (λ k. get_or text k 0) d are first within low e at ∙ with_others-text (memory_of ps) addr (length text) text

pub store_fault-Some : (m : Memory) (addr width : ℕ) (fault : Fault) → access_fault m Store addr width ≡ Some fault → store_fault m addr width ≡ Some fault
unfolding store_fault
store_fault-Some m addr width fault e = e

pub store_fault-None : (ps : List Part) (addr width i : ℕ) → IsAllowedIn ps Store addr width i → store_fault (memory_of ps) addr width ≡ None
unfolding store_fault
store_fault-None ps addr width i may = may.faultless
