-- What is read at an address, by the part that holds it.
use Rattle.std.proofs.Common.{◌≡◌, ℕ, zero, suc, ◌+◌, ◌-◌, ◌*◌, ◌%◌, ◌^◌, ◌<◌, ◌≤◌, inl, inr, true, eqb, ◌&&◌, List, get_or, refl, sym, ap, ◌∙◌, arith}
use Rattle.std.specs.Prelude.{Option, Some, None, Result, Ok, Err, is_some, is_ok, MatchResult}
use Rattle.std.specs.Option.{unwrap_or}
use Rattle.std.specs.Cmp.{nat_cmp_total}
use Rattle.std.specs.FinMap.{get-from_entries}
use Rattle.std.proofs.lemmas.Bool.{eq-eqb, ne_eqb, cases_eq}
use Rattle.mach_base.specs.declared.event.Fault.{Fault}
use Rattle.mach_base.specs.declared.memory_range.Kind.{Kind}
use Rattle.mach_base.specs.declared.memory_range.Kind.TheVariants.{Text, Data, Rodata}
use Rattle.mach_base.specs.declared.memory_range.Segment.{Segment}
use Rattle.mach_base.specs.Machine.{Memory, Part, memory_of, entries_of, segment_at, byte_at, is_text_segment, is_text_word}
use Rattle.mem_map.specs.declared.rights.Access.TheVariants.{Fetch, Load}
use Rattle.mach_base.specs.Bytes.{number_in}
use Rattle.mem_map.specs.Access.{allowed_in, access_fault, unless_fault, fetch_result, load_result}
use Rattle.mem_map.specs.Parts.{AreParts, IsFirstAt, NoneHolds, IsAllowedIn, segments_of, number_at}
use Rattle.mem_map.proofs.Entries.{find-first, find-none, holds-true}
use Rattle.mem_map.proofs.Natural.{bounds_at, fault_misaligned, fault_aligned, otherwise}

pub byte_at-none : (ps : List Part) (addr : ℕ) → AreParts ps → NoneHolds ps addr → byte_at (memory_of ps) addr ≡ None
byte_at-none ps addr are none = get-from_entries nat_cmp_total (entries_of ps) addr ∙ find-none ps addr none are.whole

pub byte_at-first : (ps : List Part) (addr i : ℕ) (d : Part) → AreParts ps → IsFirstAt ps addr i → byte_at (memory_of ps) addr ≡ Some (get_or (get_or ps i d).bytes (addr - (get_or ps i d).segment.base) 0)
byte_at-first ps addr i d are first = get-from_entries nat_cmp_total (entries_of ps) addr ∙ find-first ps addr i d first are.whole

-- the byte that is read through the part
pub byte_at-read : (ps : List Part) (addr i place byte : ℕ) (p : Part) → AreParts ps → IsFirstAt ps addr i → p ≡ get_or ps i p → place ≡ addr - p.segment.base → byte ≡ get_or p.bytes place 0 → byte_at (memory_of ps) addr ≡ Some byte
byte_at-read ps addr i place byte p are first e at is =
    byte_at-first ps addr i p are first
    ∙ ap (λ q. Some (get_or q.bytes (addr - q.segment.base) 0)) (sym e)
    ∙ ap (λ k. Some (get_or p.bytes k 0)) (sym at)
    ∙ ap Some (sym is)

-- no address from 2^63 on is in a segment
pub below_half : (ps : List Part) (addr i : ℕ) (d : Part) → AreParts ps → IsFirstAt ps addr i → addr < 2 ^ 63
below_half ps addr i d are first =
    omega (arith, (bounds_at ps i d are.segments.bounds first.within).3, (holds-true (get_or ps i d).segment addr (first.here d)).1)

pub number_in-first : (ps : List Part) (addr width i : ℕ) (d : Part) → AreParts ps → (get_or ps i d).segment.base ≤ addr → ((k : ℕ) → k < width → IsFirstAt ps (addr + k) i) → number_in (memory_of ps) addr width ≡ number_at (get_or ps i d).bytes (addr - (get_or ps i d).segment.base) width
number_in-first ps addr zero i d are low first = refl
number_in-first ps addr (suc n) i d are low first =
    let p = get_or ps i d in
    let place : addr + n - p.segment.base ≡ addr - p.segment.base + n = omega arith in
    ap (λ o. number_in (memory_of ps) addr n + unwrap_or o 0 * 256 ^ n) (byte_at-first ps (addr + n) i d are (first n (omega arith)))
    ∙ ap (λ x. x + get_or p.bytes (addr + n - p.segment.base) 0 * 256 ^ n) (number_in-first ps addr n i d are low (λ k h. first k (omega arith)))
    ∙ ap (λ k. number_at p.bytes (addr - p.segment.base) n + get_or p.bytes k 0 * 256 ^ n) place

pub fetch_result-Err : (m : Memory) (addr : ℕ) (fault : Fault) → access_fault m Fetch addr 4 ≡ Some fault → fetch_result m addr ≡ Err fault
unfolding fetch_result
fetch_result-Err m addr fault e = ap (λ o. unless_fault o (number_in m addr 4)) e

pub fetch_result-Ok : (ps : List Part) (addr i : ℕ) (d : Part) → AreParts ps → IsAllowedIn ps Fetch addr 4 i → fetch_result (memory_of ps) addr ≡ Ok (number_at (get_or ps i d).bytes (addr - (get_or ps i d).segment.base) 4)
unfolding fetch_result
fetch_result-Ok ps addr i d are may =
    ap (λ o. unless_fault o (number_in (memory_of ps) addr 4)) may.faultless ∙ ap Ok (number_in-first ps addr 4 i d are (may.low d) may.first)

-- the number that is read through the part
number-read : (addr width i place n : ℕ) (ps : List Part) (p : Part) → p ≡ get_or ps i p → place ≡ addr - p.segment.base → n ≡ number_at p.bytes place width → number_at (get_or ps i p).bytes (addr - (get_or ps i p).segment.base) width ≡ n
number-read addr width i place n ps p e at is =
    ap (λ q. number_at q.bytes (addr - q.segment.base) width) (sym e) ∙ ap (λ k. number_at p.bytes k width) (sym at) ∙ sym is

pub fetch_result-read : (ps : List Part) (addr i place n : ℕ) (p : Part) → AreParts ps → IsAllowedIn ps Fetch addr 4 i → p ≡ get_or ps i p → place ≡ addr - p.segment.base → n ≡ number_at p.bytes place 4 → fetch_result (memory_of ps) addr ≡ Ok n
fetch_result-read ps addr i place n p are may e at is = fetch_result-Ok ps addr i p are may ∙ ap Ok (number-read addr 4 i place n ps p e at is)

pub load_result-Err : (m : Memory) (addr width : ℕ) (fault : Fault) → access_fault m Load addr width ≡ Some fault → load_result m addr width ≡ Err fault
unfolding load_result
load_result-Err m addr width fault e = ap (λ o. unless_fault o (number_in m addr width)) e

pub load_result-Ok : (ps : List Part) (addr width i : ℕ) (d : Part) → AreParts ps → IsAllowedIn ps Load addr width i → load_result (memory_of ps) addr width ≡ Ok (number_at (get_or ps i d).bytes (addr - (get_or ps i d).segment.base) width)
unfolding load_result
load_result-Ok ps addr width i d are may =
    ap (λ o. unless_fault o (number_in (memory_of ps) addr width)) may.faultless ∙ ap Ok (number_in-first ps addr width i d are (may.low d) may.first)

-- a search for the access of a fetch succeeds where the fetch does
pub is_ok-fetch_result : (ps : List Part) (addr : ℕ) (r : Result ℕ Fault) → MatchResult r (IsAllowedIn ps Fetch addr 4) (λ fault. access_fault (memory_of ps) Fetch addr 4 ≡ Some fault) → is_ok r ≡ is_ok (fetch_result (memory_of ps) addr)
unfolding fetch_result
is_ok-fetch_result ps addr (Ok i) h = sym (ap (λ o. is_ok (unless_fault o (number_in (memory_of ps) addr 4))) h.faultless)
is_ok-fetch_result ps addr (Err fault) h = sym (ap (λ o. is_ok (unless_fault o (number_in (memory_of ps) addr 4))) h)

ok_in_text : (addr n : ℕ) (o : Option Segment) → is_ok (unless_fault (otherwise addr (is_some o) (allowed_in Fetch o)) n) ≡ is_text_segment o
ok_in_text addr n None = refl
ok_in_text addr n (Some s) = of_kind s.kind
  where
    of_kind : (k : Kind) → is_ok (unless_fault (otherwise addr true (allowed_in Fetch (Some (record { base = s.base; len = s.len; kind = k })))) n) ≡ is_text_segment (Some (record { base = s.base; len = s.len; kind = k }))
    of_kind Text = refl
    of_kind Data = refl
    of_kind Rodata = refl

-- a fetch gives a word exactly where a whole word of text stands
pub is_ok-text : (ps : List Part) (addr : ℕ) → AreParts ps → is_ok (fetch_result (memory_of ps) addr) ≡ is_text_word (memory_of ps) addr
unfolding fetch_result
is_ok-text ps addr are =
    let n = number_in (memory_of ps) addr 4 in
    let o = segment_at (segments_of ps) addr in
    elim (cases_eq (addr % 4) 0) as (λ _. is_ok (unless_fault (access_fault (memory_of ps) Fetch addr 4) n) ≡ ((eqb (addr % 4) 0) && is_text_segment o)) [
      | inl a ↦ ap (λ f. is_ok (unless_fault f n)) (fault_aligned ps are Fetch addr 4 (inr (inr (inl refl))) a) ∙ ok_in_text addr n o ∙ ap (λ t. t && is_text_segment o) (sym (eq-eqb (addr % 4) 0 a))
      | inr ne ↦ ap (λ f. is_ok (unless_fault f n)) (fault_misaligned (memory_of ps) Fetch addr 4 ne) ∙ ap (λ t. t && is_text_segment o) (sym (ne_eqb (addr % 4) 0 ne))
    ]

pub load_result-read : (ps : List Part) (addr width i place n : ℕ) (p : Part) → AreParts ps → IsAllowedIn ps Load addr width i → p ≡ get_or ps i p → place ≡ addr - p.segment.base → n ≡ number_at p.bytes place width → load_result (memory_of ps) addr width ≡ Ok n
load_result-read ps addr width i place n p are may e at is = load_result-Ok ps addr width i p are may ∙ ap Ok (number-read addr width i place n ps p e at is)
