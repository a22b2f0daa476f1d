-- What writes keep of the pages that have no mark.
use Rattle.std.proofs.Common.{◌≡◌, ℕ, zero, suc, ◌+◌, ◌<◌, ◌≤◌, ◌⊎◌, inl, inr, true, false, cond, Bool, List, length, get_or, set, refl, sym, ap, ◌∙◌, arith}
use Rattle.std.specs.Prelude.{Some, None}
use Rattle.std.specs.Ordering.{nat_cmp}
use Rattle.std.specs.Cmp.{nat_cmp_total, unsigned_tied}
use Rattle.std.specs.FinMap.{FinMap, get, insert, get-insert}
use Rattle.std.proofs.lemmas.Bool.{eqb-true, ne_eqb, cases_eq, false≢true}
use Rattle.std.proofs.lemmas.List.{get_or-set_same, get_or-set_other, length-set}
use Rattle.mach_base.specs.Bytes.{IsWidth}
use Rattle.mach_base.specs.Machine.{Memory, Part, byte_at}
use Rattle.mem_map.specs.Access.{store_fault, after_store}
use Rattle.mem_map.specs.Pages.{PagedMemory, ArePages, KeepsUnmarked, page_of, page_total, with_first, with_text, page_base, page_length, first_pages, IsMap, IsSpot}
use Rattle.mem_map.specs.Parts.{AreParts, IsFirstAt, segments_of}
use Rattle.mem_map.specs.declared.memory.Spot.{Spot}
use Rattle.mem_map.proofs.Natural.{whole_at}
use Rattle.mem_map.proofs.Numbering.{first_in}
use Rattle.mem_map.proofs.Stores.{within_or_kept, segments-after_store, store_passes}

-- a write into one page, which is marked
pub keeps-others : (old : PagedMemory) (m : Memory) (page : ℕ) → page < length old.changed → m.segments ≡ old.memory.segments → ((at : ℕ) → (page_of old.memory.segments at ≡ page) ⊎ (byte_at m at ≡ byte_at old.memory at)) → KeepsUnmarked old (record { memory = m; changed = set old.changed page true })
keeps-others old m page within same bytes = record {
  segments = same;
  marks = λ i free. elim (cases_eq i page) as (λ _. get_or old.changed i false ≡ false) [
    | inl e ↦ absurd (marked i e free)
    | inr ne ↦ sym (get_or-set_other old.changed page i true false ne) ∙ free
  ];
  bytes = λ addr free. elim (bytes addr) as (λ _. byte_at m addr ≡ byte_at old.memory addr) [
    | inl e ↦ absurd (marked (page_of old.memory.segments addr) e free)
    | inr kept ↦ kept
  ];
}
  where
    marked : (i : ℕ) → i ≡ page → get_or (set old.changed page true) i false ≡ false → ⊥
    marked i e free = false≢true (sym (ap (λ k. get_or (set old.changed page true) k false) (sym e) ∙ free) ∙ get_or-set_same old.changed page true false within)

-- what is as before keeps all
pub keeps-all : (m : PagedMemory) → KeepsUnmarked m m
keeps-all m = record { segments = refl; marks = λ i free. free; bytes = λ addr free. refl }

-- one write after another
pub keeps-both : (old mid new : PagedMemory) → KeepsUnmarked old mid → KeepsUnmarked mid new → KeepsUnmarked old new
keeps-both old mid new first second = record {
  segments = second.segments ∙ first.segments;
  marks = λ i free. first.marks i (second.marks i free);
  bytes = λ addr free.
      let here = ap (λ ss. get_or new.changed (page_of ss addr) false) first.segments ∙ free in
      second.bytes addr here ∙ first.bytes addr (second.marks (page_of old.memory.segments addr) free);
}

pub keeps-stored : (old : PagedMemory) (addr width value : ℕ) → ArePages old.memory.segments → IsWidth width → page_of old.memory.segments addr < length old.changed → store_fault old.memory addr width ≡ None → KeepsUnmarked old (record { memory = after_store old.memory addr width value; changed = set old.changed (page_of old.memory.segments addr) true })
keeps-stored old addr width value are w within none =
    let aligned = (store_passes old.memory addr width none).aligned in
    keeps-others old (after_store old.memory addr width value) (page_of old.memory.segments addr) within (segments-after_store old.memory addr width value) (λ at. elim (within_or_kept old.memory addr width value at) as (λ _. (page_of old.memory.segments at ≡ page_of old.memory.segments addr) ⊎ (byte_at (after_store old.memory addr width value) at ≡ byte_at old.memory at)) [
      | inl k ↦ inl (ap (page_of old.memory.segments) k.2 ∙ are.accesses addr width k.0 w (eqb-true _ _ aligned) k.1)
      | inr kept ↦ inr kept
    ])

-- a byte is the one that was written, or it is as before
pub written_or_kept : (bytes : FinMap nat_cmp ℕ) (addr byte at : ℕ) → (at ≡ addr) ⊎ (get (insert bytes addr byte) at ≡ get bytes at)
written_or_kept bytes addr byte at =
    elim (cases_eq at addr) as (λ _. (at ≡ addr) ⊎ (get (insert bytes addr byte) at ≡ get bytes at)) [
      | inl e ↦ inl e
      | inr ne ↦ inr (get-insert nat_cmp_total bytes addr byte at ∙ ap (λ t. cond t (Some byte) (get bytes at)) (unsigned_tied at addr ∙ ne_eqb at addr ne))
    ]

pub keeps-written : (old : PagedMemory) (addr byte : ℕ) → page_of old.memory.segments addr < length old.changed → KeepsUnmarked old (record { memory = record old.memory { bytes = insert old.memory.bytes addr byte }; changed = set old.changed (page_of old.memory.segments addr) true })
keeps-written old addr byte within =
    keeps-others old (record old.memory { bytes = insert old.memory.bytes addr byte }) (page_of old.memory.segments addr) within refl (λ at. elim (written_or_kept old.memory.bytes addr byte at) as (λ _. (page_of old.memory.segments at ≡ page_of old.memory.segments addr) ⊎ (get (insert old.memory.bytes addr byte) at ≡ byte_at old.memory at)) [
      | inl e ↦ inl (ap (page_of old.memory.segments) e)
      | inr kept ↦ inr kept
    ])

text_or_kept : (bytes : FinMap nat_cmp ℕ) (addr : ℕ) (text : List ℕ) (n at : ℕ) → ((addr ≤ at) × (at < addr + n)) ⊎ (get (with_first bytes addr text n) at ≡ get bytes at)
text_or_kept bytes addr text zero at = inr refl
text_or_kept bytes addr text (suc n) at =
    elim (written_or_kept (with_first bytes addr text n) (addr + n) (get_or text n 0) at) as (λ _. ((addr ≤ at) × (at < addr + suc n)) ⊎ (get (with_first bytes addr text (suc n)) at ≡ get bytes at)) [
      | inl e ↦ inl (omega arith, omega arith)
      | inr kept ↦ elim (text_or_kept bytes addr text n at) as (λ _. ((addr ≤ at) × (at < addr + suc n)) ⊎ (get (with_first bytes addr text (suc n)) at ≡ get bytes at)) [
        | inl inside ↦ inl (inside.0, omega (arith, inside.1))
        | inr before ↦ inr (kept ∙ before)
      ]
    ]

pub keeps-text : (old : PagedMemory) (page : ℕ) (text : List ℕ) → ArePages old.memory.segments → length old.changed ≡ page_total old.memory.segments → page < length old.changed → length text ≡ page_length old.memory.segments page → KeepsUnmarked old (record { memory = with_text old.memory (page_base old.memory.segments page) text; changed = set old.changed page true })
keeps-text old page text are marks within size =
    let base = page_base old.memory.segments page in
    keeps-others old (with_text old.memory base text) page within refl (λ at. elim (text_or_kept old.memory.bytes base text (length text) at) as (λ _. (page_of old.memory.segments at ≡ page) ⊎ (byte_at (with_text old.memory base text) at ≡ byte_at old.memory at)) [
      | inl inside ↦ inl (are.apart page at (omega arith) (inside.0, omega (arith, inside.1)))
      | inr kept ↦ inr kept
    ])

-- paged memory, by its fields
pub paged : (m m' : Memory) (marks marks' : List Bool) → m ≡ m' → marks ≡ marks' → ◌≡◌ {A = PagedMemory} (record { memory = m; changed = marks }) (record { memory = m'; changed = marks' })
paged m m' marks marks' e f = λ j. record { memory = e j; changed = f j }

-- the fields of a map after a write into one part
pub is-map : (ps qs : List Part) (numbers : List ℕ) (marks : List Bool) (page : ℕ) → IsMap ps numbers marks → AreParts qs → segments_of qs ≡ segments_of ps → IsMap qs numbers (set marks page true)
is-map ps qs numbers marks page was are same = record {
  parts = are;
  firsts = was.firsts ∙ ap (first_pages 0) (sym same);
  marks = length-set marks page true ∙ was.marks ∙ ap page_total (sym same);
}

-- a page's bytes are all in its part
pub page-first : (ps : List Part) (number size k : ℕ) (spot : Spot) (d : Part) → AreParts ps → IsSpot ps number spot → size ≡ page_length (segments_of ps) number → k < size → IsFirstAt ps (page_base (segments_of ps) number + k) spot.piece
page-first ps number size k spot d are is same lt =
    let whole = whole_at ps spot.piece d are.whole is.within in
    first_in ps (page_base (segments_of ps) number + k) spot.piece d are is.within (omega (arith, is.base d)) (omega (arith, is.base d, is.size d, is.place d, whole))
