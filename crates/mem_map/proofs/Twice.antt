-- Two stores, one after the other, and what a store leaves elsewhere.
use Rattle.std.proofs.Common.{◌≡◌, ◌≢◌, ℕ, ◌+◌, ◌-◌, ◌<◌, inl, inr, Bool, true, false, cond, ltb, leb, ◌&&◌, Option, Some, None, refl, sym, ap, ◌∙◌, arith}
use Rattle.std.specs.Cmp.{nat_cmp_total}
use Rattle.std.specs.FinMap.{same_map, nat_cmp-IsAntisymmetric}
use Rattle.std.proofs.lemmas.Bool.{leb-true, ltb-true, and_parts, cases_Bool, false≢true}
use Rattle.mach_base.specs.declared.memory_range.Kind.{Kind}
use Rattle.mach_base.specs.declared.memory_range.Kind.TheVariants.{Text, Data, Rodata}
use Rattle.mach_base.specs.declared.memory_range.Segment.{Segment}
use Rattle.mach_base.specs.Machine.{Memory, byte_at, segment_at}
use Rattle.mem_map.specs.declared.rights.Access.{Access}
use Rattle.mem_map.specs.declared.rights.Access.TheVariants.{Fetch, Load, Store}
use Rattle.mach_base.specs.Bytes.{byte_of}
use Rattle.mem_map.specs.Access.{allows, allowed_in, has_right, after_store}
use Rattle.mem_map.specs.Laws.{AreApart, TextIsApart, StoresCommute, LastStoreRemains, StoreOfSameBytes, StoreKeepsNumbers}
use Rattle.mem_map.proofs.Stores.{passes, all_bytes-at, byte_at-after_store, segments-after_store, within_or_kept, number_in-ext}

-- memories with the same segments and the same bytes
pub same_memory : (m n : Memory) → m.segments ≡ n.segments → ((at : ℕ) → byte_at m at ≡ byte_at n at) → m ≡ n
same_memory m n segments same =
    let bytes : m.bytes ≡ n.bytes = same_map nat_cmp_total nat_cmp-IsAntisymmetric m.bytes n.bytes same in
    λ j. record { segments = segments j; bytes = bytes j }

-- whether the address is one of the bytes
abbrev pub is_within : ℕ → ℕ → ℕ → Bool
is_within addr width at = leb addr at && ltb at (addr + width)

offset : (addr width at : ℕ) → is_within addr width at ≡ true → (k : ℕ) × (k < width) × (at ≡ addr + k)
offset addr width at e =
    let parts = and_parts (leb addr at) (ltb at (addr + width)) e in
    let low = leb-true addr at parts.0 in
    let high = ltb-true at (addr + width) parts.1 in
    (at - addr, omega arith, omega arith)

never_within : (addr width at size q : ℕ) → AreApart addr width at size → is_within addr width q ≡ true → is_within at size q ≡ true → ⊥
never_within addr width at size q apart e f =
    let k = offset addr width q e in
    let j = offset at size q f in
    apart k.0 j.0 k.1 j.1 (sym k.2 ∙ j.2)

swap_cond : (p q : Bool) (x y z : Option ℕ) → (p ≡ true → q ≡ true → ⊥) → cond q y (cond p x z) ≡ cond p x (cond q y z)
swap_cond true true x y z never = absurd (never refl refl)
swap_cond true false x y z never = refl
swap_cond false q x y z never = refl

twice_cond : (p : Bool) (x y z : Option ℕ) → cond p y (cond p x z) ≡ cond p y z
twice_cond true x y z = refl
twice_cond false x y z = refl

-- the byte after two stores
byte_at-twice : (m : Memory) (addr width value at size other q : ℕ) → byte_at (after_store (after_store m addr width value) at size other) q ≡ cond (is_within at size q) (Some (byte_of other (q - at))) (cond (is_within addr width q) (Some (byte_of value (q - addr))) (byte_at m q))
byte_at-twice m addr width value at size other q =
    byte_at-after_store (after_store m addr width value) at size other q
    ∙ ap (λ o. cond (is_within at size q) (Some (byte_of other (q - at))) o) (byte_at-after_store m addr width value q)

segments-twice : (m : Memory) (addr width value at size other : ℕ) → (after_store (after_store m addr width value) at size other).segments ≡ m.segments
segments-twice m addr width value at size other = segments-after_store (after_store m addr width value) at size other ∙ segments-after_store m addr width value

pub stores_commute : StoresCommute
stores_commute m addr width value at size other apart =
    same_memory (after_store (after_store m addr width value) at size other) (after_store (after_store m at size other) addr width value)
    (segments-twice m addr width value at size other ∙ sym (segments-twice m at size other addr width value))
    (λ q.
    byte_at-twice m addr width value at size other q
    ∙ swap_cond (is_within addr width q) (is_within at size q) (Some (byte_of value (q - addr))) (Some (byte_of other (q - at))) (byte_at m q) (never_within addr width at size q apart)
    ∙ sym (byte_at-twice m at size other addr width value q))

pub last_remains : LastStoreRemains
last_remains m addr width value other =
    same_memory (after_store (after_store m addr width value) addr width other) (after_store m addr width other)
    (segments-twice m addr width value addr width other ∙ sym (segments-after_store m addr width other))
    (λ q.
    byte_at-twice m addr width value addr width other q
    ∙ twice_cond (is_within addr width q) (Some (byte_of value (q - addr))) (Some (byte_of other (q - addr))) (byte_at m q)
    ∙ sym (byte_at-after_store m addr width other q))

pub same_bytes : StoreOfSameBytes
same_bytes m addr width value is =
    same_memory (after_store m addr width value) m (segments-after_store m addr width value) (λ q.
    byte_at-after_store m addr width value q
    ∙ elim (cases_Bool (is_within addr width q)) as (λ _. cond (is_within addr width q) (Some (byte_of value (q - addr))) (byte_at m q) ≡ byte_at m q) [
      | inl e ↦
          let k = offset addr width q e in
          let here : byte_at m q ≡ Some (byte_of value k.0) = ap (byte_at m) k.2 ∙ is k.0 k.1 in
          let back : k.0 ≡ q - addr = omega (arith, k.2) in
          ap (λ t. cond t (Some (byte_of value (q - addr))) (byte_at m q)) e ∙ ap (λ i. Some (byte_of value i)) (sym back) ∙ sym here
      | inr e ↦ ap (λ t. cond t (Some (byte_of value (q - addr))) (byte_at m q)) e
    ])

-- a byte that isn't one of those stored
pub byte_at-apart : (m : Memory) (addr width value at : ℕ) → ((k : ℕ) → k < width → addr + k ≡ at → ⊥) → byte_at (after_store m addr width value) at ≡ byte_at m at
byte_at-apart m addr width value at apart =
    elim (within_or_kept m addr width value at) as (λ _. byte_at (after_store m addr width value) at ≡ byte_at m at) [
      | inl w ↦ absurd (apart w.0 w.1 (sym w.2))
      | inr kept ↦ kept
    ]

pub number_in-apart : StoreKeepsNumbers
number_in-apart m addr width value at size apart =
    number_in-ext (after_store m addr width value) m at size (λ j h. byte_at-apart m addr width value (at + j) (λ k l e. apart k j l h e))

-- no segment is fetched from and loaded from or stored into
never_other : (o : Option Segment) (access : Access) → access ≢ Fetch → allowed_in Fetch o ≡ true → allowed_in access o ≡ true → ⊥
never_other None access ne f s = false≢true f
never_other (Some x) access ne f s = of_kind x.kind access ne f s
  where
    of_kind : (k : Kind) (access : Access) → access ≢ Fetch → allows Fetch k ≡ true → allows access k ≡ true → ⊥
    of_kind Text Fetch ne f s = ne refl
    of_kind Text Load ne f s = false≢true s
    of_kind Text Store ne f s = false≢true s
    of_kind Data access ne f s = false≢true f
    of_kind Rodata access ne f s = false≢true f

pub text_apart : TextIsApart
text_apart m access addr width at size ne fetch other k j h l same =
    let p = passes m Fetch addr width fetch in
    let q = passes m access at size other in
    never_other (segment_at m.segments (addr + k)) access ne
    (all_bytes-at (has_right m Fetch) addr width k p.rights h)
    (ap (has_right m access) same ∙ all_bytes-at (has_right m access) at size j q.rights l)
