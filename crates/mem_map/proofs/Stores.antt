-- What a store has to do with fetches, loads and single bytes.
use Rattle.std.proofs.Common.{◌≡◌, ℕ, zero, suc, ◌+◌, ◌-◌, ◌*◌, ◌/◌, ◌%◌, ◌^◌, ◌<◌, ◌≤◌, ◌⊎◌, inl, inr, Bool, true, false, cond, eqb, ltb, leb, not, ◌&&◌, refl, sym, ap, ◌∙◌, add-one, add_comm, lit<, arith}
use Rattle.std.specs.Prelude.{Option, Some, None, Ok, is_some}
use Rattle.std.specs.Option.{unwrap_or}
use Rattle.std.specs.Ordering.{nat_cmp}
use Rattle.std.specs.Cmp.{nat_cmp_total, unsigned_tied}
use Rattle.std.specs.FinMap.{FinMap, get, get-insert}
use Rattle.std.proofs.Math.Arith.{mod-mul}
use Rattle.std.proofs.lemmas.Grind.{pow_more}
use Rattle.std.proofs.lemmas.Bool.{eq-eqb, ne_eqb, le-leb, lt-leb, lt-ltb, le-ltb, leb-true, ltb-true, and_parts, cases_lt, cases_eq, cases_Bool, false≢true}
use Rattle.mach_base.specs.declared.event.Fault.{Fault}
use Rattle.mach_base.specs.declared.event.Cause.TheVariants.{Unmapped, NoRight, Misaligned}
use Rattle.mach_base.specs.declared.memory_range.Kind.{Kind}
use Rattle.mach_base.specs.declared.memory_range.Kind.TheVariants.{Text, Data, Rodata}
use Rattle.mach_base.specs.declared.memory_range.Segment.{Segment}
use Rattle.mach_base.specs.Machine.{Memory, byte_at, segment_at}
use Rattle.mem_map.specs.declared.rights.Access.{Access}
use Rattle.mem_map.specs.declared.rights.Access.TheVariants.{Fetch, Load, Store}
use Rattle.mach_base.specs.Bytes.{is_mapped, all_bytes, number_in, byte_of, with_bytes}
use Rattle.mem_map.specs.Access.{allows, allowed_in, has_right, fault_at, access_fault, unless_fault, fetch_result, load_result, store_fault, after_store}
use Rattle.mem_map.proofs.Numbers.{byte_of-power}
use Rattle.mem_map.specs.Laws.{byte_after, StoreChangesItsBytes, WriteKeepsFaults, StoreKeepsFaults, StoreKeepsText, StoredIsLoaded}

-- the byte of a map in which a number was written
get-with_bytes : (bytes : FinMap nat_cmp ℕ) (addr n value at : ℕ) → get (with_bytes bytes addr n value) at ≡ cond (leb addr at && ltb at (addr + n)) (Some (byte_of value (at - addr))) (get bytes at)
get-with_bytes bytes addr zero value at =
    ap (λ t. cond t (Some (byte_of value (at - addr))) (get bytes at)) (sym nowhere)
  where
    nowhere : (leb addr at && ltb at (addr + 0)) ≡ false
    nowhere =
        elim (cases_lt at addr) as (λ _. (leb addr at && ltb at (addr + 0)) ≡ false) [
          | inl lt ↦ ap (λ t. t && ltb at (addr + 0)) (lt-leb addr at lt)
          | inr ge ↦ ap (λ t. t && ltb at (addr + 0)) (le-leb addr at ge) ∙ le-ltb at (addr + 0) (omega arith)
        ]
get-with_bytes bytes addr (suc n) value at =
    get-insert nat_cmp_total (with_bytes bytes addr n value) (addr + n) (byte_of value n) at
    ∙ ap (λ t. cond t (Some (byte_of value n)) (get (with_bytes bytes addr n value) at)) (unsigned_tied at (addr + n))
    ∙ elim (cases_eq at (addr + n)) as (λ _. cond (eqb at (addr + n)) (Some (byte_of value n)) (get (with_bytes bytes addr n value) at) ≡ cond (leb addr at && ltb at (addr + suc n)) (Some (byte_of value (at - addr))) (get bytes at)) [
      | inl e ↦
          let back : n ≡ at - addr = omega arith in
          ap (λ t. cond t (Some (byte_of value n)) (get (with_bytes bytes addr n value) at)) (eq-eqb at (addr + n) e)
          ∙ ap (λ k. Some (byte_of value k)) back
          ∙ ap (λ t. cond t (Some (byte_of value (at - addr))) (get bytes at)) (sym (ap (λ t. t && ltb at (addr + suc n)) (le-leb addr at (omega arith)) ∙ lt-ltb at (addr + suc n) (omega arith)))
      | inr ne ↦
          ap (λ t. cond t (Some (byte_of value n)) (get (with_bytes bytes addr n value) at)) (ne_eqb at (addr + n) ne)
          ∙ get-with_bytes bytes addr n value at
          ∙ ap (λ t. cond (leb addr at && t) (Some (byte_of value (at - addr))) (get bytes at)) (next ne)
    ]
  where
    next : (at ≡ addr + n → ⊥) → ltb at (addr + n) ≡ ltb at (addr + suc n)
    next ne =
        elim (cases_lt at (addr + n)) as (λ _. ltb at (addr + n) ≡ ltb at (addr + suc n)) [
          | inl lt ↦ lt-ltb at (addr + n) lt ∙ sym (lt-ltb at (addr + suc n) (omega arith))
          | inr ge ↦ le-ltb at (addr + n) ge ∙ sym (le-ltb at (addr + suc n) (further ge))
        ]
      where
        further : addr + n ≤ at → addr + suc n ≤ at
        further ge = elim (cases_lt (addr + n) at) as (λ _. addr + suc n ≤ at) [ inl lt ↦ omega arith | inr le ↦ absurd (ne (omega arith)) ]

pub byte_at-after_store : (m : Memory) (addr width value at : ℕ) → byte_at (after_store m addr width value) at ≡ byte_after m addr width value at
unfolding after_store
byte_at-after_store m addr width value at = get-with_bytes m.bytes addr width value at

pub segments-after_store : (m : Memory) (addr width value : ℕ) → (after_store m addr width value).segments ≡ m.segments
unfolding after_store
segments-after_store m addr width value = refl

pub store_changes : StoreChangesItsBytes
store_changes m addr width value = (segments-after_store m addr width value, byte_at-after_store m addr width value)

-- what an access without fault has
pub record Passes (m : Memory) (access : Access) (addr width : ℕ) : Type 0 where
  pub aligned : eqb (addr % width) 0 ≡ true
  pub mapped : all_bytes (is_mapped m) addr width ≡ true
  pub rights : all_bytes (has_right m access) addr width ≡ true

three : (addr : ℕ) (a b c : Bool) → cond (not a) (fault_at Misaligned addr) (cond (not b) (fault_at Unmapped addr) (cond (not c) (fault_at NoRight addr) None)) ≡ None → (a ≡ true) × (b ≡ true) × (c ≡ true)
three addr true true true e = (refl, refl, refl)
three addr false b c e = absurd (cc)
three addr true false c e = absurd (cc)
three addr true true false e = absurd (cc)

pub passes : (m : Memory) (access : Access) (addr width : ℕ) → access_fault m access addr width ≡ None → Passes m access addr width
unfolding access_fault
passes m access addr width e =
    let all = three addr (eqb (addr % width) 0) (all_bytes (is_mapped m) addr width) (all_bytes (has_right m access) addr width) e in
    record { aligned = all.0; mapped = all.1; rights = all.2 }

pub store_passes : (m : Memory) (addr width : ℕ) → store_fault m addr width ≡ None → Passes m Store addr width
unfolding store_fault
store_passes m addr width e = passes m Store addr width e

pub all_bytes-at : (test : ℕ → Bool) (addr n k : ℕ) → all_bytes test addr n ≡ true → k < n → test (addr + k) ≡ true
all_bytes-at test addr zero k e lt = absurd (omega arith)
all_bytes-at test addr (suc n) k e lt =
    let parts = and_parts (all_bytes test addr n) (test (addr + n)) e in
    elim (cases_eq k n) as (λ _. test (addr + k) ≡ true) [
      | inl same ↦ ap (λ j. test (addr + j)) same ∙ parts.1
      | inr ne ↦ elim (cases_lt k n) as (λ _. test (addr + k) ≡ true) [ inl below ↦ all_bytes-at test addr n k parts.0 below | inr ge ↦ absurd (ne (omega arith)) ]
    ]

pub all_bytes-ext : (f g : ℕ → Bool) (addr n : ℕ) → ((q : ℕ) → f q ≡ g q) → all_bytes f addr n ≡ all_bytes g addr n
all_bytes-ext f g addr zero same = refl
all_bytes-ext f g addr (suc n) same = ap (λ t. t && f (addr + n)) (all_bytes-ext f g addr n same) ∙ ap (λ t. all_bytes g addr n && t) (same (addr + n))

all_bytes-weaker : (f g : ℕ → Bool) (addr n : ℕ) → ((q : ℕ) → f q ≡ true → g q ≡ true) → all_bytes f addr n ≡ true → all_bytes g addr n ≡ true
all_bytes-weaker f g addr zero more e = refl
all_bytes-weaker f g addr (suc n) more e =
    let parts = and_parts (all_bytes f addr n) (f (addr + n)) e in
    ap (λ t. t && g (addr + n)) (all_bytes-weaker f g addr n more parts.0) ∙ more (addr + n) parts.1

-- an address is within the bytes of a store, or the store leaves its byte
pub within_or_kept : (m : Memory) (addr width value at : ℕ) → ((k : ℕ) × (k < width) × (at ≡ addr + k)) ⊎ (byte_at (after_store m addr width value) at ≡ byte_at m at)
within_or_kept m addr width value at =
    elim (cases_Bool (leb addr at && ltb at (addr + width))) as (λ _. ((k : ℕ) × (k < width) × (at ≡ addr + k)) ⊎ (byte_at (after_store m addr width value) at ≡ byte_at m at)) [
      | inl inside ↦ inl (place (and_parts (leb addr at) (ltb at (addr + width)) inside))
      | inr outside ↦ inr (byte_at-after_store m addr width value at ∙ ap (λ t. cond t (Some (byte_of value (at - addr))) (byte_at m at)) outside)
    ]
  where
    place : (leb addr at ≡ true) × (ltb at (addr + width) ≡ true) → (k : ℕ) × (k < width) × (at ≡ addr + k)
    place h =
        let low = leb-true addr at h.0 in
        let high = ltb-true at (addr + width) h.1 in
        (at - addr, omega arith, omega arith)

pub is_mapped-after_store : (m : Memory) (addr width value : ℕ) → all_bytes (is_mapped m) addr width ≡ true → (at : ℕ) → is_mapped (after_store m addr width value) at ≡ is_mapped m at
is_mapped-after_store m addr width value mapped at =
    elim (within_or_kept m addr width value at) as (λ _. is_mapped (after_store m addr width value) at ≡ is_mapped m at) [
      | inl w ↦
          let before : is_mapped m at ≡ true = ap (is_mapped m) w.2 ∙ all_bytes-at (is_mapped m) addr width w.0 mapped w.1 in
          let in_it : (leb addr at && ltb at (addr + width)) ≡ true = ap (λ t. t && ltb at (addr + width)) (le-leb addr at (omega (arith, w.2))) ∙ lt-ltb at (addr + width) (omega (arith, w.1, w.2)) in
          ap is_some (byte_at-after_store m addr width value at ∙ ap (λ t. cond t (Some (byte_of value (at - addr))) (byte_at m at)) in_it) ∙ sym before
      | inr kept ↦ ap is_some kept
    ]

pub has_right-after_store : (m : Memory) (addr width value : ℕ) (access : Access) (at : ℕ) → has_right (after_store m addr width value) access at ≡ has_right m access at
has_right-after_store m addr width value access at = ap (λ ss. allowed_in access (segment_at ss at)) (segments-after_store m addr width value)

pub write_keeps : WriteKeepsFaults
unfolding access_fault
write_keeps m addr width value mapped access at size =
    let faults : Bool → Bool → Option Fault = λ (b c : Bool). cond (not (eqb (at % size) 0)) (fault_at Misaligned at) (cond (not b) (fault_at Unmapped at) (cond (not c) (fault_at NoRight at) None)) in
    ap (λ b. faults b (all_bytes (has_right (after_store m addr width value) access) at size)) (all_bytes-ext _ _ at size (is_mapped-after_store m addr width value mapped))
    ∙ ap (λ c. faults (all_bytes (is_mapped m) at size) c) (all_bytes-ext _ _ at size (has_right-after_store m addr width value access))

pub store_keeps : StoreKeepsFaults
unfolding store_fault
store_keeps m addr width value none = write_keeps m addr width value (passes m Store addr width none).mapped

pub number_in-ext : (m m' : Memory) (addr n : ℕ) → ((k : ℕ) → k < n → byte_at m (addr + k) ≡ byte_at m' (addr + k)) → number_in m addr n ≡ number_in m' addr n
number_in-ext m m' addr zero same = refl
number_in-ext m m' addr (suc n) same =
    ap (λ x. x + unwrap_or (byte_at m (addr + n)) 0 * 256 ^ n) (number_in-ext m m' addr n (λ k h. same k (omega arith)))
    ∙ ap (λ o. number_in m' addr n + unwrap_or o 0 * 256 ^ n) (same n (omega arith))

-- no segment is fetched from and stored into
pub never_both : (o : Option Segment) → allowed_in Fetch o ≡ true → allowed_in Store o ≡ true → ⊥
never_both None f s = false≢true f
never_both (Some x) f s = of_kind x.kind f s
  where
    of_kind : (k : Kind) → allows Fetch k ≡ true → allows Store k ≡ true → ⊥
    of_kind Text f s = false≢true s
    of_kind Data f s = false≢true f
    of_kind Rodata f s = false≢true f

pub store_keeps_fetched : StoreKeepsText
unfolding fetch_result
store_keeps_fetched m addr width value none at =
    let p = store_passes m addr width none in
    ap (λ o. unless_fault o (number_in (after_store m addr width value) at 4)) (store_keeps m addr width value none Fetch at 4)
    ∙ by_fault (access_fault m Fetch at 4) refl p
  where
    by_fault : (o : Option Fault) → access_fault m Fetch at 4 ≡ o → Passes m Store addr width → unless_fault o (number_in (after_store m addr width value) at 4) ≡ unless_fault (access_fault m Fetch at 4) (number_in m at 4)
    by_fault (Some f) e p = sym (ap (λ x. unless_fault x (number_in m at 4)) e)
    by_fault None e p =
        let q = passes m Fetch at 4 e in
        ap Ok (number_in-ext (after_store m addr width value) m at 4 (λ k h. elim (within_or_kept m addr width value (at + k)) as (λ _. byte_at (after_store m addr width value) (at + k) ≡ byte_at m (at + k)) [
          | inl w ↦ absurd (never_both (segment_at m.segments (at + k)) (all_bytes-at (has_right m Fetch) at 4 k q.rights h) (ap (has_right m Store) w.2 ∙ all_bytes-at (has_right m Store) addr width w.0 p.rights w.1))
          | inr kept ↦ kept
        ]))
        ∙ sym (ap (λ x. unless_fault x (number_in m at 4)) e)

power : (n : ℕ) → 256 ^ suc n ≡ 256 * 256 ^ n
power n = ap (λ k. 256 ^ k) (sym (add-one n)) ∙ pow_more 256 n ∙ turned (256 ^ n)
  where
    turned : (x : ℕ) → x * 256 ≡ 256 * x
    turned x = omega arith

power_positive : (n : ℕ) → 0 < 256 ^ n
power_positive zero = lit< tt
power_positive (suc n) = more (256 ^ n) (256 ^ suc n) (power_positive n) (power n)
  where
    more : (x y : ℕ) → 0 < x → y ≡ 256 * x → 0 < y
    more x y h e = omega arith

-- one byte more of a number
mod-more : (value n : ℕ) → value % 256 ^ n + byte_of value n * 256 ^ n ≡ value % 256 ^ suc n
mod-more value n =
    ap (λ b. value % 256 ^ n + b * 256 ^ n) (byte_of-power value n)
    ∙ add_comm (value % 256 ^ n) (value / 256 ^ n % 256 * 256 ^ n) ∙ sym (ap (λ d. value % d) (power n) ∙ mod-mul value {m = 256} {c = 256 ^ n} (lit< tt) (power_positive n))

-- the number that stands where it was stored
pub number_in-after_store : (m : Memory) (addr width value n : ℕ) → n ≤ width → number_in (after_store m addr width value) addr n ≡ value % 256 ^ n
number_in-after_store m addr width value zero le = sym (omega arith)
number_in-after_store m addr width value (suc n) le =
    let here : byte_at (after_store m addr width value) (addr + n) ≡ Some (byte_of value n) =
    byte_at-after_store m addr width value (addr + n)
    ∙ ap (λ t. cond t (Some (byte_of value (addr + n - addr))) (byte_at m (addr + n))) (ap (λ t. t && ltb (addr + n) (addr + width)) (le-leb addr (addr + n) (omega arith)) ∙ lt-ltb (addr + n) (addr + width) (omega arith))
    ∙ ap (λ k. Some (byte_of value k)) (omega arith)
    in
    ap (λ o. number_in (after_store m addr width value) addr n + unwrap_or o 0 * 256 ^ n) here
    ∙ ap (λ x. x + byte_of value n * 256 ^ n) (number_in-after_store m addr width value n (omega arith))
    ∙ mod-more value n

load_too : (o : Option Segment) → allowed_in Store o ≡ true → allowed_in Load o ≡ true
load_too None s = s
load_too (Some x) s = of_kind x.kind s
  where
    of_kind : (k : Kind) → allows Store k ≡ true → allows Load k ≡ true
    of_kind Text s = absurd (false≢true s)
    of_kind Data s = refl
    of_kind Rodata s = refl

pub no_fault : (m : Memory) (access : Access) (addr width : ℕ) → Passes m access addr width → access_fault m access addr width ≡ None
unfolding access_fault
no_fault m access addr width p =
    ap (λ a. cond (not a) (fault_at Misaligned addr) (cond (not (all_bytes (is_mapped m) addr width)) (fault_at Unmapped addr) (cond (not (all_bytes (has_right m access) addr width)) (fault_at NoRight addr) None))) p.aligned
    ∙ ap (λ b. cond (not b) (fault_at Unmapped addr) (cond (not (all_bytes (has_right m access) addr width)) (fault_at NoRight addr) None)) p.mapped
    ∙ ap (λ c. cond (not c) (fault_at NoRight addr) None) p.rights

pub load_of_stored : StoredIsLoaded
unfolding load_result
load_of_stored m addr width value none =
    let p = store_passes m addr width none in
    let may : access_fault m Load addr width ≡ None =
    no_fault m Load addr width (record { aligned = p.aligned; mapped = p.mapped; rights = all_bytes-weaker (has_right m Store) (has_right m Load) addr width (λ q. load_too (segment_at m.segments q)) p.rights })
    in
    ap (λ o. unless_fault o (number_in (after_store m addr width value) addr width)) (store_keeps m addr width value none Load addr width ∙ may)
    ∙ ap Ok (number_in-after_store m addr width value width (omega arith))
