-- What the slots have by name, after one of them changed or one was added.
use Rattle.std.proofs.Common.{◌≡◌, ◌≢◌, ℕ, zero, suc, ◌<◌, ◌≤◌, true, false, List, [], ◌∷◌, ◌++◌, length, get_or, Option, Some, None, refl, sym, ap, ◌∙◌, cond, arith, drop, drop-cons}
use Rattle.std.specs.Prelude.{slice_set}
use Rattle.std.specs.Option.{option_or, option_map}
use Rattle.std.specs.List.{cons_option}
use Rattle.std.specs.Ordering.{nat_cmp}
use Rattle.std.specs.Cmp.Lexicographic.{slice_cmp}
use Rattle.std.specs.Str.{bytes_eq}
use Rattle.std.specs.FinMap.{find}
use Rattle.std.proofs.lemmas.Map.Text.{is_eq-slice_cmp}
use Rattle.std.proofs.lemmas.List.{drop_all}
use Rattle.std.proofs.lemmas.Slice.Eq.{bytes_eq-Decides}
use Rattle.io_edge.specs.declared.slot.Slot.{Slot}
use Rattle.io_edge.specs.Memory.{slot_bytes, slot_entries}

-- the value of the first entry of a name
abbrev pub first_named : {X : Type 0} → List ℕ → List (List ℕ × X) → Option X
first_named q [] = None
first_named q (e ∷ es) = cond (bytes_eq q e.0) (Some e.1) (first_named q es)

pub find-first_named : {X : Type 0} (q : List ℕ) (es : List (List ℕ × X)) → find (slice_cmp nat_cmp) q es ≡ first_named q es
find-first_named q [] = refl
find-first_named q (e ∷ es) =
    ap (λ b. cond b (Some e.1) (find (slice_cmp nat_cmp) q es)) (is_eq-slice_cmp q e.0)
    ∙ ap (cond (bytes_eq q e.0) (Some e.1)) (find-first_named q es)

-- a look-up in two lists, one after the other
pub first_named-append : {X : Type 0} (q : List ℕ) (xs ys : List (List ℕ × X)) → first_named q (xs ++ ys) ≡ option_or (first_named q xs) (first_named q ys)
first_named-append q [] ys = refl
first_named-append q (x ∷ xs) ys =
    elim (bytes_eq q x.0) as (λ b. cond b (Some x.1) (first_named q (xs ++ ys)) ≡ option_or (cond b (Some x.1) (first_named q xs)) (first_named q ys)) [
      | true ↦ refl
      | false ↦ first_named-append q xs ys
    ]

pub bytes_eq-same : (a : List ℕ) → bytes_eq a a ≡ true
bytes_eq-same a = (bytes_eq-Decides a a).1 refl

pub bytes_eq-apart : (a b : List ℕ) → a ≢ b → bytes_eq a b ≡ false
bytes_eq-apart a b apart =
    elim (bytes_eq a b) as (λ t. bytes_eq a b ≡ t → bytes_eq a b ≡ false) [
      | true ↦ λ e. absurd (apart ((bytes_eq-Decides a b).0 e))
      | false ↦ λ e. e
    ] refl

-- what a look-up finds where this slot, with these contents, stands in front
abbrev pub with_front : {X : Type 0} → List ℕ → List ℕ → Option X → Option X → Option X
with_front q name None rest = rest
with_front q name (Some x) rest = cond (bytes_eq q name) (Some x) rest

front : {X : Type 0} (has : Slot → Option X) (q : List ℕ) (s : Slot) (ss : List Slot) → first_named q (slot_entries has (s ∷ ss)) ≡ with_front q s.name (has s) (first_named q (slot_entries has ss))
front has q s ss =
    elim (has s) as (λ h. first_named q (cons_option (option_map (λ x. (s.name, x)) h) (slot_entries has ss)) ≡ with_front q s.name h (first_named q (slot_entries has ss))) [
      | Some x ↦ refl
      | None ↦ refl
    ]

with_front-apart : {X : Type 0} (q name : List ℕ) (h rest : Option X) → bytes_eq q name ≡ false → with_front q name h rest ≡ rest
with_front-apart q name None rest apart = refl
with_front-apart q name (Some x) rest apart = ap (λ b. cond b (Some x) rest) apart

with_front-swap : {X : Type 0} (q a b : List ℕ) (h : Option X) (x : X) (rest : Option X) → bytes_eq a b ≡ false → with_front q a h (cond (bytes_eq q b) (Some x) rest) ≡ cond (bytes_eq q b) (Some x) (with_front q a h rest)
with_front-swap q a b h x rest apart =
    elim (bytes_eq q b) as (λ t. bytes_eq q b ≡ t → with_front q a h (cond t (Some x) rest) ≡ cond t (Some x) (with_front q a h rest)) [
      | true ↦ λ e. with_front-apart q a h (Some x) (ap (λ n. bytes_eq n a) ((bytes_eq-Decides q b).0 e) ∙ flipped a b apart)
      | false ↦ λ e. refl
    ] refl where
      flipped : (a b : List ℕ) → bytes_eq a b ≡ false → bytes_eq b a ≡ false
      flipped a b apart = bytes_eq-apart b a (λ e. absurd (let t : true ≡ false = sym (bytes_eq-same a) ∙ ap (bytes_eq a) (sym e) ∙ apart in cc))

-- slot i is the first of this name
pub record IsFirst (name : List ℕ) (ss : List Slot) (i : ℕ) (d : Slot) : Type 0 where
  pub within : i < length ss
  pub before : (k : ℕ) → k < i → bytes_eq (get_or ss k d).name name ≡ false
  pub here : bytes_eq (get_or ss i d).name name ≡ true

later : (name : List ℕ) (s : Slot) (ss : List Slot) (i : ℕ) (d : Slot) → IsFirst name (s ∷ ss) (suc i) d → IsFirst name ss i d
later name s ss i d f = record {
  within = let h = f.within in omega arith;
  before = λ k h. f.before (suc k) (omega arith);
  here = f.here;
}

-- the first slot of a name is replaced by one of that name that has x
pub replaced : {X : Type 0} (has : Slot → Option X) (name q : List ℕ) (ss : List Slot) (i : ℕ) (d s : Slot) (x : X) → s.name ≡ name → has s ≡ Some x → IsFirst name ss i d → first_named q (slot_entries has (slice_set ss i s)) ≡ cond (bytes_eq q name) (Some x) (first_named q (slot_entries has ss))
replaced has name q [] i d s x n e f = let h = f.within in absurd (omega arith)
replaced has name q (t ∷ ss) zero d s x n e f =
    let same : t.name ≡ name = (bytes_eq-Decides t.name name).0 f.here in
    let rest = first_named q (slot_entries has ss) in
    front has q s ss
    ∙ ap (λ h. with_front q s.name h rest) e
    ∙ ap (λ a. cond (bytes_eq q a) (Some x) rest) n
    ∙ elim (bytes_eq q name) as (λ b. bytes_eq q name ≡ b → cond b (Some x) rest ≡ cond b (Some x) (first_named q (slot_entries has (t ∷ ss)))) [
      | true ↦ λ _. refl
      | false ↦ λ b. sym (front has q t ss ∙ with_front-apart q t.name (has t) rest (ap (bytes_eq q) same ∙ b))
    ] refl
replaced has name q (t ∷ ss) (suc i) d s x n e f =
    let rest = first_named q (slot_entries has ss) in
    front has q t (slice_set ss i s)
    ∙ ap (with_front q t.name (has t)) (replaced has name q ss i d s x n e (later name t ss i d f))
    ∙ with_front-swap q t.name name (has t) x rest (f.before 0 (omega arith))
    ∙ ap (cond (bytes_eq q name) (Some x)) (sym (front has q t ss))

-- a slot is replaced by one of that name that has the same
pub replaced-same : {X : Type 0} (has : Slot → Option X) (ss : List Slot) (i : ℕ) (d s : Slot) → i < length ss → s.name ≡ (get_or ss i d).name → has s ≡ has (get_or ss i d) → slot_entries has (slice_set ss i s) ≡ slot_entries has ss
replaced-same has [] i d s within name same = absurd (omega arith)
replaced-same has (t ∷ ss) zero d s within name same =
    ap (λ h. cons_option (option_map (λ x. (s.name, x)) h) (slot_entries has ss)) same
    ∙ ap (λ n. cons_option (option_map (λ x. (n, x)) (has t)) (slot_entries has ss)) name
replaced-same has (t ∷ ss) (suc i) d s within name same =
    ap (cons_option (option_map (λ x. (t.name, x)) (has t))) (replaced-same has ss i d s (omega arith) name same)

-- what the first slot of a name has
pub found_at : {X : Type 0} (has : Slot → Option X) (name : List ℕ) (ss : List Slot) (i : ℕ) (d : Slot) (x : X) → IsFirst name ss i d → has (get_or ss i d) ≡ Some x → first_named name (slot_entries has ss) ≡ Some x
found_at has name [] i d x f e = let h = f.within in absurd (omega arith)
found_at has name (t ∷ ss) zero d x f e =
    front has name t ss
    ∙ ap (λ h. with_front name t.name h (first_named name (slot_entries has ss))) e
    ∙ ap (λ n. cond (bytes_eq name n) (Some x) (first_named name (slot_entries has ss))) ((bytes_eq-Decides t.name name).0 f.here)
    ∙ ap (λ b. cond b (Some x) (first_named name (slot_entries has ss))) (bytes_eq-same name)
found_at has name (t ∷ ss) (suc i) d x f e =
    front has name t ss
    ∙ with_front-apart name t.name (has t) (first_named name (slot_entries has ss)) (bytes_eq-apart name t.name (λ s. let b : false ≡ true = sym (f.before 0 (omega arith)) ∙ ap (bytes_eq t.name) s ∙ bytes_eq-same t.name in cc))
    ∙ found_at has name ss i d x (later name t ss i d f) e

-- where no slot has the name
pub found_nowhere : {X : Type 0} (has : Slot → Option X) (name : List ℕ) (ss : List Slot) → ((k : ℕ) (d : Slot) → k < length ss → bytes_eq (get_or ss k d).name name ≡ false) → first_named name (slot_entries has ss) ≡ None
found_nowhere has name [] none = refl
found_nowhere has name (t ∷ ss) none =
    front has name t ss
    ∙ with_front-apart name t.name (has t) (first_named name (slot_entries has ss)) (bytes_eq-apart name t.name (λ s. let b : false ≡ true = sym (none 0 t (omega arith)) ∙ ap (bytes_eq t.name) s ∙ bytes_eq-same t.name in cc))
    ∙ found_nowhere has name ss (λ k d h. none (suc k) d (omega arith))

-- the first slot of a name with bytes, where no slot before has both
pub written_here : (name bytes : List ℕ) (ss : List Slot) (i : ℕ) (s : Slot) → i < length ss → s ≡ get_or ss i s → bytes_eq name s.name ≡ true → s.bytes ≡ Some bytes → first_named name (slot_entries slot_bytes (drop i ss)) ≡ first_named name (slot_entries slot_bytes ss) → find (slice_cmp nat_cmp) name (slot_entries slot_bytes ss) ≡ Some bytes
written_here name bytes ss i s lt is same has before =
    let rest = first_named name (slot_entries slot_bytes (drop (suc i) ss)) in
    find-first_named name (slot_entries slot_bytes ss)
    ∙ sym before
    ∙ ap (λ xs. first_named name (slot_entries slot_bytes xs)) (drop-cons ss i s lt)
    ∙ ap (λ (x : Slot). first_named name (slot_entries slot_bytes (x ∷ drop (suc i) ss))) (sym is)
    ∙ front slot_bytes name s (drop (suc i) ss)
    ∙ ap (λ h. with_front name s.name h rest) has
    ∙ ap (λ b. cond b (Some bytes) rest) same

pub written_nowhere : (name : List ℕ) (ss : List Slot) (i : ℕ) → length ss ≤ i → first_named name (slot_entries slot_bytes (drop i ss)) ≡ first_named name (slot_entries slot_bytes ss) → find (slice_cmp nat_cmp) name (slot_entries slot_bytes ss) ≡ None
written_nowhere name ss i le before =
    find-first_named name (slot_entries slot_bytes ss)
    ∙ sym before
    ∙ ap (λ xs. first_named name (slot_entries slot_bytes xs)) (drop_all i ss le)
