-- A store's files and its room, after a slot changed or was added.
use Rattle.std.proofs.Common.{◌≡◌, ℕ, ◌<◌, ◌≤◌, Bool, true, false, List, [], ◌∷◌, ◌++◌, length, get_or, Option, Some, None, refl, sym, ap, ◌∙◌, subst, cond, arith, vec_capacity}
use Rattle.std.specs.Prelude.{slice_set, position, map, nat_lt}
use Rattle.std.specs.List.{position_or_len, cons_option}
use Rattle.std.specs.Option.{option_or, option_map}
use Rattle.std.specs.Ordering.{nat_cmp}
use Rattle.std.specs.Cmp.Lexicographic.{slice_cmp, nat_list_cmp_total}
use Rattle.std.specs.Str.{bytes_eq}
use Rattle.std.specs.FinMap.{find, get, insert, from_entries, get-insert, get-from_entries, same_map, slice_cmp-IsAntisymmetric, nat_cmp-IsAntisymmetric}
use Rattle.std.proofs.lemmas.Map.Text.{is_eq-slice_cmp}
use Rattle.std.proofs.lemmas.List.{append-nil}
use Rattle.std.proofs.lemmas.List.Elements.{filter_map-append}
use Rattle.std.proofs.lemmas.List.Quantifiers.{position-Some}
use Rattle.std.proofs.lemmas.List.Sums.{fails_before_first}
use Rattle.std.proofs.lemmas.Slice.Eq.{bytes_eq-Decides}
use Rattle.io_edge.specs.declared.slot.Slot.{Slot}
use Rattle.io_edge.specs.declared.named.Named.{Named}
use Rattle.io_edge.specs.Edge.{HasRoom, KeepsRoom, KeepsOtherRoom}
use Rattle.io_edge.specs.Memory.{file_map, slot_entries, slot_bytes, slot_room, store_files, store_rooms}
use Rattle.io_edge.proofs.Slots.{first_named, find-first_named, first_named-append, bytes_eq-same, bytes_eq-apart, IsFirst, replaced, replaced-same, found_at, found_nowhere}

-- the test by which a slot of a name is found
abbrev pub is_named : List ℕ → Slot → Bool
is_named name s = bytes_eq s.name name

first : (name : List ℕ) (ss : List Slot) (i : ℕ) (d : Slot) → position (is_named name) ss ≡ Some i → IsFirst name ss i d
first name ss i d e =
    let f = position-Some (is_named name) ss i d e in
    record { within = f.0; before = f.2; here = f.1 }

past : (p n : ℕ) → cond (nat_lt p n) (Some p) None ≡ None → n ≤ p
past p n e = grind arith

nowhere : (name : List ℕ) (ss : List Slot) → position (is_named name) ss ≡ None → (k : ℕ) (d : Slot) → k < length ss → bytes_eq (get_or ss k d).name name ≡ false
nowhere name ss e k d h =
    let all = past (position_or_len (is_named name) ss) (length ss) e in
    fails_before_first (is_named name) ss k d (omega arith)

rooms-first_named : (ss : List Slot) (q : List ℕ) → get (store_rooms ss) q ≡ first_named q (slot_entries slot_room ss)
rooms-first_named ss q = get-from_entries nat_list_cmp_total (slot_entries slot_room ss) q ∙ find-first_named q (slot_entries slot_room ss)

-- the room of the first slot of a name
rooms-at : (name : List ℕ) (ss : List Slot) (i : ℕ) (d : Slot) → position (is_named name) ss ≡ Some i → get (store_rooms ss) name ≡ Some (vec_capacity (get_or ss i d).spare)
rooms-at name ss i d e = rooms-first_named ss name ∙ found_at slot_room name ss i d (vec_capacity (get_or ss i d).spare) (first name ss i d e) refl

rooms-nowhere : (name : List ℕ) (ss : List Slot) → position (is_named name) ss ≡ None → get (store_rooms ss) name ≡ None
rooms-nowhere name ss e = rooms-first_named ss name ∙ found_nowhere slot_room name ss (nowhere name ss e)

rooms-set : (name q : List ℕ) (ss : List Slot) (i : ℕ) (d s : Slot) → position (is_named name) ss ≡ Some i → s.name ≡ name → get (store_rooms (slice_set ss i s)) q ≡ cond (bytes_eq q name) (Some (vec_capacity s.spare)) (get (store_rooms ss) q)
rooms-set name q ss i d s e n =
    rooms-first_named (slice_set ss i s) q
    ∙ replaced slot_room name q ss i d s (vec_capacity s.spare) n refl (first name ss i d e)
    ∙ ap (cond (bytes_eq q name) (Some (vec_capacity s.spare))) (sym (rooms-first_named ss q))

rooms-push : (q : List ℕ) (ss : List Slot) (s : Slot) → get (store_rooms (ss ++ s ∷ [])) q ≡ option_or (get (store_rooms ss) q) (cond (bytes_eq q s.name) (Some (vec_capacity s.spare)) None)
rooms-push q ss s =
    rooms-first_named (ss ++ s ∷ []) q
    ∙ ap (first_named q) (filter_map-append (λ (x : Slot). option_map (λ y. (x.name, y)) (slot_room x)) ss (s ∷ []))
    ∙ first_named-append q (slot_entries slot_room ss) (slot_entries slot_room (s ∷ []))
    ∙ ap (λ o. option_or o (cond (bytes_eq q s.name) (Some (vec_capacity s.spare)) None)) (sym (rooms-first_named ss q))

-- the name of the first slot of a name
name_at : (name : List ℕ) (ss : List Slot) (i : ℕ) (d : Slot) → position (is_named name) ss ≡ Some i → (get_or ss i d).name ≡ name
name_at name ss i d e = (bytes_eq-Decides (get_or ss i d).name name).0 (first name ss i d e).here

has_more : (o : Option ℕ) (a b n : ℕ) → o ≡ Some a → a ≤ b → HasRoom o n → n ≤ b
has_more None a b n e le h = absurd h
has_more (Some m) a b n e le h = let same : m ≡ a = cc in omega arith

-- a slot of more room in its place
pub KeepsRoom-set : (name : List ℕ) (ss : List Slot) (i : ℕ) (old s : Slot) → position (is_named name) ss ≡ Some i → old ≡ get_or ss i old → s.name ≡ old.name → vec_capacity old.spare ≤ vec_capacity s.spare → KeepsRoom (get (store_rooms ss)) (get (store_rooms (slice_set ss i s)))
KeepsRoom-set name ss i old s e at same more q n =
    let named : s.name ≡ name = same ∙ ap (λ (x : Slot). x.name) at ∙ name_at name ss i old e in
    let set = rooms-set name q ss i old s e named in
    elim (bytes_eq q name) as (λ b. bytes_eq q name ≡ b → HasRoom (get (store_rooms ss) q) n → HasRoom (get (store_rooms (slice_set ss i s)) q) n) [
      | true ↦ λ b h.
          let here : get (store_rooms ss) q ≡ Some (vec_capacity old.spare) = ap (get (store_rooms ss)) ((bytes_eq-Decides q name).0 b) ∙ rooms-at name ss i old e ∙ ap (λ (x : Slot). Some (vec_capacity x.spare)) (sym at) in
          let now : get (store_rooms (slice_set ss i s)) q ≡ Some (vec_capacity s.spare) = set ∙ ap (λ t. cond t (Some (vec_capacity s.spare)) (get (store_rooms ss) q)) b in
          subst (λ o. HasRoom o n) (sym now) (has_more (get (store_rooms ss) q) (vec_capacity old.spare) (vec_capacity s.spare) n here more h)
      | false ↦ λ b h. subst (λ o. HasRoom o n) (sym (set ∙ ap (λ t. cond t (Some (vec_capacity s.spare)) (get (store_rooms ss) q)) b)) h
    ] refl

-- any slot of that name in its place
pub KeepsOtherRoom-set : (name : List ℕ) (ss : List Slot) (i : ℕ) (old s : Slot) → position (is_named name) ss ≡ Some i → old ≡ get_or ss i old → s.name ≡ old.name → KeepsOtherRoom name (get (store_rooms ss)) (get (store_rooms (slice_set ss i s)))
KeepsOtherRoom-set name ss i old s e at same q n other h =
    let named : s.name ≡ name = same ∙ ap (λ (x : Slot). x.name) at ∙ name_at name ss i old e in
    subst (λ o. HasRoom o n) (sym (rooms-set name q ss i old s e named ∙ ap (λ t. cond t (Some (vec_capacity s.spare)) (get (store_rooms ss) q)) (bytes_eq-apart q name other))) h

-- the room that a slot in its place gives
pub HasRoom-set : (name : List ℕ) (ss : List Slot) (i : ℕ) (old s : Slot) (n : ℕ) → position (is_named name) ss ≡ Some i → old ≡ get_or ss i old → s.name ≡ old.name → n ≤ vec_capacity s.spare → HasRoom (get (store_rooms (slice_set ss i s)) name) n
HasRoom-set name ss i old s n e at same more =
    let named : s.name ≡ name = same ∙ ap (λ (x : Slot). x.name) at ∙ name_at name ss i old e in
    subst (λ o. HasRoom o n) (sym (rooms-set name name ss i old s e named ∙ ap (λ t. cond t (Some (vec_capacity s.spare)) (get (store_rooms ss) name)) (bytes_eq-same name))) more

-- the room of the first slot of a name, where there is some
pub room_here : (name : List ℕ) (ss : List Slot) (i : ℕ) (old : Slot) (n : ℕ) → position (is_named name) ss ≡ Some i → old ≡ get_or ss i old → HasRoom (get (store_rooms ss) name) n → n ≤ vec_capacity old.spare
room_here name ss i old n e at h =
    subst (λ o. HasRoom o n) (rooms-at name ss i old e ∙ ap (λ (x : Slot). Some (vec_capacity x.spare)) (sym at)) h

-- where no slot has the name there is no room
pub no_room : (name : List ℕ) (ss : List Slot) (n : ℕ) → position (is_named name) ss ≡ None → HasRoom (get (store_rooms ss) name) n → ⊥
no_room name ss n e h = subst (λ o. HasRoom o n) (rooms-nowhere name ss e) h

kept_first : (o p : Option ℕ) (n : ℕ) → HasRoom o n → HasRoom (option_or o p) n
kept_first None p n h = absurd h
kept_first (Some m) p n h = h

-- a slot more
pub KeepsRoom-push : (ss : List Slot) (s : Slot) → KeepsRoom (get (store_rooms ss)) (get (store_rooms (ss ++ s ∷ [])))
KeepsRoom-push ss s q n h =
    subst (λ o. HasRoom o n) (sym (rooms-push q ss s)) (kept_first (get (store_rooms ss) q) (cond (bytes_eq q s.name) (Some (vec_capacity s.spare)) None) n h)

pub HasRoom-push : (name : List ℕ) (ss : List Slot) (s : Slot) (n : ℕ) → position (is_named name) ss ≡ None → s.name ≡ name → n ≤ vec_capacity s.spare → HasRoom (get (store_rooms (ss ++ s ∷ [])) name) n
HasRoom-push name ss s n e named more =
    let here : get (store_rooms (ss ++ s ∷ [])) name ≡ Some (vec_capacity s.spare) =
    rooms-push name ss s
    ∙ ap (λ o. option_or o (cond (bytes_eq name s.name) (Some (vec_capacity s.spare)) None)) (rooms-nowhere name ss e)
    ∙ ap (λ a. cond (bytes_eq name a) (Some (vec_capacity s.spare)) None) named
    ∙ ap (λ b. cond b (Some (vec_capacity s.spare)) None) (bytes_eq-same name) in
    subst (λ o. HasRoom o n) (sym here) more

-- the bytes of a name: what was written, else what was there
pub files-get : (given : List Named) (ss : List Slot) (q : List ℕ) → get (store_files given ss) q ≡ option_or (first_named q (slot_entries slot_bytes ss)) (get (file_map given) q)
files-get given ss q =
    get-from_entries nat_list_cmp_total (slot_entries slot_bytes ss ++ map (λ (f : Named). (f.name, f.bytes)) given) q
    ∙ find-first_named q (slot_entries slot_bytes ss ++ map (λ (f : Named). (f.name, f.bytes)) given)
    ∙ first_named-append q (slot_entries slot_bytes ss) (map (λ (f : Named). (f.name, f.bytes)) given)
    ∙ ap (option_or (first_named q (slot_entries slot_bytes ss))) (sym (get-from_entries nat_list_cmp_total (map (λ (f : Named). (f.name, f.bytes)) given) q ∙ find-first_named q (map (λ (f : Named). (f.name, f.bytes)) given)))

pub files-found : (given : List Named) (ss : List Slot) (q : List ℕ) → get (store_files given ss) q ≡ option_or (find (slice_cmp nat_cmp) q (slot_entries slot_bytes ss)) (get (file_map given) q)
files-found given ss q = files-get given ss q ∙ ap (λ o. option_or o (get (file_map given) q)) (sym (find-first_named q (slot_entries slot_bytes ss)))

-- a slot with the same bytes in its place
pub files-set_same : (given : List Named) (name : List ℕ) (ss : List Slot) (i : ℕ) (old s : Slot) → position (is_named name) ss ≡ Some i → old ≡ get_or ss i old → s.name ≡ old.name → s.bytes ≡ old.bytes → store_files given (slice_set ss i s) ≡ store_files given ss
files-set_same given name ss i old s e at named same =
    ap (λ es. from_entries (es ++ map (λ (f : Named). (f.name, f.bytes)) given)) (replaced-same slot_bytes ss i old s (first name ss i old e).within (named ∙ ap (λ (x : Slot). x.name) at) (same ∙ ap (λ (x : Slot). x.bytes) at))

-- a slot more, in which nothing was written
pub files-push : (given : List Named) (ss : List Slot) (s : Slot) → s.bytes ≡ None → store_files given (ss ++ s ∷ []) ≡ store_files given ss
files-push given ss s none =
    ap (λ es. from_entries (es ++ map (λ (f : Named). (f.name, f.bytes)) given))
    (filter_map-append (λ (x : Slot). option_map (λ y. (x.name, y)) (slot_bytes x)) ss (s ∷ [])
    ∙ ap (λ o. slot_entries slot_bytes ss ++ cons_option (option_map (λ x. (s.name, x)) o) []) none
    ∙ append-nil (slot_entries slot_bytes ss))

written_first : (b : Bool) (bytes : List ℕ) (o p : Option (List ℕ)) → option_or (cond b (Some bytes) o) p ≡ cond b (Some bytes) (option_or o p)
written_first true bytes o p = refl
written_first false bytes o p = refl

-- a slot with these bytes in its place
pub files-set : (given : List Named) (name bytes : List ℕ) (ss : List Slot) (i : ℕ) (old s : Slot) → position (is_named name) ss ≡ Some i → old ≡ get_or ss i old → s.name ≡ old.name → s.bytes ≡ Some bytes → store_files given (slice_set ss i s) ≡ insert (store_files given ss) name bytes
files-set given name bytes ss i old s e at same has =
    let named : s.name ≡ name = same ∙ ap (λ (x : Slot). x.name) at ∙ name_at name ss i old e in
    same_map nat_list_cmp_total (slice_cmp-IsAntisymmetric nat_cmp-IsAntisymmetric) _ _ (λ q.
    files-get given (slice_set ss i s) q
    ∙ ap (λ o. option_or o (get (file_map given) q)) (replaced slot_bytes name q ss i old s bytes named has (first name ss i old e))
    ∙ written_first (bytes_eq q name) bytes (first_named q (slot_entries slot_bytes ss)) (get (file_map given) q)
    ∙ ap (cond (bytes_eq q name) (Some bytes)) (sym (files-get given ss q))
    ∙ ap (λ b. cond b (Some bytes) (get (store_files given ss) q)) (sym (is_eq-slice_cmp q name))
    ∙ sym (get-insert nat_list_cmp_total (store_files given ss) name bytes q))
