-- The first file of a name, and the map of the files.
use Rattle.std.proofs.Common.{◌≡◌, ℕ, suc, ◌<◌, ◌≤◌, Bool, true, List, [], ◌∷◌, map, length, drop, get_or, Option, Some, None, refl, sym, ap, ◌∙◌, cond, drop-cons}
use Rattle.std.proofs.lemmas.List.{drop_all}
use Rattle.std.specs.Ordering.{nat_cmp}
use Rattle.std.specs.Cmp.Lexicographic.{slice_cmp, nat_list_cmp_total}
use Rattle.std.specs.Str.{bytes_eq}
use Rattle.std.specs.FinMap.{get, find, get-from_entries}
use Rattle.std.proofs.lemmas.Map.Text.{is_eq-slice_cmp}
use Rattle.io_edge.specs.declared.named.Named.{Named}
use Rattle.io_edge.specs.Memory.{file_map}

-- the bytes of the first file of this name
abbrev pub first_of : List ℕ → List Named → Option (List ℕ)
first_of name [] = None
first_of name (f ∷ fs) = cond (bytes_eq name f.name) (Some f.bytes) (first_of name fs)

find-first_of : (name : List ℕ) (fs : List Named) → find (slice_cmp nat_cmp) name (map (λ f. (f.name, f.bytes)) fs) ≡ first_of name fs
find-first_of name [] = refl
find-first_of name (f ∷ fs) =
    ap (λ b. cond b (Some f.bytes) (find (slice_cmp nat_cmp) name (map (λ f. (f.name, f.bytes)) fs))) (is_eq-slice_cmp name f.name)
    ∙ ap (cond (bytes_eq name f.name) (Some f.bytes)) (find-first_of name fs)

-- the map of the files has it under that name
pub get-file_map : (name : List ℕ) (fs : List Named) → get (file_map fs) name ≡ first_of name fs
get-file_map name fs = get-from_entries nat_list_cmp_total (map (λ f. (f.name, f.bytes)) fs) name ∙ find-first_of name fs

-- where no file before this one has the name, and this one has it
pub get-file_map_here : (name : List ℕ) (fs : List Named) (i : ℕ) (f : Named) → i < length fs → f ≡ get_or fs i f → bytes_eq name f.name ≡ true → first_of name (drop i fs) ≡ first_of name fs → get (file_map fs) name ≡ Some f.bytes
get-file_map_here name fs i f lt is same before =
    get-file_map name fs ∙ sym before ∙ ap (first_of name) (drop-cons fs i f lt)
    ∙ ap (λ (x : Named). first_of name (x ∷ drop (suc i) fs)) (sym is)
    ∙ ap (λ (b : Bool). cond b (Some f.bytes) (first_of name (drop (suc i) fs))) same

-- where no file has the name
pub get-file_map_nowhere : (name : List ℕ) (fs : List Named) (i : ℕ) → length fs ≤ i → first_of name (drop i fs) ≡ first_of name fs → get (file_map fs) name ≡ None
get-file_map_nowhere name fs i le before =
    get-file_map name fs ∙ sym before ∙ ap (first_of name) (drop_all i fs le)
