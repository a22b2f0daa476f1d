-- What directives give, with one directive more.
use Rattle.std.proofs.Common.{◌≡◌, ℕ, ◌<◌, ◌⊎◌, inl, inr, Bool, true, false, cond, eqb, List, [], ◌∷◌, ◌++◌, length, reverse, get_or, Option, Some, None, refl, sym, ap, ◌∙◌, append_assoc}
use Rattle.std.specs.Prelude.{slice_index, slice_index_or, slice_set}
use Rattle.std.specs.Option.{option_map}
use Rattle.std.specs.List.{find, flat_map}
use Rattle.std.proofs.lemmas.Bool.{cases_eq, eq-eqb, ne_eqb, eqb-true}
use Rattle.std.proofs.lemmas.List.{append-nil, reverse-append, get_or-set_same, get_or-set_other}
use Rattle.mach_base.specs.Machine.{Part}
use Rattle.img_text.specs.declared.directive.Directive.TheVariants.{Begin, Put, Pc, Sp}
use Rattle.img_text.specs.Reading.{value_bytes}
use Rattle.img_text.specs.Grammar.{Entry, segment_of, values_in, parts_in, pcs_in, sps_in, start_in, last_part}

-- A list is empty, or it has a last part.

pub record Ends (ps : List Part) : Type 0 where
  pub front : List Part
  pub last : Part
  pub whole : ps ≡ front ++ last ∷ []

longer : (p : Part) (ps : List Part) → (ps ≡ []) ⊎ Ends ps → Ends (p ∷ ps)
longer p ps (inl none) = record { front = []; last = p; whole = ap (λ (qs : List Part). p ∷ qs) none }
longer p ps (inr e) = record { front = p ∷ e.front; last = e.last; whole = ap (λ (qs : List Part). p ∷ qs) e.whole }

pub cases_end : (ps : List Part) → (ps ≡ []) ⊎ Ends ps
cases_end [] = inl refl
cases_end (p ∷ ps) = inr (longer p ps (cases_end ps))

pub last_part-end : (front : List Part) (p : Part) → last_part (front ++ p ∷ []) ≡ Some p
last_part-end [] p = refl
last_part-end (q ∷ []) p = refl
last_part-end (q ∷ r ∷ front) p = last_part-end (r ∷ front) p

pub reverse-end : (front : List Part) (p : Part) → reverse (front ++ p ∷ []) ≡ p ∷ reverse front
reverse-end front p = reverse-append front (p ∷ [])

-- the parts with these bytes after those of the last one
abbrev pub with_values : List ℕ → List Part → List Part
with_values bs [] = []
with_values bs (p ∷ []) = record p { bytes = p.bytes ++ bs } ∷ []
with_values bs (p ∷ q ∷ ps) = p ∷ with_values bs (q ∷ ps)

pub with_values-end : (bs : List ℕ) (front : List Part) (p : Part) → with_values bs (front ++ p ∷ []) ≡ front ++ record p { bytes = p.bytes ++ bs } ∷ []
with_values-end bs [] p = refl
with_values-end bs (q ∷ []) p = refl
with_values-end bs (q ∷ r ∷ front) p = ap (λ (ps : List Part). q ∷ ps) (with_values-end bs (r ∷ front) p)

with_values-none : (ps : List Part) → with_values [] ps ≡ ps
with_values-none [] = refl
with_values-none (p ∷ []) = ap (λ (bs : List ℕ). record p { bytes = bs } ∷ []) (append-nil p.bytes)
with_values-none (p ∷ q ∷ ps) = ap (λ (qs : List Part). p ∷ qs) (with_values-none (q ∷ ps))

-- Directives, and more of them.

-- no segment line is among the first ones
values_in-first : (es fs : List Entry) → parts_in es ≡ [] → values_in (es ++ fs) ≡ values_in es ++ values_in fs
values_in-first [] fs none = refl
values_in-first ((Begin kind, ns) ∷ es) fs none = absurd (cc)
values_in-first ((Put width, ns) ∷ es) fs none =
    ap (λ (bs : List ℕ). flat_map (value_bytes width) ns ++ bs) (values_in-first es fs none) ∙ sym (append_assoc (flat_map (value_bytes width) ns) (values_in es) (values_in fs))
values_in-first ((Pc, ns) ∷ es) fs none = values_in-first es fs none
values_in-first ((Sp, ns) ∷ es) fs none = values_in-first es fs none

-- one is
values_in-later : (es fs : List Entry) (q : Part) (qs : List Part) → parts_in es ≡ q ∷ qs → values_in (es ++ fs) ≡ values_in es
values_in-later [] fs q qs some = absurd (cc)
values_in-later ((Begin kind, ns) ∷ es) fs q qs some = refl
values_in-later ((Put width, ns) ∷ es) fs q qs some = ap (λ (bs : List ℕ). flat_map (value_bytes width) ns ++ bs) (values_in-later es fs q qs some)
values_in-later ((Pc, ns) ∷ es) fs q qs some = values_in-later es fs q qs some
values_in-later ((Sp, ns) ∷ es) fs q qs some = values_in-later es fs q qs some

-- a segment line, by the parts of the directives after it
begun : (p : Part) (es fs : List Entry) (ps : List Part) → parts_in es ≡ ps → parts_in (es ++ fs) ≡ with_values (values_in fs) (parts_in es) ++ parts_in fs → p.bytes ≡ values_in es → record p { bytes = values_in (es ++ fs) } ∷ parts_in (es ++ fs) ≡ with_values (values_in fs) (p ∷ parts_in es) ++ parts_in fs
begun p es fs [] none more bytes =
    let values : values_in (es ++ fs) ≡ p.bytes ++ values_in fs = values_in-first es fs none ∙ ap (λ (bs : List ℕ). bs ++ values_in fs) (sym bytes) in
    let rest : parts_in (es ++ fs) ≡ parts_in fs = more ∙ ap (λ (ps : List Part). with_values (values_in fs) ps ++ parts_in fs) none in
    ap (λ (bs : List ℕ). record p { bytes = bs } ∷ parts_in (es ++ fs)) values
    ∙ ap (λ (ps : List Part). record p { bytes = p.bytes ++ values_in fs } ∷ ps) rest
    ∙ ap (λ (ps : List Part). with_values (values_in fs) (p ∷ ps) ++ parts_in fs) (sym none)
begun p es fs (q ∷ qs) some more bytes =
    let values : values_in (es ++ fs) ≡ p.bytes = values_in-later es fs q qs some ∙ sym bytes in
    let rest : parts_in (es ++ fs) ≡ with_values (values_in fs) (q ∷ qs) ++ parts_in fs = more ∙ ap (λ (ps : List Part). with_values (values_in fs) ps ++ parts_in fs) some in
    ap (λ (bs : List ℕ). record p { bytes = bs } ∷ parts_in (es ++ fs)) values
    ∙ ap (λ (ps : List Part). p ∷ ps) rest
    ∙ ap (λ (ps : List Part). with_values (values_in fs) (p ∷ ps) ++ parts_in fs) (sym some)

pub parts_in-append : (es fs : List Entry) → parts_in (es ++ fs) ≡ with_values (values_in fs) (parts_in es) ++ parts_in fs
parts_in-append [] fs = refl
parts_in-append ((Begin kind, ns) ∷ es) fs =
    begun (record { segment = segment_of kind ns; bytes = values_in es }) es fs (parts_in es) refl (parts_in-append es fs) refl
parts_in-append ((Put width, ns) ∷ es) fs = parts_in-append es fs
parts_in-append ((Pc, ns) ∷ es) fs = parts_in-append es fs
parts_in-append ((Sp, ns) ∷ es) fs = parts_in-append es fs

-- a line that begins a segment, one that puts values, and others
pub parts_in-none : (es fs : List Entry) → values_in fs ≡ [] → parts_in (es ++ fs) ≡ parts_in es ++ parts_in fs
parts_in-none es fs none =
    parts_in-append es fs
    ∙ ap (λ (bs : List ℕ). with_values bs (parts_in es) ++ parts_in fs) none
    ∙ ap (λ (ps : List Part). ps ++ parts_in fs) (with_values-none (parts_in es))

pub pcs_in-append : (es fs : List Entry) → pcs_in (es ++ fs) ≡ pcs_in es ++ pcs_in fs
pcs_in-append [] fs = refl
pcs_in-append ((Begin kind, ns) ∷ es) fs = pcs_in-append es fs
pcs_in-append ((Put width, ns) ∷ es) fs = pcs_in-append es fs
pcs_in-append ((Pc, ns) ∷ es) fs = ap (λ (ss : List (ℕ × ℕ)). (slice_index ns 0, slice_index ns 1) ∷ ss) (pcs_in-append es fs)
pcs_in-append ((Sp, ns) ∷ es) fs = pcs_in-append es fs

pub sps_in-append : (es fs : List Entry) → sps_in (es ++ fs) ≡ sps_in es ++ sps_in fs
sps_in-append [] fs = refl
sps_in-append ((Begin kind, ns) ∷ es) fs = sps_in-append es fs
sps_in-append ((Put width, ns) ∷ es) fs = sps_in-append es fs
sps_in-append ((Pc, ns) ∷ es) fs = sps_in-append es fs
sps_in-append ((Sp, ns) ∷ es) fs = ap (λ (ss : List (ℕ × ℕ)). (slice_index ns 0, slice_index ns 1) ∷ ss) (sps_in-append es fs)

-- Starts.

abbrev address_of : ℕ × ℕ → ℕ
address_of s = s.1

not_there : (t : Bool) (s : ℕ × ℕ) (o : Option (ℕ × ℕ)) → option_map address_of (cond t (Some s) o) ≡ None → (t ≡ false) × (option_map address_of o ≡ None)
not_there true s o e = absurd (cc)
not_there false s o e = (refl, e)

-- a start more, of a hart that has none
pub start_in-push : (starts : List (ℕ × ℕ)) (h a q : ℕ) → start_in starts h ≡ None → start_in (starts ++ (h, a) ∷ []) q ≡ cond (eqb q h) (Some a) (start_in starts q)
start_in-push [] h a q none = one (eqb q h)
  where
    one : (t : Bool) → option_map address_of (cond t (Some (h, a)) None) ≡ cond t (Some a) None
    one true = refl
    one false = refl
start_in-push (s ∷ ss) h a q none = by (eqb q s.0) refl (start_in-push ss h a q other.1)
  where
    other : (eqb h s.0 ≡ false) × (start_in ss h ≡ None)
    other = not_there (eqb h s.0) s (find (λ x. eqb h x.0) ss) none

    apart : eqb q s.0 ≡ true → eqb q h ≡ false
    apart e = ne_eqb q h (λ same. let is : h ≡ s.0 = sym same ∙ eqb-true q s.0 e in let yes_ : eqb h s.0 ≡ true = eq-eqb h s.0 is in let no_ = other.0 in absurd (cc))

    by : (t : Bool) → eqb q s.0 ≡ t → start_in (ss ++ (h, a) ∷ []) q ≡ cond (eqb q h) (Some a) (start_in ss q) → option_map address_of (cond t (Some s) (find (λ x. eqb q x.0) (ss ++ (h, a) ∷ []))) ≡ cond (eqb q h) (Some a) (option_map address_of (cond t (Some s) (find (λ x. eqb q x.0) ss)))
    by true e rest = sym (ap (λ (t : Bool). cond t (Some a) (Some s.1)) (apart e))
    by false e rest = rest

-- the same in a table of starts
pub starts-set : (starts : List (Option ℕ)) (h a q : ℕ) → h < length starts → slice_index_or (slice_set starts h (Some a)) q None ≡ cond (eqb q h) (Some a) (slice_index_or starts q None)
starts-set starts h a q within = by (cases_eq q h)
  where
    by : (q ≡ h) ⊎ (q ≡ h → ⊥) → slice_index_or (slice_set starts h (Some a)) q None ≡ cond (eqb q h) (Some a) (slice_index_or starts q None)
    by (inl same) =
        ap (λ (k : ℕ). get_or (slice_set starts h (Some a)) k None) same
        ∙ get_or-set_same starts h (Some a) None within
        ∙ sym (ap (λ (t : Bool). cond t (Some a) (slice_index_or starts q None)) (eq-eqb q h same))
    by (inr other) =
        get_or-set_other starts h q (Some a) None other
        ∙ sym (ap (λ (t : Bool). cond t (Some a) (slice_index_or starts q None)) (ne_eqb q h other))
