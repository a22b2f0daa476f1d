-- What one directive does to a draft, and why it may be refused: reading agrees with the grammar.
use Rattle.std.proofs.Common.{◌≡◌, ℕ, zero, suc, ◌+◌, ◌*◌, ◌<◌, ◌⊎◌, inl, inr, Bool, true, false, cond, ◌&&◌, nat_eq, nat_lt, nat_le, List, [], ◌∷◌, ◌++◌, length, reverse, replicate, Option, Some, None, is_some, is_none, Result, Ok, Err, refl, sym, ap, subst, ◌∙◌, arith}
use Rattle.std.specs.Prelude.{slice_index, slice_index_or, slice_set}
use Rattle.std.specs.List.{flat_map}
use Rattle.std.proofs.lemmas.Bool.{le-leb, ltb-true}
use Rattle.std.proofs.lemmas.List.{append-nil, length-set}
use Rattle.mach_base.specs.declared.memory_range.Kind.{Kind}
use Rattle.mach_base.specs.declared.memory_range.Segment.{Segment}
use Rattle.mach_base.specs.declared.limits.TheConstants.{MOST_HARTS}
use Rattle.mach_base.specs.Machine.{Part}
use Rattle.mach_base.specs.Sequence.{◌>>=◌}
use Rattle.img_text.specs.declared.fault.Why.{Why}
use Rattle.img_text.specs.declared.fault.Why.TheVariants.{Bounds, Order, Overrun, Hart}
use Rattle.img_text.specs.declared.directive.Width.{Width}
use Rattle.img_text.specs.declared.directive.Directive.TheVariants.{Begin, Put, Pc, Sp}
use Rattle.img_text.specs.Directives.{size_of}
use Rattle.img_text.specs.Reading.{Draft, has_bounds, begin, value_bytes, put, start, applied, no_starts}
use Rattle.img_text.specs.Grammar.{Entry, segment_of, values_in, parts_in, pcs_in, sps_in, start_in, last_part, segment_refusal, values_refusal, start_refusal, refusal_after}
use Rattle.img_text.proofs.Entries.{cases_end, last_part-end, reverse-end, with_values, with_values-end, parts_in-append, parts_in-none, pcs_in-append, sps_in-append, start_in-push, starts-set}

-- One directive.

-- the value, or a refusal
abbrev or_refused : {A : Type 0} → Option Why → A → Result A Why
or_refused None x = Ok x
or_refused (Some why) x = Err why

-- a segment without bytes
abbrev opened : Segment → Part
opened s = record { segment = s; bytes = [] }

abbrev Begins : Segment → List Part → Type 0
Begins s ps = begin s (reverse ps) ≡ or_refused (segment_refusal (last_part ps) s) (opened s ∷ reverse ps)

begin-first : (s : Segment) → Begins s []
begin-first s = by (has_bounds s) (nat_le 0 s.base) (le-leb 0 s.base (omega arith))
  where
    by : (bounds first : Bool) → first ≡ true → cond bounds (cond first (Ok (opened s ∷ [])) (Err Order)) (Err Bounds) ≡ or_refused (cond bounds None (Some Bounds)) (opened s ∷ [])
    by true true e = refl
    by true false e = absurd (cc)
    by false first e = refl

begin-end : (s : Segment) (front : List Part) (p : Part) → Begins s (front ++ p ∷ [])
begin-end s front p =
    ap (begin s) (reverse-end front p)
    ∙ by (has_bounds s) (nat_le (p.segment.base + p.segment.len) s.base)
    ∙ sym (ap (λ (o : Option Part). or_refused (segment_refusal o s) (opened s ∷ p ∷ reverse front)) (last_part-end front p))
    ∙ sym (ap (λ (ps : List Part). or_refused (segment_refusal (last_part (front ++ p ∷ [])) s) (opened s ∷ ps)) (reverse-end front p))
  where
    by : (bounds order : Bool) → cond bounds (cond order (Ok (opened s ∷ p ∷ reverse front)) (Err Order)) (Err Bounds) ≡ or_refused (cond bounds (cond order None (Some Order)) (Some Bounds)) (opened s ∷ p ∷ reverse front)
    by true true = refl
    by true false = refl
    by false order = refl

begin-is : (s : Segment) (ps : List Part) → Begins s ps
begin-is s ps =
    elim (cases_end ps) [
      | inl none ↦ subst (λ (qs : List Part). Begins s qs) (sym none) (begin-first s)
      | inr e ↦ subst (λ (qs : List Part). Begins s qs) (sym e.whole) (begin-end s e.front e.last)
    ]

abbrev bytes_of : Width → List ℕ → List ℕ
bytes_of width ns = flat_map (value_bytes width) ns

abbrev Puts : Width → List ℕ → List Part → Type 0
Puts width ns ps = put width ns (reverse ps) ≡ or_refused (values_refusal (last_part ps) (size_of width * length ns)) (reverse (with_values (bytes_of width ns) ps))

put-end : (width : Width) (ns : List ℕ) (front : List Part) (p : Part) → Puts width ns (front ++ p ∷ [])
put-end width ns front p =
    let q : Part = record p { bytes = p.bytes ++ bytes_of width ns } in
    let turned : reverse (with_values (bytes_of width ns) (front ++ p ∷ [])) ≡ q ∷ reverse front = ap (λ (ps : List Part). reverse ps) (with_values-end (bytes_of width ns) front p) ∙ reverse-end front q in
    ap (put width ns) (reverse-end front p)
    ∙ by (nat_le (length p.bytes + size_of width * length ns) p.segment.len) (q ∷ reverse front)
    ∙ sym (ap (λ (o : Option Part). or_refused (values_refusal o (size_of width * length ns)) (q ∷ reverse front)) (last_part-end front p))
    ∙ sym (ap (λ (ps : List Part). or_refused (values_refusal (last_part (front ++ p ∷ [])) (size_of width * length ns)) ps) turned)
  where
    by : (room : Bool) (ps : List Part) → cond room (Ok ps) (Err Overrun) ≡ or_refused (cond room None (Some Overrun)) ps
    by true ps = refl
    by false ps = refl

put-is : (width : Width) (ns : List ℕ) (ps : List Part) → Puts width ns ps
put-is width ns ps =
    elim (cases_end ps) [
      | inl none ↦ subst (λ (qs : List Part). Puts width ns qs) (sym none) refl
      | inr e ↦ subst (λ (qs : List Part). Puts width ns qs) (sym e.whole) (put-end width ns e.front e.last)
    ]

start-is : (starts : List (Option ℕ)) (given : List (ℕ × ℕ)) (h a : ℕ) → slice_index_or starts h None ≡ start_in given h → start h a starts ≡ or_refused (start_refusal given h) (slice_set starts h (Some a))
start-is starts given h a same =
    ap (λ (o : Option ℕ). cond (nat_lt h MOST_HARTS && is_none o) (Ok (slice_set starts h (Some a))) (Err Hart)) same
    ∙ by (nat_lt h MOST_HARTS) (start_in given h)
  where
    by : (few : Bool) (o : Option ℕ) → cond (few && is_none o) (Ok (slice_set starts h (Some a))) (Err Hart) ≡ or_refused (cond few (cond (is_some o) (Some Hart) None) (Some Hart)) (slice_set starts h (Some a))
    by true None = refl
    by true (Some x) = refl
    by false o = refl

-- a start that isn't refused is of a hart that has none
start_free : (given : List (ℕ × ℕ)) (h : ℕ) → start_refusal given h ≡ None → (h < MOST_HARTS) × (start_in given h ≡ None)
start_free given h e = by (nat_lt h MOST_HARTS) (start_in given h) refl e
  where
    by : (few : Bool) (o : Option ℕ) → nat_lt h MOST_HARTS ≡ few → cond few (cond (is_some o) (Some Hart) None) (Some Hart) ≡ None → (h < MOST_HARTS) × (o ≡ None)
    by true None few e = (ltb-true h MOST_HARTS few, refl)
    by true (Some x) few e = absurd (cc)
    by false o few e = absurd (cc)

-- The draft after some directives.

pub record IsDraft (d : Draft) (es : List Entry) : Type 0 where
  pub parts : d.parts ≡ reverse (parts_in es)
  pub pcs : (q : ℕ) → slice_index_or d.pcs q None ≡ start_in (pcs_in es) q
  pub sps : (q : ℕ) → slice_index_or d.sps q None ≡ start_in (sps_in es) q
  pub many_pcs : length d.pcs ≡ MOST_HARTS
  pub many_sps : length d.sps ≡ MOST_HARTS

abbrev pub start_draft : Draft
start_draft = record { parts = []; pcs = no_starts; sps = no_starts }

abbrev no_start : Option ℕ
no_start = None

none_given : (n q : ℕ) → slice_index_or (replicate n no_start) q no_start ≡ no_start
none_given zero q = refl
none_given (suc n) zero = refl
none_given (suc n) (suc q) = none_given n q

pub IsDraft-start : IsDraft start_draft []
IsDraft-start = record {
  parts = refl;
  pcs = λ q. none_given MOST_HARTS q;
  sps = λ q. none_given MOST_HARTS q;
  many_pcs = refl;
  many_sps = refl;
}

same_pcs : (es : List Entry) (e : Entry) → pcs_in (e ∷ []) ≡ [] → pcs_in (es ++ e ∷ []) ≡ pcs_in es
same_pcs es e none = pcs_in-append es (e ∷ []) ∙ ap (λ (ss : List (ℕ × ℕ)). pcs_in es ++ ss) none ∙ append-nil (pcs_in es)

same_sps : (es : List Entry) (e : Entry) → sps_in (e ∷ []) ≡ [] → sps_in (es ++ e ∷ []) ≡ sps_in es
same_sps es e none = sps_in-append es (e ∷ []) ∙ ap (λ (ss : List (ℕ × ℕ)). sps_in es ++ ss) none ∙ append-nil (sps_in es)

same_parts : (es : List Entry) (e : Entry) → values_in (e ∷ []) ≡ [] → parts_in (e ∷ []) ≡ [] → parts_in (es ++ e ∷ []) ≡ parts_in es
same_parts es e values none = parts_in-none es (e ∷ []) values ∙ ap (λ (ps : List Part). parts_in es ++ ps) none ∙ append-nil (parts_in es)

-- a directive that doesn't touch the starts
with_parts : (d : Draft) (es : List Entry) (e : Entry) (ps : List Part) → IsDraft d es → ps ≡ reverse (parts_in (es ++ e ∷ [])) → pcs_in (e ∷ []) ≡ [] → sps_in (e ∷ []) ≡ [] → IsDraft (record d { parts = ps }) (es ++ e ∷ [])
with_parts d es e ps is parts no_pc no_sp = record {
  parts = parts;
  pcs = λ q. is.pcs q ∙ ap (λ (ss : List (ℕ × ℕ)). start_in ss q) (sym (same_pcs es e no_pc));
  sps = λ q. is.sps q ∙ ap (λ (ss : List (ℕ × ℕ)). start_in ss q) (sym (same_sps es e no_sp));
  many_pcs = is.many_pcs;
  many_sps = is.many_sps;
}

-- the starts with one more
more_starts : (starts : List (Option ℕ)) (given all : List (ℕ × ℕ)) (h a : ℕ) → length starts ≡ MOST_HARTS → ((q : ℕ) → slice_index_or starts q None ≡ start_in given q) → start_refusal given h ≡ None → all ≡ given ++ (h, a) ∷ [] → (q : ℕ) → slice_index_or (slice_set starts h (Some a)) q None ≡ start_in all q
more_starts starts given all h a many same free more q =
    let f = start_free given h free in
    let within : h < length starts = omega (arith, many, f.0) in
    starts-set starts h a q within
    ∙ ap (λ (o : Option ℕ). cond (nat_eq q h) (Some a) o) (same q)
    ∙ sym (start_in-push given h a q f.1)
    ∙ ap (λ (ss : List (ℕ × ℕ)). start_in ss q) (sym more)

-- what a directive leaves where it may follow the others, or why it can't
pub record Follows (d : Draft) (es : List Entry) (e : Entry) : Type 0 where
  pub next : Draft
  pub is : applied d e.0 e.1 ≡ Ok next
  pub draft : IsDraft next (es ++ e ∷ [])
  pub allowed : refusal_after es e ≡ None

pub record Refused (d : Draft) (es : List Entry) (e : Entry) : Type 0 where
  pub why : Why
  pub is : applied d e.0 e.1 ≡ Err why
  pub refused : refusal_after es e ≡ Some why

-- A directive that puts a part of the draft anew: it may follow the others, or it is refused.
follows_or_refused : (A : Type 0) (d : Draft) (es : List Entry) (e : Entry) (made : Result A Why) (x : A) (put_back : A → Draft) → applied d e.0 e.1 ≡ (made >>= λ (y : A). Ok (put_back y))
    → made ≡ or_refused (refusal_after es e) x → (refusal_after es e ≡ None → IsDraft (put_back x) (es ++ e ∷ [])) → Follows d es e ⊎ Refused d es e
follows_or_refused A d es e made x put_back does is draft = by (refusal_after es e) refl
  where
    by : (o : Option Why) → refusal_after es e ≡ o → Follows d es e ⊎ Refused d es e
    by None free =
        let made_is : made ≡ Ok x = is ∙ ap (λ (o : Option Why). or_refused o x) free in
        inl (record { next = put_back x; is = does ∙ ap (λ (r : Result A Why). r >>= λ (y : A). Ok (put_back y)) made_is; draft = draft free; allowed = free })
    by (Some why) taken =
        let made_is : made ≡ Err why = is ∙ ap (λ (o : Option Why). or_refused o x) taken in
        inr (record { why = why; is = does ∙ ap (λ (r : Result A Why). r >>= λ (y : A). Ok (put_back y)) made_is; refused = taken })

by_begin : (d : Draft) (es : List Entry) (kind : Kind) (ns : List ℕ) → IsDraft d es → Follows d es (Begin kind, ns) ⊎ Refused d es (Begin kind, ns)
unfolding applied
by_begin d es kind ns is =
    let s = segment_of kind ns in
    let p : Part = opened s in
    let more : parts_in (es ++ (Begin kind, ns) ∷ []) ≡ parts_in es ++ p ∷ [] = parts_in-none es ((Begin kind, ns) ∷ []) refl in
    let turned : p ∷ reverse (parts_in es) ≡ reverse (parts_in (es ++ (Begin kind, ns) ∷ [])) = sym (reverse-end (parts_in es) p) ∙ ap (λ (ps : List Part). reverse ps) (sym more) in
    follows_or_refused (List Part) d es (Begin kind, ns) (begin s d.parts) (p ∷ reverse (parts_in es)) (λ ps. record d { parts = ps }) refl
    (ap (begin s) is.parts ∙ begin-is s (parts_in es)) (λ free. with_parts d es (Begin kind, ns) (p ∷ reverse (parts_in es)) is turned refl refl)

by_put : (d : Draft) (es : List Entry) (width : Width) (ns : List ℕ) → IsDraft d es → Follows d es (Put width, ns) ⊎ Refused d es (Put width, ns)
unfolding applied
by_put d es width ns is =
    let ps = reverse (with_values (bytes_of width ns) (parts_in es)) in
    let values : bytes_of width ns ++ [] ≡ bytes_of width ns = append-nil (bytes_of width ns) in
    let more : parts_in (es ++ (Put width, ns) ∷ []) ≡ with_values (bytes_of width ns) (parts_in es) =
    parts_in-append es ((Put width, ns) ∷ []) ∙ append-nil (with_values (bytes_of width ns ++ []) (parts_in es)) ∙ ap (λ (bs : List ℕ). with_values bs (parts_in es)) values in
    follows_or_refused (List Part) d es (Put width, ns) (put width ns d.parts) ps (λ qs. record d { parts = qs }) refl
    (ap (put width ns) is.parts ∙ put-is width ns (parts_in es)) (λ free. with_parts d es (Put width, ns) ps is (ap (λ (qs : List Part). reverse qs) (sym more)) refl refl)

by_pc : (d : Draft) (es : List Entry) (ns : List ℕ) → IsDraft d es → Follows d es (Pc, ns) ⊎ Refused d es (Pc, ns)
unfolding applied
by_pc d es ns is =
    let h = slice_index ns 0 in
    let a = slice_index ns 1 in
    follows_or_refused (List (Option ℕ)) d es (Pc, ns) (start h a d.pcs) (slice_set d.pcs h (Some a)) (λ pcs. record d { pcs = pcs }) refl
    (start-is d.pcs (pcs_in es) h a (is.pcs h)) (λ free. record {
      parts = is.parts ∙ ap (λ (ps : List Part). reverse ps) (sym (same_parts es (Pc, ns) refl refl));
      pcs = more_starts d.pcs (pcs_in es) (pcs_in (es ++ (Pc, ns) ∷ [])) h a is.many_pcs is.pcs free (pcs_in-append es ((Pc, ns) ∷ []));
      sps = λ q. is.sps q ∙ ap (λ (ss : List (ℕ × ℕ)). start_in ss q) (sym (same_sps es (Pc, ns) refl));
      many_pcs = length-set d.pcs h (Some a) ∙ is.many_pcs;
      many_sps = is.many_sps;
    })

by_sp : (d : Draft) (es : List Entry) (ns : List ℕ) → IsDraft d es → Follows d es (Sp, ns) ⊎ Refused d es (Sp, ns)
unfolding applied
by_sp d es ns is =
    let h = slice_index ns 0 in
    let a = slice_index ns 1 in
    follows_or_refused (List (Option ℕ)) d es (Sp, ns) (start h a d.sps) (slice_set d.sps h (Some a)) (λ sps. record d { sps = sps }) refl
    (start-is d.sps (sps_in es) h a (is.sps h)) (λ free. record {
      parts = is.parts ∙ ap (λ (ps : List Part). reverse ps) (sym (same_parts es (Sp, ns) refl refl));
      pcs = λ q. is.pcs q ∙ ap (λ (ss : List (ℕ × ℕ)). start_in ss q) (sym (same_pcs es (Sp, ns) refl));
      sps = more_starts d.sps (sps_in es) (sps_in (es ++ (Sp, ns) ∷ [])) h a is.many_sps is.sps free (sps_in-append es ((Sp, ns) ∷ []));
      many_pcs = is.many_pcs;
      many_sps = length-set d.sps h (Some a) ∙ is.many_sps;
    })

-- a directive may follow the others, or it is refused
pub cases_entry : (d : Draft) (es : List Entry) (e : Entry) → IsDraft d es → Follows d es e ⊎ Refused d es e
cases_entry d es (Begin kind, ns) is = by_begin d es kind ns is
cases_entry d es (Put width, ns) is = by_put d es width ns is
cases_entry d es (Pc, ns) is = by_pc d es ns is
cases_entry d es (Sp, ns) is = by_sp d es ns is
