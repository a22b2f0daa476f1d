-- Legal lists of entries: their order, and one entry more.
use Rattle.std.proofs.lemmas.List.{append-nil}
use Rattle.std.proofs.Common.{◌≡◌, ℕ, ◌&&◌, Bool, true, false, cond, List, [], ◌∷◌, ◌++◌, Option, Some, None, is_none, option_map, refl, sym, ap, subst, ◌∙◌}
use Rattle.std.proofs.lemmas.Bool.{false≢true}
use Rattle.mach_base.specs.declared.event.Entry.{Entry}
use Rattle.img_text.specs.Image.{IsImage}
use Rattle.plant_mach.specs.Machine.{PlantedMachine}
use Rattle.plant_mach.specs.Entries.{Made, prefixed, then_made, may, effect, makes, made_by}
use Rattle.plant_mach.specs.Order.{IsOrderly}
use Rattle.plant_mach.specs.Laws.{ListsJoin, StartsAreOrderly, EntriesKeepOrder}
use Rattle.atom_mach.proofs.Booleans.{and_true}
use Rattle.bus_core.specs.Inner.{is_legal}
use Rattle.bus_core.specs.Origin.{Origin, start_of, IsFrom, HasOrigin}

-- Order.

then_orderly : (m : Option Made) (es : List Entry) (d : Made) → ((x : Made) → m ≡ Some x → IsOrderly x.next) → ((q : PlantedMachine) (r : Made) → IsOrderly q → made_by q es ≡ Some r → IsOrderly r.next) → then_made m (λ next. made_by next es) ≡ Some d → IsOrderly d.next
then_orderly None es d first rest e = absurd (cc)
then_orderly (Some x) es d first rest e = by_rest (made_by x.next es) refl e
  where
    by_rest : (o : Option Made) → made_by x.next es ≡ o → option_map (prefixed x.text) o ≡ Some d → IsOrderly d.next
    by_rest None is e = absurd (cc)
    by_rest (Some r) is e = let same : prefixed x.text r ≡ d = cc in rw (← same) (rest x.next r (first x refl) is)

lists_keep_order : EntriesKeepOrder → (p : PlantedMachine) (es : List Entry) (d : Made) → IsOrderly p → made_by p es ≡ Some d → IsOrderly d.next
unfolding made_by
lists_keep_order keeps p [] d order e = let same : ◌≡◌ {A = Made} (record { text = []; next = p }) d = cc in rw (← same) order
lists_keep_order keeps p (e ∷ es) d order made =
    then_orderly (makes p e) es d (λ x is. keeps p e x order is) (λ q r fine is. lists_keep_order keeps q es r fine is) made

-- the machine of a core that isn't lost is in order
pub orderly : StartsAreOrderly → EntriesKeepOrder → (entries : List Entry) (text : List ℕ) (p : PlantedMachine) (lost : Bool) → lost ≡ false → HasOrigin entries text p lost → IsOrderly p
orderly starts keeps entries text p lost here h =
    let o = h.0 in
    let last = h.1.last in
    let order = lists_keep_order keeps (start_of o) entries last (starts o.image o.symbols o.lines o.harts o.limit h.1.image) h.1.legal in
    subst (λ (d : Made). IsOrderly d.next) (h.1.now here) order

-- One entry more.

-- a legal entry is allowed
pub legal_may : (p : PlantedMachine) (e : Entry) → is_legal p e ≡ true → may p e ≡ true
legal_may p e is = (and_true (is_none p.ending) (may p e) is).1

-- what a legal entry makes
pub makes_effect : (p : PlantedMachine) (e : Entry) → is_legal p e ≡ true → makes p e ≡ Some (effect p e)
unfolding makes
makes_effect p e is = rw is refl

pub makes_none : (p : PlantedMachine) (e : Entry) → is_legal p e ≡ false → makes p e ≡ None
unfolding makes
makes_none p e is = rw is refl

pub made_not_none : (p : PlantedMachine) (e : Entry) → is_legal p e ≡ true → makes p e ≡ None → ⊥
made_not_none p e is none = let made : makes p e ≡ Some (effect p e) = makes_effect p e is in cc

one_entry : (p : PlantedMachine) (e : Entry) (d : Made) → makes p e ≡ Some d → made_by p (e ∷ []) ≡ Some d
unfolding made_by
one_entry p e d is = ap (λ (m : Option Made). then_made m (λ next. made_by next [])) is ∙ ap (λ (t : List ℕ). Some (record { text = t; next = d.next })) (append-nil d.text)

-- the core comes from the same origin after one legal entry more
pub one_more : ListsJoin → (o : Origin) (entries : List Entry) (text : List ℕ) (p : PlantedMachine) (e : Entry) (d : Made) (after : List Entry) (grown : List ℕ) (q : PlantedMachine) (was lost : Bool) →
    was ≡ false → makes p e ≡ Some d → after ≡ entries ++ (e ∷ []) → grown ≡ text ++ d.text → q ≡ d.next →
    IsFrom o entries text p was → IsFrom o after grown q lost
one_more joins o entries text p e d after grown q was lost here legal more longer next from =
    let before : made_by (start_of o) entries ≡ Some (record { text = text; next = p }) = from.legal ∙ ap Some (from.now here) in
    let last : Made = record { text = grown; next = q } in
    record {
      image = from.image;
      last = last;
      legal =
          ap (made_by (start_of o)) more
          ∙ joins (start_of o) entries (e ∷ [])
          ∙ ap (λ (m : Option Made). then_made m (λ next. made_by next (e ∷ []))) before
          ∙ ap (option_map (prefixed text)) (one_entry p e d legal)
          ∙ rw (longer, next) refl;
      now = λ _. refl;
    }

-- a lost core comes from where it came from, with the journal that it had
pub lost_from : (o : Origin) (entries after : List Entry) (text grown : List ℕ) (p q : PlantedMachine) (was lost : Bool) → after ≡ entries → lost ≡ true → IsFrom o entries text p was → IsFrom o after grown q lost
lost_from o entries after text grown p q was lost same is from = record {
  image = from.image;
  last = from.last;
  legal = ap (made_by (start_of o)) same ∙ from.legal;
  now = λ e. absurd (false≢true (sym e ∙ is));
}

-- the machine at the start comes from its origin
pub starts_from : (o : Origin) (entries : List Entry) (text : List ℕ) (p : PlantedMachine) (lost : Bool) → IsImage o.image → entries ≡ [] → text ≡ [] → p ≡ start_of o → IsFrom o entries text p lost
unfolding made_by
starts_from o entries text p lost image none empty start = record {
  image = image;
  last = record { text = text; next = p };
  legal = rw (none, empty, start) refl;
  now = λ _. refl;
}
