-- Cores of one origin.
use Rattle.std.proofs.lemmas.List.{append-nil}
use Rattle.std.specs.Prelude.{vec_len}
use Rattle.std.proofs.Math.Logic.{∥∥₁_map}
use Rattle.std.proofs.Common.{◌≡◌, ℕ, Bool, true, false, List, [], ◌∷◌, ◌++◌, Some, refl, sym, ap, ◌∙◌, arith}
use Rattle.mach_base.specs.declared.event.Entry.{Entry}
use Rattle.atom_mach.specs.State.{hart_count}
use Rattle.plant_mach.specs.Machine.{PlantedMachine}
use Rattle.plant_mach.specs.Entries.{Made, effect, made_by}
use Rattle.plant_mach.specs.Laws.{ListsJoin, EntriesKeep}
use Rattle.plant_mach.specs.Reading.{LegalListsAreRuns, LegalListsPrintTranscripts}
use Rattle.bus_core.specs.declared.outer.Core.{Core}
use Rattle.bus_core.specs.Inner.{is_legal}
use Rattle.bus_core.specs.Origin.{Origin, start_of, IsFrom, HasOrigin}
use Rattle.bus_core.specs.Core.{machine_of, entries_of, text_of, ComesFrom, IsSame, Applied, SameOrigin, IsRunOf}
use Rattle.bus_core.proofs.Lists.{makes_effect, one_more, lost_from}

-- a core to which an entry was applied
pub applied_origin : ListsJoin → EntriesKeep → (a b : Core) (e : Entry) → Applied a e b → SameOrigin a b
applied_origin joins keeps a b e did =
    let kept = keeps (machine_of a) e did.made did.legal in
    record {
      harts = ap (λ (p : PlantedMachine). hart_count p.machine) did.machine ∙ kept.harts;
      limit = ap (λ (p : PlantedMachine). p.machine.limit) did.machine ∙ kept.limit;
      journal = (e ∷ [], did.journal);
      origin = λ o from. one_more joins o (entries_of a) (text_of a) (machine_of a) e did.made (entries_of b) (text_of b) (machine_of b) a.lost b.lost did.before did.legal did.journal did.text did.machine from;
    }

pub same_from : (o : Origin) (entries after : List Entry) (text grown : List ℕ) (p q : PlantedMachine) (was lost : Bool) → after ≡ entries → grown ≡ text → q ≡ p → lost ≡ was → IsFrom o entries text p was → IsFrom o after grown q lost
same_from o entries after text grown p q was lost journal more next alike from = record {
  image = from.image;
  last = from.last;
  legal = ap (made_by (start_of o)) journal ∙ from.legal;
  now = λ here. from.now (sym alike ∙ here) ∙ rw (more, next) refl;
}

-- the entry was applied to the core, where it was legal and leaves what it makes
pub applied : (a b : Core) (e : Entry) → is_legal (machine_of a) e ≡ true → machine_of b ≡ (effect (machine_of a) e).next → entries_of b ≡ entries_of a ++ (e ∷ []) → text_of b ≡ text_of a ++ (effect (machine_of a) e).text → a.lost ≡ false → b.lost ≡ false → Applied a e b
applied a b e legal machine journal text before after = record {
  made = effect (machine_of a) e;
  legal = makes_effect (machine_of a) e legal;
  machine = machine;
  journal = journal;
  text = text;
  before = before;
  after = after;
}

-- the origin of a core after a legal entry more
pub more_origin : ListsJoin → (a : Core) (e : Entry) (entries : List Entry) (text : List ℕ) (p : PlantedMachine) (lost : Bool) → a.lost ≡ false → is_legal (machine_of a) e ≡ true →
    entries ≡ entries_of a ++ (e ∷ []) → text ≡ text_of a ++ (effect (machine_of a) e).text → p ≡ (effect (machine_of a) e).next → ∥ HasOrigin entries text p lost ∥₁
more_origin joins a e entries text p lost here legal journal more next =
    ∥∥₁_map a.made (λ h. (h.0, one_more joins h.0 (entries_of a) (text_of a) (machine_of a) e (effect (machine_of a) e) entries text p a.lost lost here (makes_effect (machine_of a) e legal) journal more next h.1))

-- the origin of a lost core, with the journal that it had
pub lost_made : (a : Core) (entries : List Entry) (text : List ℕ) (p : PlantedMachine) → entries ≡ entries_of a → ∥ HasOrigin entries text p true ∥₁
lost_made a entries text p same = ∥∥₁_map a.made (λ h. (h.0, lost_from h.0 (entries_of a) entries (text_of a) text (machine_of a) p a.lost true same refl h.1))

-- a core of which nothing was changed
pub same_origin : (a b : Core) → IsSame a b → SameOrigin a b
same_origin a b same = record {
  harts = ap (λ (p : PlantedMachine). hart_count p.machine) same.machine;
  limit = ap (λ (p : PlantedMachine). p.machine.limit) same.machine;
  journal = ([], same.journal ∙ sym (append-nil (entries_of a)));
  origin = λ o from. same_from o (entries_of a) (entries_of b) (text_of a) (text_of b) (machine_of a) (machine_of b) a.lost b.lost same.journal same.text same.machine same.lost from;
}

-- a core that was lost
lost_origin : (a b : Core) → hart_count (machine_of b).machine ≡ hart_count (machine_of a).machine → (machine_of b).machine.limit ≡ (machine_of a).machine.limit → entries_of b ≡ entries_of a → b.lost ≡ true → SameOrigin a b
lost_origin a b harts limit journal lost = record {
  harts = harts;
  limit = limit;
  journal = ([], journal ∙ sym (append-nil (entries_of a)));
  origin = λ o from. lost_from o (entries_of a) (entries_of b) (text_of a) (text_of b) (machine_of a) (machine_of b) a.lost b.lost journal lost from;
}

-- the same, by the contexts that each has
pub lost_with : (a b : Core) → vec_len b.inner.contexts ≡ vec_len a.inner.contexts → (machine_of b).machine.limit ≡ (machine_of a).machine.limit → entries_of b ≡ entries_of a → b.lost ≡ true → SameOrigin a b
lost_with a b harts limit journal lost = lost_origin a b (omega (arith, harts, b.inner.contexts.ok.0, a.inner.contexts.ok.0)) limit journal lost

-- what a core has come to is a run of the atomic machine
pub is_run : LegalListsAreRuns → LegalListsPrintTranscripts → (o : Origin) (c : Core) → ComesFrom o c → IsRunOf o c
is_run runs prints o c from = record {
  run = λ here. runs o.image o.symbols o.lines o.harts o.limit (entries_of c) (record { text = text_of c; next = machine_of c }) from.image (from.legal ∙ ap Some (from.now here));
  transcript = λ here ending. prints o.image o.symbols o.lines o.harts o.limit (entries_of c) (record { text = text_of c; next = machine_of c }) ending from.image (from.legal ∙ ap Some (from.now here));
}
