use Rattle.std.proofs.Common.{◌≡◌, Some, None, sym, ap, ◌∙◌}
use Rattle.bus_plant.specs.Saved.{planted_memory, AreKept}
use Rattle.bus_plant.proofs.Paging.{raw-kept}
use Rattle.bus_plant.proofs.Slots.{pull_step-kept, pull_step-view}
use Rattle.bus_plant.proofs.planted.Planted.pull_step.Goals as goal

pub invariant_of-self : goal.invariant_of-self
invariant_of-self c =
    let are : AreKept c.self.inside.raw.memory c.self.inside.places (Some c.in-Some.saved) = rw (← c.in-Some.is) c.self.invariant in
    pull_step-kept c.self.inside.raw.memory c.restore_word.new.raw.memory c.self.inside.places c.in-Some.saved are c.restore_word.ensures.memory

pub returns-in-Some-clause-planted : goal.returns-in-Some-clause-planted
returns-in-Some-clause-planted c =
    let are : AreKept c.self.inside.raw.memory c.self.inside.places (Some c.in-Some.saved) = rw (← c.in-Some.is) c.self.invariant in
    rw (← c.self.view_is) (pull_step-view c.self.inside.raw.memory c.restore_word.new.raw.memory c.self.inside.places c.in-Some.saved are c.restore_word.ensures.memory ∙ ap (λ s. record (planted_memory c.self.inside.raw.memory c.self.inside.places s) { step = None }) (sym c.in-Some.is))

pub returns-in-Some-clause-pages : goal.returns-in-Some-clause-pages
returns-in-Some-clause-pages c = rw (← c.self.view_is) (raw-kept c.self.inside.raw c.restore_word.new.raw _ _ _ _ c.self.invariant.kept (invariant_of-self c).kept c.restore_word.ensures.pages)
