use Rattle.std.proofs.Common.{ap}
use Rattle.bus_plant.specs.Planted.{PlantedPages}
use Rattle.bus_plant.proofs.Paging.{raw-kept}
use Rattle.bus_plant.proofs.Slots.{place-text, pulled_place-kept, pulled_place-view}
use Rattle.bus_plant.proofs.planted.Planted.pull.Goals as goal

pub restore_word-requires : goal.restore_word-requires
restore_word-requires c =
    let seen = ap (λ (p : PlantedPages). p.planted) c.self.view_is in
    place-text c.self.inside.raw.memory c.self.inside.places c.self.inside.step c.args.self.now.planted c.args.i c.from.result c.in-Some.saved c.self.invariant seen c.requires.place c.from.ensures c.in-Some.is

pub invariant_of-self : goal.invariant_of-self
invariant_of-self c =
    let seen = ap (λ (p : PlantedPages). p.planted) c.self.view_is in
    rw c.from-in-Some.ensures (pulled_place-kept c.self.inside.raw.memory c.self.inside.places c.self.inside.step c.args.self.now.planted c.args.i c.from.result c.in-Some.saved c.self.invariant seen c.requires.place c.from.ensures c.in-Some.is c.restore_word.new.raw.memory c.restore_word.ensures.memory)

pub returns-in-Some-clause-planted : goal.returns-in-Some-clause-planted
returns-in-Some-clause-planted c =
    let seen = ap (λ (p : PlantedPages). p.planted) c.self.view_is in
    rw c.from-in-Some.ensures (pulled_place-view c.self.inside.raw.memory c.self.inside.places c.self.inside.step c.args.self.now.planted c.args.i c.from.result c.in-Some.saved c.self.invariant seen c.requires.place c.from.ensures c.in-Some.is c.restore_word.new.raw.memory c.restore_word.ensures.memory)

pub returns-in-Some-clause-pages : goal.returns-in-Some-clause-pages
returns-in-Some-clause-pages c = rw (← c.self.view_is) (raw-kept c.self.inside.raw c.restore_word.new.raw _ _ _ _ c.self.invariant.kept (invariant_of-self c).kept c.restore_word.ensures.pages)
