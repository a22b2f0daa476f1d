use Rattle.std.proofs.Common.{◌∷◌, ap, ◌∙◌}
use Rattle.mach_base.specs.Machine.{is_text_word}
use Rattle.bus_plant.specs.Planted.{PlantedPages}
use Rattle.bus_plant.proofs.Paging.{raw-kept}
use Rattle.bus_plant.proofs.Slots.{step-kept, step-view}
use Rattle.bus_plant.proofs.WithWords.{is_text-with_words}
use Rattle.bus_plant.proofs.planted.Planted.plant_step.Goals as goal

pub save_word-requires : goal.save_word-requires
save_word-requires c = is_text-with_words c.self.inside.raw.memory (c.self.inside.step ∷ c.self.inside.places) c.args.addr ∙ ap (λ (p : PlantedPages). is_text_word p.planted.memory c.args.addr) c.self.view_is ∙ c.requires.text

pub invariant_of-self : goal.invariant_of-self
invariant_of-self c =
    let seen = ap (λ (p : PlantedPages). p.planted) c.self.view_is in
    step-kept c.self.inside.raw.memory c.save_word.new.raw.memory c.self.inside.places c.self.inside.step c.args.self.now.planted c.save_word.result c.self.invariant seen c.requires.free c.args.addr c.requires.unplanted c.save_word.ensures.addr c.save_word.ensures.saved

pub returns-clause-planted : goal.returns-clause-planted
returns-clause-planted c =
    let seen = ap (λ (p : PlantedPages). p.planted) c.self.view_is in
    step-view c.self.inside.raw.memory c.save_word.new.raw.memory c.self.inside.places c.self.inside.step c.args.self.now.planted c.save_word.result c.self.invariant seen c.requires.free c.args.addr c.requires.unplanted c.save_word.ensures.addr c.save_word.ensures.saved

pub returns-clause-pages : goal.returns-clause-pages
returns-clause-pages c = rw (← c.self.view_is) (raw-kept c.self.inside.raw c.save_word.new.raw _ _ _ _ c.self.invariant.kept (invariant_of-self c).kept c.save_word.ensures.pages)
