use Rattle.std.proofs.Common.{◌≡◌, ◌∷◌, ap, refl, sym, ◌∙◌}
use Rattle.mach_base.specs.Machine.{Memory}
use Rattle.mem_map.specs.Pages.{PagedMemory, page_base, page_length, with_text}
use Rattle.bus_plant.specs.Saved.{addresses, address_of}
use Rattle.bus_plant.specs.Planted.{PlantedPages}
use Rattle.bus_plant.proofs.Paging.{free-kept, free-slots, free-words}
use Rattle.bus_plant.proofs.planted.Planted.put_page.Goals as goal

pub put_page-requires-clause-size : goal.put_page-requires-clause-size
put_page-requires-clause-size c =
    let words = c.self.inside.step ∷ c.self.inside.places in
    let free = free-slots c.self.inside.raw.memory c.self.inside.places c.self.inside.step (rw (← c.self.view_is) at c.requires.places) (rw (← c.self.view_is) at c.requires.step) in
    c.requires.size ∙ ap (λ (p : PlantedPages). page_length p.planted.memory.segments c.args.number) (sym c.self.view_is) ∙ ap (λ (m : Memory). page_length m.segments c.args.number) (free-words c.self.inside.raw.memory words free)

pub invariant_of-self : goal.invariant_of-self
invariant_of-self c =
    let free = free-slots c.self.inside.raw.memory c.self.inside.places c.self.inside.step (rw (← c.self.view_is) at c.requires.places) (rw (← c.self.view_is) at c.requires.step) in
    record { count = c.self.invariant.count; kept = free-kept c.put_page.new.self.memory (c.self.inside.step ∷ c.self.inside.places) free }

pub returns : goal.returns
returns c =
    let raw = c.self.inside.raw in
    let words = c.self.inside.step ∷ c.self.inside.places in
    let free = free-slots raw.memory c.self.inside.places c.self.inside.step (rw (← c.self.view_is) at c.requires.places) (rw (← c.self.view_is) at c.requires.step) in
    let before = ap (λ (m : Memory). with_text m (page_base m.segments c.args.number) c.args.text.now) (sym (free-words raw.memory words free)) in
    let e = c.put_page.ensures.written in
    let memory = free-words c.put_page.new.self.memory words free ∙ ap (λ (m : PagedMemory). m.memory) e ∙ before in
    let marks = ap (λ (m : PagedMemory). m.changed) e in
    rw (← c.self.view_is) (λ j. record { planted = record { memory = memory j; places = addresses c.self.inside.places; step = address_of c.self.inside.step }; changed = marks j })
