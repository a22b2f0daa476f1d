use Rattle.std.proofs.Common.{◌≡◌, List, ◌∷◌, Option, Some, None, sym, ◌∙◌}
use Rattle.bus_plant.specs.Saved.{saved_word}
use Rattle.bus_plant.specs.declared.saved.Saved.{Saved}
use Rattle.bus_plant.proofs.WithWords.{fetch-there, fetch-elsewhere, small-saved, has_address-saved}
use Rattle.bus_plant.proofs.planted.Planted.fetch.Goals as goal

pub returns-in-Some : goal.returns-in-Some
returns-in-Some c =
    let words : List (Option Saved) = c.self.inside.step ∷ c.self.inside.places in
    let there : saved_word words c.args.addr ≡ Some c.in-Some.word = sym c.saved_at.ensures ∙ c.in-Some.is in
    let kept = c.self.invariant.kept in
    rw (← c.self.view_is) (sym (fetch-there c.self.inside.raw.memory words c.args.addr c.in-Some.word kept.text (small-saved c.self.inside.raw.memory words c.args.addr c.in-Some.word kept.ebreaks there) there))

pub returns-in-None : goal.returns-in-None
returns-in-None c =
    let words : List (Option Saved) = c.self.inside.step ∷ c.self.inside.places in
    let none : saved_word words c.args.addr ≡ None = sym c.saved_at.ensures ∙ c.in-None.is in
    rw (← c.self.view_is) (c.fetch.ensures ∙ sym (fetch-elsewhere c.self.inside.raw.memory words c.args.addr c.self.invariant.kept.text (has_address-saved words c.args.addr none)))
