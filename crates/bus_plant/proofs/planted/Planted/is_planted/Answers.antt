use Rattle.std.proofs.Common.{◌∷◌, is_some, sym, ap, ◌∙◌}
use Rattle.bus_plant.proofs.Lookups.{is_some-saved}
use Rattle.bus_plant.proofs.planted.Planted.is_planted.Goals as goal

pub returns-in-Some : goal.returns-in-Some
returns-in-Some c =
    rw (← c.self.view_is) (sym (ap is_some (sym c.saved_at.ensures ∙ c.in-Some.is)) ∙ is_some-saved (c.self.inside.step ∷ c.self.inside.places) c.args.addr)

pub returns-in-None : goal.returns-in-None
returns-in-None c =
    rw (← c.self.view_is) (sym (ap is_some (sym c.saved_at.ensures ∙ c.in-None.is)) ∙ is_some-saved (c.self.inside.step ∷ c.self.inside.places) c.args.addr)
