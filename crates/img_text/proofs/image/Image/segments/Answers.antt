use Rattle.std.proofs.Common.{sym, ◌∙◌}
use Rattle.std.proofs.lemmas.List.{length-map}
use Rattle.img_text.proofs.Parts.{segments_of-joined}
use Rattle.img_text.proofs.image.Image.segments.Goals as goal

pub returns-clause-value : goal.returns-clause-value
returns-clause-value c = c.as_slice.ensures.value ∙ rw (← c.self.view_is) (sym (segments_of-joined _ _ (rw length-map c.self.invariant.0)))
