use Rattle.jrn_text.proofs.loose.+harts_from.Given as goal

abbrev pub decreases-harts_from : goal.decreases-harts_from
decreases-harts_from l = l.most
