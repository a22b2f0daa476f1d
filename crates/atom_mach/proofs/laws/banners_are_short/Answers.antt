use Rattle.atom_mach.proofs.Lengths.{banners_short}
use Rattle.atom_mach.proofs.laws.banners_are_short.Goals as goal

pub returns : goal.returns
returns c = banners_short
