use Rattle.std.proofs.Common.{◌≡◌, ◌<◌, ℕ, ap, subst}
use Rattle.atom_mach.specs.Work.{work_left}
use Rattle.atom_mach.specs.Core.{state_of}
use Rattle.atom_mach.proofs.atom.Atom.turn.Goals as goal

pub returns-clause-less : goal.returns-clause-less
returns-clause-less c =
    let same : work_left (state_of c.self.inside.core) ≡ work_left c.args.self.now = ap work_left c.self.view_is in
    let less : work_left (state_of c.turn.new.self) < work_left (state_of c.self.inside.core) = c.in_ok-turn.ensures.less in
    subst (λ (n : ℕ). work_left (state_of c.turn.new.self) < n) same less
