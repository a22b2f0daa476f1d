use Rattle.bus_core.proofs.Origins.{applied, applied_origin, more_origin}
use Rattle.bus_core.proofs.outer.Core.make.Goals as goal

pub invariant_of-self : goal.invariant_of-self
invariant_of-self c =
    let done = c.make_quiet.ensures.done in
    record { made = more_origin c.lists_join.ensures c.args.self.now c.args.entry _ _ _ _ c.requires.here c.requires.legal c.push.ensures.entries done.text done.next }

pub returns-clause-made : goal.returns-clause-made
returns-clause-made c =
    let done = c.make_quiet.ensures.done in
    applied c.args.self.now _ c.args.entry c.requires.legal done.next c.push.ensures.entries done.text c.requires.here c.requires.here

pub returns-clause-origin : goal.returns-clause-origin
returns-clause-origin c = applied_origin c.lists_join.ensures c.entries_keep.ensures c.args.self.now _ c.args.entry (returns-clause-made c)
