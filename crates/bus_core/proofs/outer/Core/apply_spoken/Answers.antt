use Rattle.std.proofs.Common.{false, refl}
use Rattle.bus_core.proofs.Origins.{applied, applied_origin, more_origin, lost_made, lost_with}
use Rattle.bus_core.proofs.outer.Core.apply_spoken.Goals as goal

pub invariant_of-self : goal.invariant_of-self
invariant_of-self c = record { made = lost_made c.args.self.now _ _ _ refl }

pub returns-in_err-make_spoken-clause-origin : goal.returns-in_err-make_spoken-clause-origin
returns-in_err-make_spoken-clause-origin c = lost_with c.args.self.now _ c.make_spoken.ensures.harts c.make_spoken.ensures.limit refl refl

pub invariant_of-self-in-Break-branch-2 : goal.invariant_of-self-in-Break-branch-2
invariant_of-self-in-Break-branch-2 c = record { made = lost_made c.args.self.now _ _ _ c.in_err-try_push.ensures.err }

pub returns-in_err-try_push-clause-origin : goal.returns-in_err-try_push-clause-origin
returns-in_err-try_push-clause-origin c = lost_with c.args.self.now _ c.make_spoken.ensures.harts c.make_spoken.ensures.limit c.in_err-try_push.ensures.err refl

pub invariant_of-self-2 : goal.invariant_of-self-2
invariant_of-self-2 c =
    let done = c.in_ok-make_spoken.ensures.done in
    record { made = more_origin c.lists_join.ensures c.args.self.now c.args.entry _ _ _ false c.requires.here c.requires.legal c.in_ok-try_push.ensures.ok done.text done.next }

pub returns-clause-made : goal.returns-clause-made
returns-clause-made c =
    let done = c.in_ok-make_spoken.ensures.done in
    applied c.args.self.now _ c.args.entry c.requires.legal done.next c.in_ok-try_push.ensures.ok done.text c.requires.here refl

pub returns-clause-origin : goal.returns-clause-origin
returns-clause-origin c = applied_origin c.lists_join.ensures c.entries_keep.ensures c.args.self.now _ c.args.entry (returns-clause-made c)
