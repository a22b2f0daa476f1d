use Rattle.std.proofs.Common.{◌≡◌, ◌++◌, refl, ap, ◌∙◌, rules}
use Rattle.std.proofs.Math.Logic.{∥∥₁_map}
use Rattle.plant_mach.specs.Entries.{effect}
use Rattle.bus_core.specs.Core.{machine_of, entries_of, text_of}
use Rattle.bus_core.proofs.Origins.{applied, applied_origin, more_origin, same_from}
use Rattle.bus_core.proofs.outer.Core.apply_quiet.Goals as goal

pub invariant_of-self : goal.invariant_of-self
invariant_of-self c =
    let core = c.args.self.now in
    record { made = ∥∥₁_map core.made (λ h. (h.0, same_from h.0 (entries_of core) _ (text_of core) _ (machine_of core) _ core.lost _ refl (search rules) refl refl h.1)) }

pub invariant_of-self-in-Break-branch-2 : goal.invariant_of-self-in-Break-branch-2
invariant_of-self-in-Break-branch-2 c =
    let core = c.args.self.now in
    record { made = ∥∥₁_map core.made (λ h. (h.0, same_from h.0 (entries_of core) _ (text_of core) _ (machine_of core) _ core.lost _ c.in_err-try_push.ensures.err (search rules) refl refl h.1)) }

pub invariant_of-self-2 : goal.invariant_of-self-2
invariant_of-self-2 c =
    let core = c.args.self.now in
    let p = machine_of core in
    let same : c.reserve.new.self.items ≡ core.transcript.items = search rules in
    let text : c.make_quiet.new.out.items ≡ core.transcript.items ++ (effect p c.args.entry).text = c.make_quiet.ensures.done.text ∙ ap (λ t. t ++ (effect p c.args.entry).text) same in
    record { made = more_origin c.lists_join.ensures core c.args.entry _ _ _ _ c.requires.here c.requires.legal c.in_ok-try_push.ensures.ok text c.make_quiet.ensures.done.next }

pub returns-clause-made : goal.returns-clause-made
returns-clause-made c =
    let core = c.args.self.now in
    let p = machine_of core in
    let same : c.reserve.new.self.items ≡ core.transcript.items = search rules in
    let text : c.make_quiet.new.out.items ≡ core.transcript.items ++ (effect p c.args.entry).text = c.make_quiet.ensures.done.text ∙ ap (λ t. t ++ (effect p c.args.entry).text) same in
    applied core _ c.args.entry c.requires.legal c.make_quiet.ensures.done.next c.in_ok-try_push.ensures.ok text c.requires.here c.requires.here

pub returns-clause-origin : goal.returns-clause-origin
returns-clause-origin c = applied_origin c.lists_join.ensures c.entries_keep.ensures c.args.self.now _ c.args.entry (returns-clause-made c)
