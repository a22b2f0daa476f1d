use Rattle.std.proofs.Common.{◌≡◌, sym, ap, ◌∙◌}
use Rattle.std.proofs.lemmas.Bool.{lt-ltb}
use Rattle.bus_core.specs.Core.{machine_of}
use Rattle.bus_calls.specs.Bus.{counted_of}
use Rattle.bus_calls.specs.Calls.{Call}
use Rattle.bus_calls.proofs.Turns.{turn-legal}
use Rattle.bus_calls.proofs.Done.{entry_held, none_held}
use Rattle.bus_calls.proofs.bus.CoreBus.turn.Goals as goal

pub make-requires-clause-legal : goal.make-requires-clause-legal
make-requires-clause-legal c = (turn-legal (machine_of c.args.self.now.core) c.args.hart c.in-Some.entry (lt-ltb _ _ c.requires.there) c.requires.free (sym (ap (λ (t : Call). t.entry) c.next_turn-turn.ensures) ∙ c.in-Some.is)).legal

pub make-requires-clause-quiet : goal.make-requires-clause-quiet
make-requires-clause-quiet c = (turn-legal (machine_of c.args.self.now.core) c.args.hart c.in-Some.entry (lt-ltb _ _ c.requires.there) c.requires.free (sym (ap (λ (t : Call). t.entry) c.next_turn-turn.ensures) ∙ c.in-Some.is)).quiet

pub make-requires-clause-counts : goal.make-requires-clause-counts
make-requires-clause-counts c = (turn-legal (machine_of c.args.self.now.core) c.args.hart c.in-Some.entry (lt-ltb _ _ c.requires.there) c.requires.free (sym (ap (λ (t : Call). t.entry) c.next_turn-turn.ensures) ∙ c.in-Some.is)).counts (counted_of c.args.self.now)

pub returns-in-Some-clause-held : goal.returns-in-Some-clause-held
returns-in-Some-clause-held c = entry_held c.entries_leave_others.ensures c.in-Some.entry c.args.self.now _ (turn-legal (machine_of c.args.self.now.core) c.args.hart c.in-Some.entry (lt-ltb _ _ c.requires.there) c.requires.free (sym (ap (λ (t : Call). t.entry) c.next_turn-turn.ensures) ∙ c.in-Some.is)).others c.make.ensures.made
