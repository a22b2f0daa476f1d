use Rattle.std.proofs.Common.{◌≡◌, ◌<◌, ◌≤◌, ◌^◌, sym, subst, arith}
use Rattle.atom_mach.specs.State.{hart_count}
use Rattle.bus_core.specs.Core.{machine_of}
use Rattle.bus_calls.specs.declared.bus.TheConstants.{MOST_SENDS}
use Rattle.bus_calls.specs.Bus.{counted_of}
use Rattle.bus_calls.proofs.Facts.{here_of}
use Rattle.bus_calls.proofs.Making.{journal_enough, text_enough, legal_of, bounded_of, keeps_running, quiet_text, quiet_line, counted_next, sends_kept}
use Rattle.bus_calls.proofs.bus.CoreBus.make.Goals as goal

pub make-requires-clause-journal : goal.make-requires-clause-journal
make-requires-clause-journal c = journal_enough c.entries_leave_room.ensures c.args.self.now c.args.entry c.requires.going

pub make-requires-clause-text : goal.make-requires-clause-text
make-requires-clause-text c = text_enough c.entries_leave_room.ensures c.args.self.now c.requires.going

pub invariant_of-self : goal.invariant_of-self
invariant_of-self c =
    let a = c.args.self.now in
    let e = c.args.entry in
    let made = c.make.ensures in
    let few : c.sends_after-self.result ≤ MOST_SENDS = omega (arith, sends_kept e (counted_of a) c.keeps_bounds.ensures.few_harts c.keeps_bounds.ensures.lines c.requires.counts a.few_sends, c.sends_after-self.ensures) in
    record {
      running = keeps_running c.entries_leave_room.ensures c.entries_leave_awake.ensures a c.make.new.self e _ _ c.requires.going c.requires.legal c.requires.counts made.made c.sends_after-self.ensures c.stepped_after-self.ensures
          (bounded_of (machine_of a.core) c.keeps_order.ensures c.keeps_bounds.ensures.few_harts c.keeps_bounds.ensures.pass) made.journal_room
          (λ bounded runs ends. quiet_text c.entries_leave_room.ensures a c.make.new.self e c.requires.legal (quiet_line e c.requires.quiet) made.text_room bounded runs ends);
      few_sends = few;
      stood_mask = subst (λ n. a.stood.mask < 2 ^ n) (sym made.origin.harts) a.stood_mask;
      stood_lines = a.stood_lines;
    }

pub returns-clause-made : goal.returns-clause-made
returns-clause-made c = record { applied = c.make.ensures.made; counted = counted_next c.args.self.now c.make.new.self c.args.entry _ _ c.requires.going c.requires.legal c.make.ensures.made c.sends_after-self.ensures c.stepped_after-self.ensures }
