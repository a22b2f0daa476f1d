use Rattle.std.proofs.Common.{◌≡◌, ◌∙◌, List, ap, sym, subst}
use Rattle.mach_base.specs.declared.event.Entry.{Entry}
use Rattle.plan_text.specs.Ticks.{ticks_of}
use Rattle.jrn_text.specs.Journal.{journal_text}
use Rattle.hart_prog.specs.Plan.{hart_numbers}
use Rattle.bus_core.specs.declared.outer.Core.{Core}
use Rattle.bus_core.specs.Core.{entries_of, ComesFrom}
use Rattle.bus_core.specs.Origin.{Origin}
use Rattle.kdbsim_runs.specs.Record.{IsRecord}
use Rattle.kdbsim_top.specs.Stages.{origin_of}
use Rattle.kdbsim_top.proofs.Paces.{ticked_by}
use Rattle.kdbsim_top.proofs.commands.tick_all.Goals as goal

pub returns : goal.returns
returns c =
    let bus = c.in_ok-bus.bus in
    let s = c.args.start in
    let o : Origin = origin_of s c.args.options in
    let plan = hart_numbers (ticks_of c.args.plan.now) in
    let ticked = ticked_by s.image s.names s.script c.pace_of.result.harts c.args.options.harts c.pace_of.result.limit c.args.options.steps c.pace_of.result.rounds c.args.options.rounds plan bus
    c.pace_of.ensures.harts c.pace_of.ensures.limit c.pace_of.ensures.rounds c.in_ok-bus.ensures in
    let told = c.in_ok-told.told in
    record {
      bus = bus;
      ticked = ticked;
      recorded = subst (λ (core : Core). IsRecord o (entries_of core) told.ending told.transcript.items) c.core.ensures (c.in_ok-told.ensures o (subst (ComesFrom o) (sym c.core.ensures) ticked.origin));
      text_is = c.in_ok-journal.ensures ∙ ap (λ (core : Core). journal_text c.args.options.harts c.args.options.steps (entries_of core)) c.core-2.ensures;
    }
