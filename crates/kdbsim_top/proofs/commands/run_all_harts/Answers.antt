use Rattle.std.proofs.Common.{◌≡◌, ◌≢◌, ◌∙◌, List, None, ap, sym, subst}
use Rattle.jrn_text.specs.Journal.{journal_text}
use Rattle.bus_core.specs.declared.outer.Core.{Core}
use Rattle.bus_core.specs.Core.{entries_of, machine_of, ComesFrom}
use Rattle.bus_core.specs.Origin.{Origin}
use Rattle.kdbsim_runs.specs.Record.{IsRecord}
use Rattle.kdbsim_top.specs.Stages.{origin_of}
use Rattle.kdbsim_top.proofs.Paces.{comes_by, ends_itself}
use Rattle.kdbsim_top.proofs.commands.run_all_harts.Goals as goal

pub returns : goal.returns
returns g c =
    let bus = c.in_ok-bus.bus in
    let s = c.args.start in
    let o : Origin = origin_of s c.args.options in
    let from = comes_by s.image s.names s.script c.pace_of-pace.result.harts c.args.options.harts c.pace_of-pace.result.limit c.args.options.steps bus.core
    c.pace_of-pace.ensures.harts c.pace_of-pace.ensures.limit c.in_ok-bus.ensures.origin in
    let told = c.in_ok-told.told in
    let recorded = subst (λ (core : Core). IsRecord o (entries_of core) told.ending told.transcript.items) c.core.ensures (c.in_ok-told.ensures o (subst (ComesFrom o) (sym c.core.ensures) from)) in
    record {
      entries = entries_of bus.core;
      recorded = recorded;
      ends = ends_itself c.never_legal.ensures o bus.core told.ending told.transcript.items from c.in_ok-bus.ensures.kept c.in_ok-bus.ensures.ended recorded;
      text_is = c.in_ok-journal.ensures ∙ ap (λ (core : Core). journal_text c.args.options.harts c.args.options.steps (entries_of core)) c.core-2.ensures;
    }
