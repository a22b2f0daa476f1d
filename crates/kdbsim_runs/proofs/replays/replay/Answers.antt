use Rattle.std.proofs.Common.{◌≡◌, ◌++◌, ◌∷◌, [], List, None, Err, length, sym, ap, ◌∙◌, append_assoc}
use Rattle.mach_base.specs.declared.event.Entry.{Entry}
use Rattle.plant_mach.specs.Entries.{Made, made_by, makes}
use Rattle.bus_core.specs.declared.outer.Core.{Core}
use Rattle.bus_core.specs.Core.{entries_of}
use Rattle.bus_core.specs.Origin.{start_of}
use Rattle.kdbsim_runs.proofs.replays.replay.Goals as goal

pub loop-entry-preserved : goal.loop-entry-preserved
loop-entry-preserved c =
    let done = c.loop-entry.yielded in
    let applied = c.in-Ok.ensures.made in
    record {
      kept = applied.after;
      made = applied.journal ∙ ap (λ (es : List Entry). es ++ c.in-Some.entry ∷ []) c.loop-entry.invariant.made;
      origin = c.in-Ok.ensures.origin.origin _ c.loop-entry.invariant.origin;
      left = c.loop-entry.invariant.left ∙ ap (λ t. done ++ t) c.in-Some.ensures.steps ∙ sym (append_assoc done (c.in-Some.entry ∷ []) c.next.new.self);
    }

pub returns-in-Err-NotLegal-clause-bad_step : goal.returns-in-Err-NotLegal-clause-bad_step
returns-in-Err-NotLegal-clause-bad_step c =
    let done = c.loop-entry.yielded in
    let inv = c.loop-entry.invariant in
    let refused = ap Err c.in-Err-NotLegal.field-0-is in
    let same = c.in-Err-NotLegal.ensures.kept refused in
    record {
      before = done;
      entry = c.in-Some.entry;
      after = c.next.new.self;
      split = inv.left ∙ ap (λ t. done ++ t) c.in-Some.ensures.steps;
      place = c.len-index.ensures ∙ ap length (c.journal.ensures ∙ ap (λ (core : Core). entries_of core) same ∙ inv.made);
      last = inv.origin.last;
      legal = ap (made_by (start_of _)) (sym inv.made) ∙ inv.origin.legal;
      wrong = ap (λ (d : Made). makes d.next c.in-Some.entry) (inv.origin.now inv.kept) ∙ (c.in-Err-NotLegal.ensures.not_legal inv.kept).0 refused;
    }
