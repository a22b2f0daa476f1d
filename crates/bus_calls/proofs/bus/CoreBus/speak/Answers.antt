use Rattle.std.proofs.Common.{◌≡◌, ◌<◌, ◌≤◌, ◌^◌, true, false, refl, sym, ap, subst, ◌∙◌, arith}
use Rattle.std.proofs.lemmas.Bool.{false≢true}
use Rattle.std.proofs.lemmas.Result.{err_from_is_err_and}
use Rattle.mach_base.specs.declared.limits.TheConstants.{MOST_LINES}
use Rattle.atom_mach.specs.State.{hart_count}
use Rattle.plant_told.specs.Told.{mask_of}
use Rattle.bus_core.specs.Core.{machine_of}
use Rattle.bus_calls.specs.Bus.{counted_of}
use Rattle.bus_calls.proofs.Facts.{here_of}
use Rattle.bus_calls.proofs.Ranges.{held_below}
use Rattle.bus_calls.proofs.Seen.{held_now}
use Rattle.bus_calls.proofs.Making.{journal_enough, legal_of, bounded_of, keeps_running, spoken_text, spoken_counts, spoken_sends, counted_next}
use Rattle.bus_calls.proofs.bus.CoreBus.speak.Goals as goal

pub speak-requires-clause-journal : goal.speak-requires-clause-journal
speak-requires-clause-journal c = journal_enough c.entries_leave_room.ensures c.args.self.now c.args.entry c.requires.going

pub invariant_of-self : goal.invariant_of-self
invariant_of-self c =
    let a = c.args.self.now in
    let bounds = c.keeps_bounds.ensures in
    let short : c.lines.result ≤ MOST_LINES = omega (arith, bounds.lines, c.lines.ensures) in
    record {
      running = ∣ (λ here none. absurd (false≢true (sym here ∙ c.in_err-speak.ensures.lost))) ∣₁;
      few_sends = a.few_sends;
      stood_mask = subst (λ n. c.held.result < 2 ^ n) (sym c.speak.ensures.origin.harts) (subst (λ m. m < 2 ^ hart_count (machine_of a.core).machine) (sym c.held.ensures) (held_below _ _ bounds.seated));
      stood_lines = short;
    }

pub returns-in_err-speak-clause-lost : goal.returns-in_err-speak-clause-lost
returns-in_err-speak-clause-lost c =
    let a = c.args.self.now in
    let p = err_from_is_err_and c.from_residual.result c.from_residual.ensures.1 in
    rw p.1 (record {
      lost = c.in_err-speak.ensures.lost;
      journal = c.in_err-speak.ensures.entries;
      sends = refl;
      stood = ap (λ m. record { mask = m; lines = c.lines.result }) (c.held.ensures ∙ held_now a c.requires.going) ∙ ap (λ l. record { mask = mask_of a.released (machine_of a.core); lines = l }) c.lines.ensures;
    })

pub invariant_of-self-2 : goal.invariant_of-self-2
invariant_of-self-2 c =
    let a = c.args.self.now in
    let e = c.args.entry in
    let bounds = c.keeps_bounds.ensures in
    let short : c.lines.result ≤ MOST_LINES = omega (arith, bounds.lines, c.lines.ensures) in
    record {
      running = keeps_running c.entries_leave_room.ensures c.entries_leave_awake.ensures a c.speak.new.self e _ _ c.requires.going c.requires.legal (spoken_counts e (counted_of a) c.requires.spoken) c.in_ok-speak.ensures.made (sym (spoken_sends e a.sends c.requires.spoken)) c.stepped_after-self.ensures
          (bounded_of (machine_of a.core) c.keeps_order.ensures bounds.few_harts bounds.pass) c.in_ok-speak.ensures.journal_room
          (λ bounded runs ends. spoken_text c.entries_leave_room.ensures a c.speak.new.self e _ c.requires.legal c.requires.spoken c.text_after_line-room.ensures c.in_ok-speak.ensures.text_room ends);
      few_sends = a.few_sends;
      stood_mask = subst (λ n. c.held.result < 2 ^ n) (sym c.speak.ensures.origin.harts) (subst (λ m. m < 2 ^ hart_count (machine_of a.core).machine) (sym c.held.ensures) (held_below _ _ bounds.seated));
      stood_lines = short;
    }

pub returns-clause-made : goal.returns-clause-made
returns-clause-made c = record { applied = c.in_ok-speak.ensures.made; counted = counted_next c.args.self.now c.speak.new.self c.args.entry _ _ c.requires.going c.requires.legal c.in_ok-speak.ensures.made (sym (spoken_sends c.args.entry c.args.self.now.sends c.requires.spoken)) c.stepped_after-self.ensures }
