-- An ending stays, and only a line runs out of memory.
use Rattle.std.proofs.Common.{◌≡◌, ℕ, ◌||◌, Bool, true, false, cond, Option, Some, None, is_some, refl, sym, ap, ◌∙◌}
use Rattle.std.proofs.lemmas.Bool.{false≢true}
use Rattle.mach_base.specs.declared.event.Ending.{Ending}
use Rattle.mach_base.specs.declared.event.Entry.{Entry}
use Rattle.deck_core.specs.contract.Told.{Told}
use Rattle.deck_core.specs.declared.plain.act.Act.{Act}
use Rattle.deck_core.specs.declared.plain.act.Act.TheVariants as act
use Rattle.deck_core.specs.declared.plain.act.Answer.{Answer}
use Rattle.deck_core.specs.contract.Calls.{is_lost_line, StaysEnded}
use Rattle.plant_mach.specs.Machine.{PlantedMachine}
use Rattle.bus_core.specs.Core.{machine_of}
use Rattle.bus_calls.specs.declared.bus.CoreBus.{CoreBus}
use Rattle.bus_calls.specs.Bus.{ending_of, is_over, told}
use Rattle.bus_calls.specs.Calls.{call_of, answer_over, is_close, IsLeft, IsMade, Does}
use Rattle.bus_calls.specs.Facts.{over_is}
use Rattle.bus_calls.proofs.Facts.{over_told, here_of}

over_kept : (call : Act) → is_lost_line (answer_over call) ≡ false
over_kept (act.HartStep h) = refl
over_kept (act.Check h) = refl
over_kept (act.Send k) = refl
over_kept (act.Pull i) = refl
over_kept (act.PlantStep at) = refl
over_kept act.PullStep = refl
over_kept (act.Plant i) = refl
over_kept (act.Close h) = refl
over_kept (act.Enter h late) = refl
over_kept (act.Line h) = refl
over_kept (act.PassStep h) = refl

left_ending : (closes : Bool) (a b : CoreBus) → IsLeft closes a b → ending_of b ≡ ending_of a
left_ending closes a b left =
    ap (λ l. cond l None (machine_of b.core).ending) left.core.lost
    ∙ ap (λ (p : PlantedMachine). cond a.core.lost None p.ending) left.core.machine

made_here : (o : Option Entry) (a b : CoreBus) → a.core.lost ≡ false → IsMade o a b → b.core.lost ≡ false
made_here None a b here left = left.core.lost ∙ here
made_here (Some e) a b here made = made.applied.after

pub stays_ended : (call : Act) (a b : CoreBus) (r : Answer) → Does call a r b → StaysEnded r (ending_of a) a.core.lost (ending_of b) b.core.lost
stays_ended call a b r does = record {
  ended = λ over. left_ending (is_close call) a b (does.over (sym (over_told a) ∙ over_is a ∙ over)).1;
  lost = by_over (is_over a) refl;
}
  where
    by_lost : is_over a ≡ false → (l : Bool) → is_lost_line r ≡ l → b.core.lost ≡ (is_lost_line r || a.core.lost)
    by_lost going true e = (does.lost going e).lost ∙ sym (ap (λ x. x || a.core.lost) e)
    by_lost going false e =
        made_here (call_of call (machine_of a.core)).entry a b (here_of a going) (does.going going e).1
        ∙ sym (here_of a going) ∙ sym (ap (λ x. x || a.core.lost) e)

    by_over : (o : Bool) → is_over a ≡ o → b.core.lost ≡ (is_lost_line r || a.core.lost)
    by_over true over =
        let left = does.over over in
        left.1.core.lost ∙ sym (ap (λ x. is_lost_line x || a.core.lost) left.0 ∙ ap (λ x. x || a.core.lost) (over_kept call))
    by_over false going = by_lost going (is_lost_line r) refl
