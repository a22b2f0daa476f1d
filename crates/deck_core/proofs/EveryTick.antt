-- Every tick keeps the invariant, and so does every list of ticks.
use Rattle.std.proofs.Common.{[], ◌∷◌, refl, sym, subst}
use Rattle.deck_core.specs.Invariant.{Sound}
use Rattle.deck_core.specs.laws.Keeps.{KeepsIn, EveryTickKeeps, EveryPlanKeeps}
use Rattle.deck_core.specs.declared.plain.phase.Phase.{Phase}
use Rattle.deck_core.specs.declared.plain.phase.Phase.TheVariants as phase
use Rattle.deck_core.proofs.Outside.{called_keeps, mark_keeps, parked_keeps, unmark_keeps, wish_keeps, want_keeps, finished_keeps}
use Rattle.deck_core.proofs.RunPhase.{run_keeps}
use Rattle.deck_core.proofs.Elects.{own_keeps, shut_keeps, send_keeps}
use Rattle.deck_core.proofs.Gathers.{gather_keeps}
use Rattle.deck_core.proofs.Enters.{enter_keeps}
use Rattle.deck_core.proofs.Sessions.{pull_keeps, lines_keeps, plant_step_keeps, pass_step_keeps, pull_step_keeps, plant_keeps}
use Rattle.deck_core.proofs.Leaves.{close_keeps, open_gate_keeps, drop_keeps, free_keeps}

-- each phase keeps the invariant
pub keeps_in : (p : Phase) → KeepsIn p
keeps_in phase.Run = run_keeps
keeps_in phase.Called = called_keeps
keeps_in (phase.Mark gate) = mark_keeps gate
keeps_in (phase.Parked gate) = parked_keeps gate
keeps_in (phase.Unmark gate) = unmark_keeps gate
keeps_in phase.Wish = wish_keeps
keeps_in phase.Want = want_keeps
keeps_in phase.Own = own_keeps
keeps_in phase.Shut = shut_keeps
keeps_in (phase.Send to) = send_keeps to
keeps_in (phase.Gather looks) = gather_keeps looks
keeps_in (phase.Enter kept reopens) = enter_keeps kept reopens
keeps_in (phase.Pull kept left) = pull_keeps kept left
keeps_in (phase.Lines kept) = lines_keeps kept
keeps_in (phase.PlantStep kept at) = plant_step_keeps kept at
keeps_in (phase.PassStep kept planted) = pass_step_keeps kept planted
keeps_in (phase.PullStep kept follows) = pull_step_keeps kept follows
keeps_in (phase.Plant kept left) = plant_keeps kept left
keeps_in (phase.Close kept) = close_keeps kept
keeps_in phase.OpenGate = open_gate_keeps
keeps_in phase.Drop = drop_keeps
keeps_in phase.Free = free_keeps
keeps_in phase.Finished = finished_keeps

pub every_tick_keeps : EveryTickKeeps
every_tick_keeps c h next s lt t =
    subst Sound (sym t.ticked) (keeps_in (c.phase h) c h t.answer t.after s lt refl t.honest)

pub every_plan_keeps : EveryPlanKeeps
every_plan_keeps [] c last s t = subst Sound (sym t) s
every_plan_keeps (h ∷ plan) c last s t =
    every_plan_keeps plan t.1.0 last (every_tick_keeps c h t.1.0 s t.0 t.1.1.0) t.1.1.1
