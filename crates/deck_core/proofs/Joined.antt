-- For words that threads share: a hart that has seen an ending may count as in Run again, and in which phases the gate may
-- be shut after an answer.
use Rattle.std.proofs.Common.{◌≡◌, Bool, true, false, refl, sym, ◌∙◌, ap}
use Rattle.std.proofs.lemmas.Bool.{both_ways}
use Rattle.deck_core.specs.ticks.Phases.{is_masters, is_marked, is_shut, own_word}
use Rattle.deck_core.specs.ticks.NextPhase.{after_step, after_check, step_answer, check_answer}
use Rattle.deck_core.specs.laws.Facts.{ShutBefore}
use Rattle.deck_core.specs.laws.Keeps.{FinishedLeaves}
use Rattle.deck_core.specs.declared.plain.act.Turned.{Turned}
use Rattle.deck_core.specs.declared.plain.act.Turned.TheVariants as turned
use Rattle.deck_core.specs.declared.plain.phase.Phase.TheVariants as phase
use Rattle.deck_core.proofs.Frame.{other_moves, stays}

pub finished_leaves : FinishedLeaves
finished_leaves c h s e =
    other_moves c h phase.Run c.own s (record {
      before = ap is_masters e;
      next = refl;
      finished = λ f. absurd (both_ways false refl f);
      old_number = tt;
      own_moves = stays c.own h 0 ((s.harts h).own_word ∙ ap own_word e);
      mark_stays = λ m marked. absurd (both_ways false refl (ap (is_marked c.gate) (sym e) ∙ marked));
    })

step_open : (r : Turned) → is_shut (after_step r) ≡ false
step_open turned.Off = refl
step_open turned.Called = refl
step_open turned.Idle = refl
step_open turned.Trapped = refl
step_open turned.Took = refl
step_open turned.Stepped = refl

check_open : (trapped : Bool) → is_shut (after_check trapped) ≡ false
check_open true = refl
check_open false = refl

pub shut_before : ShutBefore
shut_before harts h phase.Run a t e = absurd (both_ways (is_shut (after_step (step_answer a))) (step_open (step_answer a)) e)
shut_before harts h phase.Own a t e = absurd (both_ways (is_shut (after_check (check_answer a))) (check_open (check_answer a)) e)
shut_before harts h (phase.Send to) a t e = refl
shut_before harts h (phase.Enter kept reopens) a t e = refl
shut_before harts h (phase.Pull kept left) a t e = refl
shut_before harts h (phase.Lines kept) a t e = refl
shut_before harts h (phase.PlantStep kept at) a t e = refl
shut_before harts h (phase.PassStep kept planted) a t e = refl
shut_before harts h (phase.PullStep kept follows) a t e = refl
shut_before harts h (phase.Plant kept left) a t e = refl
shut_before harts h (phase.Close kept) a t e = refl
shut_before harts h _ a t e = absurd (both_ways false refl t)
