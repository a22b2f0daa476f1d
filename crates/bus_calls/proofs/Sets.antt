-- What a bus tells is a set: two proofs that the same is told are one.
use Rattle.std.proofs.Common.{◌≡◌, ℕ, zero, suc, Bool, true, false, Option, refl}
use Rattle.std.specs.Coded.{Coded, code_by, coded×, coded_ℕ, coded_bool, coded_option, Coded-set}
use Rattle.deck_core.specs.contract.Told.{Told}
use Rattle.deck_core.specs.declared.plain.notes.Sitting.{Sitting}
use Rattle.deck_core.specs.declared.plain.notes.Stage.{Stage}
use Rattle.deck_core.specs.declared.plain.notes.Stage.TheVariants as stage

abbrev numbers_of_stage : Stage → ℕ × Bool
numbers_of_stage stage.Lines = (0, false)
numbers_of_stage (stage.Pass again) = (1, again)
numbers_of_stage stage.Back = (2, false)
numbers_of_stage stage.Leaving = (3, false)

abbrev stage_numbered : ℕ → Bool → Stage
stage_numbered zero again = stage.Lines
stage_numbered (suc zero) again = stage.Pass again
stage_numbered (suc (suc zero)) again = stage.Back
stage_numbered (suc (suc (suc n))) again = stage.Leaving

stage_back : (g : Stage) → stage_numbered (numbers_of_stage g).0 (numbers_of_stage g).1 ≡ g
stage_back stage.Lines = refl
stage_back (stage.Pass again) = refl
stage_back stage.Back = refl
stage_back stage.Leaving = refl

stage_code : Coded Stage
stage_code = code_by (ℕ × Bool) (coded× coded_ℕ coded_bool) numbers_of_stage (λ t. stage_numbered t.0 t.1) stage_back

sitting_code : Coded Sitting
sitting_code =
    code_by (ℕ × (ℕ × Stage)) (coded× coded_ℕ (coded× coded_ℕ stage_code)) (λ s. (s.master.0, (s.late, s.stage))) (λ t. record { master = record { 0 = t.0 }; late = t.1.0; stage = t.1.1 }) (λ _. refl)

abbrev Numbers : Type 0
Numbers = ℕ × (ℕ × (ℕ × (ℕ × (ℕ × (ℕ × (ℕ × ℕ))))))

abbrev Others : Type 0
Others = Option ℕ × (Option Sitting × (Option ℕ × (Bool × (Bool × Bool))))

numbers_code : Coded Numbers
numbers_code = coded× coded_ℕ (coded× coded_ℕ (coded× coded_ℕ (coded× coded_ℕ (coded× coded_ℕ (coded× coded_ℕ (coded× coded_ℕ coded_ℕ))))))

others_code : Coded Others
others_code = coded× (coded_option coded_ℕ) (coded× (coded_option sitting_code) (coded× (coded_option coded_ℕ) (coded× coded_bool (coded× coded_bool coded_bool))))

told_code : Coded Told
told_code =
    code_by (Numbers × Others) (coded× numbers_code others_code)
    (λ t. ((t.harts, (t.mask, (t.planted, (t.enabled, (t.lines, (t.sends, (t.traps, t.faults))))))), (t.step, (t.session, (t.next, (t.stepped, (t.over, t.plantable)))))))
    told_from (λ _. refl)
  where
    told_from : Numbers × Others → Told
    told_from (n, o) = record {
      harts = n.0;
      mask = n.1.0;
      planted = n.1.1.0;
      enabled = n.1.1.1.0;
      step = o.0;
      session = o.1.0;
      lines = n.1.1.1.1.0;
      sends = n.1.1.1.1.1.0;
      stepped = o.1.1.1.0;
      over = o.1.1.1.1.0;
      traps = n.1.1.1.1.1.1.0;
      faults = n.1.1.1.1.1.1.1;
      next = o.1.1.0;
      plantable = o.1.1.1.1.1;
    }

pub told_set : IsSet Told
told_set = Coded-set told_code

pub address_set : IsSet (Option ℕ)
address_set = Coded-set (coded_option coded_ℕ)
