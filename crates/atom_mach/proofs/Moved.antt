-- What a step leaves, by whether it was made.
use Rattle.std.proofs.Common.{◌≡◌, ℕ, Bool, true, false, List, [], Some, None, sym, ap, ◌∙◌}
use Rattle.std.specs.Prelude.{MatchBool}
use Rattle.atom_mach.specs.declared.step.AStep.{AStep}
use Rattle.atom_mach.specs.State.{State}
use Rattle.atom_mach.specs.Step.{does}
use Rattle.atom_mach.specs.Run.{Turns}
use Rattle.atom_mach.specs.Tried.{Moves}

pub made : (s : State) (step : AStep) (text : List ℕ) (next : State) (ok : Bool) → Moves s step ok text next → ok ≡ true → does s step ≡ Some (record { text = text; next = next })
made s step text next true m e = m
made s step text next false m e = absurd (cc)

pub refused : (s : State) (step : AStep) (text : List ℕ) (next : State) (ok : Bool) → Moves s step ok text next → ok ≡ false → does s step ≡ None
refused s step text next true m e = absurd (cc)
refused s step text next false m e = m.0

pub unmoved : (s : State) (step : AStep) (text : List ℕ) (next : State) (ok : Bool) → Moves s step ok text next → ok ≡ false → ◌≡◌ {A = State} next s
unmoved s step text next true m e = absurd (cc)
unmoved s step text next false m e = m.1

pub silent : (s : State) (step : AStep) (text : List ℕ) (next : State) (ok : Bool) → Moves s step ok text next → ok ≡ false → text ≡ []
silent s step text next true m e = absurd (cc)
silent s step text next false m e = m.2

-- the state where a machine with one hart did not go on
pub not_on : (s : State) (text : List ℕ) (next : State) (moved : Bool) → MatchBool moved (Turns s text next) (◌≡◌ {A = State} next s × (text ≡ [])) → moved ≡ false → ◌≡◌ {A = State} next s
not_on s text next true m e = absurd (cc)
not_on s text next false m e = m.0

-- Steps that are tried one after another: what the state is that the next one is tried in, and what was refused.

pub still : (start now : State) (step : AStep) (text : List ℕ) (next : State) (ok : Bool) → ◌≡◌ {A = State} now start → Moves now step ok text next → ok ≡ false → (does start step ≡ None) × ◌≡◌ {A = State} next start
still start now step text next ok same m e =
    (sym (ap (λ (s : State). does s step) same) ∙ refused now step text next ok m e, unmoved now step text next ok m e ∙ same)

pub then-made : (start now : State) (step : AStep) (text : List ℕ) (next : State) (ok : Bool) → ◌≡◌ {A = State} now start → Moves now step ok text next → ok ≡ true → does start step ≡ Some (record { text = text; next = next })
then-made start now step text next ok same m e = sym (ap (λ (s : State). does s step) same) ∙ made now step text next ok m e
