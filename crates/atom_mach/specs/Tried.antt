-- What an attempt at a step answers and leaves.
use Rattle.std.specs.Prelude.{◌≡◌, ◌≢◌, ℕ, Bool, true, false, List, [], Some, None, Result, Ok, Err}
use Rattle.mach_base.specs.declared.byte_text.OutOfMemory.{OutOfMemory}
use Rattle.atom_mach.specs.declared.step.AStep.{AStep}
use Rattle.atom_mach.specs.State.{State}
use Rattle.atom_mach.specs.Step.{does}

-- a step that is allowed is made, printing this and leading there; one that isn't prints nothing and changes nothing
abbrev pub Moves : State → AStep → Bool → List ℕ → State → Type 0
Moves s step true text next = does s step ≡ Some (record { text = text; next = next })
Moves s step false text next = (does s step ≡ None) × (next ≡ s) × (text ≡ [])

-- the same; where memory runs out an allowed step may not be made
abbrev pub Tries : State → AStep → Result Bool OutOfMemory → List ℕ → State → Type 0
Tries s step (Ok moved) text next = Moves s step moved text next
Tries s step (Err lack) text next = does s step ≢ None
