-- Entries that print nothing.
use Rattle.std.proofs.lemmas.List.{append-nil}
use Rattle.std.proofs.Common.{◌≡◌, ℕ, true, List, [], ◌++◌, refl, sym, ap, ◌∙◌}
use Rattle.std.proofs.lemmas.Bool.{false≢true}
use Rattle.mach_base.specs.declared.event.Ending.{Ending}
use Rattle.mach_base.specs.declared.event.Ending.TheVariants.{ScriptEnd, AllHalted, StepLimit, PlanEnd}
use Rattle.mach_base.specs.declared.event.Entry.TheVariants.{Off}
use Rattle.mach_base.specs.declared.event.Entry.{Entry}
use Rattle.plant_mach.specs.Machine.{PlantedMachine}
use Rattle.plant_mach.specs.Entries.{effect}
use Rattle.bus_core.specs.Inner.{is_quiet, IsDone}

-- the entry is this one, which prints nothing
pub silent_as : (p : PlantedMachine) (e f : Entry) (out : List ℕ) (next : PlantedMachine) → e ≡ f → (effect p f).text ≡ [] → next ≡ (effect p f).next → IsDone p e out out next
silent_as p e f out next is none same = record {
  text = sym (append-nil out) ∙ ap (λ (t : List ℕ). out ++ t) (sym none) ∙ ap (λ (x : Entry). out ++ (effect p x).text) (sym is);
  next = same ∙ ap (λ (x : Entry). (effect p x).next) (sym is);
}

-- an ending but the script's prints nothing
pub off_text : (p : PlantedMachine) (e : Entry) (ending : Ending) → e ≡ Off ending → is_quiet e ≡ true → (effect p (Off ending)).text ≡ []
unfolding effect
off_text p e ScriptEnd is quiet = absurd (false≢true (ap is_quiet (sym is) ∙ quiet))
off_text p e AllHalted is quiet = refl
off_text p e StepLimit is quiet = refl
off_text p e PlanEnd is quiet = refl
