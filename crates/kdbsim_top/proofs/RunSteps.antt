-- What a run to its end prints.
use Rattle.std.proofs.Common.{◌≡◌, ℕ, List, ◌++◌, Option, Some, None, sym, ap, ◌∙◌}
use Rattle.atom_mach.specs.declared.step.AStep.{AStep}
use Rattle.mach_base.specs.declared.event.Ending.{Ending}
use Rattle.atom_mach.specs.declared.step.Mode.{Mode}
use Rattle.atom_mach.specs.declared.step.Mode.TheVariants.{Free, Hold, Pass, Back, Leave, Over}
use Rattle.atom_mach.specs.Modes.{ending_of}
use Rattle.atom_mach.specs.State.{State, Done}
use Rattle.atom_mach.specs.Texts.{ending_line}
use Rattle.atom_mach.specs.Run.{run_of, with_last_text, transcript}

-- a run that is over printed its steps' texts and the ending line
pub whole_run : (start : State) (steps : List AStep) (last : Done) (ending : Ending) (text : List ℕ) → run_of start steps ≡ Some last → text ≡ last.text ++ ending_line ending last.next.machine.steps → transcript start steps None ending ≡ Some text
unfolding transcript
whole_run start steps last ending text run is = ap (λ r. with_last_text r None ending) run ∙ ap Some (sym is)

-- a mode that has an ending is over
pub ending_of-Some : (mode : Mode) (ending : Ending) → ending_of mode ≡ Some ending → mode ≡ Over ending
ending_of-Some Free ending e = absurd (cc)
ending_of-Some (Hold m late) ending e = absurd (cc)
ending_of-Some (Pass m late again) ending e = absurd (cc)
ending_of-Some (Back m late) ending e = absurd (cc)
ending_of-Some (Leave m late) ending e = absurd (cc)
ending_of-Some (Over over) ending e = cc
