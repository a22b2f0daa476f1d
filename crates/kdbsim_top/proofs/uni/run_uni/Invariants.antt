use Rattle.std.proofs.Common.{◌≡◌, [], List, Some}
use Rattle.atom_mach.specs.declared.step.AStep.{AStep}
use Rattle.atom_mach.specs.State.{hart_count, start_state}
use Rattle.atom_mach.specs.Run.{run_of, Follows, first_allowed}
use Rattle.atom_mach.specs.Work.{work_left}
use Rattle.kdbsim_top.specs.Runs.{uni_limit}
use Rattle.kdbsim_top.proofs.uni.run_uni.Given as goal

-- some steps were made by the rule, and printed the transcript so far; there is one hart
abbrev pub invariant-loop-ending : goal.invariant-loop-ending
invariant-loop-ending l = record {
  ran : (steps : List AStep) × (run_of (start_state l.fn.image [] l.fn.script 1 uni_limit) steps ≡ Some (record { text = l.transcript.items; next = l.atom })) × Follows first_allowed (start_state l.fn.image [] l.fn.script 1 uni_limit) steps;
  one_hart : hart_count l.atom.machine ≡ 1;
}

abbrev pub decreases-loop-ending : goal.decreases-loop-ending
decreases-loop-ending l = work_left l.atom
