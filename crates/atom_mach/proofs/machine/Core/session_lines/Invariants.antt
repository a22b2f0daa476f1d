use Rattle.std.proofs.Common.{◌≡◌, ◌-◌, length, vec_len}
use Rattle.atom_mach.specs.State.{prefixed}
use Rattle.atom_mach.specs.Session.{session_lines}
use Rattle.atom_mach.specs.Core.{machine_of}
use Rattle.atom_mach.proofs.machine.Core.session_lines.Given as goal

-- what was printed and what is left to run are what was to run
abbrev pub invariant-loop-self : goal.invariant-loop-self
invariant-loop-self l = record {
  harts : vec_len l.self.contexts ≡ vec_len l.fn.self.contexts;
  mode : l.self.mode ≡ l.fn.self.mode;
  told : prefixed l.out.items (session_lines l.master (machine_of l.self).unread (machine_of l.self)) ≡ prefixed l.fn.out.items (session_lines l.master (machine_of l.fn.self).unread (machine_of l.fn.self));
}

abbrev pub decreases-loop-self : goal.decreases-loop-self
decreases-loop-self l = length l.self.script - l.self.read
