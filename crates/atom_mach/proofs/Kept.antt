-- What each step of a machine leaves as it was.
use Rattle.std.proofs.Common.{◌≡◌, ℕ, ◌+◌, ◌%◌, ◌≤◌, ◌==◌, ◌&&◌, true, List, [], ◌∷◌, Option, Some, None, Result, Ok, Err, refl, sym, ap, subst, ◌∙◌, arith}
use Rattle.std.proofs.lemmas.List.{length-set}
use Rattle.mach_base.specs.Masks.{all_but}
use Rattle.mach_base.specs.Machine.{Place, LineState, Machine, is_text_segment, is_text_word, segment_at}
use Rattle.mach_base.specs.declared.event.Hart.{Hart}
use Rattle.mach_base.specs.declared.event.Fault.{Fault}
use Rattle.trap_ipi.specs.Interrupt.{after_interrupt}
use Rattle.hart_step.proofs.Frame.{keeps_shape}
use Rattle.kdb_bp.specs.Breaks.{place_at}
use Rattle.kdb_macro.specs.Macros.{AreMacros}
use Rattle.kdb_cmd.specs.Line.{macros_of}
use Rattle.kdb_cmd.specs.Limits.{WithinLimits as DebuggerLimits}
use Rattle.kdb_cmd.proofs.Keeps.{line_keeps}
use Rattle.atom_mach.specs.declared.step.Mode.{Mode}
use Rattle.atom_mach.specs.declared.step.Mode.TheVariants.{Free, Hold, Pass, Back, Leave, Over}
use Rattle.atom_mach.specs.State.{State, Done, hart_count, context_at}
use Rattle.atom_mach.specs.Traps.{fetched_at, executed, interrupted}
use Rattle.atom_mach.specs.Modes.{owed}
use Rattle.atom_mach.specs.Session.{Cut, entered, with_read, line_effect, after_line, session_lines}
use Rattle.atom_mach.specs.Limits.{IsKept}

pub IsKept-same : (s : Machine) → IsKept s s
IsKept-same s = record { harts = refl; segments = refl; symbols = refl; limit = refl; script = refl; debugger = λ l. l }

pub IsKept-then : (s t u : Machine) → IsKept s t → IsKept t u → IsKept s u
IsKept-then s t u p q = record {
  harts = q.harts ∙ p.harts;
  segments = q.segments ∙ p.segments;
  symbols = q.symbols ∙ p.symbols;
  limit = q.limit ∙ p.limit;
  script = q.script ∙ p.script;
  debugger = λ l. q.debugger (p.debugger l);
}

-- the debugger's limits are about the places, the variables, the macros and the segments
limits_alike : (s t : LineState) → t.places ≡ s.places → t.variables ≡ s.variables → macros_of t ≡ macros_of s → t.memory.segments ≡ s.memory.segments → DebuggerLimits s → DebuggerLimits t
limits_alike s t places variables macros segments l = record {
  places = rw places l.places;
  variables = rw variables l.variables;
  macros = subst AreMacros (sym macros) l.macros;
  breakpoints = record { apart = rw places l.breakpoints.apart; text = text };
}
  where
    text : (i : ℕ) (p : Place) → place_at t.places i ≡ Some p → is_text_word t.memory p.addr ≡ true
    text i p e =
        ap (λ g. (p.addr % 4 == 0) && is_text_segment (segment_at g p.addr)) segments
        ∙ l.breakpoints.text i p (ap (λ places. place_at places i) (sym places) ∙ e)

-- Instructions and interrupts.

pub executed_kept : (s : Machine) (h : ℕ) → IsKept s (executed s h)
unfolding executed
executed_kept s h = record {
  harts = count (fetched_at s h) refl;
  segments = segments (fetched_at s h) refl;
  symbols = refl;
  limit = refl;
  script = refl;
  debugger = limits_alike s.seen (executed s h).seen refl refl refl (segments (fetched_at s h) refl);
}
  where
    count : (r : Result ℕ Fault) → fetched_at s h ≡ r → hart_count (executed s h) ≡ hart_count s
    count (Ok word) f = rw f (keeps_shape s.seen.harts s.seen.memory h word).0
    count (Err fault) f = rw f refl

    segments : (r : Result ℕ Fault) → fetched_at s h ≡ r → (executed s h).seen.memory.segments ≡ s.seen.memory.segments
    segments (Ok word) f = rw f (keeps_shape s.seen.harts s.seen.memory h word).1
    segments (Err fault) f = rw f refl

pub interrupted_kept : (s : Machine) (h : ℕ) → IsKept s (interrupted s h)
interrupted_kept s h = record {
  harts = length-set s.seen.harts h (after_interrupt (context_at s h));
  segments = refl;
  symbols = refl;
  limit = refl;
  script = refl;
  debugger = limits_alike s.seen (interrupted s h).seen refl refl refl refl;
}

-- Sessions.

pub entered_kept : (s : Machine) (m : ℕ) → IsKept s (entered s m)
entered_kept s m = record {
  harts = refl;
  segments = refl;
  symbols = refl;
  limit = refl;
  script = refl;
  debugger = limits_alike s.seen (entered s m).seen refl refl refl refl;
}

pub line_kept : (m : Hart) (late : ℕ) (line : List ℕ) (rest : List (List ℕ)) (s : Machine) → s.unread ≡ line ∷ rest → IsKept s (line_effect m late line (with_read s rest)).machine
unfolding line_effect
line_kept m late line rest s e =
    let k = line_keeps (all_but (hart_count s) late) m.0 line s.seen in
    record {
      harts = k.harts;
      segments = k.segments;
      symbols = k.symbols;
      limit = refl;
      script = rw e (omega arith);
      debugger = k.limits;
    }

-- at most one step is owed
pub owed-low : (mode : Mode) → owed mode ≤ 1
owed-low Free = omega arith
owed-low (Hold m late) = omega arith
owed-low (Pass m late again) = omega arith
owed-low (Back m late) = omega arith
owed-low (Leave m late) = omega arith
owed-low (Over ending) = omega arith

-- a session leaves this; a step that it owes comes after a line that it read
pub record IsSession (s : Machine) (t : State) : Type 0 where
  pub kept : IsKept s t.machine
  pub steps : t.machine.steps ≡ s.steps
  pub pass : s.lines_read + owed t.mode ≤ t.machine.lines_read

after_line_kept : (left : Option Mode) (s : Machine) (c : Cut) (rest : Done) → IsKept s c.machine → c.machine.steps ≡ s.steps → c.machine.lines_read ≡ s.lines_read + 1 → IsSession c.machine rest.next → IsSession s (after_line left c rest).next
after_line_kept None s c rest kept steps read goes_on =
    let pass = goes_on.pass in
    record { kept = IsKept-then s c.machine rest.next.machine kept goes_on.kept; steps = goes_on.steps ∙ steps; pass = omega arith }
after_line_kept (Some mode) s c rest kept steps read goes_on =
    let low = owed-low mode in
    record { kept = kept; steps = steps; pass = omega arith }

pub session_lines_kept : (m : Hart) (lines : List (List ℕ)) (s : Machine) → s.unread ≡ lines → IsSession s (session_lines m lines s).next
unfolding session_lines line_effect
session_lines_kept m [] s e = record { kept = IsKept-same s; steps = refl; pass = omega arith }
session_lines_kept m (line ∷ rest) s e =
    let effect = line_effect m 0 line (with_read s rest) in
    after_line_kept effect.left s effect (session_lines m rest effect.machine) (line_kept m 0 line rest s e) refl refl (session_lines_kept m rest effect.machine refl)
