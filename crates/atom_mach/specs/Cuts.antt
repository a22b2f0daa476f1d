-- How the parts of a session grow, line by line, up to the session.
use Rattle.std.specs.Prelude.{◌≡◌, ℕ, suc, ◌+◌, true, List, [], ◌∷◌, ◌++◌, Some, None}
use Rattle.mach_base.specs.Texts.{newline}
use Rattle.mach_base.specs.declared.event.Hart.{Hart}
use Rattle.mach_base.specs.declared.event.Reason.{Reason}
use Rattle.mach_base.specs.declared.event.Ending.TheVariants.{ScriptEnd}
use Rattle.atom_mach.specs.declared.step.Mode.{Mode}
use Rattle.atom_mach.specs.declared.step.Mode.TheVariants.{Over}
use Rattle.atom_mach.specs.declared.step.AStep.TheVariants.{Session}
use Rattle.atom_mach.specs.State.{State, Done}
use Rattle.atom_mach.specs.Modes.{ending_of}
use Rattle.atom_mach.specs.Session.{Cut, before_cut, is_hart, opening_reason, session_opening, prompt_text, with_read, line_effect, cut_session}
use Rattle.atom_mach.specs.Step.{does}

-- the cut before the first line is the opening
abbrev pub CutsBeginWithTheOpening : Type 0
CutsBeginWithTheOpening =
    (s : State) (m : Hart) (reason : Reason) → is_hart s.machine m.0 ≡ true → opening_reason s.mode s.machine m.0 0 ≡ Some reason →
    cut_session s m 0 ≡ Some (session_opening s.machine m 0 reason)

-- a cut that is inside the session grows by the next line
abbrev pub CutsGrowByLines : Type 0
CutsGrowByLines =
    (s : State) (m : Hart) (count : ℕ) (c : Cut) (line : List ℕ) (rest : List (List ℕ)) → cut_session s m count ≡ Some c →
    c.left ≡ None → c.machine.unread ≡ line ∷ rest →
    cut_session s m (suc count) ≡ Some (before_cut c.text (line_effect m 0 line (with_read c.machine rest)))

-- a cut that left is the session
abbrev pub LeavingCutsAreSessions : Type 0
LeavingCutsAreSessions =
    (s : State) (m : Hart) (count : ℕ) (c : Cut) (mode : Mode) → cut_session s m count ≡ Some c → c.left ≡ Some mode →
    does s (Session m) ≡ Some (record { text = c.text; next = record { machine = c.machine; mode = mode } })

-- a cut with no line left, and the prompt that finds none, are the session
abbrev pub LastCutsAreSessions : Type 0
LastCutsAreSessions =
    (s : State) (m : Hart) (count : ℕ) (c : Cut) → cut_session s m count ≡ Some c → c.left ≡ None → c.machine.unread ≡ [] →
    does s (Session m) ≡ Some (record { text = c.text ++ (prompt_text c.machine ++ newline); next = record { machine = c.machine; mode = Over ScriptEnd } })

-- a session that doesn't end the run is its own cut after the lines that it reads
abbrev pub SessionsAreCuts : Type 0
SessionsAreCuts =
    (s : State) (m : Hart) (d : Done) → does s (Session m) ≡ Some d → ending_of d.next.mode ≡ None →
    (count : ℕ) × (d.next.machine.lines_read ≡ s.machine.lines_read + count)
    × (cut_session s m count ≡ Some (record { text = d.text; machine = d.next.machine; left = Some d.next.mode }))

-- a cut after so many lines has read so many
abbrev pub CutsCountLines : Type 0
CutsCountLines =
    (s : State) (m : Hart) (count : ℕ) (c : Cut) → cut_session s m count ≡ Some c → c.machine.lines_read ≡ s.machine.lines_read + count
