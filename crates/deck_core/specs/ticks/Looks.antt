-- The looks of a master at the other harts, as the ticks of a run made them since the gate was shut.
use Rattle.std.specs.Prelude.{◌≡◌, ℕ, suc, ◌==◌, ◌&&◌, Bool, not, List, [], ◌∷◌, if◌then◌else◌}
use Rattle.deck_core.specs.ticks.Configuration.{Configuration}
use Rattle.deck_core.specs.ticks.Tick.{TicksAll, mark_counts}
use Rattle.deck_core.specs.declared.plain.phase.Phase.{Phase}
use Rattle.deck_core.specs.declared.plain.phase.Phase.TheVariants as phase

-- the hart that was looked at, and whether its mark counted
pub record Look : Type 0 where
  pub at : ℕ
  pub counted : Bool

-- the looks so far, the newest first, after a tick of the master in this phase: the shutting of the gate begins anew
abbrev pub looks_with : Phase → Configuration → List Look → List Look
looks_with phase.Shut c looks = []
looks_with (phase.Gather l) c looks = record { at = l.next; counted = mark_counts c l.next } ∷ looks
looks_with _ c looks = looks

-- the looks of hart m over the ticks of a run
abbrev pub looks_over : ℕ → (plan : List ℕ) (c last : Configuration) → TicksAll plan c last → List Look → List Look
looks_over m [] c last run looks = looks
looks_over m (h ∷ plan) c last run looks =
    looks_over m plan run.1.0 last run.1.1.1 (if h == m then looks_with (c.phase m) c looks else looks)

-- how many of the looks at hart k found no mark that counts
abbrev pub missed : ℕ → List Look → ℕ
missed k [] = 0
missed k (look ∷ looks) = if (look.at == k) && not look.counted then suc (missed k looks) else missed k looks

-- how many of the looks at hart k found a mark that counts
abbrev pub found : ℕ → List Look → ℕ
found k [] = 0
found k (look ∷ looks) = if (look.at == k) && look.counted then suc (found k looks) else found k looks

-- hart k was looked at so often, each time without a mark that counts
pub record WasMissed (times : ℕ) (k : ℕ) (looks : List Look) : Type 0 where
  pub each : missed k looks ≡ times
  pub never : found k looks ≡ 0
