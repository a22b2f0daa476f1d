-- The passes of a run: those of all harts before their first ticks, and those that the workers hand back.
use Rattle.std.specs.Prelude.{◌≡◌, ℕ, ◌+◌, List, [], ◌∷◌, Option, length}
use Rattle.atomic_table.specs.Seated.{TableId}
use Rattle.board_turn.specs.declared.board.Pass.{Pass}
use Rattle.board_turn.specs.Ready.{IsDone, IsFresh, start_of}

-- each pass of a list, that of hart h first, is before its first tick, and is not hart 0's
abbrev pub OthersFresh : {B : Type 0} → TableId → Option B → ℕ → ℕ → ℕ → List (Pass B) → Type 0
OthersFresh table start harts rounds h [] = Unit {0}
OthersFresh table start harts rounds h (pass ∷ passes) = IsFresh table start h harts rounds 0 pass × OthersFresh table start harts rounds (h + 1) passes

-- the passes are those of all harts, in order, before their first ticks; hart 0's counts them
abbrev pub AreFresh : {B : Type 0} → TableId → Option B → ℕ → ℕ → List (Pass B) → Type 0
AreFresh table start harts rounds [] = ⊥
AreFresh table start harts rounds (first ∷ others) =
    (harts ≡ length others + 1) × IsFresh table start 0 harts rounds harts first × OthersFresh table start harts rounds 1 others

-- the pass of some hart of so many, before its first tick
abbrev pub Begins : {B : Type 0} → TableId → ℕ → ℕ → Pass B → Type 0
Begins table harts rounds pass = IsFresh table (start_of pass) pass.stand.hart.0 harts rounds pass.stand.made pass

-- each pass of a list is that of some hart of so many, before its first tick
abbrev pub AllBegin : {B : Type 0} → TableId → ℕ → ℕ → List (Pass B) → Type 0
AllBegin table harts rounds [] = Unit {0}
AllBegin table harts rounds (pass ∷ passes) = Begins table harts rounds pass × AllBegin table harts rounds passes

-- what a worker hands back for the pass that it was given: that of the same hart, which has seen an ending
pub record HasRun {B : Type 0} (table : TableId) (before after : Pass B) : Type 0 where
  pub done : IsDone table (start_of before) before.stand.hart.0 after
  pub made : after.stand.made ≡ before.stand.made

-- for each pass that a worker was given, one of the same hart comes back, in the same order
abbrev pub AllRan : {B : Type 0} → TableId → List (Pass B) → List (Pass B) → Type 0
AllRan table [] [] = Unit {0}
AllRan table (before ∷ befores) (after ∷ afters) = HasRun table before after × AllRan table befores afters
AllRan table _ _ = ⊥
