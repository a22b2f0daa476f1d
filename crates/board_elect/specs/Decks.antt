-- A pass with its board, as a deck.
use Rattle.std.specs.Prelude.{◌≡◌, false, Option, Some, None, refl}
use Rattle.std.proofs.Common.{◌∙◌}
use Rattle.atomic_table.specs.Seated.{TableId}
use Rattle.deck_core.specs.contract.Told.{Told}
use Rattle.deck_core.specs.ticks.Phases.{holds}
use Rattle.board_turn.specs.declared.board.Held.{Held}
use Rattle.board_turn.specs.declared.board.Pass.{Pass}
use Rattle.board_turn.specs.Ready.{HasTaken, IsReady, start_of}

-- the bus is out with a pass that holds the turn
abbrev pub HeldFits : {B : Type 0} → (B → Told) → (B → B → Type 0) → Pass B → Option (Held B) → Type 0
HeldFits told_by same pass None = holds pass.stand.place ≡ false
HeldFits told_by same pass (Some held) = HasTaken told_by same pass held

-- the pass is one of this board, with the bus where it holds the turn
pub record IsSeated {B : Type 0} (told_by : B → Told) (same : B → B → Type 0) (table : TableId) (pass : Pass B) (held : Option (Held B)) : Type 0 where
  pub ready : IsReady table pass
  pub fits : HeldFits told_by same pass held

-- two passes of one board, where hart 0 made no pass between them
pub record SameBoard {B : Type 0} (table table2 : TableId) (pass pass2 : Pass B) : Type 0 where
  pub tables : table ≡ table2
  pub starts : start_of pass ≡ start_of pass2
  pub made : pass.stand.made ≡ pass2.stand.made

-- every pass is of its own board
abbrev pub same_board : {B : Type 0} (table : TableId) (pass : Pass B) → SameBoard table table pass pass
same_board table pass = record { tables = refl; starts = refl; made = refl }

-- where each of three passes is of the board of the one before, the last is of that of the first
abbrev pub same_boards : {B : Type 0} (table table2 table3 : TableId) (pass pass2 pass3 : Pass B) → SameBoard table table2 pass pass2 → SameBoard table2 table3 pass2 pass3 → SameBoard table table3 pass pass3
same_boards table table2 table3 pass pass2 pass3 x y = record { tables = x.tables ∙ y.tables; starts = x.starts ∙ y.starts; made = x.made ∙ y.made }
