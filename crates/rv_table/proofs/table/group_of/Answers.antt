use Rattle.std.proofs.Common.{ℕ, List, [], ◌∷◌, refl}
use Rattle.rv_table.specs.Rows.{row_for, the_ops, the_rows}
use Rattle.rv_table.proofs.Groups.{are_groups_from_zero, group_within}
use Rattle.rv_table.proofs.table.group_of.Goals as goal

-- the code's list
the_groups : List (ℕ × ℕ)
the_groups =
    (4, 11) ∷ (0, 0) ∷ (0, 0) ∷ (24, 25) ∷ (11, 20) ∷ (1, 2) ∷ (20, 24) ∷ (0, 0) ∷ (31, 35) ∷ (0, 0) ∷ (0, 0) ∷ (63, 85) ∷ (35, 53) ∷ (0, 1) ∷ (53, 63) ∷ (0, 0) ∷ (0, 0) ∷ (0, 0) ∷ (0, 0) ∷ (0, 0) ∷ (0, 0) ∷ (0, 0) ∷ (0, 0) ∷ (0, 0) ∷ (25, 31) ∷ (3, 4) ∷ (0, 0) ∷ (2, 3) ∷ (85, 87) ∷ (0, 0) ∷ (0, 0) ∷ (0, 0) ∷ []

pub returns : goal.returns
unfolding row_for the_ops the_rows the_groups
returns c =
    let group = are_groups_from_zero the_groups refl c.args.opcode (0, 0) c.requires in
    record {
      ordered = (group_within c.args.opcode _ group).0;
      within = (group_within c.args.opcode _ group).1;
      group = group;
    }
