-- The run of rows that a major opcode has in the table.
use Rattle.std.specs.Prelude.{ℕ, ◌-◌, ◌/◌, ◌%◌, ◌^◌, Bool, not, ◌&&◌, ◌==◌, nat_le, IsTrue, length, take, drop}
use Rattle.std.specs.List.{list_all}
use Rattle.rv_table.specs.declared.table.Row.{Row}
use Rattle.rv_table.specs.Rows.{the_rows}

-- the major opcode of a word: bits 2 to 6
abbrev pub major_opcode : ℕ → ℕ
major_opcode word = word / 2 ^ 2 % 2 ^ 5

-- the row fixes the major opcode, and to another than this one
abbrev pub has_other_opcode : ℕ → Row → Bool
has_other_opcode opcode r = (major_opcode r.mask == 31) && not (major_opcode r.value == opcode)

-- the rows from the first place up to the second lie in the table, and all others have another major opcode
abbrev pub is_group : ℕ → ℕ × ℕ → Bool
is_group opcode g =
    nat_le g.0 g.1 && (nat_le g.1 (length the_rows)
    && (list_all (has_other_opcode opcode) (take g.0 the_rows)
    && list_all (has_other_opcode opcode) (drop (g.1 - g.0) (drop g.0 the_rows))))

-- the same as a fact, for contracts
pub record IsGroup (opcode : ℕ) (group : ℕ × ℕ) : Type 0 where
  pub holds : IsTrue (is_group opcode group)
