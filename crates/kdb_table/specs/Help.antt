-- The command that shows how commands are written.
use Rattle.std.specs.Prelude.{ℕ, List, [], ◌∷◌, ◌++◌}
use Rattle.mach_base.specs.Texts.{newline}
use Rattle.kdb_table.specs.declared.commands.Entry.{Entry}
use Rattle.kdb_table.specs.Table.{row_of, entries}

-- the usage of an entry, on a line
unfoldable pub usage_line : Entry → List ℕ
usage_line entry = (row_of entry).usage ++ newline

-- the usages of these entries
abbrev pub usages_text : List Entry → List ℕ
usages_text [] = []
usages_text (entry ∷ rest) = usage_line entry ++ usages_text rest

-- `help`
unfoldable pub help_text : List ℕ
help_text = usages_text entries
