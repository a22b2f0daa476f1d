-- The table in which the variables are kept.
use Rattle.std.specs.Prelude.{ℕ, List, map, Vec}
use Rattle.std.specs.Global.{Global}
use Rattle.indexmap.specs.IndexMap.{IndexMap}
use Rattle.kdb_env.specs.Variables.{Variables}

-- the names with their values, in order
abbrev pub pairs_of : List (Vec ℕ Global × Vec ℕ Global) → Variables
pairs_of entries = map (λ e. (e.0.items, e.1.items)) entries

-- the variables of a table
abbrev pub pairs : {S : Type 0} → IndexMap (Vec ℕ Global) (Vec ℕ Global) S → Variables
pairs table = pairs_of table.entries
