-- What every list of symbols keeps.
use Rattle.std.specs.Prelude.{◌≡◌, ℕ, ◌<◌, ◌≤◌, true, not, List, length}
use Rattle.std.specs.List.{list_all, AllByRecursion}
use Rattle.mach_base.specs.Lines.{is_blank}
use Rattle.mach_base.specs.Machine.{Symbol}
use Rattle.mach_base.specs.declared.limits.TheConstants.{MOST_SYMBOLS, SYMBOL_BYTES}

-- the name of a symbol: not empty, not too long, and without blanks and tabs
pub record IsSymbolName (name : List ℕ) : Type 0 where
  pub some : 0 < length name
  pub short : length name ≤ SYMBOL_BYTES
  pub whole : list_all (λ b. not (is_blank b)) name ≡ true

-- not too many symbols, each with such a name
pub record AreSymbols (symbols : List Symbol) : Type 0 where
  pub few : length symbols ≤ MOST_SYMBOLS
  pub named : AllByRecursion (λ s. IsSymbolName s.name) symbols
