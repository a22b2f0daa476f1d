-- The two indexes of a list of symbols.
use Rattle.std.specs.Prelude.{◌≡◌, ℕ, List, Option, Vec}
use Rattle.std.specs.Global.{Global}
use Rattle.std.specs.BTreeMap.{BTreeMap, get, get_by}
use Rattle.std.specs.Cmp.Lexicographic.{slice_cmp}
use Rattle.std.specs.Ordering.{nat_cmp}
use Rattle.std.specs.List.{position_from}
use Rattle.mach_base.specs.Machine.{Symbol}
use Rattle.sym_map.specs.Lookups.{is_at, addr_of}

-- the address of each name
abbrev pub ByName : Type 0
ByName = BTreeMap (Vec ℕ Global) ℕ

-- the number of the first symbol at each address
abbrev pub ByAddr : Type 0
ByAddr = BTreeMap ℕ ℕ

-- what an index has under a name
abbrev pub under : ByName → List ℕ → Option ℕ
under index name = get_by (λ k. slice_cmp nat_cmp name k.items) index

-- the index has of each name the address of its first symbol
abbrev pub IndexesNames : ByName → List Symbol → Type 0
IndexesNames index symbols = (name : List ℕ) → under index name ≡ addr_of symbols name

-- the index has of each address its first symbol, where the symbols are numbered from here on
abbrev pub IndexesAddrs : ByAddr → ℕ → List Symbol → Type 0
IndexesAddrs index number symbols = (addr : ℕ) → get nat_cmp index addr ≡ position_from (is_at addr) number symbols

-- both indexes tell of the same symbols
pub record AreIndexed (symbols : List Symbol) (by_name : ByName) (by_addr : ByAddr) : Type 0 where
  pub names : IndexesNames by_name symbols
  pub addrs : IndexesAddrs by_addr 0 symbols
