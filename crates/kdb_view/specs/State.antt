-- The state of a line, by its parts.
use Rattle.std.specs.Prelude.{List}
use Rattle.mach_base.specs.Machine.{Context, Memory, Symbol, LineState}
use Rattle.hart_ctx.specs.Context.{context_of}
use Rattle.kdb_view.specs.declared.session.Kdb.{Kdb}

-- the state that contexts, memory, what the debugger keeps, and symbols make
abbrev pub state_of : List Context → Memory → Kdb → List Symbol → LineState
state_of harts memory kdb symbols = record {
  harts = harts;
  memory = memory;
  places = kdb.breaks;
  variables = kdb.env;
  macros = kdb.macros.macros;
  defining = kdb.macros.defining;
  symbols = symbols;
  current = kdb.current;
}

-- the context of the current processor
abbrev pub current_context : LineState → Context
current_context s = context_of s.harts s.current
