-- What the words of a line can name.
use Rattle.std.specs.Prelude.{ℕ, List, Option, Some, None, codes, unwrap_or, slice_index}
use Rattle.std.specs.Option.{option_map}
use Rattle.std.specs.Result.{result_ok}
use Rattle.mach_base.specs.Machine.{Context, LineState}
use Rattle.hart_ctx.specs.declared.register_name.RegName.{RegName}
use Rattle.hart_ctx.specs.declared.register_name.RegName.TheVariants.{X, Pc}
use Rattle.hart_ctx.specs.Context.{context_of}
use Rattle.hart_ctx.specs.RegisterName.{register_named}
use Rattle.sym_map.specs.Lookups.{addr_of}
use Rattle.kdb_env.specs.Variables.{Variables, value_of, number_at}
use Rattle.kdb_expr.specs.Expression.{Scope}

-- the value of a register
abbrev pub register_value : Context → RegName → ℕ
register_value c (X n) = slice_index c.registers n
register_value c Pc = c.pc

-- the value of the register of a name
abbrev pub register_in : Context → List ℕ → Option ℕ
register_in c name = option_map (register_value c) (register_named name)

-- the number that a variable's value is; 0 where it is none
abbrev pub number_in : Variables → List ℕ → ℕ
number_in vars name = unwrap_or (result_ok (number_at vars name)) 0

-- the radix of numbers
abbrev pub radix_in : Variables → ℕ
radix_in vars = number_in vars (codes "RADIX")

-- the lines that `md` shows, where it isn't said
abbrev pub line_count_in : Variables → ℕ
line_count_in vars = number_in vars (codes "MDCOUNT")

-- the bytes of a word, where it isn't said
abbrev pub width_in : Variables → ℕ
width_in vars = number_in vars (codes "BYTESPERWORD")

-- what the words of a line can name
abbrev pub scope_of : LineState → Scope
scope_of s = record {
  symbols = addr_of s.symbols;
  registers = register_in (context_of s.harts s.current);
  variables = value_of s.variables;
  radix = radix_in s.variables;
}
