-- The state of the atomic machine: the machine record and the mode.
use Rattle.std.specs.Prelude.{ℕ, false, List, [], ◌++◌, length, replicate, None, slice_set}
use Rattle.mach_base.specs.Machine.{Context, Symbol, Machine, memory_of}
use Rattle.mach_base.specs.declared.limits.TheConstants.{PLACES}
use Rattle.hart_ctx.specs.Context.{context_of}
use Rattle.img_text.specs.Image.{ImageRecord}
use Rattle.img_text.specs.Boot.{first_contexts}
use Rattle.kdb_env.specs.Variables.{defaults}
use Rattle.atom_mach.specs.declared.step.Mode.{Mode}
use Rattle.atom_mach.specs.declared.step.Mode.TheVariants.{Free}

-- the whole state: the machine, and what it is about
pub record State : Type 0 where
  pub machine : Machine
  pub mode : Mode

-- what a step prints, and the state after it
pub record Done : Type 0 where
  pub text : List ℕ
  pub next : State

-- the text before what follows
abbrev pub prefixed : List ℕ → Done → Done
prefixed text d = record { text = text ++ d.text; next = d.next }

-- the number of harts
abbrev pub hart_count : Machine → ℕ
hart_count s = length s.seen.harts

-- the context of a hart by its number; a blank one where there is no such hart
abbrev pub context_at : Machine → ℕ → Context
context_at s h = context_of s.seen.harts h

-- the machine with another context for this hart
abbrev pub with_context : Machine → ℕ → Context → Machine
with_context s h c = record s { seen = record s.seen { harts = slice_set s.seen.harts h c } }

-- The state at the start: the image's memory, a context for each hart, no breakpoint, the variables' defaults, no macro,
-- hart 0 current, all lines of the script unread, no step taken, no session opened; the machine is free.
unfoldable pub start_state : ImageRecord → List Symbol → List (List ℕ) → ℕ → ℕ → State
start_state image symbols lines harts limit = record {
  machine = record {
    seen = record {
      harts = first_contexts image harts;
      memory = memory_of image.parts;
      places = replicate PLACES None;
      variables = defaults;
      macros = [];
      defining = false;
      symbols = symbols;
      current = 0;
    };
    limit = limit;
    unread = lines;
    lines_read = 0;
    steps = 0;
    opened = false;
  };
  mode = Free;
}
