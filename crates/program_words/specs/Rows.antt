-- The commands that there are, and those that are to come.
use Rattle.std.specs.Prelude.{ℕ, List, [], ◌∷◌, codes}
use Rattle.mach_base.specs.declared.limits.TheConstants.{MOST_HARTS, MOST_STEPS, MOST_ROUNDS}
use Rattle.program_words.specs.Words.{Text, any_word, number, Parameter, Row}

-- an operand that is the name of a file
abbrev pub file : Text → Parameter
file name = record { name = name; value = any_word }

-- an operand or an option that is a number within bounds
abbrev pub between : Text → ℕ → ℕ → Parameter
between name low high = record { name = name; value = number low high }

-- the options of a run: its harts, its limit of steps, and the rounds in which a master looks for the others
abbrev pub run_options : List Parameter
run_options = between (codes "harts") 1 MOST_HARTS ∷ between (codes "steps") 1 MOST_STEPS ∷ between (codes "rounds") 1 MOST_ROUNDS ∷ []

-- uni IMAGE SCRIPT
abbrev pub uni_row : Row
uni_row = record { word = codes "uni"; operands = file (codes "image") ∷ file (codes "script") ∷ []; options = [] }

-- replay IMAGE MAP SCRIPT JOURNAL
abbrev pub replay_row : Row
replay_row = record {
  word = codes "replay";
  operands = file (codes "image") ∷ file (codes "map") ∷ file (codes "script") ∷ file (codes "journal") ∷ [];
  options = [];
}

-- run IMAGE MAP SCRIPT JOURNAL [--harts N] [--steps L] [--rounds R]
abbrev pub run_row : Row
run_row = record {
  word = codes "run";
  operands = file (codes "image") ∷ file (codes "map") ∷ file (codes "script") ∷ file (codes "journal") ∷ [];
  options = run_options;
}

-- lockstep IMAGE MAP SCRIPT PLAN JOURNAL, with the options of run
abbrev pub lockstep_row : Row
lockstep_row = record {
  word = codes "lockstep";
  operands = file (codes "image") ∷ file (codes "map") ∷ file (codes "script") ∷ file (codes "plan") ∷ file (codes "journal") ∷ [];
  options = run_options;
}

-- asm SOURCE IMAGE
abbrev pub asm_row : Row
asm_row = record { word = codes "asm"; operands = file (codes "source") ∷ file (codes "image") ∷ []; options = [] }

-- elf ELF IMAGE MAP
abbrev pub elf_row : Row
elf_row = record { word = codes "elf"; operands = file (codes "elf") ∷ file (codes "image") ∷ file (codes "map") ∷ []; options = [] }

-- load NUMBER
abbrev pub load_row : Row
load_row = record { word = codes "load"; operands = between (codes "number") 0 4294967295 ∷ []; options = [] }

-- the table of the commands
abbrev pub command_rows : List Row
command_rows = uni_row ∷ replay_row ∷ run_row ∷ lockstep_row ∷ asm_row ∷ elf_row ∷ load_row ∷ []
