-- The code of a state, by which proofs tell its values apart: each record as the nested pairs of its fields.
use Rattle.std.specs.Prelude.{◌≡◌, ℕ, zero, suc, Bool, false, List, Option, refl}
use Rattle.std.specs.Coded.{Coded, code_by, coded×, coded_ℕ, coded_bool, coded_list, coded_option}
use Rattle.mach_base.specs.Machine.{Context, Memory, Place, Macro, Symbol, LineState, Machine}
use Rattle.mach_base.specs.Codes.{memory_code}
use Rattle.mach_base.specs.declared.event.Ending.{Ending}
use Rattle.mach_base.specs.declared.event.Ending.TheVariants.{ScriptEnd, AllHalted, StepLimit, PlanEnd}
use Rattle.atom_mach.specs.declared.step.Mode.{Mode}
use Rattle.atom_mach.specs.declared.step.Mode.TheVariants.{Free, Hold, Pass, Back, Leave, Over}
use Rattle.atom_mach.specs.State.{State}

-- a context as its fields
abbrev pub context_code : Coded Context
context_code =
    code_by (List ℕ × (ℕ × (ℕ × (ℕ × (Bool × (Bool × (Bool × Option ℕ)))))))
    (coded× (coded_list coded_ℕ) (coded× coded_ℕ (coded× coded_ℕ (coded× coded_ℕ (coded× coded_bool (coded× coded_bool (coded× coded_bool (coded_option coded_ℕ))))))))
    (λ c. (c.registers, (c.pc, (c.epc, (c.vector, (c.masked, (c.pending, (c.halted, c.reservation))))))))
    (λ t. record { registers = t.0; pc = t.1.0; epc = t.1.1.0; vector = t.1.1.1.0; masked = t.1.1.1.1.0; pending = t.1.1.1.1.1.0; halted = t.1.1.1.1.1.1.0; reservation = t.1.1.1.1.1.1.1 })
    (λ _. refl)

-- a breakpoint place as its fields
abbrev pub place_code : Coded Place
place_code = code_by (ℕ × Bool) (coded× coded_ℕ coded_bool) (λ p. (p.addr, p.enabled)) (λ t. record { addr = t.0; enabled = t.1 }) (λ _. refl)

-- a macro as its fields
abbrev pub macro_code : Coded Macro
macro_code = code_by (List ℕ × List (List ℕ)) (coded× (coded_list coded_ℕ) (coded_list (coded_list coded_ℕ))) (λ m. (m.name, m.lines)) (λ t. record { name = t.0; lines = t.1 }) (λ _. refl)

-- a symbol as its fields
abbrev pub symbol_code : Coded Symbol
symbol_code = code_by (ℕ × List ℕ) (coded× coded_ℕ (coded_list coded_ℕ)) (λ s. (s.addr, s.name)) (λ t. record { addr = t.0; name = t.1 }) (λ _. refl)

-- what a line sees as its fields
abbrev pub seen_code : Coded LineState
seen_code =
    code_by (List Context × (Memory × (List (Option Place) × (List (List ℕ × List ℕ) × (List Macro × (Bool × (List Symbol × ℕ)))))))
    (coded× (coded_list context_code) (coded× memory_code (coded× (coded_list (coded_option place_code)) (coded× (coded_list (coded× (coded_list coded_ℕ) (coded_list coded_ℕ))) (coded× (coded_list macro_code) (coded× coded_bool (coded× (coded_list symbol_code) coded_ℕ)))))))
    (λ s. (s.harts, (s.memory, (s.places, (s.variables, (s.macros, (s.defining, (s.symbols, s.current))))))))
    (λ t. record { harts = t.0; memory = t.1.0; places = t.1.1.0; variables = t.1.1.1.0; macros = t.1.1.1.1.0; defining = t.1.1.1.1.1.0; symbols = t.1.1.1.1.1.1.0; current = t.1.1.1.1.1.1.1 })
    (λ _. refl)

-- a machine as its fields
abbrev pub machine_code : Coded Machine
machine_code =
    code_by (LineState × (ℕ × (List (List ℕ) × (ℕ × (ℕ × Bool)))))
    (coded× seen_code (coded× coded_ℕ (coded× (coded_list (coded_list coded_ℕ)) (coded× coded_ℕ (coded× coded_ℕ coded_bool)))))
    (λ m. (m.seen, (m.limit, (m.unread, (m.lines_read, (m.steps, m.opened))))))
    (λ t. record { seen = t.0; limit = t.1.0; unread = t.1.1.0; lines_read = t.1.1.1.0; steps = t.1.1.1.1.0; opened = t.1.1.1.1.1 })
    (λ _. refl)

-- an ending as a number
abbrev number_of_ending : Ending → ℕ
number_of_ending ScriptEnd = 0
number_of_ending AllHalted = 1
number_of_ending StepLimit = 2
number_of_ending PlanEnd = 3

-- and back
abbrev ending_of_number : ℕ → Ending
ending_of_number zero = ScriptEnd
ending_of_number (suc zero) = AllHalted
ending_of_number (suc (suc zero)) = StepLimit
ending_of_number (suc (suc (suc n))) = PlanEnd

-- a mode as its number, its master, its late harts, and whether it comes back; an ending stands in the master's place
abbrev numbers_of_mode : Mode → ℕ × (ℕ × (ℕ × Bool))
numbers_of_mode Free = (0, (0, (0, false)))
numbers_of_mode (Hold m late) = (1, (m.0, (late, false)))
numbers_of_mode (Pass m late again) = (2, (m.0, (late, again)))
numbers_of_mode (Back m late) = (3, (m.0, (late, false)))
numbers_of_mode (Leave m late) = (4, (m.0, (late, false)))
numbers_of_mode (Over ending) = (5, (number_of_ending ending, (0, false)))

-- the mode of its parts
abbrev mode_by : ℕ → ℕ → ℕ → Bool → Mode
mode_by zero m late again = Free
mode_by (suc zero) m late again = Hold (record { 0 = m }) late
mode_by (suc (suc zero)) m late again = Pass (record { 0 = m }) late again
mode_by (suc (suc (suc zero))) m late again = Back (record { 0 = m }) late
mode_by (suc (suc (suc (suc zero)))) m late again = Leave (record { 0 = m }) late
mode_by (suc (suc (suc (suc (suc n))))) m late again = Over (ending_of_number m)

-- the mode of its numbers
abbrev mode_of_numbers : ℕ × (ℕ × (ℕ × Bool)) → Mode
mode_of_numbers t = mode_by t.0 t.1.0 t.1.1.0 t.1.1.1

-- there and back is the mode
pub mode_back : (m : Mode) → mode_of_numbers (numbers_of_mode m) ≡ m
mode_back Free = refl
mode_back (Hold m late) = refl
mode_back (Pass m late again) = refl
mode_back (Back m late) = refl
mode_back (Leave m late) = refl
mode_back (Over ScriptEnd) = refl
mode_back (Over AllHalted) = refl
mode_back (Over StepLimit) = refl
mode_back (Over PlanEnd) = refl

-- a mode as its numbers
abbrev pub mode_code : Coded Mode
mode_code = code_by (ℕ × (ℕ × (ℕ × Bool))) (coded× coded_ℕ (coded× coded_ℕ (coded× coded_ℕ coded_bool))) numbers_of_mode mode_of_numbers mode_back

-- a state as the pair of its parts
abbrev pub state_code : Coded State
state_code = code_by (Machine × Mode) (coded× machine_code mode_code) (λ s. (s.machine, s.mode)) (λ t. record { machine = t.0; mode = t.1 }) (λ _. refl)
