-- What a hart meets at its pc on raw memory is what it meets on true memory, where the true word is given.
use Rattle.std.proofs.Common.{◌≡◌, ℕ, eqb, Bool, true, false, not, ◌&&◌, cond, List, Option, Some, None, Result, Ok, Err, option_map, refl, ap}
use Rattle.mach_base.specs.Machine.{Context, Place}
use Rattle.mach_base.specs.declared.event.Fault.{Fault}
use Rattle.mach_base.specs.declared.event.Reason.{Reason}
use Rattle.mach_base.specs.declared.event.Reason.TheVariants.{Start, Compiled, Fault as FaultReason}
use Rattle.rv_table.specs.declared.table.TheConstants.{EBREAK}
use Rattle.kdb_bp.specs.Breaks.{first_enabled}
use Rattle.bus_plant.specs.Planted.{PlantedMemory, IsPlanted, raw_memory}
use Rattle.bus_plant.specs.Laws.{RawWordFaults}
use Rattle.atom_mach.specs.Traps.{fault_of_fetched, trap_of_fetched, breakpoint_or, trap_of}

pub fault_on_raw : (p : PlantedMemory) (c : Context) (harts : ℕ) (r : Result ℕ Fault) → RawWordFaults → IsPlanted p → fault_of_fetched c harts (raw_memory p) r ≡ fault_of_fetched c harts p.memory r
fault_on_raw p c harts (Ok word) alike is = alike p is c harts word
fault_on_raw p c harts (Err fault) alike is = refl

trap_of_fetched_on_raw : (p : PlantedMemory) (c : Context) (harts : ℕ) (r : Result ℕ Fault) → RawWordFaults → IsPlanted p → trap_of_fetched c harts (raw_memory p) r ≡ trap_of_fetched c harts p.memory r
trap_of_fetched_on_raw p c harts (Ok word) alike is = ap (λ (f : Option Fault). cond (eqb word EBREAK) (Some Compiled) (option_map FaultReason f)) (alike p is c harts word)
trap_of_fetched_on_raw p c harts (Err fault) alike is = refl

pub trap_on_raw : (p : PlantedMemory) (opened : Bool) (places : List (Option Place)) (h : ℕ) (c : Context) (harts : ℕ) (r : Result ℕ Fault) → RawWordFaults → IsPlanted p →
    trap_of opened places h c harts (raw_memory p) r ≡ trap_of opened places h c harts p.memory r
trap_on_raw p opened places h c harts r alike is =
    ap (λ (t : Option Reason). cond (not opened && eqb h 0) (Some Start) (cond c.halted None (breakpoint_or (first_enabled c.pc places) t))) (trap_of_fetched_on_raw p c harts r alike is)
