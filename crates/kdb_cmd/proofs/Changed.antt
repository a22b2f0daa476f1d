-- Memory that isn't changed.
use Rattle.std.proofs.Common.{◌≡◌, refl, ℕ, Option, Some, None, Result, Err, MatchOption}
use Rattle.std.specs.Prelude.{IsOkUnless}
use Rattle.mach_base.specs.Machine.{LineState}
use Rattle.kdb_mem.specs.declared.mem_fault.MemFault.{MemFault}
use Rattle.kdb_mem.specs.declared.mem_fault.MemFault.TheVariants.{BadAddr, TooWide, OutOfMemory}
use Rattle.kdb_table.specs.Refused.{Refuses}
use Rattle.kdb_view.specs.MemoryDisplay.{memory_refusal}
use Rattle.kdb_cmd.specs.command.MemoryChange.{write_or_diagnostic}

-- a fault is the refusal that is meant: the write is refused, or there is no memory for the text
pub refused : {A : Type 0} (why : Option MemFault) (s : LineState) (addr width value : ℕ) (written : Result A MemFault) (fault : MemFault)
    → MatchOption why (IsOkUnless written OutOfMemory) (λ f. written ≡ Err f) → written ≡ Err fault
    → Refuses (memory_refusal fault) (write_or_diagnostic why s addr width value)
refused None s addr width value written fault h is = let lacking : fault ≡ OutOfMemory = rw is at h in rw lacking tt
refused (Some (BadAddr bad)) s addr width value written fault h is = let same : fault ≡ BadAddr bad = cc in rw same refl
refused (Some TooWide) s addr width value written fault h is = let same : fault ≡ TooWide = cc in rw same refl
refused (Some OutOfMemory) s addr width value written fault h is = let same : fault ≡ OutOfMemory = cc in rw same tt
