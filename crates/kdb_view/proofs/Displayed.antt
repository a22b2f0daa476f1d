-- Memory that isn't shown.
use Rattle.std.proofs.Common.{◌≡◌, refl, ℕ, List, Option, Some, None, Result, Err, MatchOption}
use Rattle.std.specs.Prelude.{IsOkUnless}
use Rattle.kdb_mem.specs.declared.mem_fault.MemFault.{MemFault}
use Rattle.kdb_mem.specs.declared.mem_fault.MemFault.TheVariants.{BadAddr, OutOfMemory}
use Rattle.kdb_table.specs.Refused.{Refuses}
use Rattle.kdb_view.specs.MemoryDisplay.{memory_refusal, unless_unmapped}

-- a fault is the refusal that is meant: an address is refused, or there is no memory for the text
pub refused : {A : Type 0} (bad : Option ℕ) (text : List ℕ) (shown : Result A MemFault) (fault : MemFault)
    → MatchOption bad (IsOkUnless shown OutOfMemory) (λ addr. shown ≡ Err (BadAddr addr)) → shown ≡ Err fault
    → Refuses (memory_refusal fault) (unless_unmapped bad text)
refused None text shown fault h is = let lacking : fault ≡ OutOfMemory = rw is at h in rw lacking tt
refused (Some addr) text shown fault h is = let same : fault ≡ BadAddr addr = cc in rw same refl
