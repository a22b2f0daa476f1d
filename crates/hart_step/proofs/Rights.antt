-- Where a store has its right, a load has it too.
use Rattle.std.proofs.Common.{◌≡◌, ℕ, zero, suc, ◌+◌, ◌%◌, eqb, Bool, true, false, cond, not, ◌&&◌, Option, Some, None, refl}
use Rattle.std.proofs.lemmas.Bool.{false≢true}
use Rattle.mach_base.specs.Machine.{Memory}
use Rattle.mach_base.specs.declared.memory_range.Segment.{Segment}
use Rattle.mach_base.specs.declared.memory_range.Kind.{Kind}
use Rattle.mach_base.specs.declared.memory_range.Kind.TheVariants.{Text, Data, Rodata}
use Rattle.mach_base.specs.declared.event.Fault.{Fault}
use Rattle.mach_base.specs.Bytes.{is_mapped, all_bytes}
use Rattle.mem_map.specs.Access.{allows, allowed_in, has_right, access_fault, store_fault}
use Rattle.mem_map.specs.declared.rights.Access.TheVariants.{Load, Store}

kind_allows : (k : Kind) → allows Store k ≡ true → allows Load k ≡ true
kind_allows Text e = absurd (false≢true e)
kind_allows Data e = refl
kind_allows Rodata e = absurd (false≢true e)

segment_allows : (s : Option Segment) → allowed_in Store s ≡ true → allowed_in Load s ≡ true
segment_allows None e = absurd (false≢true e)
segment_allows (Some s) e = kind_allows s.kind e

both : (a b c d : Bool) → (a ≡ true → c ≡ true) → (b ≡ true → d ≡ true) → (a && b) ≡ true → (c && d) ≡ true
both true true c d f g e = rw (f refl, g refl) refl
both true false c d f g e = absurd (false≢true e)
both false b c d f g e = absurd (false≢true e)

bytes_allow : (m : Memory) (addr n : ℕ) → all_bytes (has_right m Store) addr n ≡ true → all_bytes (has_right m Load) addr n ≡ true
bytes_allow m addr zero e = refl
bytes_allow m addr (suc n) e =
    both (all_bytes (has_right m Store) addr n) (has_right m Store (addr + n)) (all_bytes (has_right m Load) addr n) (has_right m Load (addr + n))
    (bytes_allow m addr n) (segment_allows _) e

by_tests : (aligned mapped stores loads : Bool) (f g h : Fault) → (stores ≡ true → loads ≡ true) →
    cond (not aligned) (Some f) (cond (not mapped) (Some g) (cond (not stores) (Some h) None)) ≡ None →
    cond (not aligned) (Some f) (cond (not mapped) (Some g) (cond (not loads) (Some h) None)) ≡ None
by_tests false mapped stores loads f g h imply e = absurd (cc)
by_tests true false stores loads f g h imply e = absurd (cc)
by_tests true true false loads f g h imply e = absurd (cc)
by_tests true true true loads f g h imply e = rw (imply refl) refl

-- no fault of a load where a store has none
pub load_where_stored : (m : Memory) (addr width : ℕ) → store_fault m addr width ≡ None → access_fault m Load addr width ≡ None
unfolding access_fault store_fault
load_where_stored m addr width e =
    by_tests (eqb (addr % width) 0) (all_bytes (is_mapped m) addr width) (all_bytes (has_right m Store) addr width) (all_bytes (has_right m Load) addr width) _ _ _ (bytes_allow m addr width) e
