-- An instruction that touches registers and the pc alone faults only as a jump, and stores nothing.
use Rattle.std.proofs.Common.{◌≡◌, ℕ, zero, suc, ◌<◌, List, [], ◌∷◌, slice_set, slice_index_or, Option, Some, None, refl, length, arith}
use Rattle.mach_base.specs.Machine.{Context, Memory}
use Rattle.mach_base.specs.declared.event.Fault.{Fault}
use Rattle.hart_ctx.specs.Context.{context_of}
use Rattle.rv_decode.specs.Fields.{Fields}
use Rattle.hart_step.specs.declared.class.Class.{Class}
use Rattle.hart_step.specs.declared.class.Class.TheVariants.{Upper, UpperPc, Jump, JumpRegister, Branch, Load, Store, Immediate, Registers, Order, Reserve, Conditional, Atomic, Service, Breakpoint}
use Rattle.hart_step.specs.Control.{target}
use Rattle.hart_step.specs.Faults.{target_fault, own_fault}
use Rattle.hart_step.specs.Execution.{IsLocal, context_after, contexts_in, memory_in, byte_in, stored_granule, unless_faulted, did_by}

pub record Facts (k : Class) (cs : List Context) (m : Memory) (h : ℕ) (f : Fields) : Type 0 where
  pub fault : own_fault k (context_of cs h) (length cs) m f ≡ target_fault (target k (context_of cs h) f)
  pub contexts : contexts_in k cs m h f ≡ slice_set cs h (context_after k m (context_of cs h) f)
  pub memory : memory_in k m (context_of cs h) f ≡ m
  pub byte : byte_in k cs h ≡ None

pub local_facts : (k : Class) → IsLocal k → (cs : List Context) (m : Memory) (h : ℕ) (f : Fields) → Facts k cs m h f
unfolding own_fault contexts_in memory_in byte_in stored_granule
local_facts Upper l cs m h f = record { fault = refl; contexts = refl; memory = refl; byte = refl }
local_facts UpperPc l cs m h f = record { fault = refl; contexts = refl; memory = refl; byte = refl }
local_facts Jump l cs m h f = record { fault = refl; contexts = refl; memory = refl; byte = refl }
local_facts JumpRegister l cs m h f = record { fault = refl; contexts = refl; memory = refl; byte = refl }
local_facts Branch l cs m h f = record { fault = refl; contexts = refl; memory = refl; byte = refl }
local_facts Immediate l cs m h f = record { fault = refl; contexts = refl; memory = refl; byte = refl }
local_facts Registers l cs m h f = record { fault = refl; contexts = refl; memory = refl; byte = refl }
local_facts Order l cs m h f = record { fault = refl; contexts = refl; memory = refl; byte = refl }
local_facts Breakpoint l cs m h f = record { fault = refl; contexts = refl; memory = refl; byte = refl }
local_facts (Load width signed) l cs m h f = absurd l
local_facts (Store width) l cs m h f = absurd l
local_facts (Reserve width) l cs m h f = absurd l
local_facts (Conditional width) l cs m h f = absurd l
local_facts (Atomic width) l cs m h f = absurd l
local_facts Service l cs m h f = absurd l

pub local_memory : (k : Class) → IsLocal k → (m : Memory) (c : Context) (f : Fields) (fault : Option Fault) → unless_faulted fault m (memory_in k m c f) ≡ m
unfolding memory_in
local_memory k l m c f (Some x) = refl
local_memory Upper l m c f None = refl
local_memory UpperPc l m c f None = refl
local_memory Jump l m c f None = refl
local_memory JumpRegister l m c f None = refl
local_memory Branch l m c f None = refl
local_memory Immediate l m c f None = refl
local_memory Registers l m c f None = refl
local_memory Order l m c f None = refl
local_memory Breakpoint l m c f None = refl
local_memory (Load width signed) l m c f None = absurd l
local_memory (Store width) l m c f None = absurd l
local_memory (Reserve width) l m c f None = absurd l
local_memory (Conditional width) l m c f None = absurd l
local_memory (Atomic width) l m c f None = absurd l
local_memory Service l m c f None = absurd l

-- a hart's context doesn't depend on what stands for none
pub same_hart : (cs : List Context) (h : ℕ) (d e : Context) → h < length cs → slice_index_or cs h d ≡ slice_index_or cs h e
same_hart [] h d e lt = absurd (omega arith)
same_hart (c ∷ cs) zero d e lt = refl
same_hart (c ∷ cs) (suc h) d e lt = same_hart cs h d e (omega arith)

-- what is done, by the fault of the target
pub local_did : (k : Class) → IsLocal k → (cs : List Context) (m : Memory) (h : ℕ) (f : Fields) (t : Option ℕ) → t ≡ target k (context_of cs h) f → did_by (own_fault k (context_of cs h) (length cs) m f) (byte_in k cs h) ≡ did_by (target_fault t) None
local_did k l cs m h f t e = let x = local_facts k l cs m h f in rw (x.fault, x.byte, e) refl

-- the contexts then
pub local_contexts : (k : Class) → IsLocal k → (cs : List Context) (m : Memory) (h : ℕ) (f : Fields) (t : Option ℕ) → t ≡ target k (context_of cs h) f → unless_faulted (own_fault k (context_of cs h) (length cs) m f) cs (contexts_in k cs m h f) ≡ unless_faulted (target_fault t) cs (slice_set cs h (context_after k m (context_of cs h) f))
local_contexts k l cs m h f t e = let x = local_facts k l cs m h f in rw (x.fault, x.contexts, e) refl
