-- A word does on memory with words of text in it what it does on memory without them.
use Rattle.std.proofs.Common.{◌≡◌, ℕ, Bool, true, false, cond, inl, inr, List, ◌∷◌, slice_set, Option, Some, None, refl, sym, ap, ◌∙◌}
use Rattle.mach_base.specs.Bytes.{number_in}
use Rattle.mach_base.specs.Machine.{Context, Memory}
use Rattle.mach_base.specs.declared.event.Fault.{Fault}
use Rattle.hart_ctx.specs.Context.{context_of}
use Rattle.rv_decode.specs.Fields.{Fields, decoded}
use Rattle.mem_map.specs.Access.{access_fault, store_fault, after_store}
use Rattle.mem_map.specs.declared.rights.Access.TheVariants as access
use Rattle.hart_step.specs.declared.class.Class.{Class}
use Rattle.hart_step.specs.declared.class.Class.TheVariants.{Upper, UpperPc, Jump, JumpRegister, Branch, Load, Store, Immediate, Registers, Order, Reserve, Conditional, Atomic, Service, Breakpoint}
use Rattle.hart_step.specs.Operands.{class_of, register, address, extension}
use Rattle.hart_step.specs.Control.{pc_after}
use Rattle.hart_step.specs.Faults.{own_fault, word_fault}
use Rattle.hart_step.specs.Execution.{holds_reservation, with_result, context_after, stored_granule, contexts_after_store, contexts_in, contexts_after, memory_in, memory_after, did_by, unless_faulted}
use Rattle.hart_step.proofs.Frame.{word_fault-memory, keeps_faults, change-word}
use Rattle.bus_plant.specs.Planted.{AreText}
use Rattle.bus_plant.specs.Saved.{addresses, with_words, HoldEbreaks, planted_memory, IsKept}
use Rattle.bus_plant.specs.declared.saved.Saved.{Saved}
use Rattle.bus_plant.proofs.Slots.{ebreaks-after_store}
use Rattle.bus_plant.proofs.WithWords.{AllApart, faults-with_words, text-same, words-after_store, number_in-with_words, apart-rights, load≢fetch, store≢fetch}

module _ (m : Memory) (ws : List (Option Saved)) (text : AreText m (addresses ws)) where
  -- the same fault
  pub word_fault-with_words : (c : Context) (harts word : ℕ) → word_fault c harts (with_words m ws) word ≡ word_fault c harts m word
  word_fault-with_words c harts word = word_fault-memory c harts m (with_words m ws) word (faults-with_words m ws text)

  apart-load : (at width : ℕ) → access_fault m access.Load at width ≡ None → AllApart at width (addresses ws)
  apart-load at width e = apart-rights m (addresses ws) access.Load at width load≢fetch e text

  apart-store : (at width : ℕ) → store_fault m at width ≡ None → AllApart at width (addresses ws)
  unfolding store_fault
  apart-store at width e = apart-rights m (addresses ws) access.Store at width store≢fetch e text

  -- the same numbers
  number-load : (at width : ℕ) → access_fault m access.Load at width ≡ None → number_in (with_words m ws) at width ≡ number_in m at width
  number-load at width e = number_in-with_words m ws at width (apart-load at width e)

  number-store : (at width : ℕ) → store_fault m at width ≡ None → number_in (with_words m ws) at width ≡ number_in m at width
  number-store at width e = number_in-with_words m ws at width (apart-store at width e)

  pub store-with_words : (at width value : ℕ) → store_fault m at width ≡ None → after_store (with_words m ws) at width value ≡ with_words (after_store m at width value) ws
  store-with_words at width value e = sym (words-after_store m ws at width value (apart-store at width e))

  -- the same result in the registers
  result-class : (k : Class) (c : Context) (harts : ℕ) (f : Fields) → own_fault k c harts m f ≡ None → with_result k (with_words m ws) c f ≡ with_result k m c f
  unfolding own_fault with_result
  result-class (Load width signed) c harts f e = rw (number-load (address c f) width e) refl
  result-class (Reserve width) c harts f e = rw (number-store (register c f.rs1) width e) refl
  result-class (Atomic width) c harts f e = rw (number-store (register c f.rs1) width e) refl
  result-class Service c harts f e = refl
  result-class _ c harts f e = refl

  contexts-class : (k : Class) (cs : List Context) (h harts : ℕ) (f : Fields) → own_fault k (context_of cs h) harts m f ≡ None → contexts_in k cs (with_words m ws) h f ≡ contexts_in k cs m h f
  unfolding contexts_in
  contexts-class Service cs h harts f e = refl
  contexts-class k cs h harts f e =
      ap (λ (x : Context). slice_set (contexts_after_store (stored_granule k (context_of cs h) f) cs) h (record x { pc = pc_after k (context_of cs h) f }))
      (result-class k (context_of cs h) harts f e)

  pub contexts-with_words : (cs : List Context) (h harts word : ℕ) → word_fault (context_of cs h) harts m word ≡ None → contexts_after cs (with_words m ws) h word ≡ contexts_after cs m h word
  unfolding word_fault contexts_after
  contexts-with_words cs h harts word e = by_fields (decoded word) refl
    where
      by_fields : (d : Option Fields) → decoded word ≡ d → contexts_after cs (with_words m ws) h word ≡ contexts_after cs m h word
      by_fields None d = rw d refl
      by_fields (Some f) d = rw d (contexts-class (class_of f.op) cs h harts f (rw d at e))

  -- the same stores
  memory-class : (k : Class) (c : Context) (harts : ℕ) (f : Fields) → own_fault k c harts m f ≡ None → memory_in k (with_words m ws) c f ≡ with_words (memory_in k m c f) ws
  unfolding own_fault memory_in
  memory-class (Store width) c harts f e = store-with_words (address c f) width (register c f.rs2) e
  memory-class (Conditional width) c harts f e = by_test (holds_reservation c f)
    where
      by_test : (b : Bool) → cond b (after_store (with_words m ws) (register c f.rs1) width (register c f.rs2)) (with_words m ws) ≡ with_words (cond b (after_store m (register c f.rs1) width (register c f.rs2)) m) ws
      by_test true = store-with_words (register c f.rs1) width (register c f.rs2) e
      by_test false = refl
  memory-class (Atomic width) c harts f e = rw (number-store (register c f.rs1) width e) (store-with_words (register c f.rs1) width _ e)
  memory-class Service c harts f e = refl
  memory-class _ c harts f e = refl

  pub memory-with_words : (c : Context) (harts word : ℕ) → word_fault c harts m word ≡ None → memory_after (with_words m ws) c word ≡ with_words (memory_after m c word) ws
  unfolding word_fault memory_after
  memory-with_words c harts word e = by_fields (decoded word) refl
    where
      by_fields : (d : Option Fields) → decoded word ≡ d → memory_after (with_words m ws) c word ≡ with_words (memory_after m c word) ws
      by_fields None d = rw d refl
      by_fields (Some f) d = rw d (memory-class (class_of f.op) c harts f (rw d at e))

-- what is planted stays
pub executed-kept : (m : Memory) (ws : List (Option Saved)) (c : Context) (harts word : ℕ) → IsKept m ws → word_fault c harts m word ≡ None → IsKept (memory_after m c word) ws
executed-kept m ws c harts word kept e = record {
  text = text-same m (memory_after m c word) (addresses ws) (keeps_faults c harts m word e) kept.text;
  distinct = kept.distinct;
  ebreaks =
      elim (change-word c harts m word e) as (λ _. HoldEbreaks (memory_after m c word) ws) [
        | inl same ↦ rw same kept.ebreaks
        | inr s ↦ rw s.same (ebreaks-after_store m ws s.addr s.width s.value (apart-store m ws kept.text s.addr s.width s.right) kept.ebreaks)
      ];
}

-- a word that may fault
module _ (raw : Memory) (places : List (Option Saved)) (step : Option Saved) (kept : IsKept raw (step ∷ places)) where
  pub exec-kept : (c : Context) (harts word : ℕ) → IsKept (unless_faulted (word_fault c harts raw word) raw (memory_after raw c word)) (step ∷ places)
  exec-kept c harts word = by_fault (word_fault c harts raw word) refl
    where
      by_fault : (o : Option Fault) → word_fault c harts raw word ≡ o → IsKept (unless_faulted o raw (memory_after raw c word)) (step ∷ places)
      by_fault (Some fault) e = kept
      by_fault None e = executed-kept raw (step ∷ places) c harts word kept e

  same_fault : (c : Context) (harts word : ℕ) → word_fault c harts raw word ≡ word_fault c harts (with_words raw (step ∷ places)) word
  same_fault c harts word = sym (word_fault-with_words raw (step ∷ places) kept.text c harts word)

  pub exec-answer : (c : Context) (harts word : ℕ) (byte : Option ℕ) → did_by (word_fault c harts raw word) byte ≡ did_by (word_fault c harts (planted_memory raw places step).memory word) byte
  exec-answer c harts word byte = ap (λ o. did_by o byte) (same_fault c harts word)

  pub exec-contexts : (cs : List Context) (h harts word : ℕ) → unless_faulted (word_fault (context_of cs h) harts raw word) cs (contexts_after cs raw h word) ≡ unless_faulted (word_fault (context_of cs h) harts (planted_memory raw places step).memory word) cs (contexts_after cs (planted_memory raw places step).memory h word)
  exec-contexts cs h harts word =
      by_fault (word_fault (context_of cs h) harts raw word) refl
      ∙ ap (λ o. unless_faulted o cs (contexts_after cs (with_words raw (step ∷ places)) h word)) (same_fault (context_of cs h) harts word)
    where
      by_fault : (o : Option Fault) → word_fault (context_of cs h) harts raw word ≡ o → unless_faulted o cs (contexts_after cs raw h word) ≡ unless_faulted o cs (contexts_after cs (with_words raw (step ∷ places)) h word)
      by_fault (Some fault) e = refl
      by_fault None e = sym (contexts-with_words raw (step ∷ places) kept.text cs h harts word e)

  pub exec-memory : (c : Context) (harts word : ℕ) → planted_memory (unless_faulted (word_fault c harts raw word) raw (memory_after raw c word)) places step ≡ unless_faulted (word_fault c harts (planted_memory raw places step).memory word) (planted_memory raw places step) (record (planted_memory raw places step) { memory = memory_after (planted_memory raw places step).memory c word })
  exec-memory c harts word =
      by_fault (word_fault c harts raw word) refl
      ∙ ap (λ o. unless_faulted o (planted_memory raw places step) (record (planted_memory raw places step) { memory = memory_after (with_words raw (step ∷ places)) c word })) (same_fault c harts word)
    where
      by_fault : (o : Option Fault) → word_fault c harts raw word ≡ o → planted_memory (unless_faulted o raw (memory_after raw c word)) places step ≡ unless_faulted o (planted_memory raw places step) (record (planted_memory raw places step) { memory = memory_after (with_words raw (step ∷ places)) c word })
      by_fault (Some fault) e = refl
      by_fault None e = ap (λ m. record (planted_memory raw places step) { memory = m }) (sym (memory-with_words raw (step ∷ places) kept.text c harts word e))
