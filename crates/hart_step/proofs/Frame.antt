-- What execution leaves: the other harts, and memory but for the bytes that are stored.
use Rattle.std.proofs.Common.{◌≡◌, ◌≢◌, ℕ, zero, suc, eqb, Bool, true, false, cond, ◌⊎◌, inl, inr, List, [], ◌∷◌, map, length, slice_set, Option, Some, None, refl, sym, ap, ◌∙◌}
use Rattle.std.proofs.lemmas.List.{get_or-set_other, length-map, length-set}
use Rattle.std.proofs.Math.ListN.{get_or-map}
use Rattle.mach_base.specs.Machine.{Context, Memory}
use Rattle.mach_base.specs.declared.event.Fault.{Fault}
use Rattle.hart_ctx.specs.Context.{context_of, start_context, IsUnmoved}
use Rattle.hart_ctx.specs.Reservation.{is_among, without_reservation}
use Rattle.rv_decode.specs.Fields.{Fields, decoded}
use Rattle.rv_alu.specs.Results.{amo_result}
use Rattle.mem_map.specs.declared.rights.Access.{Access}
use Rattle.mem_map.specs.declared.rights.Access.TheVariants as access
use Rattle.mach_base.specs.Bytes.{number_in}
use Rattle.mem_map.specs.Access.{access_fault, store_fault, after_store, fetch_result}
use Rattle.mem_map.proofs.Stores.{store_keeps, store_keeps_fetched, segments-after_store}
use Rattle.trap_ipi.specs.Interrupt.{after_interrupt}
use Rattle.trap_ipi.specs.Service.{is_known, service_number, argument, caller_after, with_pending, after_known, after_service}
use Rattle.hart_step.specs.declared.class.Class.{Class}
use Rattle.hart_step.specs.declared.class.Class.TheVariants.{Upper, UpperPc, Jump, JumpRegister, Branch, Load, Store, Immediate, Registers, Order, Reserve, Conditional, Atomic, Service, Breakpoint}
use Rattle.hart_step.specs.Operands.{class_of, register, address, extension}
use Rattle.hart_step.specs.Control.{target, next_in, next_pc}
use Rattle.hart_step.specs.Faults.{own_fault, word_fault}
use Rattle.hart_step.specs.Execution.{holds_reservation, stored_granule, contexts_after_store, context_after, contexts_in, contexts_after, memory_in, memory_after}
use Rattle.hart_step.specs.Laws.{ExecutionKeepsOthers, UnmovedContextsAgree, ExecutionKeepsShape, ExecutionKeepsFaults, ExecutionKeepsText, ExecutionKeepsFaultsOfOthers, InterruptKeepsOthers}

-- a context that is the same is unmoved
same_unmoved : (c d : Context) → d ≡ c → IsUnmoved c d
same_unmoved c d e = record { interrupt = c.pending; granule = c.reservation; same = e }

unmoved_twice : (c d e : Context) → IsUnmoved c d → IsUnmoved d e → IsUnmoved c e
unmoved_twice c d e p q = record {
  interrupt = q.interrupt;
  granule = q.granule;
  same = q.same ∙ ap (λ (x : Context). record x { pending = q.interrupt; reservation = q.granule }) p.same;
}

-- a write to one hart leaves the others
other_after_set : (cs : List Context) (h other : ℕ) (c : Context) → other ≢ h → context_of (slice_set cs h c) other ≡ context_of cs other
other_after_set cs h other c ne = get_or-set_other cs h other c (start_context 0 0) ne

unmoved-released : (first last : ℕ) (c : Context) → IsUnmoved c (without_reservation first last c)
unmoved-released first last c = by_test (is_among first last c.reservation)
  where
    by_test : (b : Bool) → IsUnmoved c (cond b (record c { reservation = None }) c)
    by_test true = record { interrupt = c.pending; granule = None; same = refl }
    by_test false = same_unmoved c c refl

-- a store leaves every hart
unmoved-after_store : (granule : Option ℕ) (cs : List Context) (g : ℕ) → IsUnmoved (context_of cs g) (context_of (contexts_after_store granule cs) g)
unmoved-after_store None cs g = same_unmoved (context_of cs g) (context_of cs g) refl
unmoved-after_store (Some granule) cs g =
    let release : Context → Context = without_reservation granule granule in
    let same : context_of (map release cs) g ≡ release (context_of cs g) = get_or-map release cs g (start_context 0 0) in
    unmoved_twice (context_of cs g) (release (context_of cs g)) (context_of (map release cs) g)
    (unmoved-released granule granule (context_of cs g)) (same_unmoved _ _ same)

-- an interrupt that becomes pending leaves every hart
unmoved-with_pending : (cs : List Context) (k g : ℕ) → IsUnmoved (context_of cs g) (context_of (with_pending cs k) g)
unmoved-with_pending [] k g = same_unmoved (start_context 0 0) (start_context 0 0) refl
unmoved-with_pending (c ∷ cs) zero zero = record { interrupt = true; granule = c.reservation; same = refl }
unmoved-with_pending (c ∷ cs) zero (suc g) = same_unmoved (context_of cs g) (context_of cs g) refl
unmoved-with_pending (c ∷ cs) (suc k) zero = same_unmoved c c refl
unmoved-with_pending (c ∷ cs) (suc k) (suc g) = unmoved-with_pending cs k g

-- the service asked for leaves every other hart
unmoved-asked : (six : Bool) (cs own : List Context) (k g : ℕ) → context_of own g ≡ context_of cs g → IsUnmoved (context_of cs g) (context_of (cond six (with_pending own k) own) g)
unmoved-asked true cs own k g left = unmoved_twice (context_of cs g) (context_of own g) _ (same_unmoved _ _ left) (unmoved-with_pending own k g)
unmoved-asked false cs own k g left = same_unmoved (context_of cs g) (context_of own g) left

unmoved-service : (cs : List Context) (h g : ℕ) → g ≢ h → IsUnmoved (context_of cs g) (context_of (after_service cs h) g)
unfolding after_service
unmoved-service cs h g ne = by_known (is_known (length cs) (service_number (context_of cs h)) (argument (context_of cs h)))
  where
    by_known : (b : Bool) → IsUnmoved (context_of cs g) (context_of (cond b (after_known (service_number (context_of cs h)) (argument (context_of cs h)) cs h) cs) g)
    by_known true =
        let c : Context = caller_after (service_number (context_of cs h)) h (context_of cs h) in
        unmoved-asked (eqb (service_number (context_of cs h)) 6) cs (slice_set cs h c) (argument (context_of cs h)) g (other_after_set cs h g c ne)
    by_known false = same_unmoved (context_of cs g) (context_of cs g) refl

-- an instruction of a class leaves the others
unmoved-own : (granule : Option ℕ) (cs : List Context) (h g : ℕ) (c : Context) → g ≢ h → IsUnmoved (context_of cs g) (context_of (slice_set (contexts_after_store granule cs) h c) g)
unmoved-own granule cs h g c ne =
    let left : context_of (slice_set (contexts_after_store granule cs) h c) g ≡ context_of (contexts_after_store granule cs) g = other_after_set (contexts_after_store granule cs) h g c ne in
    unmoved_twice (context_of cs g) (context_of (contexts_after_store granule cs) g) _ (unmoved-after_store granule cs g) (same_unmoved _ _ left)

unmoved-class : (k : Class) (cs : List Context) (m : Memory) (h g : ℕ) (f : Fields) → g ≢ h → IsUnmoved (context_of cs g) (context_of (contexts_in k cs m h f) g)
unfolding contexts_in
unmoved-class Service cs m h g f ne = unmoved-service cs h g ne
unmoved-class k cs m h g f ne = unmoved-own (stored_granule k (context_of cs h) f) cs h g (context_after k m (context_of cs h) f) ne

pub keeps_others : ExecutionKeepsOthers
unfolding contexts_after
keeps_others cs m h word g ne = by_fields (decoded word) refl
  where
    by_fields : (d : Option Fields) → decoded word ≡ d → IsUnmoved (context_of cs g) (context_of (contexts_after cs m h word) g)
    by_fields None d = rw d (same_unmoved (context_of cs g) (context_of cs g) refl)
    by_fields (Some f) d = rw d (unmoved-class (class_of f.op) cs m h g f ne)

-- a fault and a next pc don't look at the pending interrupt and the reservation
own_fault-unmoved : (k : Class) (c : Context) (p : Bool) (r : Option ℕ) (harts : ℕ) (m : Memory) (f : Fields) → own_fault k (record c { pending = p; reservation = r }) harts m f ≡ own_fault k c harts m f
unfolding own_fault target
own_fault-unmoved Service c p r harts m f = refl
own_fault-unmoved _ c p r harts m f = refl

next_in-unmoved : (k : Class) (c : Context) (p : Bool) (r : Option ℕ) (harts : ℕ) (f : Fields) → next_in k (record c { pending = p; reservation = r }) harts f ≡ next_in k c harts f
unfolding next_in target
next_in-unmoved Service c p r harts f = refl
next_in-unmoved _ c p r harts f = refl

word_fault-unmoved : (c : Context) (p : Bool) (r : Option ℕ) (harts : ℕ) (m : Memory) (word : ℕ) → word_fault (record c { pending = p; reservation = r }) harts m word ≡ word_fault c harts m word
unfolding word_fault
word_fault-unmoved c p r harts m word = by_fields (decoded word) refl
  where
    by_fields : (d : Option Fields) → decoded word ≡ d → word_fault (record c { pending = p; reservation = r }) harts m word ≡ word_fault c harts m word
    by_fields None d = rw d refl
    by_fields (Some f) d = rw d (own_fault-unmoved (class_of f.op) c p r harts m f)

next_pc-unmoved : (c : Context) (p : Bool) (r : Option ℕ) (harts : ℕ) (word : ℕ) → next_pc (record c { pending = p; reservation = r }) harts word ≡ next_pc c harts word
unfolding next_pc
next_pc-unmoved c p r harts word = by_fields (decoded word) refl
  where
    by_fields : (d : Option Fields) → decoded word ≡ d → next_pc (record c { pending = p; reservation = r }) harts word ≡ next_pc c harts word
    by_fields None d = rw d refl
    by_fields (Some f) d = rw d (next_in-unmoved (class_of f.op) c p r harts f)

pub contexts_agree : UnmovedContextsAgree
contexts_agree c d harts m word u = (
  ap (λ (x : Context). word_fault x harts m word) u.same ∙ word_fault-unmoved c u.interrupt u.granule harts m word,
  ap (λ (x : Context). next_pc x harts word) u.same ∙ next_pc-unmoved c u.interrupt u.granule harts word,
)

-- the number of harts
length-contexts_after_store : (granule : Option ℕ) (cs : List Context) → length (contexts_after_store granule cs) ≡ length cs
length-contexts_after_store None cs = refl
length-contexts_after_store (Some granule) cs = length-map cs (without_reservation granule granule)

length-service : (cs : List Context) (h : ℕ) → length (after_service cs h) ≡ length cs
unfolding after_service
length-service cs h = by_known (is_known (length cs) (service_number (context_of cs h)) (argument (context_of cs h)))
  where
    by_six : (b : Bool) (ds : List Context) (k : ℕ) → length ds ≡ length cs → length (cond b (with_pending ds k) ds) ≡ length cs
    by_six true ds k e = length-set ds k (record (context_of ds k) { pending = true }) ∙ e
    by_six false ds k e = e

    by_known : (b : Bool) → length (cond b (after_known (service_number (context_of cs h)) (argument (context_of cs h)) cs h) cs) ≡ length cs
    by_known true =
        by_six (eqb (service_number (context_of cs h)) 6) (slice_set cs h (caller_after (service_number (context_of cs h)) h (context_of cs h))) (argument (context_of cs h))
        (length-set cs h (caller_after (service_number (context_of cs h)) h (context_of cs h)))
    by_known false = refl

length-class : (k : Class) (cs : List Context) (m : Memory) (h : ℕ) (f : Fields) → length (contexts_in k cs m h f) ≡ length cs
unfolding contexts_in
length-class Service cs m h f = length-service cs h
length-class k cs m h f =
    length-set (contexts_after_store (stored_granule k (context_of cs h) f) cs) h (context_after k m (context_of cs h) f)
    ∙ length-contexts_after_store (stored_granule k (context_of cs h) f) cs

length-contexts : (cs : List Context) (m : Memory) (h word : ℕ) → length (contexts_after cs m h word) ≡ length cs
unfolding contexts_after
length-contexts cs m h word = by_fields (decoded word) refl
  where
    by_fields : (d : Option Fields) → decoded word ≡ d → length (contexts_after cs m h word) ≡ length cs
    by_fields None d = rw d refl
    by_fields (Some f) d = rw d (length-class (class_of f.op) cs m h f)

-- Memory after an instruction is the memory before, or that after a store that doesn't fault.
pub record IsStore (before after : Memory) : Type 0 where
  pub addr : ℕ
  pub width : ℕ
  pub value : ℕ
  pub right : store_fault before addr width ≡ None
  pub same : after ≡ after_store before addr width value

-- what an instruction of a class stores, where it doesn't fault
change-class : (k : Class) (c : Context) (harts : ℕ) (m : Memory) (f : Fields) → own_fault k c harts m f ≡ None → (memory_in k m c f ≡ m) ⊎ IsStore m (memory_in k m c f)
unfolding own_fault memory_in
change-class (Store width) c harts m f e = inr (record { addr = address c f; width = width; value = register c f.rs2; right = e; same = refl })
change-class (Conditional width) c harts m f e = by_test (holds_reservation c f)
  where
    by_test : (b : Bool) → (cond b (after_store m (register c f.rs1) width (register c f.rs2)) m ≡ m) ⊎ IsStore m (cond b (after_store m (register c f.rs1) width (register c f.rs2)) m)
    by_test true = inr (record { addr = register c f.rs1; width = width; value = register c f.rs2; right = e; same = refl })
    by_test false = inl refl
change-class (Atomic width) c harts m f e = inr (record {
  addr = register c f.rs1;
  width = width;
  value = amo_result f.op (extension width true (number_in m (register c f.rs1) width)) (register c f.rs2);
  right = e;
  same = refl;
})
change-class Service c harts m f e = inl refl
change-class _ c harts m f e = inl refl

-- what a word stores, where it doesn't fault
pub change-word : (c : Context) (harts : ℕ) (m : Memory) (word : ℕ) → word_fault c harts m word ≡ None → (memory_after m c word ≡ m) ⊎ IsStore m (memory_after m c word)
unfolding word_fault memory_after
change-word c harts m word e = by_fields (decoded word) refl e
  where
    by_fields : (d : Option Fields) → decoded word ≡ d → word_fault c harts m word ≡ None → (memory_after m c word ≡ m) ⊎ IsStore m (memory_after m c word)
    by_fields None d e = rw d (inl refl)
    by_fields (Some f) d e = rw d (change-class (class_of f.op) c harts m f (rw d at e))

pub keeps_faults : ExecutionKeepsFaults
keeps_faults c harts m word e access at size =
    elim (change-word c harts m word e) as (λ _. access_fault (memory_after m c word) access at size ≡ access_fault m access at size) [
      | inl same ↦ ap (λ x. access_fault x access at size) same
      | inr s ↦ ap (λ x. access_fault x access at size) s.same ∙ store_keeps m s.addr s.width s.value s.right access at size
    ]

pub keeps_text : ExecutionKeepsText
keeps_text c harts m word e at =
    elim (change-word c harts m word e) as (λ _. fetch_result (memory_after m c word) at ≡ fetch_result m at) [
      | inl same ↦ ap (λ x. fetch_result x at) same
      | inr s ↦ ap (λ x. fetch_result x at) s.same ∙ store_keeps_fetched m s.addr s.width s.value s.right at
    ]

-- a fault depends on memory by the faults of accesses alone
own_fault-memory : (k : Class) (c : Context) (harts : ℕ) (m n : Memory) (f : Fields) → ((access : Access) (at size : ℕ) → access_fault n access at size ≡ access_fault m access at size) → own_fault k c harts n f ≡ own_fault k c harts m f
unfolding own_fault store_fault
own_fault-memory (Load width signed) c harts m n f same = same access.Load (address c f) width
own_fault-memory (Store width) c harts m n f same = same access.Store (address c f) width
own_fault-memory (Reserve width) c harts m n f same = same access.Store (register c f.rs1) width
own_fault-memory (Conditional width) c harts m n f same = same access.Store (register c f.rs1) width
own_fault-memory (Atomic width) c harts m n f same = same access.Store (register c f.rs1) width
own_fault-memory Service c harts m n f same = refl
own_fault-memory _ c harts m n f same = refl

pub word_fault-memory : (c : Context) (harts : ℕ) (m n : Memory) (word : ℕ) → ((access : Access) (at size : ℕ) → access_fault n access at size ≡ access_fault m access at size) → word_fault c harts n word ≡ word_fault c harts m word
unfolding word_fault
word_fault-memory c harts m n word same = by_fields (decoded word) refl
  where
    by_fields : (d : Option Fields) → decoded word ≡ d → word_fault c harts n word ≡ word_fault c harts m word
    by_fields None d = rw d refl
    by_fields (Some f) d = rw d (own_fault-memory (class_of f.op) c harts m n f same)

pub keeps_faults_of_others : ExecutionKeepsFaultsOfOthers
keeps_faults_of_others cs m h word other harts own ne e =
    let c = context_of cs other in
    let d = context_of (contexts_after cs m h word) other in
    let after = memory_after m (context_of cs h) word in
    let agree = contexts_agree c d harts after own (keeps_others cs m h word other ne) in
    (agree.0 ∙ word_fault-memory c harts m after own (keeps_faults (context_of cs h) harts m word e), agree.1)

-- the segments
segments-class : (k : Class) (m : Memory) (c : Context) (f : Fields) → (memory_in k m c f).segments ≡ m.segments
unfolding memory_in
segments-class (Store width) m c f = segments-after_store m (address c f) width (register c f.rs2)
segments-class (Conditional width) m c f = by_test (holds_reservation c f)
  where
    by_test : (b : Bool) → (cond b (after_store m (register c f.rs1) width (register c f.rs2)) m).segments ≡ m.segments
    by_test true = segments-after_store m (register c f.rs1) width (register c f.rs2)
    by_test false = refl
segments-class (Atomic width) m c f = segments-after_store m (register c f.rs1) width _
segments-class Service m c f = refl
segments-class _ m c f = refl

segments-word : (m : Memory) (c : Context) (word : ℕ) → (memory_after m c word).segments ≡ m.segments
unfolding memory_after
segments-word m c word = by_fields (decoded word) refl
  where
    by_fields : (d : Option Fields) → decoded word ≡ d → (memory_after m c word).segments ≡ m.segments
    by_fields None d = rw d refl
    by_fields (Some f) d = rw d (segments-class (class_of f.op) m c f)

pub keeps_shape : ExecutionKeepsShape
keeps_shape cs m h word = (length-contexts cs m h word, segments-word m (context_of cs h) word)

pub interrupt_keeps : InterruptKeepsOthers
interrupt_keeps cs h other ne = other_after_set cs h other (after_interrupt (context_of cs h)) ne
