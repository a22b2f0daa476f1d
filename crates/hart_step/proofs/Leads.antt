-- The pc after executing a word that doesn't fault is the next pc.
use Rattle.std.proofs.Common.{◌≡◌, ◌≢◌, rules, ℕ, zero, suc, ◌<◌, ◌%◌, eqb, Bool, true, false, cond, List, [], ◌∷◌, map, length, slice_set, Option, Some, None, refl, sym, ap, ◌∙◌, arith, get_or-set_same, get_or-set_other}
use Rattle.std.proofs.lemmas.Bool.{eqb-true, eq-eqb, ne_eqb, false≢true}
use Rattle.std.specs.Option.{unwrap_or}
use Rattle.mach_base.specs.Machine.{Context, Memory}
use Rattle.mach_base.specs.declared.event.Fault.{Fault}
use Rattle.mach_base.specs.declared.event.Cause.TheVariants.{BadService}
use Rattle.hart_ctx.specs.Context.{context_of}
use Rattle.rv_decode.specs.Fields.{Fields, decoded}
use Rattle.trap_ipi.specs.Service.{is_known, service_number, argument, caller_after, with_pending, after_known, after_service}
use Rattle.hart_step.specs.declared.class.Class.{Class}
use Rattle.hart_step.specs.declared.class.Class.TheVariants.{Upper, UpperPc, Jump, JumpRegister, Branch, Load, Store, Immediate, Registers, Order, Reserve, Conditional, Atomic, Service, Breakpoint}
use Rattle.hart_step.specs.declared.control.After.TheVariants.{At, Nowhere}
use Rattle.hart_step.specs.Operands.{class_of}
use Rattle.hart_step.specs.Control.{target, following_pc, after_target, after_service_call, next_in, next_pc}
use Rattle.hart_step.specs.Faults.{target_fault, service_fault, own_fault, word_fault}
use Rattle.hart_ctx.specs.Reservation.{without_reservation}
use Rattle.hart_step.specs.Execution.{contexts_after_store, stored_granule, context_after, contexts_in, contexts_after}
use Rattle.hart_step.specs.Laws.{ExecutionLeadsToNext}

-- a jump without fault goes to its target
to_target : (c : Context) (t : Option ℕ) → target_fault t ≡ None → At (unwrap_or t (following_pc c)) ≡ after_target c t
to_target c None e = refl
to_target c (Some t) e = by_test (eqb (t % 4) 0) _ e
  where
    by_test : (b : Bool) (f : Fault) → cond b None (Some f) ≡ None → At t ≡ cond b (At t) Nowhere
    by_test true f e = refl
    by_test false f e = absurd (cc)

-- the context that was set is the hart's
set_here : (cs : List Context) (h : ℕ) (c : Context) → h < length cs → context_of (slice_set cs h c) h ≡ c
set_here cs h c lt = rw get_or-set_same refl

length_released : (g : ℕ) (cs : List Context) → length (map (without_reservation g g) cs) ≡ length cs
length_released g [] = refl
length_released g (c ∷ cs) = ap suc (length_released g cs)

length_ended : (g : Option ℕ) (cs : List Context) → length (contexts_after_store g cs) ≡ length cs
length_ended None cs = refl
length_ended (Some g) cs = length_released g cs

pc_here : (cs : List Context) (g : Option ℕ) (h : ℕ) (c : Context) → h < length cs → (context_of (slice_set (contexts_after_store g cs) h c) h).pc ≡ c.pc
pc_here cs g h c lt =
    let within : h < length (contexts_after_store g cs) = rw length_ended lt in
    ap (λ (k : Context). k.pc) (set_here (contexts_after_store g cs) h c within)

-- whether an interrupt is pending changes no pc
with_pending-pc : (cs : List Context) (k h : ℕ) → h < length cs → k < length cs → (context_of (with_pending cs k) h).pc ≡ (context_of cs h).pc
with_pending-pc cs k h lt below = by_same (eqb k h) refl
  where
    by_same : (b : Bool) → eqb k h ≡ b → (context_of (with_pending cs k) h).pc ≡ (context_of cs h).pc
    by_same true e = rw (eqb-true k h e) (ap (λ (c : Context). c.pc) (set_here cs h (record (context_of cs h) { pending = true }) lt))
    by_same false e = let other : h ≢ k = (λ same. false≢true (sym e ∙ eq-eqb k h (sym same))) in let same : context_of (with_pending cs k) h ≡ context_of cs h = rw get_or-set_other refl in ap (λ (c : Context). c.pc) same

above : (number k : ℕ) → k < number → eqb number k ≡ false
above number k lt = ne_eqb number k (λ e. omega arith)

caller_after-high : (number h : ℕ) (c : Context) → 7 < number → (caller_after number h c).pc ≡ cond (eqb number 7) c.epc (following_pc c)
unfolding caller_after
caller_after-high number h c gt =
    rw (above number 0 (omega arith), above number 2 (omega arith), above number 3 (omega arith), above number 4 (omega arith), above number 5 (omega arith), above number 7 (omega arith)) refl

-- where a service leads, by its number
caller_after-pc : (number h : ℕ) (c : Context) → (caller_after number h c).pc ≡ cond (eqb number 7) c.epc (following_pc c)
unfolding caller_after
caller_after-pc zero h c = refl
caller_after-pc (suc zero) h c = refl
caller_after-pc (suc (suc zero)) h c = refl
caller_after-pc (suc (suc (suc zero))) h c = refl
caller_after-pc (suc (suc (suc (suc zero)))) h c = refl
caller_after-pc (suc (suc (suc (suc (suc zero))))) h c = refl
caller_after-pc (suc (suc (suc (suc (suc (suc zero)))))) h c = refl
caller_after-pc (suc (suc (suc (suc (suc (suc (suc zero))))))) h c = refl
caller_after-pc (suc (suc (suc (suc (suc (suc (suc (suc n)))))))) h c = caller_after-high (suc (suc (suc (suc (suc (suc (suc (suc n)))))))) h c (omega arith)

-- a known service leads where its number says
known_leads : (six : Bool) (cs : List Context) (h number arg : ℕ) (c : Context) → h < length cs → (six ≡ true → arg < length cs) → (context_of (cond six (with_pending (slice_set cs h (caller_after number h c)) arg) (slice_set cs h (caller_after number h c))) h).pc ≡ cond (eqb number 7) c.epc (following_pc c)
known_leads true cs h number arg c lt below =
    let within : h < length (slice_set cs h (caller_after number h c)) = search rules in
    let inside : arg < length (slice_set cs h (caller_after number h c)) = let b = below refl in search rules in
    with_pending-pc (slice_set cs h (caller_after number h c)) arg h within inside ∙ ap (λ (k : Context). k.pc) (set_here cs h (caller_after number h c) lt) ∙ caller_after-pc number h c
known_leads false cs h number arg c lt below = ap (λ (k : Context). k.pc) (set_here cs h (caller_after number h c) lt) ∙ caller_after-pc number h c

at_cond : (b : Bool) (x y : ℕ) → At (cond b x y) ≡ cond b (At x) (At y)
at_cond true x y = refl
at_cond false x y = refl

-- there is the hart that a known service 6 names
named : (harts number arg : ℕ) → is_known harts number arg ≡ true → eqb number 6 ≡ true → arg < harts
named harts number arg e six = search rules

service_leads : (cs : List Context) (h : ℕ) → h < length cs → service_fault (context_of cs h) (length cs) ≡ None → At (context_of (after_service cs h) h).pc ≡ after_service_call (context_of cs h) (length cs)
unfolding after_service
service_leads cs h lt e = by_known (is_known (length cs) (service_number (context_of cs h)) (argument (context_of cs h))) refl e
  where
    by_known : (b : Bool) → is_known (length cs) (service_number (context_of cs h)) (argument (context_of cs h)) ≡ b → cond {A = Option Fault} b None (Some (record { cause = BadService; addr = service_number (context_of cs h) })) ≡ None → At (context_of (cond b (after_known (service_number (context_of cs h)) (argument (context_of cs h)) cs h) cs) h).pc ≡ cond b (cond (eqb (service_number (context_of cs h)) 7) (At (context_of cs h).epc) (At (following_pc (context_of cs h)))) Nowhere
    by_known true known f =
        ap At (known_leads (eqb (service_number (context_of cs h)) 6) cs h (service_number (context_of cs h)) (argument (context_of cs h)) (context_of cs h) lt (named (length cs) (service_number (context_of cs h)) (argument (context_of cs h)) known))
        ∙ at_cond (eqb (service_number (context_of cs h)) 7) (context_of cs h).epc (following_pc (context_of cs h))
    by_known false known f = absurd (cc)

-- an instruction of a class
leads : (k : Class) (cs : List Context) (m : Memory) (h : ℕ) (f : Fields) → h < length cs → own_fault k (context_of cs h) (length cs) m f ≡ None → At (context_of (contexts_in k cs m h f) h).pc ≡ next_in k (context_of cs h) (length cs) f
unfolding own_fault contexts_in next_in target
leads Service cs m h f lt e = service_leads cs h lt e
leads Upper cs m h f lt e = ap At (pc_here cs (stored_granule Upper (context_of cs h) f) h _ lt)
leads UpperPc cs m h f lt e = ap At (pc_here cs (stored_granule UpperPc (context_of cs h) f) h _ lt)
leads Jump cs m h f lt e = ap At (pc_here cs (stored_granule Jump (context_of cs h) f) h (context_after Jump m (context_of cs h) f) lt) ∙ to_target (context_of cs h) (target Jump (context_of cs h) f) e
leads JumpRegister cs m h f lt e = ap At (pc_here cs (stored_granule JumpRegister (context_of cs h) f) h (context_after JumpRegister m (context_of cs h) f) lt) ∙ to_target (context_of cs h) (target JumpRegister (context_of cs h) f) e
leads Branch cs m h f lt e = ap At (pc_here cs (stored_granule Branch (context_of cs h) f) h (context_after Branch m (context_of cs h) f) lt) ∙ to_target (context_of cs h) (target Branch (context_of cs h) f) e
leads (Load width signed) cs m h f lt e = ap At (pc_here cs (stored_granule (Load width signed) (context_of cs h) f) h _ lt)
leads (Store width) cs m h f lt e = ap At (pc_here cs (stored_granule (Store width) (context_of cs h) f) h _ lt)
leads Immediate cs m h f lt e = ap At (pc_here cs (stored_granule Immediate (context_of cs h) f) h _ lt)
leads Registers cs m h f lt e = ap At (pc_here cs (stored_granule Registers (context_of cs h) f) h _ lt)
leads Order cs m h f lt e = ap At (pc_here cs (stored_granule Order (context_of cs h) f) h _ lt)
leads (Reserve width) cs m h f lt e = ap At (pc_here cs (stored_granule (Reserve width) (context_of cs h) f) h _ lt)
leads (Conditional width) cs m h f lt e = ap At (pc_here cs (stored_granule (Conditional width) (context_of cs h) f) h _ lt)
leads (Atomic width) cs m h f lt e = ap At (pc_here cs (stored_granule (Atomic width) (context_of cs h) f) h _ lt)
leads Breakpoint cs m h f lt e = ap At (pc_here cs (stored_granule Breakpoint (context_of cs h) f) h _ lt)

by_instruction : (d : Option Fields) (cs : List Context) (m : Memory) (h word : ℕ) → decoded word ≡ d → h < length cs → word_fault (context_of cs h) (length cs) m word ≡ None → At (context_of (contexts_after cs m h word) h).pc ≡ next_pc (context_of cs h) (length cs) word
unfolding word_fault contexts_after next_pc
by_instruction None cs m h word d lt e = let f = rw d at e in absurd (cc)
by_instruction (Some f) cs m h word d lt e = rw d (leads (class_of f.op) cs m h f lt (rw d at e))

-- stepping and executing agree
pub execution_leads : ExecutionLeadsToNext
execution_leads cs m h word lt e = by_instruction (decoded word) cs m h word refl lt e
