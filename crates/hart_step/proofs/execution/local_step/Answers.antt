use Rattle.std.proofs.Common.{◌≡◌, Some, None, sym, ap, ◌∙◌, slice_index_or, slice_set}
use Rattle.hart_ctx.specs.Context.{context_of, start_context}
use Rattle.rv_decode.specs.Instruction.{fields_of}
use Rattle.hart_step.specs.Control.{target}
use Rattle.hart_step.specs.Faults.{target_fault}
use Rattle.hart_step.specs.Execution.{context_after, did_by, unless_faulted}
use Rattle.hart_step.proofs.Local.{local_did, local_contexts, local_memory, same_hart}
use Rattle.hart_step.proofs.execution.local_step.Goals as goal

pub returns-in-Some-clause-answer : goal.returns-in-Some-clause-answer
returns-in-Some-clause-answer c = λ m.
    let cs = c.args.ctxs.now in
    let is : c.target-target.result ≡ target c.args.class (context_of cs c.args.h.0) (fields_of c.args.insn.now) = c.target-target.ensures ∙ ap (λ x. target c.args.class x (fields_of c.args.insn.now)) (ap (λ i. slice_index_or cs i c.index-ctxs-from.result) c.from.ensures ∙ same_hart cs c.args.h.0 c.index-ctxs-from.result (start_context 0 0) c.requires.hart) in
    let faults : target_fault c.target-target.result ≡ Some c.in-Some.fault = sym c.target_fault.ensures ∙ c.in-Some.is in
    sym (local_did c.args.class c.requires.local cs m c.args.h.0 (fields_of c.args.insn.now) c.target-target.result is ∙ ap (λ f. did_by f None) faults)

pub returns-in-Some-clause-contexts : goal.returns-in-Some-clause-contexts
returns-in-Some-clause-contexts c = λ m.
    let cs = c.args.ctxs.now in
    let is : c.target-target.result ≡ target c.args.class (context_of cs c.args.h.0) (fields_of c.args.insn.now) = c.target-target.ensures ∙ ap (λ x. target c.args.class x (fields_of c.args.insn.now)) (ap (λ i. slice_index_or cs i c.index-ctxs-from.result) c.from.ensures ∙ same_hart cs c.args.h.0 c.index-ctxs-from.result (start_context 0 0) c.requires.hart) in
    let faults : target_fault c.target-target.result ≡ Some c.in-Some.fault = sym c.target_fault.ensures ∙ c.in-Some.is in
    sym (local_contexts c.args.class c.requires.local cs m c.args.h.0 (fields_of c.args.insn.now) c.target-target.result is ∙ ap (λ f. unless_faulted f cs (slice_set cs c.args.h.0 (context_after c.args.class m (context_of cs c.args.h.0) (fields_of c.args.insn.now)))) faults)

pub returns-in-Some-clause-memory : goal.returns-in-Some-clause-memory
returns-in-Some-clause-memory c = λ m fault. local_memory c.args.class c.requires.local m (context_of c.args.ctxs.now c.args.h.0) (fields_of c.args.insn.now) fault

pub returns-clause-answer : goal.returns-clause-answer
returns-clause-answer c = λ m.
    let cs = c.args.ctxs.now in
    let is : c.target-target.result ≡ target c.args.class (context_of cs c.args.h.0) (fields_of c.args.insn.now) = c.target-target.ensures ∙ ap (λ x. target c.args.class x (fields_of c.args.insn.now)) (ap (λ i. slice_index_or cs i c.index-ctxs-from.result) c.from.ensures ∙ same_hart cs c.args.h.0 c.index-ctxs-from.result (start_context 0 0) c.requires.hart) in
    let right : target_fault c.target-target.result ≡ None = sym c.target_fault.ensures ∙ c.in_default.is in
    sym (local_did c.args.class c.requires.local cs m c.args.h.0 (fields_of c.args.insn.now) c.target-target.result is ∙ ap (λ f. did_by f None) right)

pub returns-clause-contexts : goal.returns-clause-contexts
returns-clause-contexts c = λ m.
    let cs = c.args.ctxs.now in
    let here = ap (λ i. slice_index_or cs i c.index-ctxs-from.result) c.from.ensures ∙ same_hart cs c.args.h.0 c.index-ctxs-from.result (start_context 0 0) c.requires.hart in
    let is : c.target-target.result ≡ target c.args.class (context_of cs c.args.h.0) (fields_of c.args.insn.now) = c.target-target.ensures ∙ ap (λ x. target c.args.class x (fields_of c.args.insn.now)) here in
    let right : target_fault c.target-target.result ≡ None = sym c.target_fault.ensures ∙ c.in_default.is in
    let again = ap (λ i. slice_index_or cs i c.index-ctxs-from-2.result) c.from-2.ensures ∙ same_hart cs c.args.h.0 c.index-ctxs-from-2.result (start_context 0 0) c.requires.hart in
    let new = c.advance.ensures m ∙ ap (λ x. context_after c.args.class m x (fields_of c.args.insn.now)) again in
    ap (λ i. slice_set cs i c.advance.new.ctx) c.from-2.ensures ∙ ap (λ x. slice_set cs c.args.h.0 x) new
    ∙ sym (local_contexts c.args.class c.requires.local cs m c.args.h.0 (fields_of c.args.insn.now) c.target-target.result is ∙ ap (λ f. unless_faulted f cs (slice_set cs c.args.h.0 (context_after c.args.class m (context_of cs c.args.h.0) (fields_of c.args.insn.now)))) right)

pub returns-clause-memory : goal.returns-clause-memory
returns-clause-memory c = λ m fault. local_memory c.args.class c.requires.local m (context_of c.args.ctxs.now c.args.h.0) (fields_of c.args.insn.now) fault
