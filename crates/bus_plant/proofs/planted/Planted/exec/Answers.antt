use Rattle.std.proofs.Common.{◌∙◌, ap, length}
use Rattle.hart_ctx.specs.Context.{context_of}
use Rattle.hart_step.specs.Execution.{byte_sent}
use Rattle.bus_plant.specs.Saved.{planted_memory}
use Rattle.bus_plant.proofs.Execution.{exec-kept, exec-answer, exec-contexts, exec-memory}
use Rattle.bus_plant.proofs.Paging.{raw-kept}
use Rattle.bus_plant.proofs.planted.Planted.exec.Goals as goal

pub invariant_of-self : goal.invariant_of-self
invariant_of-self c = record {
  count = c.self.invariant.count;
  kept = rw c.exec.ensures.memory (exec-kept c.self.inside.raw.memory c.self.inside.places c.self.inside.step c.self.invariant.kept (context_of c.args.ctxs.now c.args.h.0) (length c.args.ctxs.now) c.args.word);
}

pub returns-clause-answer : goal.returns-clause-answer
returns-clause-answer c =
    let same = exec-answer c.self.inside.raw.memory c.self.inside.places c.self.inside.step c.self.invariant.kept (context_of c.args.ctxs.now c.args.h.0) (length c.args.ctxs.now) c.args.word (byte_sent c.args.ctxs.now c.args.h.0 c.args.word) in
    rw (← c.self.view_is) (c.exec.ensures.answer ∙ same)

pub returns-clause-contexts : goal.returns-clause-contexts
returns-clause-contexts c =
    let same = exec-contexts c.self.inside.raw.memory c.self.inside.places c.self.inside.step c.self.invariant.kept c.args.ctxs.now c.args.h.0 (length c.args.ctxs.now) c.args.word in
    rw (← c.self.view_is) (c.exec.ensures.contexts ∙ same)

pub returns-clause-memory : goal.returns-clause-memory
returns-clause-memory c =
    let same = exec-memory c.self.inside.raw.memory c.self.inside.places c.self.inside.step c.self.invariant.kept (context_of c.args.ctxs.now c.args.h.0) (length c.args.ctxs.now) c.args.word in
    rw (← c.self.view_is) (ap (λ m. planted_memory m c.self.inside.places c.self.inside.step) c.exec.ensures.memory ∙ same)

pub returns-clause-pages : goal.returns-clause-pages
returns-clause-pages c = rw (← c.self.view_is) (raw-kept c.self.inside.raw c.exec.new.map _ _ _ _ c.self.invariant.kept (invariant_of-self c).kept c.exec.ensures.pages)
