use Rattle.std.proofs.Common.{sym, refl}
use Rattle.io_edge.specs.Edge.{last_count}
use Rattle.io_edge.proofs.Counts.{count_at-rises, capped-rises}
use Rattle.io_edge.proofs.mem_shelf.MemShelfShelf.write.Goals as goal

pub returns-then-count_one-clause-others : goal.returns-then-count_one-clause-others
returns-then-count_one-clause-others c = rw (← c.self.view_is) (c.self.inside.store.files, refl, λ _ _. refl)

pub returns-then-count_one-clause-failed : goal.returns-then-count_one-clause-failed
returns-then-count_one-clause-failed c =
    let calls = c.self.inside.calls in
    let rises = count_at-rises last_count calls.failing calls.made (sym c.if-count_one.ensures.fails) in
    rw (← c.self.view_is, c.count_one.ensures.counted) (capped-rises _ _ c.self.inside.missing last_count rises)
