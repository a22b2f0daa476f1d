use Rattle.std.proofs.Common.{sym, ◌∙◌}
use Rattle.io_edge.specs.Edge.{last_count}
use Rattle.io_edge.proofs.Counts.{count_at-grows, count_at-rises, capped-rises, capped-counted}
use Rattle.io_edge.proofs.mem_shelf.MemShelfShelf.read.Goals as goal

pub returns-then-next_fails-clause-failed : goal.returns-then-next_fails-clause-failed
returns-then-next_fails-clause-failed c = λ _.
    let calls = c.self.inside.calls in
    let rises = count_at-rises last_count calls.failing calls.made (sym c.next_fails.ensures ∙ c.if-next_fails.true) in
    rw (← c.self.view_is, c.count_one.ensures.counted) (capped-rises _ _ c.self.inside.missing last_count rises)

pub returns-in-None-clause-failed : goal.returns-in-None-clause-failed
returns-in-None-clause-failed c = λ _.
    let calls = c.self.inside.calls in
    let grows = count_at-grows last_count calls.failing calls.made in
    rw (← c.self.view_is, c.count_one-in-None.ensures.counted, c.saturating_add-self-inside.ensures) (capped-counted _ _ c.self.inside.missing last_count grows)
