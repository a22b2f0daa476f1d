use Rattle.std.proofs.Common.{sym}
use Rattle.io_edge.specs.Edge.{last_count}
use Rattle.io_edge.proofs.Counts.{count_at-grows, count_at-rises}
use Rattle.io_edge.proofs.mem_sink.MemSinkSink.put.Goals as goal

pub returns-then-count_one-clause-count : goal.returns-then-count_one-clause-count
returns-then-count_one-clause-count c =
    let calls = c.self.inside.calls in
    rw (← c.self.view_is, c.count_one.ensures.counted) (count_at-grows last_count calls.failing calls.made)

pub returns-then-count_one-clause-failed : goal.returns-then-count_one-clause-failed
returns-then-count_one-clause-failed c =
    let calls = c.self.inside.calls in
    rw (← c.self.view_is, c.count_one.ensures.counted) (count_at-rises last_count calls.failing calls.made (sym c.if-count_one.ensures.fails))

pub returns-clause-count : goal.returns-clause-count
returns-clause-count c =
    let calls = c.self.inside.calls in
    rw (← c.self.view_is, c.count_one.ensures.counted) (count_at-grows last_count calls.failing calls.made)
