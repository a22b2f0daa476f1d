use Rattle.std.proofs.Common.{arith, sym, ◌∙◌}
use Rattle.mach_base.proofs.Cuts.{lines_of-none, lines_of-one, lines_of-feed, behind}
use Rattle.mach_base.proofs.lines.next_line.Goals as goal

pub returns-then-is_empty-clause-line : goal.returns-then-is_empty-clause-line
returns-then-is_empty-clause-line c = lines_of-none c.args.text.now (sym c.is_empty.ensures ∙ c.if-is_empty.true)

pub returns-then-feed-text-clause-line : goal.returns-then-feed-text-clause-line
returns-then-feed-text-clause-line c = lines_of-one c.args.text.now c.feed_at-feed.result c.if-feed-text.true (sym c.is_empty.ensures ∙ c.if-is_empty.false) c.feed_at-feed.ensures.before

pub returns-clause-line : goal.returns-clause-line
returns-clause-line c = rw (c.without_return.ensures, c.split_at.ensures.front, c.split_at.ensures.back, behind c.args.text.now c.feed_at-feed.result (omega arith)) (lines_of-feed c.args.text.now c.feed_at-feed.result (omega arith) c.feed_at-feed.ensures.before (c.feed_at-feed.ensures.found (omega arith)))
