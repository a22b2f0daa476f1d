use Rattle.std.proofs.Common.{arith}
use Rattle.kdb_grep.proofs.FirstLine.{EndsLine-at, EndsLine-whole}
use Rattle.kdb_grep.proofs.lines.first_line.Goals as goal

pub returns-in-Some-clause-end : goal.returns-in-Some-clause-end
returns-in-Some-clause-end c =
    let first = c.in-Some.ensures.0 in
    EndsLine-at c.args.text.now c.in-Some.at first.high c.in-Some.ensures.1 (λ j lt. first.before j (omega arith) lt)

pub returns-in-None-clause-end : goal.returns-in-None-clause-end
returns-in-None-clause-end c = EndsLine-whole c.args.text.now (λ j lt. c.in-None.ensures j (omega arith) lt)
