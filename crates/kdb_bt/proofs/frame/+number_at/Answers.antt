use Rattle.std.proofs.Common.{arith, ◌+◌, ◌-◌, ◌*◌}
use Rattle.kdb_bt.proofs.Words.{number_fits, word_fits}
use Rattle.kdb_bt.proofs.frame.+number_at.Goals as goal

pub returns-clause-fits : goal.returns-clause-fits
returns-clause-fits g t c = number_fits c.from.result c.in_ok-rest.rest c.args.count (c.args.count - 1) (omega arith) (omega arith) c.in_ok-rest.ensures.fits

pub overflow_add-result : goal.overflow_add-result
overflow_add-result g t c =
    omega (arith, word_fits (c.from.result + 256 * c.in_ok-rest.rest) c.args.count c.requires.few (number_fits c.from.result c.in_ok-rest.rest c.args.count (c.args.count - 1) (omega arith) (omega arith) c.in_ok-rest.ensures.fits))

pub overflow_mul-result : goal.overflow_mul-result
overflow_mul-result g t c =
    omega (arith, word_fits (c.from.result + 256 * c.in_ok-rest.rest) c.args.count c.requires.few (number_fits c.from.result c.in_ok-rest.rest c.args.count (c.args.count - 1) (omega arith) (omega arith) c.in_ok-rest.ensures.fits))
