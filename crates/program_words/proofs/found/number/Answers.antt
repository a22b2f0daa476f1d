use Rattle.std.proofs.Common.{refl, arith}
use Rattle.program_words.proofs.Numbers.{number_found}
use Rattle.program_words.proofs.found.number.Goals as goal

pub returns : goal.returns
returns c =
    number_found 64 18446744073709551615 refl (omega arith) c.args.found.now c.args.name.now c.get_one.result c.get_one.ensures.none c.get_one.ensures.value
