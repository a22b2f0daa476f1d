use Rattle.std.proofs.Common.{refl, arith, codes}
use Rattle.program_words.proofs.Numbers.{number_found}
use Rattle.program_words.proofs.found.input_number.Goals as goal

pub returns : goal.returns
returns c =
    number_found 32 4294967295 refl (omega arith) c.args.found.now (codes "number") c.get_one.result c.get_one.ensures.none c.get_one.ensures.value
