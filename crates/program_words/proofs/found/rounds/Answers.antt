use Rattle.std.proofs.Common.{◌∙◌, ℕ, Option, refl, ap, arith, codes, unwrap_or}
use Rattle.program_words.proofs.Numbers.{number_found}
use Rattle.program_words.proofs.found.rounds.Goals as goal

pub returns : goal.returns
returns c =
    c.unwrap_or.ensures ∙ ap (λ (o : Option ℕ). unwrap_or o 1000)
    (number_found 32 4294967295 refl (omega arith) c.args.found.now (codes "rounds") c.get_one.result c.get_one.ensures.none c.get_one.ensures.value)
