use Rattle.std.proofs.Common.{◌∙◌, ℕ, Option, refl, ap, arith, codes, unwrap_or}
use Rattle.program_words.proofs.Numbers.{number_found}
use Rattle.program_words.proofs.found.harts.Goals as goal

pub returns : goal.returns
returns c =
    c.unwrap_or.ensures ∙ ap (λ (o : Option ℕ). unwrap_or o 1)
    (number_found 8 255 refl (omega arith) c.args.found.now (codes "harts") c.get_one.result c.get_one.ensures.none c.get_one.ensures.value)
