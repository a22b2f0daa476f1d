use Rattle.std.proofs.Common.{◌/◌, ◌++◌, ◌∷◌, [], ◌+◌, ◌%◌, ◌≤◌, ap, append_assoc, sym, ◌∙◌, arith}
use Rattle.mach_base.specs.Number.{dec_text}
use Rattle.mach_base.proofs.Digits.{dec_text_digit, dec_text_step, fewer_digits, two_digits}
use Rattle.mach_base.proofs.number.+put_digits.Goals as goal

pub returns-then-value-lt10-clause-text : goal.returns-then-value-lt10-clause-text
returns-then-value-lt10-clause-text t c =
    let is = dec_text_digit c.args.value (omega arith) in
    c.push_reserved.ensures.items ∙ ap (λ d. c.args.out.now.items ++ d) (sym is)

pub put_digits-requires : goal.put_digits-requires
put_digits-requires t c =
    let more : 10 ≤ c.args.value = omega arith in
    let two = two_digits c.args.value c.args.places more c.requires.fits in
    (omega arith, (omega arith, (fewer_digits c.args.value c.args.places more c.requires.fits, omega arith)))

pub returns-clause-text : goal.returns-clause-text
returns-clause-text t c =
    let more : 10 ≤ c.args.value = omega arith in
    let is = dec_text_step c.args.value more (omega arith) in
    c.push_reserved-2.ensures.items ∙ ap (λ x. x ++ (48 + c.args.value % 10) ∷ []) c.put_digits.ensures.text ∙ append_assoc c.args.out.now.items (dec_text (c.args.value / 10)) ((48 + c.args.value % 10) ∷ []) ∙ ap (λ d. c.args.out.now.items ++ d) (sym is)
