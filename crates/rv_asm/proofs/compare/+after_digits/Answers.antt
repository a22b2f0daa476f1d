use Rattle.std.proofs.Common.{rules, ◌/◌, ◌%◌, [], ◌∷◌, false, ap, arith}
use Rattle.std.specs.Char.{digit_char}
use Rattle.std.specs.Fmt.{digits}
use Rattle.rv_asm.specs.Rest.{after}
use Rattle.rv_asm.proofs.Digits.{one_digit, more_digits}
use Rattle.rv_asm.proofs.Rest.{none_after, some_after, same_answer, no_answer}
use Rattle.rv_asm.proofs.compare.+after_digits.Goals as goal

pub returns-then-number-radix : goal.returns-then-number-radix
returns-then-number-radix t c =
    let n = c.args.number in
    same_answer _ _ c.after_digit.result (ap (λ x. after x c.args.line.now) (one_digit c.args.radix n c.requires c.if-number-radix.true)) c.after_digit.ensures

pub returns-in_err-rest : goal.returns-in_err-rest
returns-in_err-rest t c =
    let n = c.args.number in
    let r = c.args.radix in
    no_answer _ c.from_residual.result (none_after (digits r false n) (digits r false (n / r)) (digit_char (n % r) ∷ []) c.args.line.now (more_digits r n c.requires (omega arith) (omega arith)) c.in_err-rest.ensures) (search rules)

pub returns : goal.returns
returns t c =
    let n = c.args.number in
    let r = c.args.radix in
    same_answer _ _ c.after_digit-2.result (some_after (digits r false n) (digits r false (n / r)) (digit_char (n % r) ∷ []) c.args.line.now c.in_ok-rest.rest.now (more_digits r n c.requires (omega arith) (omega arith)) c.in_ok-rest.ensures) c.after_digit-2.ensures
