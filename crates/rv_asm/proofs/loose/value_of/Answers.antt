use Rattle.std.proofs.Common.{◌+◌, ◌%◌, ◌^◌, take, ap, ◌∙◌, arith}
use Rattle.std.specs.Str.Parse.{digits_value}
use Rattle.std.proofs.lemmas.Int.Digits.{digits_value_more}
use Rattle.std.proofs.lemmas.List.{take_all}
use Rattle.rv_asm.specs.Meant.{value_of}
use Rattle.rv_asm.proofs.Digits.{value_more}
use Rattle.rv_asm.proofs.loose.value_of.Goals as goal

pub loop-byte-preserved : goal.loop-byte-preserved
loop-byte-preserved c =
    let ds = c.args.text.now in
    let i = c.loop-byte.byte-index in
    let next = digits_value_more c.args.radix ds i (omega arith) in
    rw (c.from.ensures, c.from-in-loop-byte.ensures, c.digit_value.ensures.value)
    (value_more c.args.radix c.loop-byte.value (digits_value c.args.radix (take i ds)) _ (digits_value c.args.radix (take (i + 1) ds)) c.requires c.loop-byte.invariant next)

pub returns : goal.returns
unfolding value_of
returns c =
    let ds = c.args.text.now in
    c.loop-byte.invariant ∙ ap (λ t. digits_value c.args.radix t % 2 ^ 32) (take_all c.loop-byte.byte-index ds (omega arith))
