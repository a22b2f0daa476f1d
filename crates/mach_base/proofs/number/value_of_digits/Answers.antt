use Rattle.std.proofs.Common.{◌≡◌, ◌+◌, take, arith}
use Rattle.std.specs.Str.Parse.{digits_value}
use Rattle.std.proofs.lemmas.Int.Digits.{digits_value_more}
use Rattle.std.proofs.lemmas.List.{take_all}
use Rattle.mach_base.proofs.Digits.{AllDigits-at, digits_value-take-le}
use Rattle.mach_base.proofs.number.value_of_digits.Goals as goal

pub returns-in-None : goal.returns-in-None
returns-in-None c = λ small.
    let ds = c.args.digits.now in
    let i = c.loop-digit.digit-index in
    let next = digits_value_more c.args.radix ds i (omega arith) in
    let front = digits_value-take-le c.args.radix (i + 1) ds (omega arith) in
    let digit = AllDigits-at c.args.radix ds i c.requires.digits (omega arith) in
    let so_far : c.loop-digit.value ≡ digits_value c.args.radix (take i ds) = c.loop-digit.invariant.told in
    c.in-None.ensures digit (rw so_far (omega arith))

pub loop-digit-preserved : goal.loop-digit-preserved
loop-digit-preserved c =
    let ds = c.args.digits.now in
    let i = c.loop-digit.digit-index in
    let next = digits_value_more c.args.radix ds i (omega arith) in
    let digit = AllDigits-at c.args.radix ds i c.requires.digits (omega arith) in
    let some = c.in-Some.ensures digit in
    let so_far : c.loop-digit.value ≡ digits_value c.args.radix (take i ds) = c.loop-digit.invariant.told in
    record { fits = omega arith; told = cc }

pub returns : goal.returns
returns c =
    let ds = c.args.digits.now in
    let so_far : c.loop-digit.value ≡ digits_value c.args.radix (take c.loop-digit.digit-index ds) = c.loop-digit.invariant.told in
    let whole : c.loop-digit.value ≡ digits_value c.args.radix ds = rw (take_all c.loop-digit.digit-index ds (omega arith)) at so_far in
    (rw (← whole) c.loop-digit.invariant.fits, whole)
