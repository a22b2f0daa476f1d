use Rattle.std.proofs.Common.{sym, ◌∙◌}
use Rattle.mach_base.proofs.Digits.{AllDigits-first_bad}
use Rattle.mach_base.proofs.number.parse_digits.Goals as goal

pub value_of_digits-requires-clause-digits : goal.value_of_digits-requires-clause-digits
value_of_digits-requires-clause-digits c = AllDigits-first_bad c.args.radix c.args.digits.now (sym c.first_bad_digit.ensures ∙ c.in_default.is)
