use Rattle.rv_asm.proofs.compare.+after_digits.Given as goal

abbrev pub decreases-after_digits : goal.decreases-after_digits
decreases-after_digits l = l.number
