use Rattle.rv_asm.proofs.compare.+after_hex.Given as goal

abbrev pub decreases-after_hex : goal.decreases-after_hex
decreases-after_hex l = l.digits
