use Rattle.std.proofs.Common.{rules, ◌≡◌, ℕ, zero, suc, ◌-◌, ◌/◌, ◌%◌, ◌<◌, [], ◌∷◌, ◌++◌, refl, arith}
use Rattle.std.specs.Char.{digit_char}
use Rattle.mach_base.specs.Number.{hex_text}
use Rattle.rv_asm.proofs.Rest.{none_after, some_after, same_answer, no_answer}
use Rattle.rv_asm.proofs.compare.+after_hex.Goals as goal

more : (k n : ℕ) → 0 < k → hex_text k n ≡ hex_text (k - 1) (n / 16) ++ digit_char (n % 16) ∷ []
more zero n some = absurd (omega arith)
more (suc k) n some = let one_less : suc k - 1 ≡ k = omega arith in rw one_less refl

pub returns-in_err-rest : goal.returns-in_err-rest
returns-in_err-rest t c =
    let n = c.args.number in
    let k = c.args.digits in
    no_answer _ c.from_residual.result (none_after (hex_text k n) (hex_text (k - 1) (n / 16)) (digit_char (n % 16) ∷ []) c.args.text.now (more k n (omega arith)) c.in_err-rest.ensures) (search rules)

pub returns : goal.returns
returns t c =
    let n = c.args.number in
    let k = c.args.digits in
    same_answer _ _ c.after_digit.result (some_after (hex_text k n) (hex_text (k - 1) (n / 16)) (digit_char (n % 16) ∷ []) c.args.text.now c.in_ok-rest.rest.now (more k n (omega arith)) c.in_ok-rest.ensures) c.after_digit.ensures
