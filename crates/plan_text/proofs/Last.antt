-- The word that says how many times names no hart.
use Rattle.std.proofs.Common.{◌≡◌, ℕ, ◌==◌, inl, inr, suc, true, nat_lt, length, arith, cond, List, [], ◌∷◌, Some, None, refl, sym, ap, subst, ◌∙◌}
use Rattle.std.specs.Result.{result_ok}
use Rattle.std.proofs.lemmas.Bool.{cases_Bool, eqb-true, lt-ltb}
use Rattle.mach_base.specs.Number.{number_of}
use Rattle.plan_text.specs.Reading.{hart_of, times_of, times_in_range}

x_names_no_hart : (n : ℕ) (digits : List ℕ) → hart_of n (120 ∷ digits) ≡ None
x_names_no_hart n [] = refl
x_names_no_hart n (d ∷ ds) = let first : nat_lt 0 (suc (suc (length ds))) ≡ true = lt-ltb 0 (suc (suc (length ds))) (omega arith) in rw first refl

pub no_hart_of_times : (n : ℕ) (word : List ℕ) (times : ℕ) → times_of word ≡ Some times → hart_of n word ≡ None
no_hart_of_times n [] times is = absurd (cc)
no_hart_of_times n (b ∷ digits) times is =
    elim (cases_Bool (b == 120)) [
      | inl x ↦ subst (λ (c : ℕ). hart_of n (c ∷ digits) ≡ None) (sym (eqb-true b 120 x)) (x_names_no_hart n digits)
      | inr other ↦
          let none = sym (ap (λ t. cond t (times_in_range (result_ok (number_of 10 digits))) None) other) ∙ is in
          absurd (cc)
    ]
