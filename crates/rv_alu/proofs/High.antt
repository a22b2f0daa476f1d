-- The high half of a product of two integers of 64 bits fits 64 bits, and the code's casts on the way lose nothing.
use Rattle.std.proofs.Common.{◌≡◌, ℕ, ◌-◌, ◌^◌, ◌<◌, ◌≤◌, ℤ, pos, negsuc, ◌*ℤ◌, ap, ◌∙◌, arith, lit<, w64, to_z, of_z}
use Rattle.std.specs.Int.{w128, int_shr}
use Rattle.std.specs.Prelude.{FitsSigned, unsigned_abs}
use Rattle.std.proofs.lemmas.Int.{to_z-of_z, fits_signed_mul}
use Rattle.rv_alu.specs.Words.{high_half}

pub wide : (x : ℤ) → FitsSigned w64 x → FitsSigned w128 x
wide (pos n) f = let h : n < 2 ^ 63 = f.sfits in record { sfits = omega arith }
wide (negsuc n) f = let h : n < 2 ^ 63 = f.sfits in record { sfits = omega arith }

pub abs_le : (x : ℤ) → FitsSigned w64 x → unsigned_abs x ≤ 2 ^ 63
abs_le (pos n) f = let h : n < 2 ^ 63 = f.sfits in omega arith
abs_le (negsuc n) f = let h : n < 2 ^ 63 = f.sfits in omega arith

high_fits : (z : ℤ) → FitsSigned w128 z → FitsSigned w64 (int_shr z 64)
high_fits (pos n) f = let h : n < 2 ^ 127 = f.sfits in record { sfits = omega arith }
high_fits (negsuc n) f = let h : n < 2 ^ 127 = f.sfits in record { sfits = omega arith }

-- the product of two numbers of 64 bits, the second with a sign or without
pub product_fits : (x y : ℤ) → FitsSigned w64 x → FitsSigned w64 y → FitsSigned w128 (x *ℤ y)
product_fits x y f g = fits_signed_mul w128 x y (2 ^ 63) (2 ^ 63) (abs_le x f) (abs_le y g) (lit< tt)

pub product_fits_mixed : (x : ℤ) (b : ℕ) → FitsSigned w64 x → b < 2 ^ 64 → FitsSigned w128 (x *ℤ pos b)
product_fits_mixed x b f h = fits_signed_mul w128 x (pos b) (2 ^ 63) (2 ^ 64 - 1) (abs_le x f) (omega arith) (lit< tt)

-- the casts of the code round the shift of a product
pub cast_high : (z : ℤ) → FitsSigned w128 z
    → of_z w64 (to_z w64 (of_z w64 (to_z w128 (of_z w128 (int_shr (to_z w128 (of_z w128 z)) 64))))) ≡ high_half z
cast_high z f =
    let g : FitsSigned w64 (int_shr z 64) = high_fits z f in
    let s : to_z w128 (of_z w128 z) ≡ z = to_z-of_z w128 z f in
    let t : to_z w128 (of_z w128 (int_shr z 64)) ≡ int_shr z 64 = to_z-of_z w128 (int_shr z 64) (wide (int_shr z 64) g) in
    let u : to_z w64 (of_z w64 (int_shr z 64)) ≡ int_shr z 64 = to_z-of_z w64 (int_shr z 64) g in
    ap (λ x. of_z w64 (to_z w64 (of_z w64 (to_z w128 (of_z w128 (int_shr x 64)))))) s
    ∙ ap (λ x. of_z w64 (to_z w64 (of_z w64 x))) t ∙ ap (of_z w64) u

-- a number of 64 bits that is cast to 128
pub cast_wide : (x : ℤ) → FitsSigned w64 x → to_z w128 (of_z w128 (to_z w64 (of_z w64 x))) ≡ x
cast_wide x f = ap (λ y. to_z w128 (of_z w128 y)) (to_z-of_z w64 x f) ∙ to_z-of_z w128 x (wide x f)
