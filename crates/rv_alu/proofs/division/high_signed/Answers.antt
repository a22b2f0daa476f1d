use Rattle.std.proofs.Common.{ℤ, ◌*ℤ◌, ap, ◌∙◌, rules, w64, to_z, of_z}
use Rattle.std.specs.Int.{w128, int_shr}
use Rattle.std.specs.Prelude.{FitsSigned}
use Rattle.rv_alu.specs.Words.{high_half}
use Rattle.rv_alu.proofs.High.{cast_wide, cast_high, product_fits}
use Rattle.rv_alu.proofs.division.high_signed.Goals as goal

pub returns : goal.returns
returns c =
    let x : ℤ = c.cast_signed.result in
    let y : ℤ = c.cast_signed-2.result in
    let fx : FitsSigned w64 x = search rules in
    let fy : FitsSigned w64 y = search rules in
    let cast = λ (z : ℤ). of_z w64 (to_z w64 (of_z w64 (to_z w128 (of_z w128 (int_shr (to_z w128 (of_z w128 z)) 64))))) in
    c.cast_unsigned.ensures
    ∙ ap (λ u. cast (u *ℤ to_z w128 (of_z w128 (to_z w64 (of_z w64 y))))) (cast_wide x fx)
    ∙ ap (λ v. cast (x *ℤ v)) (cast_wide y fy)
    ∙ cast_high (x *ℤ y) (product_fits x y fx fy)
    ∙ ap (λ u. high_half (u *ℤ y)) c.cast_signed.ensures
    ∙ ap (λ v. high_half (to_z w64 c.args.a *ℤ v)) c.cast_signed-2.ensures
