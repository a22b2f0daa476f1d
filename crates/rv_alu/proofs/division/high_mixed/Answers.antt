use Rattle.std.proofs.Common.{ℤ, pos, ◌*ℤ◌, ◌<◌, ◌^◌, ap, ◌∙◌, rules, arith, w64, to_z, of_z}
use Rattle.std.specs.Int.{w128, int_shr}
use Rattle.std.specs.Prelude.{FitsSigned}
use Rattle.std.proofs.lemmas.Int.{to_z_pos}
use Rattle.rv_alu.specs.Words.{high_half}
use Rattle.rv_alu.proofs.High.{cast_wide, cast_high, product_fits_mixed}
use Rattle.rv_alu.proofs.division.high_mixed.Goals as goal

pub returns : goal.returns
returns c =
    let x : ℤ = c.cast_signed.result in
    let fx : FitsSigned w64 x = search rules in
    let below : c.args.b < 2 ^ 64 = omega arith in
    let cast = λ (z : ℤ). of_z w64 (to_z w64 (of_z w64 (to_z w128 (of_z w128 (int_shr (to_z w128 (of_z w128 z)) 64))))) in
    c.cast_unsigned.ensures
    ∙ ap (λ u. cast (u *ℤ to_z w128 c.args.b)) (cast_wide x fx)
    ∙ ap (λ v. cast (x *ℤ v)) (to_z_pos w128 c.args.b (omega arith))
    ∙ cast_high (x *ℤ pos c.args.b) (product_fits_mixed x c.args.b fx below)
    ∙ ap (λ u. high_half (u *ℤ pos c.args.b)) c.cast_signed.ensures
