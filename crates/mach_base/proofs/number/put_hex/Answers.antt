use Rattle.std.proofs.Common.{◌++◌, ◌∷◌, [], ap, ◌∙◌, arith}
use Rattle.mach_base.proofs.Digits.{hex_text-push}
use Rattle.mach_base.proofs.number.put_hex.Goals as goal

pub loop-place-preserved : goal.loop-place-preserved
loop-place-preserved c =
    let told = hex_text-push c.args.out.now.items c.loop-place.out.items c.args.digits c.loop-place.place c.args.value (omega arith) c.loop-place.invariant.in_range c.loop-place.invariant.told in
    record {
      in_range = omega arith;
      told = c.push_reserved.ensures.items ∙ ap (λ d. c.loop-place.out.items ++ d ∷ []) c.hex_digit.ensures ∙ rw c.from.ensures told;
      room = omega arith;
      capacity = c.push_reserved.ensures.capacity ∙ c.loop-place.invariant.capacity;
    }
