use Rattle.std.proofs.Common.{◌&&◌, ◌++◌, cond, not, [], sym, ap, ◌∙◌, append_assoc, arith}
use Rattle.mach_base.specs.Masks.{has_bit}
use Rattle.atom_mach.specs.Texts.{number_text, numbers_text}
use Rattle.atom_mach.proofs.Joined.{is_empty, below, numbers_more, none_so_far}
use Rattle.atom_mach.proofs.texts.put_numbers.Goals as goal

pub loop-number-preserved : goal.loop-number-preserved
loop-number-preserved c =
    let mask = c.args.mask in
    let k = c.loop-number.number in
    let before = c.loop-number.invariant in
    record {
      text =
          c.put_if_in-first.ensures.text
          ∙ ap (λ o. o ++ cond (has_bit mask k) (number_text c.loop-number.first k) []) before.text
          ∙ ap (λ b. (c.args.out.now.items ++ numbers_text (below mask k)) ++ cond (has_bit mask k) (number_text b k) []) before.first
          ∙ append_assoc c.args.out.now.items (numbers_text (below mask k)) (cond (has_bit mask k) (number_text (is_empty (below mask k)) k) [])
          ∙ ap (λ t. c.args.out.now.items ++ t) (sym (numbers_more mask k));
      first =
          c.put_if_in-first.ensures.first
          ∙ ap (λ b. b && not (has_bit mask k)) before.first
          ∙ sym (none_so_far mask k);
      capacity = c.put_if_in-first.ensures.capacity ∙ before.capacity;
      most = omega (arith, c.put_if_in-first.ensures.most, before.most);
    }
