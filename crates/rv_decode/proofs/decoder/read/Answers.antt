use Rattle.std.proofs.Common.{◌≡◌, ap, ◌∙◌, refl, rules, cond, ◌&&◌}
use Rattle.std.specs.Prelude.{FitsSigned}
use Rattle.std.specs.Int.{w32}
use Rattle.std.proofs.lemmas.Int.{to_z-of_z}
use Rattle.rv_decode.specs.Bits.{bits_at, flag_at}
use Rattle.rv_decode.specs.Fields.{Fields, fields_in}
use Rattle.rv_decode.proofs.Reading.{fits-read, same_fields}
use Rattle.rv_decode.proofs.decoder.read.Goals as goal

pub invariant_of-result-clause-fits : goal.invariant_of-result-clause-fits
unfolding fields_in
invariant_of-result-clause-fits c =
    let fits : FitsSigned w32 c.immediate.result = search rules in
    let read : Fields = record {
      op = c.args.op;
      rd = c.register.result;
      rs1 = c.register-2.result;
      rs2 = c.register-3.result;
      imm = c.immediate.result;
      aq = c.flag.result;
      rl = c.flag-2.result;
    } in
    let same : read ≡ fields_in c.args.form c.args.op c.args.word = same_fields read (fields_in c.args.form c.args.op c.args.word)
    refl
    (c.register.ensures.value ∙ ap (λ b. cond b (bits_at c.args.word 7 5) 0) c.has_rd.ensures)
    (c.register-2.ensures.value ∙ ap (λ b. cond b (bits_at c.args.word 15 5) 0) c.has_rs1.ensures)
    (c.register-3.ensures.value ∙ ap (λ b. cond b (bits_at c.args.word 20 5) 0) c.has_rs2.ensures)
    c.immediate.ensures
    (c.flag.ensures ∙ ap (λ b. b && flag_at c.args.word 26) c.has_order.ensures)
    (c.flag-2.ensures ∙ ap (λ b. b && flag_at c.args.word 25) c.has_order-2.ensures) in
    rw (to_z-of_z w32 c.immediate.result fits, ← c.requires) (fits-read c.args.form c.args.op c.args.word read same)
