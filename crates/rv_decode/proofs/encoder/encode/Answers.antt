use Rattle.std.proofs.Common.{◌≡◌, ap, sym, ◌∙◌, arith, subst, rules, Fits, w32}
use Rattle.std.specs.Int.{cast_unsigned}
use Rattle.std.specs.Prelude.{FitsSigned}
use Rattle.std.proofs.lemmas.Int.{to_z-of_z}
use Rattle.rv_table.specs.Rows.{row_for}
use Rattle.rv_decode.specs.Encoding.{encoded, immediate_bits}
use Rattle.rv_decode.specs.Fields.{decoded}
use Rattle.rv_decode.specs.Instruction.{fields_of}
use Rattle.rv_decode.proofs.Reading.{decoded-encoded}
use Rattle.rv_decode.proofs.encoder.encode.Goals as goal

pub returns-clause-value : goal.returns-clause-value
unfolding encoded
returns-clause-value c =
    let fits : FitsSigned w32 c.args.insn.imm = search rules in
    let v : c.row-row.result.value ≡ (row_for c.args.insn.op).value = ap (λ r. r.value) c.row-row.ensures in
    let i : c.immediate_bits-immediate.result ≡ immediate_bits (row_for c.args.insn.op).form (cast_unsigned w32 c.args.insn.imm) =
    c.immediate_bits-immediate.ensures ∙ ap (λ r. immediate_bits r.form c.cast_unsigned.result) c.row-row.ensures
    ∙ ap (immediate_bits (row_for c.args.insn.op).form) (c.cast_unsigned.ensures ∙ ap (cast_unsigned w32) (to_z-of_z w32 c.args.insn.imm fits)) in
    omega arith

pub overflow_cast-result-3 : goal.overflow_cast-result-3
overflow_cast-result-3 c =
    let i = c.args.insn in
    let word = decoded-encoded (fields_of i) i.rd_is_register i.rs1_is_register i.rs2_is_register i.fits in
    subst (λ x. Fits w32 x) (sym (returns-clause-value c)) (record { fits = word.0 })

pub returns-clause-decodes : goal.returns-clause-decodes
returns-clause-decodes c =
    let i = c.args.insn in
    ap decoded (returns-clause-value c)
    ∙ (decoded-encoded (fields_of i) i.rd_is_register i.rs1_is_register i.rs2_is_register i.fits).1
