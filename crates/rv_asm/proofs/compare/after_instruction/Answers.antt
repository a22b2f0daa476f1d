use Rattle.std.proofs.Common.{rules, ◌++◌, refl, ◌∙◌}
use Rattle.rv_table.specs.Mnemonics.{op_name}
use Rattle.rv_decode.specs.Instruction.{fields_of}
use Rattle.rv_asm.specs.Parts.{parts_of}
use Rattle.rv_asm.specs.Spelling.{order_text, operands_text, instruction_text}
use Rattle.rv_asm.proofs.Rest.{none_after, some_after, same_answer, no_answer}
use Rattle.rv_asm.proofs.compare.after_instruction.Goals as goal

pub returns-in_err-rest : goal.returns-in_err-rest
unfolding instruction_text
returns-in_err-rest c =
    let i = c.args.insn in
    let none = none_after _ (op_name i.op) (order_text i.aq i.rl ++ operands_text (fields_of i) (parts_of i.op)) c.args.line.now refl (search rules) in
    no_answer _ c.from_residual.result none (search rules)

pub returns-in_err-rest-2 : goal.returns-in_err-rest-2
unfolding instruction_text
returns-in_err-rest-2 c =
    let i = c.args.insn in
    let ops = operands_text (fields_of i) (parts_of i.op) in
    let some = some_after _ (op_name i.op) (order_text i.aq i.rl ++ ops) c.args.line.now c.in_ok-rest.rest.now refl (search rules) in
    let none = none_after _ (order_text i.aq i.rl) ops c.in_ok-rest.rest.now refl (search rules) in
    no_answer _ c.from_residual-in_err-rest-2.result (some ∙ none) (search rules)

pub returns : goal.returns
unfolding instruction_text
returns c =
    let i = c.args.insn in
    let ops = operands_text (fields_of i) (parts_of i.op) in
    let some = some_after _ (op_name i.op) (order_text i.aq i.rl ++ ops) c.args.line.now c.in_ok-rest.rest.now refl (search rules) in
    let more = some_after _ (order_text i.aq i.rl) ops c.in_ok-rest.rest.now c.in_ok-rest-2.rest.now refl (search rules) in
    same_answer _ _ c.after_operands.result (some ∙ more) (search rules)
