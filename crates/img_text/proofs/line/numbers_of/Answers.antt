use Rattle.std.proofs.Common.{sym, ap, arith, length, ◌∙◌, length-append}
use Rattle.std.proofs.lemmas.Result.{err_from_is_err_and}
use Rattle.mach_base.specs.Lines.{words_of}
use Rattle.img_text.specs.Directives.{each_number}
use Rattle.img_text.proofs.Numbers.{numbers_end, numbers_more, numbers_fault}
use Rattle.img_text.proofs.line.numbers_of.Goals as goal

pub returns-in_err-number : goal.returns-in_err-number
returns-in_err-number c =
    let p = err_from_is_err_and c.from_residual.result c.from_residual.ensures.1 in
    rw (p.1, p.2) (sym (numbers_fault c.args.largest c.in_err-number.field-0.0 c.loop-word.values (words_of c.loop-word.left.now) c.in-Some.word.now (words_of c.in-Some.rest.now) (each_number c.args.largest (words_of c.args.line.now)) c.in-Some.ensures.word (sym c.in_err-number.was ∙ c.number_up_to.ensures) c.loop-word.invariant.told))

pub loop-word-preserved : goal.loop-word-preserved
loop-word-preserved c =
    let split = c.in-Some.ensures.word in
    record {
      told = rw c.push.ensures (numbers_more c.args.largest c.in_ok-number.number c.loop-word.values (words_of c.loop-word.left.now) c.in-Some.word.now (words_of c.in-Some.rest.now) (each_number c.args.largest (words_of c.args.line.now)) split (sym c.in_ok-number.was ∙ c.number_up_to.ensures) c.loop-word.invariant.told);
      room = rw (c.push.ensures, length-append) (omega (arith, ap length split));
    }

pub returns : goal.returns
returns c = sym (numbers_end c.args.largest c.loop-word.values (words_of c.loop-word.left.now) (each_number c.args.largest (words_of c.args.line.now)) c.in_default.ensures.word c.loop-word.invariant.told)
