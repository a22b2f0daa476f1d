use Rattle.std.proofs.Common.{◌≡◌, ◌<◌, arith, sym, ◌∙◌, subst, ℕ}
use Rattle.img_text.proofs.Used.{one_less, last_stays, none_stays}
use Rattle.img_text.proofs.writing.used_count.Goals as goal

pub returns-then-value_at-ne0-clause-value : goal.returns-then-value_at-ne0-clause-value
returns-then-value_at-ne0-clause-value c =
    let some : 0 < c.value_at.result = omega (arith, c.if-value_at-ne0.true) in
    last_stays _ c.loop-left_out.left_out c.args.bytes.now _ c.loop-left_out-test.true (subst (λ (v : ℕ). 0 < v) c.value_at.ensures some) c.loop-left_out.invariant

pub loop-left_out-preserved : goal.loop-left_out-preserved
loop-left_out-preserved c =
    let none : c.value_at.result ≡ 0 = omega (arith, c.if-value_at-ne0.false) in
    one_less _ c.loop-left_out.left_out c.args.bytes.now _ c.loop-left_out-test.true (sym c.value_at.ensures ∙ none) c.loop-left_out.invariant

pub returns-clause-value : goal.returns-clause-value
returns-clause-value c = none_stays _ c.loop-left_out.left_out c.args.bytes.now _ (omega (arith, c.loop-left_out-test.false)) c.loop-left_out.invariant
