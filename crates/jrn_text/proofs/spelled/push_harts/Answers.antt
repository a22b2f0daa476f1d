use Rattle.std.proofs.Common.{◌≡◌, ◌++◌, [], ◌∷◌, if◌then◌else◌, refl, sym, ap, ◌∙◌, append-nil, arith}
use Rattle.jrn_text.specs.Entries.{numbers_in, list_text}
use Rattle.jrn_text.proofs.Masks.{is_none, numbers_none, numbers_with, numbers_without, pushed_hart, some_more}
use Rattle.jrn_text.proofs.spelled.push_harts.Goals.{then-has_bit+in_ok-push_next, else-has_bit}
use Rattle.jrn_text.proofs.spelled.push_harts.Goals as goal

pub loop-hart-init : goal.loop-hart-init
loop-hart-init c =
    let none = numbers_none c.args.mask in
    record {
      within = omega arith;
      told = sym (append-nil c.args.out.now.items) ∙ ap (λ hs. c.args.out.now.items ++ list_text hs) (sym none);
      first = ap is_none (sym none);
    }

pub loop-hart-preserved : goal.loop-hart-preserved
loop-hart-preserved c =
    let before = c.args.out.now.items in
    let text = c.loop-hart.out.items in
    let hs = numbers_in c.loop-hart.hart c.args.mask in
    elim c.if-has_bit.branch [
      | then-has_bit+in_ok-push_next w ↦
          let more = numbers_with c.loop-hart.hart c.args.mask (sym c.has_bit.ensures ∙ w.if-has_bit.true) in
          let comma = if c.loop-hart.first then text else text ++ 44 ∷ [] in
          let is = pushed_hart before text comma w.push_next.new.out.items hs c.loop-hart.hart c.loop-hart.invariant.told (ap (λ t. if t then text else text ++ 44 ∷ []) c.loop-hart.invariant.first) w.in_ok-push_next.ensures in
          record {
            within = omega arith;
            told = ap (λ v. v.items) w.out-is ∙ is ∙ ap (λ l. before ++ list_text l) (sym more);
            first = w.first-is ∙ sym (ap is_none more ∙ some_more hs c.loop-hart.hart);
          }
      | else-has_bit w ↦
          let same = numbers_without c.loop-hart.hart c.args.mask (sym c.has_bit.ensures ∙ w.if-has_bit.false) in
          record {
            within = omega arith;
            told = ap (λ v. v.items) w.out-is ∙ c.loop-hart.invariant.told ∙ ap (λ l. before ++ list_text l) (sym same);
            first = w.first-is ∙ c.loop-hart.invariant.first ∙ ap is_none (sym same);
          }
    ]
