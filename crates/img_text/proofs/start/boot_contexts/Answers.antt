use Rattle.std.proofs.Common.{◌∷◌, ◌++◌, [], map, ap, sym, ◌∙◌}
use Rattle.std.specs.List.{range_with_len}
use Rattle.img_text.specs.Boot.{first_context}
use Rattle.img_text.proofs.Harts.{one_hart_more}
use Rattle.img_text.proofs.start.boot_contexts.Goals as goal

pub loop-hart-preserved : goal.loop-hart-preserved
loop-hart-preserved c =
    let f = first_context c.args.image.now in
    c.in_ok-push.ensures.items ∙ ap (λ xs. xs ++ c.first_context.result ∷ []) c.loop-hart.invariant
    ∙ ap (λ x. map f (range_with_len 0 c.loop-hart.hart) ++ x ∷ []) c.first_context.ensures ∙ sym (one_hart_more f c.loop-hart.hart)
