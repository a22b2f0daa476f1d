use Rattle.std.proofs.Common.{ℕ, ap, arith, ◌∙◌, map, ◌++◌, ◌∷◌, []}
use Rattle.std.proofs.lemmas.List.{map_push, length-map}
use Rattle.img_text.proofs.Parts.{joined-push, same-push, IsImage-add}
use Rattle.img_text.proofs.image.Image.add.Goals as goal

pub invariant_of-self-2 : goal.invariant_of-self-2
invariant_of-self-2 c =
    let s = c.self.inside in
    let new_segments = c.push_reserved.ensures.items ∙ ap (λ xs. xs ++ c.args.segment ∷ []) c.in_ok-reserve.ensures.items in
    let new_contents = c.in_ok-push.ensures.items in
    rw (new_segments, new_contents) (
      same-push s.segments.items s.contents.items c.args.segment c.in_ok-whole.whole c.self.invariant.0,
      rw (map_push, c.in_ok-whole.ensures) (IsImage-add s.segments.items (map (λ v. v.items) s.contents.items) c.args.segment c.args.bytes.now s.pcs s.sps (rw length-map c.self.invariant.0) c.self.invariant.1 (rw (← c.self.view_is) at c.requires.rules) c.requires.fits (λ (k : ℕ). omega (arith, c.type_inv.bytes k))),
    )

pub returns-clause-ok : goal.returns-clause-ok
returns-clause-ok c =
    let s = c.self.inside in
    let new_segments = c.push_reserved.ensures.items ∙ ap (λ xs. xs ++ c.args.segment ∷ []) c.in_ok-reserve.ensures.items in
    let new_contents = c.in_ok-push.ensures.items in
    rw (← c.self.view_is, new_segments, new_contents, map_push, c.in_ok-whole.ensures)
    (ap (λ parts. record { parts = parts; pcs = s.pcs; sps = s.sps }) (joined-push s.segments.items (map (λ v. v.items) s.contents.items) c.args.segment _ (rw length-map c.self.invariant.0)))
