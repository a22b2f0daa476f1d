use Rattle.std.proofs.Common.{◌≡◌, sym, ap, arith, ◌∙◌, length, map, Some}
use Rattle.std.proofs.lemmas.List.{length-map}
use Rattle.img_text.proofs.Parts.{joined-at, length-joined}
use Rattle.img_text.proofs.image.Image.contents.Goals as goal

pub index-requires : goal.index-requires
index-requires c =
    let s = c.self.inside in
    let parts = ap (λ i. length i.parts) c.self.view_is in
    let whole = length-joined s.segments.items (map (λ v. v.items) s.contents.items) (rw length-map c.self.invariant.0) in
    let same : length (map (λ v. v.items) s.contents.items) ≡ length s.contents.items = length-map _ _ in
    omega arith

pub returns : goal.returns
returns c =
    let s = c.self.inside in
    let parts = ap (λ i. length i.parts) c.self.view_is in
    let whole = length-joined s.segments.items (map (λ v. v.items) s.contents.items) (rw length-map c.self.invariant.0) in
    let same : length (map (λ v. v.items) s.contents.items) ≡ length s.contents.items = length-map _ _ in
    rw (← c.self.view_is) (joined-at (λ v. v.items) s.segments.items s.contents.items c.args.i c.index.result.now c.self.invariant.0 (omega arith) c.index.ensures ∙ ap Some (sym c.as_slice.ensures.value))
