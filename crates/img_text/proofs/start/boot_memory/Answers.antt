use Rattle.std.proofs.Common.{◌≡◌, ◌≤◌, ◌++◌, ◌∷◌, [], map, length, ap, sym, ◌∙◌, add-one, arith}
use Rattle.std.proofs.lemmas.List.{take_all}
use Rattle.std.proofs.lemmas.List.{length-map}
use Rattle.mach_base.specs.Machine.{Part}
use Rattle.img_text.proofs.PartsJoined.{bytes_more, AreContents-parts, parts_of-parts}
use Rattle.img_text.proofs.start.boot_memory.Goals as goal

pub loop-i-preserved : goal.loop-i-preserved
loop-i-preserved c =
    let ps = c.args.image.now.parts in
    let i = c.loop-i.i in
    let bytes = c.contents.result.now in
    let more = bytes_more ps i bytes c.contents.ensures in
    let pushed : c.push.new.self.items ≡ c.loop-i.contents.items ++ c.from_vec.result ∷ [] = c.in_ok-push.ensures.items in
    let same : c.from_vec.result ≡ bytes = c.from_vec.ensures ∙ c.in_ok-from_slice.ensures.items in
    rw (add-one i) (pushed ∙ (rw (same, c.loop-i.invariant) (sym more)))

pub filled-requires-clause-contents : goal.filled-requires-clause-contents
filled-requires-clause-contents c =
    let ps = c.args.image.now.parts in
    let enough : length ps ≤ c.loop-i.i = omega (arith, simp length-map at (ap length c.segments-segments.ensures.value)) in
    let whole : c.as_slice.result.now ≡ map (λ (p : Part). p.bytes) ps = c.as_slice.ensures.value ∙ c.loop-i.invariant ∙ ap (map (λ (p : Part). p.bytes)) (take_all c.loop-i.i ps enough) in
    rw (c.segments-segments.ensures.value, whole) (AreContents-parts ps c.segments-segments.ensures.rules.whole)

pub returns : goal.returns
returns c =
    let ps = c.args.image.now.parts in
    let enough : length ps ≤ c.loop-i.i = omega (arith, simp length-map at (ap length c.segments-segments.ensures.value)) in
    let whole : c.as_slice.result.now ≡ map (λ (p : Part). p.bytes) ps = c.as_slice.ensures.value ∙ c.loop-i.invariant ∙ ap (map (λ (p : Part). p.bytes)) (take_all c.loop-i.i ps enough) in
    rw (c.segments-segments.ensures.value, whole, parts_of-parts ps) at c.filled.ensures
