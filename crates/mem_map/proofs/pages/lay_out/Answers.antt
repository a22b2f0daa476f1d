use Rattle.std.proofs.Common.{◌≡◌, ◌+◌, ◌++◌, ◌∷◌, [], ap, sym, take, ◌∙◌, arith}
use Rattle.mach_base.specs.declared.memory_range.Kind.TheVariants.{Text}
use Rattle.mach_base.specs.declared.memory_range.Segment.{Segment}
use Rattle.mem_map.specs.Pages.{first_pages, page_total}
use Rattle.mem_map.proofs.Built.{first_pages-more, page_total-more, page_total-take}
use Rattle.mem_map.proofs.Numbering.{few-pages}
use Rattle.mem_map.proofs.pages.lay_out.Goals as goal

-- what is read after the last segment
abbrev nowhere : Segment
nowhere = record { base = 0; len = 0; kind = Text }

pub overflow_add-count : goal.overflow_add-count
overflow_add-count c =
    let ss = c.args.segments.now in
    let i = c.loop-segment.segment-index in
    omega (arith, c.loop-segment.invariant.1, c.pages_in-count.ensures, page_total-more ss i nowhere c.loop-segment-test.true, page_total-take ss (i + 1), few-pages ss c.requires.bounds, c.requires.small)

pub loop-segment-preserved : goal.loop-segment-preserved
loop-segment-preserved c =
    let ss = c.args.segments.now in
    let i = c.loop-segment.segment-index in
    let so_far = c.loop-segment.invariant in
    let count : c.loop-segment.count ≡ 0 + page_total (take i ss) = omega (arith, so_far.1) in
    (c.in_ok-push.ensures.items ∙ ap (λ xs. xs ++ c.loop-segment.count ∷ []) so_far.0 ∙ ap (λ n. first_pages 0 (take i ss) ++ n ∷ []) count ∙ sym (first_pages-more 0 ss i c.loop-segment-test.true), omega (arith, so_far.1, c.pages_in-count.ensures, page_total-more ss i nowhere c.loop-segment-test.true))
