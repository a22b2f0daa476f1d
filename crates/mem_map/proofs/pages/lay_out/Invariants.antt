use Rattle.std.proofs.Common.{◌≡◌, take}
use Rattle.mem_map.specs.Pages.{first_pages, page_total}
use Rattle.mem_map.proofs.pages.lay_out.Given as goal

abbrev pub invariant-loop-segment : goal.invariant-loop-segment
invariant-loop-segment l =
    (l.firsts.items ≡ first_pages 0 (take l.segment-index l.segments)) × (l.count ≡ page_total (take l.segment-index l.segments))
