use Rattle.std.proofs.Common.{◌≡◌, ◌<◌, true, length, get_or, ap, sym, ◌∙◌, rules}
use Rattle.mach_base.specs.Bytes.{IsWidth}
use Rattle.mem_map.specs.Access.{allows}
use Rattle.mem_map.specs.declared.rights.Access.TheVariants.{Fetch}
use Rattle.mem_map.proofs.Natural.{allowed_in_part}
use Rattle.mem_map.proofs.Numbering.{first_held}
use Rattle.mem_map.proofs.memory.is_in_first.Goals as goal

pub returns-then-not-is_empty : goal.returns-then-not-is_empty
returns-then-not-is_empty c =
    let ps = c.args.pieces.now in
    let p = c.index-pieces-0.result in
    let some : 0 < length ps = search rules in
    let four : IsWidth 4 = search rules in
    λ is_word.
    let word = c.has_word.ensures is_word in
    let right : allows Fetch (get_or ps 0 p).segment.kind ≡ true = ap (λ q. allows Fetch q.segment.kind) (sym c.index-pieces-0.is) ∙ word.1 in
    allowed_in_part ps c.requires Fetch c.args.addr 4 four 0 p word.0 (first_held ps c.args.addr 0 p c.requires some c.index-pieces-0.is word.2) right
