use Rattle.std.proofs.Common.{◌∙◌}
use Rattle.mem_map.proofs.Lookups.{is_ok-fetch_result, is_ok-text}
use Rattle.mem_map.proofs.memory.Map.is_text.Goals as goal

pub returns-clause-value : goal.returns-clause-value
returns-clause-value c =
    let found = is_ok-fetch_result c.self.inside.pieces.items c.args.addr c.allowed_piece.result (rw (← c.as_slice.ensures.value) c.allowed_piece.ensures) in
    rw (← c.self.view_is) (c.is_ok.ensures.value ∙ found ∙ is_ok-text c.self.inside.pieces.items c.args.addr c.self.invariant.parts)

pub returns-clause-fetches : goal.returns-clause-fetches
returns-clause-fetches c =
    let found = is_ok-fetch_result c.self.inside.pieces.items c.args.addr c.allowed_piece.result (rw (← c.as_slice.ensures.value) c.allowed_piece.ensures) in
    rw (← c.self.view_is) (c.is_ok.ensures.value ∙ found)
