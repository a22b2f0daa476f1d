use Rattle.std.proofs.Common.{◌≡◌, true, false, eqb-true, true≢false, get_or, sym, ◌∙◌}
use Rattle.std.proofs.lemmas.Bool.{eq-eqb}
use Rattle.mem_map.specs.Access.{allows}
use Rattle.mem_map.proofs.Natural.{fault_misaligned, fault_unmapped, fault_no_right, allowed_in_part}
use Rattle.mem_map.proofs.memory.piece_or_cause.Goals as goal

pub returns-then-not-is_aligned : goal.returns-then-not-is_aligned
returns-then-not-is_aligned c =
    fault_misaligned _ c.args.access c.args.addr c.args.width (λ whole. true≢false (sym (c.is_aligned.ensures ∙ eq-eqb _ _ whole) ∙ c.if-not-is_aligned.true))

pub returns-in-None : goal.returns-in-None
returns-in-None c =
    fault_unmapped c.args.pieces.now c.requires.parts c.args.access c.args.addr c.args.width c.requires.width (eqb-true _ _ (sym c.is_aligned.ensures ∙ c.if-not-is_aligned.false)) c.in-None.ensures

pub returns-then-is_allowed : goal.returns-then-is_allowed
returns-then-is_allowed c =
    let right : allows c.args.access (get_or c.args.pieces.now c.in-Some.i c.index-pieces-i.result).segment.kind ≡ true = cc in
    allowed_in_part c.args.pieces.now c.requires.parts c.args.access c.args.addr c.args.width c.requires.width c.in-Some.i c.index-pieces-i.result (eqb-true _ _ (sym c.is_aligned.ensures ∙ c.if-not-is_aligned.false)) c.in-Some.ensures right

pub returns-else-is_allowed : goal.returns-else-is_allowed
returns-else-is_allowed c =
    let no_right : allows c.args.access (get_or c.args.pieces.now c.in-Some.i c.index-pieces-i.result).segment.kind ≡ false = cc in
    fault_no_right c.args.pieces.now c.requires.parts c.args.access c.args.addr c.args.width c.requires.width c.in-Some.i c.index-pieces-i.result (eqb-true _ _ (sym c.is_aligned.ensures ∙ c.if-not-is_aligned.false)) c.in-Some.ensures no_right
