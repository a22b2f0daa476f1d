use Rattle.std.proofs.Common.{◌≡◌, ◌+◌, ◌-◌, take, drop, length, Some, sym, ap, ◌∙◌, arith}
use Rattle.std.proofs.lemmas.List.{take_all, length-drop}
use Rattle.jrn_text.proofs.Cut.{cut_here}
use Rattle.jrn_text.proofs.cuts.cut_at.Goals as goal

pub returns : goal.returns
returns c =
    let at = c.place_of-at.result in
    let text = c.args.text.now in
    let all = take_all (length text - (at + 1)) (drop (at + 1) text) (omega (arith, length-drop (at + 1) text)) in
    cut_here c.args.byte at text c.place_of-at.ensures.before (omega arith) (c.place_of-at.ensures.found (omega arith)) ∙ ap (λ rest. Some (take at text, rest)) (sym all)
