use Rattle.std.proofs.Common.{◌*◌, ◌^◌, ap, ◌∙◌}
use Rattle.std.proofs.lemmas.Nat.{shl_whole}
use Rattle.rv_decode.proofs.pieces.moved_bits.Goals as goal

pub returns : goal.returns
returns c =
    shl_whole c.bits.result c.args.count c.args.to 32 c.bits.ensures.bound c.requires.in_word
    ∙ ap (λ x. x * 2 ^ c.args.to) c.bits.ensures.value
