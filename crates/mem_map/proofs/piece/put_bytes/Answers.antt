use Rattle.std.proofs.Common.{◌+◌, ap}
use Rattle.mem_map.proofs.Numbers.{rest-more, with_number-more}
use Rattle.mem_map.proofs.piece.put_bytes.Goals as goal

pub loop-k-preserved : goal.loop-k-preserved
loop-k-preserved c =
    let so_far = c.loop-k.invariant in
    (rest-more c.args.value c.loop-k.k c.loop-k.rest so_far.0, with_number-more c.args.bytes.now c.loop-k.bytes c.args.place (c.args.place + c.from.result) c.loop-k.k c.args.value c.loop-k.rest so_far.0 so_far.1 (ap (λ n. c.args.place + n) c.from.ensures))
