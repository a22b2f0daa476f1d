use Rattle.std.proofs.Common.{length, length-append, ap, arith}
use Rattle.sym_map.proofs.Digits.{length-hex_text}
use Rattle.sym_map.proofs.texts.put_offset.Goals as goal

pub returns-clause-len : goal.returns-clause-len
returns-clause-len c =
    let prefix = simp length-append at (ap length c.put_bytes.ensures.text) in
    let digits = simp (length-append, length-hex_text) at (ap length c.put_hex.ensures.text) in
    omega (arith, prefix, digits, c.put_hex.new.out.ok.0, c.args.out.now.ok.0, c.digit_count.ensures.few)
