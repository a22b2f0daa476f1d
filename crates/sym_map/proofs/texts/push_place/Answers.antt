use Rattle.std.proofs.Common.{length, length-append, ap, arith}
use Rattle.sym_map.proofs.Digits.{length-address_text}
use Rattle.sym_map.proofs.texts.push_place.Goals as goal

pub put_name-requires : goal.put_name-requires
put_name-requires c = record {
  room =
      let text = simp (length-append, length-address_text) at (ap length c.put_address.ensures.text) in
      omega (arith, text, c.put_address.new.out.ok.0, c.reserve.new.self.ok.0, c.put_address.ensures.capacity, c.in_ok-reserve.ensures.ok);
}
