use Rattle.std.proofs.Common.{◌<◌, ◌≤◌, length, get_or, Some, sym, ap, ◌∙◌, arith}
use Rattle.std.proofs.lemmas.List.{get_or_read}
use Rattle.test_memory.proofs.Bytes.{byte_within, unmapped_past}
use Rattle.test_memory.proofs.byte_list.ByteListPeek.peek.Goals as goal

pub returns-then-addr-len-clause-value : goal.returns-then-addr-len-clause-value
returns-then-addr-len-clause-value c =
    let inside : c.args.addr < length c.args.self.now = omega (arith, ap length c.self.view_is, c.self.inside.bytes.ok.0) in
    ap (λ b. Some b) (get_or_read c.self.inside.bytes.items _ _ (omega (arith, c.self.inside.bytes.ok.0)) c.index.ensures 0)
    ∙ ap (λ bs. Some (get_or bs c.args.addr 0)) c.self.view_is ∙ sym (byte_within c.args.self.now c.args.addr inside)

pub returns-clause-value : goal.returns-clause-value
returns-clause-value c =
    let past : length c.args.self.now ≤ c.args.addr = omega (arith, ap length c.self.view_is, c.self.inside.bytes.ok.0) in
    sym (unmapped_past c.args.self.now c.args.addr past)
