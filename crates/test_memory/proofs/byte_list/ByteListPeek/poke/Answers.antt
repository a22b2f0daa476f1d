use Rattle.std.proofs.Common.{◌<◌, ◌≤◌, [], ◌∷◌, length, set, refl, ap, ◌∙◌, arith}
use Rattle.test_memory.specs.ByteList.{text_segment, memory_of}
use Rattle.test_memory.proofs.Bytes.{insert_numbered, mapped_within, unmapped_past}
use Rattle.test_memory.proofs.byte_list.ByteListPeek.poke.Goals as goal

pub returns-then-addr-len-clause-mapped : goal.returns-then-addr-len-clause-mapped
returns-then-addr-len-clause-mapped c =
    let inside : c.args.addr < length c.args.self.now = omega (arith, ap length c.self.view_is, c.self.inside.bytes.ok.0) in
    (λ _. mapped_within c.args.self.now c.args.addr inside, λ _. refl)

pub returns-then-addr-len-clause-written : goal.returns-then-addr-len-clause-written
returns-then-addr-len-clause-written c =
    let inside : c.args.addr < length c.args.self.now = omega (arith, ap length c.self.view_is, c.self.inside.bytes.ok.0) in
    ap (λ bs. memory_of (set bs c.args.addr c.args.byte)) c.self.view_is
    ∙ ap (λ m. record { segments = text_segment ∷ []; bytes = m }) (insert_numbered c.args.self.now c.args.addr c.args.byte inside)

pub returns-clause-mapped : goal.returns-clause-mapped
returns-clause-mapped c =
    let past : length c.args.self.now ≤ c.args.addr = omega (arith, ap length c.self.view_is, c.self.inside.bytes.ok.0) in
    (λ no. absurd (cc), λ mapped. absurd (mapped (unmapped_past c.args.self.now c.args.addr past)))
