use Rattle.std.proofs.Common.{◌*◌, ◌+◌, ◌/◌, ◌%◌, ◌^◌, add-one, ap, ◌∙◌}
use Rattle.kdb_mem.proofs.Writes.{one_more}
use Rattle.kdb_mem.proofs.change.write.Goals as goal

pub loop-i-preserved : goal.loop-i-preserved
loop-i-preserved g c =
    record {
      written = rw add-one (one_more (g.P.Peek.memory c.args.mem.now) (g.P.Peek.memory c.loop-i.mem) (g.P.Peek.memory c.poke-mapped.new.self) c.args.addr c.loop-i.i c.args.width c.args.value (c.args.addr + c.from-in-loop-i.result) (c.args.value / 2 ^ (8 * c.from.result) % 256) c.poke-mapped.result
          c.loop-i.invariant.written c.requires.mapped c.loop-i-test.true
          (ap (λ n. c.args.addr + n) c.from-in-loop-i.ensures) (ap (λ n. c.args.value / 2 ^ (8 * n) % 256) c.from.ensures)
          c.poke-mapped.ensures.mapped c.poke-mapped.ensures.written);
      rest = c.poke-mapped.ensures.rest ∙ c.loop-i.invariant.rest;
    }
