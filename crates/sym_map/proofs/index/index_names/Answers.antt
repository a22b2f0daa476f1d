use Rattle.std.proofs.Common.{arith, ◌-◌, ap, ◌∙◌}
use Rattle.mach_base.specs.Machine.{Symbol}
use Rattle.sym_map.proofs.Indexed.{names_more}
use Rattle.sym_map.proofs.index.index_names.Goals as goal

pub loop-left-preserved : goal.loop-left-preserved
loop-left-preserved c = record {
  within = omega (arith, c.loop-left.invariant.within);
  told = names_more c.loop-left.index c.insert.new.self c.args.symbols.now c.loop-left.left (c.loop-left.left - 1) c.in_ok-name.name c.index-symbols-left.result (omega arith) (omega (arith, c.loop-left.invariant.within)) c.index-symbols-left.is (c.in_ok-name.ensures.items ∙ c.as_slice.ensures.value ∙ ap (λ (s : Symbol). s.name) c.symbol.view_is) (rw (← c.symbol.view_is) c.in_ok-insert.ensures.entries) c.loop-left.invariant.told;
}
