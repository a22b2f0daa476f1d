use Rattle.std.proofs.Common.{sym, ◌∙◌}
use Rattle.mem_map.proofs.Kept.{keeps-all, keeps-both}
use Rattle.bus_plant.proofs.Bytes.{after_store-none, after_store-more, mapped-next}
use Rattle.bus_plant.proofs.WithWords.{mapped-first}
use Rattle.bus_plant.proofs.words.write_word.Goals as goal

pub mapped_byte-lowest-requires : goal.mapped_byte-lowest-requires
mapped_byte-lowest-requires c = mapped-first c.args.map.now.memory c.args.addr c.requires

pub loop-place-init : goal.loop-place-init
loop-place-init c = (sym (after_store-none c.args.map.now.memory c.args.addr c.args.word), keeps-all c.args.map.now)

pub put_byte-requires : goal.put_byte-requires
put_byte-requires c = mapped-next c.args.map.now.memory c.loop-place.map.memory c.args.addr c.loop-place.place c.args.word c.requires c.loop-place-test.true c.loop-place.invariant.0

pub loop-place-preserved : goal.loop-place-preserved
loop-place-preserved c =
    (after_store-more c.args.map.now.memory c.loop-place.map.memory c.put_byte.new.map.memory c.args.addr c.loop-place.place c.args.word c.byte_of.result c.loop-place.invariant.0 c.put_byte.ensures.memory c.byte_of.ensures, keeps-both c.args.map.now c.loop-place.map c.put_byte.new.map c.loop-place.invariant.1 c.put_byte.ensures.pages)
