use Rattle.std.proofs.Common.{lit<, rules}
use Rattle.bus_plant.proofs.Bytes.{word_there}
use Rattle.bus_plant.proofs.WithWords.{mapped-first, mapped-text}
use Rattle.bus_plant.proofs.words.read_word.Goals as goal

pub mapped_byte-lowest-requires : goal.mapped_byte-lowest-requires
mapped_byte-lowest-requires c = mapped-first c.args.map.now.memory c.args.addr c.requires

pub mapped_byte-second-requires : goal.mapped_byte-second-requires
mapped_byte-second-requires c = mapped-text c.args.map.now.memory c.args.addr 1 c.requires (lit< tt)

pub mapped_byte-third-requires : goal.mapped_byte-third-requires
mapped_byte-third-requires c = mapped-text c.args.map.now.memory c.args.addr 2 c.requires (lit< tt)

pub mapped_byte-highest-requires : goal.mapped_byte-highest-requires
mapped_byte-highest-requires c = mapped-text c.args.map.now.memory c.args.addr 3 c.requires (lit< tt)

pub returns : goal.returns
returns c =
    word_there c.args.map.now.memory c.args.addr c.mapped_byte-lowest.result c.mapped_byte-second.result c.mapped_byte-third.result c.mapped_byte-highest.result c.from_le_bytes.result
    c.mapped_byte-lowest.ensures.byte c.mapped_byte-second.ensures.byte c.mapped_byte-third.ensures.byte c.mapped_byte-highest.ensures.byte
    (search rules) (search rules) (search rules) (search rules) c.from_le_bytes.ensures
