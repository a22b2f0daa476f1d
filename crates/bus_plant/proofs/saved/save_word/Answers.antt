use Rattle.std.proofs.Common.{sym, ◌∙◌, rules}
use Rattle.bus_plant.proofs.WithWords.{faultless}
use Rattle.bus_plant.proofs.saved.save_word.Goals as goal

pub read_word-word-requires : goal.read_word-word-requires
read_word-word-requires c = faultless c.args.raw.now.memory c.args.addr (sym c.is_text.ensures.fetches ∙ c.is_text.ensures.value ∙ c.requires)

pub write_word-requires : goal.write_word-requires
write_word-requires c = faultless c.args.raw.now.memory c.args.addr (sym c.is_text.ensures.fetches ∙ c.is_text.ensures.value ∙ c.requires)

pub returns-clause-saved : goal.returns-clause-saved
returns-clause-saved c = record {
  text = faultless c.args.raw.now.memory c.args.addr (sym c.is_text.ensures.fetches ∙ c.is_text.ensures.value ∙ c.requires);
  before = c.read_word-word.ensures;
  small = search rules;
  written = c.write_word.ensures.memory;
}
