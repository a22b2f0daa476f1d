-- Planted words stay words of text, and apart.
use Rattle.std.proofs.Common.{suc, Some, None, ◌∙◌}
use Rattle.std.proofs.lemmas.List.{length-set}
use Rattle.hart_step.specs.Execution.{memory_after}
use Rattle.hart_step.proofs.Frame.{keeps_faults}
use Rattle.bus_plant.specs.Laws.{KeepPlanted}
use Rattle.bus_plant.specs.Planted.{planted_addresses}
use Rattle.bus_plant.proofs.Slots.{text-set, text-cleared, distinct-set, distinct-cleared}
use Rattle.bus_plant.proofs.WithWords.{text-same}

pub keep_planted : KeepPlanted
keep_planted = record {
  plant = λ p i addr is text other. record {
    places = length-set p.places i (Some addr) ∙ is.places;
    text = text-set p.memory (planted_addresses p) (suc i) addr text is.text;
    distinct = distinct-set (planted_addresses p) (suc i) addr other is.distinct;
  };
  pull = λ p i is. record {
    places = length-set p.places i None ∙ is.places;
    text = text-cleared p.memory (planted_addresses p) (suc i) is.text;
    distinct = distinct-cleared (planted_addresses p) (suc i) is.distinct;
  };
  plant_step = λ p addr is none text other. record {
    places = is.places;
    text = text-set p.memory (planted_addresses p) 0 addr text is.text;
    distinct = distinct-set (planted_addresses p) 0 addr other is.distinct;
  };
  pull_step = λ p is. record {
    places = is.places;
    text = text-cleared p.memory (planted_addresses p) 0 is.text;
    distinct = distinct-cleared (planted_addresses p) 0 is.distinct;
  };
  execution = λ p c harts word is e. record {
    places = is.places;
    text = text-same p.memory (memory_after p.memory c word) (planted_addresses p) (keeps_faults c harts p.memory word e) is.text;
    distinct = is.distinct;
  };
}
