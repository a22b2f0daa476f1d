use Rattle.mem_map.proofs.Numbering.{are-pages}
use Rattle.mem_map.proofs.memory.Map.keeps_pages.Goals as goal

pub returns-clause-pages : goal.returns-clause-pages
returns-clause-pages c = rw (← c.self.view_is) (are-pages _ c.self.invariant.parts.segments)
