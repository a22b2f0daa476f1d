use Rattle.std.proofs.Common.{sym}
use Rattle.mem_map.proofs.Lookups.{is_ok-text}
use Rattle.mem_map.proofs.memory.Map.text_is_fetched.Goals as goal

pub returns : goal.returns
returns c = λ addr. rw (← c.self.view_is) (sym (is_ok-text c.self.inside.pieces.items addr c.self.invariant.parts))
