use Rattle.std.proofs.Common.{◌≡◌, ◌++◌, ◌≤◌}
use Rattle.jrn_text.specs.Entries.{numbers_in, list_text}
use Rattle.jrn_text.proofs.Masks.{is_none}
use Rattle.jrn_text.proofs.spelled.push_harts.Given as goal

-- the harts below this one are out
abbrev pub invariant-loop-hart : goal.invariant-loop-hart
invariant-loop-hart l = record {
  within : l.hart ≤ 16;
  told : l.out.items ≡ l.fn.out.items ++ list_text (numbers_in l.hart l.mask);
  first : l.first ≡ is_none (numbers_in l.hart l.mask);
}
