use Rattle.std.proofs.Common.{◌≡◌, ℕ, ◌<◌, ◌++◌, get_or, drop, None}
use Rattle.img_text.specs.Writing.{starts_text, StartFits}
use Rattle.img_text.proofs.writing.push_starts.Given as goal

-- the starts so far, and those that are left
abbrev pub invariant-loop-hart : goal.invariant-loop-hart
invariant-loop-hart l = record {
  told : l.out.items ++ starts_text l.name l.hart (drop l.hart l.starts) ≡ l.fn.out.items ++ starts_text l.name 0 l.starts;
  fits : (k : ℕ) → k < l.hart → StartFits (get_or l.starts k None);
}
