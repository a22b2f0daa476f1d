use Rattle.std.proofs.Common.{◌≡◌, ◌++◌, take}
use Rattle.std.specs.List.{flat_map}
use Rattle.img_text.specs.Reading.{value_bytes}
use Rattle.img_text.proofs.blocks.push_values.Given as goal

-- the bytes of the values so far
abbrev pub invariant-loop-value : goal.invariant-loop-value
invariant-loop-value l = l.out.items ≡ l.fn.out.items ++ flat_map (value_bytes l.width) (take l.value-index l.values)
