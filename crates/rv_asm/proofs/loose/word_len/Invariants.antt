use Rattle.std.proofs.Common.{◌≡◌, ◌+◌, drop}
use Rattle.std.specs.List.{prefix_len}
use Rattle.std.specs.Prelude.{not}
use Rattle.rv_asm.specs.Meant.{is_mark}
use Rattle.rv_asm.proofs.loose.word_len.Given as goal

-- no mark so far
abbrev pub invariant-loop-byte : goal.invariant-loop-byte
invariant-loop-byte l = record {
  counted : l.len ≡ l.byte-index;
  told : prefix_len (λ b. not (is_mark b)) l.text ≡ l.byte-index + prefix_len (λ b. not (is_mark b)) (drop l.byte-index l.text);
}
