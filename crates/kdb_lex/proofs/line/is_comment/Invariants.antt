use Rattle.std.proofs.Common.{◌≡◌, drop}
use Rattle.kdb_lex.specs.Line.{is_comment}
use Rattle.kdb_lex.proofs.line.is_comment.Given as goal

-- only blanks stand before
abbrev pub invariant-loop-byte : goal.invariant-loop-byte
invariant-loop-byte l = is_comment (drop l.byte-index l.line) ≡ is_comment l.line
