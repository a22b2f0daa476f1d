use Rattle.std.proofs.Common.{◌≡◌, false, ◌++◌, drop, None}
use Rattle.std.specs.List.{list_any}
use Rattle.kdb_lex.specs.Mark.{is_pipe}
use Rattle.kdb_lex.specs.Line.{marks}
use Rattle.kdb_lex.proofs.Scan.{words_from, before, after}
use Rattle.kdb_lex.proofs.line.push_words.Given as goal

-- what was read, joined with what is left, is the whole
abbrev pub invariant-loop-i : goal.invariant-loop-i
invariant-loop-i l = record {
  words : l.words.items ++ words_from l.word (before (marks l.quoted (drop l.i l.line))) ≡ l.fn.words.items ++ words_from None (before (marks false l.line));
  behind : after (marks l.quoted (drop l.i l.line)) ≡ after (marks false l.line);
  pipe : list_any is_pipe (marks l.quoted (drop l.i l.line)) ≡ list_any is_pipe (marks false l.line);
}
