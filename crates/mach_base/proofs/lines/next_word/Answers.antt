use Rattle.std.proofs.Common.{sym, ap, ◌∙◌}
use Rattle.mach_base.specs.Lines.{words_of}
use Rattle.mach_base.proofs.Cuts.{words_of-none}
use Rattle.mach_base.proofs.lines.next_word.Goals as goal

pub returns-then-is_empty-clause-word : goal.returns-then-is_empty-clause-word
returns-then-is_empty-clause-word c = words_of-none c.args.line.now c.split_at.result.1.now (c.blanks_before.ensures.words ∙ ap words_of (sym c.split_at.ensures.back)) (sym c.is_empty.ensures ∙ c.if-is_empty.true)
