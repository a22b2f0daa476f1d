use Rattle.std.proofs.Common.{◌∙◌}
use Rattle.clap.specs.Words.{found_of, rows_of}
use Rattle.program_words.proofs.Parsed.{asked_some}
use Rattle.program_words.proofs.words.asked.Goals as goal

pub returns : goal.returns
returns c = c.request.ensures ∙ asked_some c.args.found.now c.in_ok-word.word.now (rows_of (found_of c.in_ok-word.found.now)) c.in_ok-word.ensures.name c.in_ok-word.ensures.rows
