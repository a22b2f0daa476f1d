use Rattle.clap.specs.Words.{app_of}
use Rattle.program_words.proofs.Parsed.{no_request, request_found}
use Rattle.program_words.proofs.words.matches.Goals as goal

pub returns-in-Ok-try_get_matches_from-clause-ok : goal.returns-in-Ok-try_get_matches_from-clause-ok
returns-in-Ok-try_get_matches_from-clause-ok c =
    request_found (app_of c.in-Ok.program) c.args.words.now c.in-Ok-try_get_matches_from.found c.in-Ok.ensures.app_is c.in-Ok-try_get_matches_from.ensures.matches
    c.in-Ok-try_get_matches_from.ensures.kinds

pub returns-in-Err-clause-usage : goal.returns-in-Err-clause-usage
returns-in-Err-clause-usage c = λ e. no_request (app_of c.in-Ok.program) c.args.words.now c.in-Err.error c.in-Ok.ensures.app_is c.in-Err.ensures.kinds (c.fault.ensures e)
