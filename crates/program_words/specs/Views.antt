-- The commands of the code, as the definitions have them.
use Rattle.std.specs.Prelude.{Option, option_and_then}
use Rattle.clap.specs.Words.{first_of, one_of, subcommand_rows_of}
use Rattle.clap.specs.declared.parser.matches.ArgMatches.{ArgMatches}
use Rattle.program_words.specs.declared.request.Command.{Command as Made}
use Rattle.program_words.specs.declared.request.Command.TheVariants as made
use Rattle.program_words.specs.Commands.{Command, uni, replay, run, lockstep, asm, elf, load, request_with}

-- the command of the code, as the definitions have it
abbrev pub command_view : Made → Command
command_view (made.Uni image script) = uni image.now script.now
command_view (made.Replay image map script journal) = replay image.now map.now script.now journal.now
command_view (made.Run image map script journal options) = run image.now map.now script.now journal.now options
command_view (made.Lockstep image map script plan journal options) = lockstep image.now map.now script.now plan.now journal.now options
command_view (made.Asm source image) = asm source.now image.now
command_view (made.Elf executable image map) = elf executable.now image.now map.now
command_view (made.Load number) = load number

-- the request of what clap found: by the command's word, and by the values of its names
abbrev pub request_in : ArgMatches → Option Command
request_in found = option_and_then (λ r. request_with r.0 (λ name. first_of name r.1) (λ name. one_of name r.1)) (subcommand_rows_of found)
