use Rattle.std.proofs.lemmas.Result.{IfOk-weaker}
use Rattle.clap.specs.Words.{App, with_subcommand}
use Rattle.program_words.specs.Parser.{IsParser, program_settings, row_command}
use Rattle.program_words.specs.Rows.{asm_row, elf_row, load_row, lockstep_row, replay_row, run_row, uni_row}
use Rattle.program_words.proofs.Added.{has_command}
use Rattle.program_words.proofs.parser.program.Goals as goal

pub returns : goal.returns
returns c =
    let one : App = with_subcommand program_settings (row_command uni_row) in
    let two : App = with_subcommand one (row_command replay_row) in
    let three : App = with_subcommand two (row_command run_row) in
    let four : App = with_subcommand three (row_command lockstep_row) in
    let five : App = with_subcommand four (row_command asm_row) in
    let six : App = with_subcommand five (row_command elf_row) in
    let is_one : IsParser c.in_ok-program.program one =
    has_command c.settings-program.result c.in_ok-uni.field-0 c.in_ok-program.program program_settings uni_row c.settings-program.ensures c.in_ok-uni.ensures c.in_ok-program.ensures in
    let is_two : IsParser c.in_ok-program-2.program two =
    has_command c.in_ok-program.program c.in_ok-replay.field-0 c.in_ok-program-2.program one replay_row is_one c.in_ok-replay.ensures c.in_ok-program-2.ensures in
    let is_three : IsParser c.in_ok-program-3.program three =
    has_command c.in_ok-program-2.program c.in_ok-run.field-0 c.in_ok-program-3.program two run_row is_two c.in_ok-run.ensures c.in_ok-program-3.ensures in
    let is_four : IsParser c.in_ok-program-4.program four =
    has_command c.in_ok-program-3.program c.in_ok-lockstep.field-0 c.in_ok-program-4.program three lockstep_row is_three c.in_ok-lockstep.ensures c.in_ok-program-4.ensures in
    let is_five : IsParser c.in_ok-program-5.program five =
    has_command c.in_ok-program-4.program c.in_ok-asm.field-0 c.in_ok-program-5.program four asm_row is_four c.in_ok-asm.ensures c.in_ok-program-5.ensures in
    let is_six : IsParser c.in_ok-program-6.program six =
    has_command c.in_ok-program-5.program c.in_ok-elf.field-0 c.in_ok-program-6.program five elf_row is_five c.in_ok-elf.ensures c.in_ok-program-6.ensures in
    IfOk-weaker c.with_row-7.result _ _ (λ m h. has_command c.in_ok-program-6.program c.in_ok-load.field-0 m six load_row is_six c.in_ok-load.ensures h) c.with_row-7.ensures
