use Rattle.kdbsim_files.proofs.Inputs.{source_text}
use Rattle.kdbsim_files.proofs.input.source_input.Goals as goal

pub returns-clause-text : goal.returns-clause-text
returns-clause-text g c = source_text c.a_source_is_what_its_lines_give.ensures c.as_slice.result.now c.in_ok-read_source.field-0 c.in_ok-read_source.ensures
