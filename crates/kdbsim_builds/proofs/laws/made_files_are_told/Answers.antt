use Rattle.kdbsim_builds.proofs.Telling.{assembled_told, converted_told}
use Rattle.kdbsim_builds.proofs.laws.made_files_are_told.Goals as goal

pub returns : goal.returns
returns c = record { assembled = assembled_told; converted = converted_told }
