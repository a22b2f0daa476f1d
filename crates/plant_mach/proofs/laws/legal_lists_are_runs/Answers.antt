use Rattle.plant_mach.proofs.LegalLists.{legal_lists_run, legal_lists_print}
use Rattle.plant_mach.proofs.laws.legal_lists_are_runs.Goals as goal

pub returns : goal.returns
returns c = record { runs = legal_lists_run; transcripts = legal_lists_print }
