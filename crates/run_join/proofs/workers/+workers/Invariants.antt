use Rattle.std.proofs.Common.{◌+◌, ◌*◌, length}
use Rattle.run_join.proofs.workers.+workers.Given as goal

abbrev pub decreases-rest : goal.decreases-rest
decreases-rest g l = 2 * length l.others.items + 2

abbrev pub decreases-run_each : goal.decreases-run_each
decreases-run_each g l = 2 * length l.passes.items + 1
