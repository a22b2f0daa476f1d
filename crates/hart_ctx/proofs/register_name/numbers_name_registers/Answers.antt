use Rattle.hart_ctx.proofs.Numbers.{x_number_is}
use Rattle.hart_ctx.proofs.register_name.numbers_name_registers.Goals as goal

pub returns : goal.returns
returns c = x_number_is
