use Rattle.hart_ctx.proofs.Names.{register_named-name}
use Rattle.hart_ctx.proofs.register_name.names_are_read.Goals as goal

pub returns : goal.returns
returns c = register_named-name c.args.reg c.requires
