use Rattle.rv_table.proofs.Mnemonics.{op_named-op_name, op_name_injective}
use Rattle.rv_table.proofs.names.names_differ.Goals as goal

pub returns : goal.returns
returns c = record { read = op_named-op_name; differ = op_name_injective }
