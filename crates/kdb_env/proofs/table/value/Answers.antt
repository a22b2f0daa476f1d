use Rattle.std.proofs.Common.{ℕ, Vec, Global, Some, ap, ◌∙◌}
use Rattle.std.specs.Option.{option_map}
use Rattle.kdb_env.proofs.Pairs.{value_of-pairs_of}
use Rattle.kdb_env.proofs.table.value.Goals as goal

pub returns-in-Some : goal.returns-in-Some
returns-in-Some c =
    ap Some c.as_slice.ensures.value
    ∙ ap (option_map (λ (v : Vec ℕ Global). v.items)) c.in-Some.ensures.value
    ∙ value_of-pairs_of c.args.table.now.entries c.args.name.now

pub returns-in-None : goal.returns-in-None
returns-in-None c =
    ap (option_map (λ (v : Vec ℕ Global). v.items)) c.in-None.ensures.value
    ∙ value_of-pairs_of c.args.table.now.entries c.args.name.now
