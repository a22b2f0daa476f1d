use Rattle.std.proofs.Common.{List, ℕ, ap, ◌∙◌}
use Rattle.kdb_env.specs.Variables.{with_value}
use Rattle.kdb_env.specs.Table.{pairs_of}
use Rattle.kdb_env.proofs.Pairs.{pairs_of-insert_entry}
use Rattle.kdb_env.proofs.table.put.Goals as goal

pub returns-clause-ok : goal.returns-clause-ok
returns-clause-ok c =
    let old = c.args.table.now.entries in
    ap pairs_of c.in_ok-insert.ensures.entries
    ∙ pairs_of-insert_entry old c.in_ok-name.name c.in_ok-value.value
    ∙ ap (λ (n : List ℕ). with_value (pairs_of old) n c.in_ok-value.value.items) c.in_ok-name.ensures.items
    ∙ ap (λ (v : List ℕ). with_value (pairs_of old) c.args.name.now v) c.in_ok-value.ensures.items
