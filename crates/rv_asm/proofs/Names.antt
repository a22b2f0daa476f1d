-- What is written for an operation and its ordering bits is read as them.
use Rattle.std.proofs.Common.{◌≡◌, ℕ, Bool, true, false, List, [], ◌++◌, codes, Some, refl}
use Rattle.std.specs.Str.{bytes_eq}
use Rattle.rv_table.specs.declared.op.Op.{Op}
use Rattle.rv_table.specs.declared.op.Op.TheVariants.{Lui}
use Rattle.rv_table.specs.Rows.{row_for, the_ops, the_rows}
use Rattle.rv_table.specs.Mnemonics.{op_name, op_named}
use Rattle.rv_asm.specs.Meant.{named}
use Rattle.rv_asm.specs.Spelling.{order_text}
use Rattle.rv_asm.proofs.Words.{is_plain}

-- a name is a word, not that of data, and is read as this
abbrev pub IsName : List ℕ → Op → Bool → Bool → Type 0
IsName name op aq rl = (named name ≡ Some (op, aq, rl)) × (is_plain name ≡ true) × (bytes_eq name (codes ".word") ≡ false)

both : (op : Op) → IsName (op_name op ++ codes ".aqrl") op true true
unfolding named op_named op_name row_for the_ops the_rows
both Lui = (refl, refl, refl)
both _ = (refl, refl, refl)

acquire : (op : Op) → IsName (op_name op ++ codes ".aq") op true false
unfolding named op_named op_name row_for the_ops the_rows
acquire Lui = (refl, refl, refl)
acquire _ = (refl, refl, refl)

release : (op : Op) → IsName (op_name op ++ codes ".rl") op false true
unfolding named op_named op_name row_for the_ops the_rows
release Lui = (refl, refl, refl)
release _ = (refl, refl, refl)

none : (op : Op) → IsName (op_name op ++ []) op false false
unfolding named op_named op_name row_for the_ops the_rows
none Lui = (refl, refl, refl)
none _ = (refl, refl, refl)

pub names : (op : Op) (aq rl : Bool) → IsName (op_name op ++ order_text aq rl) op aq rl
names op true true = both op
names op true false = acquire op
names op false true = release op
names op false false = none op
