use Rattle.std.proofs.Common.{◌≡◌, ℕ, ◌^◌, ◌<◌, ◌∙◌, refl, sym, Some}
use Rattle.rv_table.specs.declared.op.Op.TheVariants.{Ebreak}
use Rattle.rv_table.specs.Rows.{row_for, row_of, ebreak_word}
use Rattle.rv_table.proofs.Found.{row_of-matches, row_of-Some}
use Rattle.rv_table.proofs.Words.{word_of-full_mask}
use Rattle.rv_table.proofs.table.ebreak_is_one_word.Goals as goal

pub returns : goal.returns
unfolding row_for
returns c = record {
  row = row_of-matches ebreak_word Ebreak refl;
  one = λ word below found. word_of-full_mask word ebreak_word below (row_of-Some word (row_for Ebreak) found).0;
}
