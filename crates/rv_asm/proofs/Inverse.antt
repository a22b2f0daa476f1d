-- What a word's spelling may mean is that word.
use Rattle.std.proofs.Common.{◌≡◌, ℕ, ◌+◌, ◌^◌, ◌<◌, Bool, true, false, cond, List, [], ◌∷◌, ◌++◌, codes, take, drop, Option, Some, None, refl, sym, ap, ◌∙◌, append_assoc, subst, arith}
use Rattle.std.specs.Option.{option_map, option_and_then}
use Rattle.std.specs.Str.{bytes_eq}
use Rattle.std.proofs.Math.Seq.{drop-append-add}
use Rattle.rv_table.specs.declared.op.Form.{Form}
use Rattle.rv_table.specs.declared.op.Op.{Op}
use Rattle.rv_table.specs.declared.table.Row.{Row}
use Rattle.rv_table.specs.Mnemonics.{op_name}
use Rattle.rv_table.specs.Rows.{row_for, row_of}
use Rattle.rv_decode.specs.Bits.{bits_at}
use Rattle.rv_decode.specs.Encoding.{encoded}
use Rattle.rv_decode.specs.Fields.{Fields, has_rd, has_rs1, has_rs2, fields_in, fits_form, decoded}
use Rattle.rv_decode.proofs.Reading.{fits-fields_in, encoded-decoded, form-row_of}
use Rattle.rv_asm.specs.declared.parts.Part.{Part}
use Rattle.rv_asm.specs.Parts.{is_based, parts_in, parts_of}
use Rattle.rv_asm.specs.Spelling.{parts_text, operands_text, order_text, instruction_text, data_text, text_or, insn_text}
use Rattle.rv_asm.specs.Meant.{word_len, value_of, operands_meant, no_operands, fields_meant, fits, word_if_fits, instruction_meant, word_meant}
use Rattle.rv_asm.proofs.Digits.{value_of-hex_text}
use Rattle.rv_asm.proofs.Names.{names}
use Rattle.rv_asm.proofs.Operands.{Good, good, operands_of, read_parts, alternates-parts_in, sound-parts_in, filled-parts_in}
use Rattle.rv_asm.proofs.Words.{is_plain, is_stopped, word_len-plain, take_word}

-- ---- an instruction

-- the operands are read as they were
read_operands : (f : Fields) → Good (row_for f.op).form f → operands_meant (parts_of f.op) (parts_text f (parts_of f.op)) no_operands ≡ operands_of f
unfolding parts_of
read_operands f g =
    let form = (row_for f.op).form in
    let based = is_based f.op in
    read_parts f (parts_in form based) no_operands (alternates-parts_in form based) (sound-parts_in form based f g) ∙ filled-parts_in form based f g

stopped-operands : (f : Fields) (parts : List Part) → is_stopped (operands_text f parts) ≡ true
stopped-operands f [] = refl
stopped-operands f (part ∷ parts) = refl

-- after the blank there are the parts
after_blank : (f : Fields) (parts : List Part) → drop 1 (operands_text f parts) ≡ parts_text f parts
after_blank f [] = refl
after_blank f (part ∷ parts) = refl

again : (f : Fields) → fields_meant (f.op, f.aq, f.rl) (operands_of f) ≡ f
again f = refl

word_of : (f : Fields) → fits f ≡ true → word_if_fits f ≡ Some (encoded f)
word_of f h = ap (λ t. cond t (Some (encoded f)) None) h

-- a name and what follows it
split_meant : (name rest : List ℕ) → is_plain name ≡ true → is_stopped rest ≡ true → bytes_eq name (codes ".word") ≡ false
    → word_meant (name ++ rest) ≡ instruction_meant name (drop 1 rest)
unfolding word_meant
split_meant name rest plain stop other =
    let line = name ++ rest in
    let first = take_word name rest plain stop in
    let behind : drop (word_len line + 1) line ≡ drop 1 rest = ap (λ n. drop (n + 1) line) (word_len-plain name rest plain stop) ∙ drop-append-add name rest 1 in
    ap (λ t. cond t (Some (value_of 16 (drop (word_len line + 3) line))) (instruction_meant (take (word_len line) line) (drop (word_len line + 1) line))) (ap (λ n. bytes_eq n (codes ".word")) first ∙ other)
    ∙ ap (λ n. instruction_meant n (drop (word_len line + 1) line)) first
    ∙ ap (instruction_meant name) behind

instruction : (f : Fields) → Good (row_for f.op).form f → fits f ≡ true → word_meant (instruction_text f) ≡ Some (encoded f)
unfolding instruction_text
instruction f g h =
    let name = op_name f.op ++ order_text f.aq f.rl in
    let parts = parts_of f.op in
    let is = names f.op f.aq f.rl in
    ap word_meant (sym (append_assoc (op_name f.op) (order_text f.aq f.rl) (operands_text f parts)))
    ∙ split_meant name (operands_text f parts) is.1 (stopped-operands f parts) is.2
    ∙ ap (instruction_meant name) (after_blank f parts)
    ∙ ap (λ o. option_and_then (λ head. word_if_fits (fields_meant head (operands_meant (parts_of head.0) (parts_text f parts) no_operands))) o) is.0
    ∙ ap (λ o. word_if_fits (fields_meant (f.op, f.aq, f.rl) o)) (read_operands f g)
    ∙ ap word_if_fits (again f)
    ∙ word_of f h

-- ---- data

word_meant-data_text : (word : ℕ) → word < 2 ^ 32 → word_meant (data_text word) ≡ Some word
unfolding word_meant data_text word_len
word_meant-data_text word small = ap (λ v. Some v) (value_of-hex_text word small)

-- ---- each word

register_small : (has : Bool) (word low : ℕ) → cond has (bits_at word low 5) 0 < 32
register_small true word low = omega arith
register_small false word low = omega arith

small_rd : (form : Form) (op : Op) (word : ℕ) → (fields_in form op word).rd < 32
unfolding fields_in
small_rd form op word = register_small (has_rd form) word 7

small_rs1 : (form : Form) (op : Op) (word : ℕ) → (fields_in form op word).rs1 < 32
unfolding fields_in
small_rs1 form op word = register_small (has_rs1 form) word 15

small_rs2 : (form : Form) (op : Op) (word : ℕ) → (fields_in form op word).rs2 < 32
unfolding fields_in
small_rs2 form op word = register_small (has_rs2 form) word 20

good-fields_in : (form : Form) (op : Op) (word : ℕ) → Good form (fields_in form op word)
good-fields_in form op word =
    good form (fields_in form op word) (small_rd form op word) (small_rs1 form op word) (small_rs2 form op word) (fits-fields_in form op word)

op-fields_in : (form : Form) (op : Op) (word : ℕ) → (fields_in form op word).op ≡ op
unfolding fields_in
op-fields_in form op word = refl

spelled : (word : ℕ) (found : Option Row) → row_of word ≡ found → word < 2 ^ 32
    → word_meant (text_or word (option_map (λ r. fields_in r.form r.op word) found)) ≡ Some word
spelled word None e small = word_meant-data_text word small
spelled word (Some r) e small =
    let f = fields_in r.form r.op word in
    let form : r.form ≡ (row_for f.op).form = form-row_of word r e ∙ ap (λ o. (row_for o).form) (sym (op-fields_in r.form r.op word)) in
    let fit : fits f ≡ true = ap (λ m. fits_form m f.rd f.rs1 f.rs2 f.imm f.aq f.rl) (sym form) ∙ fits-fields_in r.form r.op word in
    instruction f (subst (λ m. Good m f) form (good-fields_in r.form r.op word)) fit ∙ ap (λ w. Some w) (encoded-decoded word r small e)

pub word_meant-insn_text : (word : ℕ) → word < 2 ^ 32 → word_meant (insn_text word) ≡ Some word
unfolding insn_text decoded
word_meant-insn_text word small = spelled word (row_of word) refl small

-- two words have two spellings
pub insn_text_injective : (a b : ℕ) → a < 2 ^ 32 → b < 2 ^ 32 → insn_text a ≡ insn_text b → a ≡ b
insn_text_injective a b small_a small_b e =
    let same : Some a ≡ Some b = sym (word_meant-insn_text a small_a) ∙ ap word_meant e ∙ word_meant-insn_text b small_b in
    cc
