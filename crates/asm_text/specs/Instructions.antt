-- The word that an instruction of a source means at its place.
use Rattle.std.specs.Prelude.{ℕ, ◌-◌, ◌^◌, ◌==◌, ◌&&◌, Bool, true, false, List, [], ◌∷◌, ◌++◌, codes, Option, Some, None, nat_lt, if◌then◌else◌}
use Rattle.std.specs.Option.{option_or}
use Rattle.std.specs.Str.{bytes_eq}
use Rattle.mach_base.specs.Lines.{is_blank}
use Rattle.mach_base.specs.Number.{dec_text}
use Rattle.rv_table.specs.declared.op.Form.{Form}
use Rattle.rv_table.specs.declared.op.Form.TheVariants.{J, B}
use Rattle.rv_table.specs.Rows.{row_for}
use Rattle.rv_decode.specs.Fields.{Fields, decoded}
use Rattle.rv_asm.specs.Meant.{word_meant}
use Rattle.rv_asm.specs.Spelling.{insn_text}
use Rattle.asm_text.specs.declared.labels.Given.{Given}
use Rattle.asm_text.specs.Labels.{Labels, given}

-- the word, if it has 32 bits and the line is its spelling
abbrev pub if_spelled : List ℕ → Option ℕ → Option ℕ
if_spelled line None = None
if_spelled line (Some word) = if nat_lt word (2 ^ 32) && bytes_eq line (insn_text word) then Some word else None

-- the word whose spelling the line is
unfoldable pub word_of : List ℕ → Option ℕ
word_of line = if_spelled line (word_meant line)

-- the line without the blanks and tabs at its head
abbrev pub trimmed : List ℕ → List ℕ
trimmed [] = []
trimmed (b ∷ bs) = if is_blank b then trimmed bs else b ∷ bs

-- a byte in front of a line that is split after its last blank
abbrev pub onto_split : ℕ → List ℕ × List ℕ → List ℕ × List ℕ
onto_split b ([], word) = if b == 32 then (b ∷ [], word) else ([], b ∷ word)
onto_split b (c ∷ line, word) = (b ∷ c ∷ line, word)

-- the line up to its last blank, and the word after it
abbrev pub last_split : List ℕ → List ℕ × List ℕ
last_split [] = ([], [])
last_split (b ∷ bs) = onto_split b (last_split bs)

-- the distance from one address to another in decimal, with - before a negative one
abbrev pub distance_text : ℕ → ℕ → List ℕ
distance_text from to = if nat_lt to from then codes "-" ++ dec_text (from - to) else dec_text (to - from)

-- whether the form has a distance to an address as its immediate: that of jumps and that of branches
abbrev pub has_distance : Form → Bool
has_distance J = true
has_distance B = true
has_distance _ = false

-- whether the instruction has
abbrev pub goes : Option Fields → Bool
goes None = false
goes (Some f) = has_distance (row_for f.op).form

-- the word, if it is a jump or a branch
abbrev pub if_goes : Option ℕ → Option ℕ
if_goes None = None
if_goes (Some word) = if goes (decoded word) then Some word else None

-- the jump or branch at a place to what is given there, by the text before the name
abbrev pub word_towards : ℕ → Option Given → List ℕ → Option ℕ
word_towards place None text = None
word_towards place (Some there) text = if_goes (word_of (text ++ distance_text place there.address))

-- the jump or branch of a line whose last word is a name
abbrev pub word_with_name : Labels → Option ℕ → List ℕ × List ℕ → Option ℕ
word_with_name labels None split = None
word_with_name labels (Some place) split = word_towards place (given labels split.1) split.0

-- The word that a line means at a place: the one that it spells, or the jump or branch that it spells with the distance
-- in place of a name.
unfoldable pub word_at : Labels → Option ℕ → List ℕ → Option ℕ
word_at labels place line = option_or (word_of line) (word_with_name labels place (last_split line))
