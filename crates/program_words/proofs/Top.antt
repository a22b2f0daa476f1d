-- clap's walk over all the words: the command's word, and then the words of that command.
use Rattle.std.proofs.Common.{◌≡◌, ◌∙◌, ◌&&◌, ℕ, Bool, cond, true, false, refl, sym, ap, List, [], ◌∷◌, map, length, Option, Some, None, is_some}
use Rattle.std.specs.List.{find, fold}
use Rattle.std.specs.Option.{option_map}
use Rattle.std.specs.Prelude.{codes, option_and_then}
use Rattle.std.specs.Str.{IsUtf8, bytes_eq}
use Rattle.std.proofs.lemmas.Slice.Eq.{bytes_eq-Decides}
use Rattle.clap.specs.Walk.{Held, Names, Row as Found, Walk, answers_to, finished, nothing_held, rows_after, settled, walk_from, walked}
use Rattle.clap.specs.Simple.{App, Shape, entered, label_of, names_of, new_shape}
use Rattle.clap.specs.Kinds.{Kinds, or_else}
use Rattle.clap.specs.Faults.{built_fault, check_fault, defaults_fault, entered_fault, flags_fault, level_fault, settle_fault, turn_fault, walk_fault}
use Rattle.clap.specs.declared.error.kind.ErrorKind.{ErrorKind}
use Rattle.clap.proofs.WalkLemmas.{walk_stopped}
use Rattle.clap.proofs.FaultLemmas.{stopped_fault}
use Rattle.program_words.specs.Words.{Text, Kind, plain, dashes, named, unknown, Row, Argument, arguments_of, kind, row_and_arguments}
use Rattle.program_words.proofs.RowRules.{or_false, row_rules}
use Rattle.program_words.specs.Parser.{rows, rows_of_words}
use Rattle.program_words.proofs.Looks.{HasLetter, Looks, has_letter, looks, two_dashes}
use Rattle.program_words.proofs.Turns.{IsSound, outcome, row_shape, unless, unless-or_else}
use Rattle.program_words.proofs.Agrees.{AreTexts, agrees}

-- what a parse reads of the program, once it is built
abbrev pub program_shape : Shape
program_shape = record (new_shape (codes "kdbsim")) {
  is_leaf = false;
  no_binary_name = true;
  disable_help_flag = true;
  disable_help_subcommand = true;
  disable_version_flag = true;
  subcommand_required = true;
  is_built = true;
}

abbrev pub program_of : List Row → App
program_of table = record { top = program_shape; subs = map row_shape table }

-- ---- the command's word

labels_found : (table : List Row) (word : Text)
    → find (answers_to word) (map label_of (map row_shape table)) ≡ option_map (λ (r : Row). (r.word, [])) (find (λ r. bytes_eq r.word word) table)
labels_found [] word = refl
labels_found (r ∷ table) word = rw (or_false (bytes_eq r.word word)) (go (bytes_eq r.word word) (labels_found table word))
  where
    go : (b : Bool) → find (answers_to word) (map label_of (map row_shape table)) ≡ option_map (λ (r : Row). (r.word, [])) (find (λ r. bytes_eq r.word word) table)
        → cond b (Some (label_of (row_shape r))) (find (answers_to word) (map label_of (map row_shape table))) ≡ option_map (λ (r : Row). (r.word, [])) (cond b (Some r) (find (λ r. bytes_eq r.word word) table))
    go true e = refl
    go false e = e

shapes_found : (table : List Row) (word : Text)
    → find (λ s. answers_to word (label_of s)) (map row_shape table) ≡ option_map row_shape (find (λ r. bytes_eq r.word word) table)
shapes_found [] word = refl
shapes_found (r ∷ table) word = rw (or_false (bytes_eq r.word word)) (go (bytes_eq r.word word) (shapes_found table word))
  where
    go : (b : Bool) → find (λ s. answers_to word (label_of s)) (map row_shape table) ≡ option_map row_shape (find (λ r. bytes_eq r.word word) table)
        → cond b (Some (row_shape r)) (find (λ s. answers_to word (label_of s)) (map row_shape table)) ≡ option_map row_shape (cond b (Some r) (find (λ r. bytes_eq r.word word) table))
    go true e = refl
    go false e = e

pub found_passes : {X : Type 0} (p : X → Bool) (xs : List X) (x : X) → find p xs ≡ Some x → p x ≡ true
found_passes p [] x found = absurd (cc)
found_passes p (y ∷ ys) x found = go (p y) refl (found_passes p ys x) found
  where
    go : (b : Bool) → p y ≡ b → (find p ys ≡ Some x → p x ≡ true) → cond b (Some y) (find p ys) ≡ Some x → p x ≡ true
    go true e later f = let same : y ≡ x = cc in rw (← same) e
    go false e later f = later f

-- ---- the parse of all the words

-- what a parse gives where the walk had this fault and ended so: the word of the command and its rows
abbrev parsed : List Row → Kinds → Walk → Option (Text × List Found)
parsed table fault end =
    unless (or_else fault
    (or_else (entered_fault (program_of table) end.stopped)
    (or_else (settle_fault [] false end.held)
    (or_else (defaults_fault (settled [] end.held).rows [])
    (check_fault program_shape (finished [] end.held) (is_some (entered (program_of table) end.stopped)))))))
    (entered (program_of table) end.stopped)

abbrev pub names : List Row → Names
names table = names_of (program_of table)

-- what a parse of the program's words gives
abbrev pub program_outcome : List Row → List Text → Option (Text × List Found)
program_outcome table words =
    unless (built_fault (program_of table) nothing_held words)
    (entered (program_of table) (fold (walked [] (names table)) (walk_from nothing_held) words).stopped)

after_turn : (table : List Row) (word : Text) (words : List Text)
    → program_outcome table (word ∷ words)
    ≡ parsed table (or_else (turn_fault program_shape (names table) (walk_from nothing_held) word) (walk_fault program_shape (names table) (walked [] (names table) (walk_from nothing_held) word) words))
    (fold (walked [] (names table)) (walked [] (names table) (walk_from nothing_held) word) words)
unfolding walk_fault
after_turn table word words = refl

-- the walk that came to a command
abbrev entering : Text → List Text → Walk
entering word words = record (walk_from nothing_held) { stopped = Some (word, words) }

level_outcome : (row : Row) (words : List Text)
    → let s : Shape = row_shape row in unless (level_fault s [] nothing_held words false []) (Some (rows_after s.rules [] words)) ≡ outcome s (walk_from nothing_held) words
level_outcome row words =
    let s : Shape = row_shape row in
    let end : Held = (fold (walked s.rules []) (walk_from nothing_held) words).held in
    let rest : Kinds = or_else (defaults_fault (settled s.rules end).rows s.rules) (check_fault s (finished s.rules end) false) in
    let x : Option (List Found) = Some (finished s.rules end) in
    unless-or_else (walk_fault s [] (walk_from nothing_held) words) (or_else (settle_fault s.rules false end) rest) x
    ∙ ap (unless (walk_fault s [] (walk_from nothing_held) words))
    (unless-or_else (settle_fault s.rules false end) rest x
    ∙ ap (unless (settle_fault s.rules false end)) (unless-or_else (defaults_fault (settled s.rules end).rows s.rules) (check_fault s (finished s.rules end) false) x))

named_rows : (word : Text) (fault : Kinds) (rs : List Found)
    → unless {X = Text × List Found} (or_else fault []) (Some (word, rs)) ≡ option_map (λ (x : List Found). (word, x)) (unless fault (Some rs))
named_rows word [] rs = refl
named_rows word (k ∷ ks) rs = refl

arguments_rows : (row : Row) (given : Option (List Argument))
    → option_map (λ (x : List Found). (row.word, x)) (option_map rows given) ≡ option_map rows_of_words (option_map (λ (g : List Argument). (row, g)) given)
arguments_rows row None = refl
arguments_rows row (Some g) = refl

entered_command : (table : List Row) (row : Row) (words : List Text) → find (λ r. bytes_eq r.word row.word) table ≡ Some row → IsSound row → AreTexts words
    → parsed table [] (entering row.word words) ≡ option_map rows_of_words (option_map (λ (g : List Argument). (row, g)) (arguments_of row words))
unfolding defaults_fault
entered_command table row words found sound texts =
    let sub : find (λ s. answers_to row.word (label_of s)) (map row_shape table) ≡ Some (row_shape row) = shapes_found table row.word ∙ ap (option_map row_shape) found in
    rw sub
    (named_rows row.word (level_fault (row_shape row) [] nothing_held words false []) (rows_after (row_rules row) [] words)
    ∙ ap (option_map (λ (x : List Found). (row.word, x))) (level_outcome row words ∙ (agrees row words sound texts).0 [] None 0 tt)
    ∙ arguments_rows row (arguments_of row words))

-- the word is a command's
a_command : (table : List Row) (word : Text) (words : List Text) (row : Row) → find (λ r. bytes_eq r.word word) table ≡ Some row → IsSound row → AreTexts words
    → program_outcome table (word ∷ words) ≡ option_map rows_of_words (option_map (λ (g : List Argument). (row, g)) (arguments_of row words))
unfolding walked
a_command table word words row found sound texts =
    let same : row.word ≡ word = (bytes_eq-Decides row.word word).0 (found_passes (λ (r : Row). bytes_eq r.word word) table row found) in
    let label : find (answers_to word) (map label_of (map row_shape table)) ≡ Some (row.word, []) = labels_found table word ∙ ap (option_map (λ (r : Row). (r.word, []))) found in
    let no_help : (bytes_eq row.word (codes "help") && false) ≡ false = and_false _ in
    let fault : turn_fault program_shape (names table) (walk_from nothing_held) word ≡ [] = rw (label, no_help) refl in
    let next : walked [] (names table) (walk_from nothing_held) word ≡ entering row.word [] = rw label refl in
    let end : fold (walked [] (names table)) (entering row.word []) words ≡ entering row.word words = sym (walk_stopped [] (names table) (walk_from nothing_held) row.word [] words) in
    after_turn table word words
    ∙ rw (fault, next, stopped_fault program_shape (names table) (walk_from nothing_held) (row.word, []) words, end)
    (entered_command table row words (ap (λ (w : Text). find (λ r. bytes_eq r.word w) table) same ∙ found) sound texts)
  where
    and_false : (b : Bool) → (b && false) ≡ false
    and_false true = refl
    and_false false = refl

-- ---- no command

no_label : (table : List Row) (word : Text) → find (λ r. bytes_eq r.word word) table ≡ None → find (answers_to word) (map label_of (map row_shape table)) ≡ None
no_label table word none = labels_found table word ∙ ap (option_map (λ (r : Row). (r.word, []))) none

-- the first word has a fault
stopped_by : (table : List Row) (word : Text) (words : List Text) (k : ErrorKind) (ks : Kinds)
    → turn_fault program_shape (names table) (walk_from nothing_held) word ≡ k ∷ ks → program_outcome table (word ∷ words) ≡ None
stopped_by table word words k ks fault = after_turn table word words ∙ rw fault refl

no_letters : (b : ℕ) (bs : Text) → HasLetter (b ∷ bs) → flags_fault [] false (length (b ∷ bs)) (b ∷ bs) 0 nothing_held ≡ ErrorKind.UnknownArgument ∷ []
unfolding flags_fault
no_letters b bs letter = rw letter.is refl

-- nothing that follows `--` is a command
after_dashes : (table : List Row) (words : List Text) → find (answers_to two_dashes) (names table) ≡ None → program_outcome table (two_dashes ∷ words) ≡ None
unfolding walked walk_fault defaults_fault
after_dashes table [] none = rw none refl
after_dashes table (word ∷ words) none = rw none refl

no_command : (table : List Row) (word : Text) (words : List Text) (kind : Kind) → Looks word kind → IsUtf8 word → find (λ r. bytes_eq r.word word) table ≡ None
    → program_outcome table (word ∷ words) ≡ None
no_command table word words plain is text none =
    stopped_by table word words ErrorKind.UnknownArgument (ErrorKind.InvalidSubcommand ∷ []) (rw (no_label table word none, is.dashes, is.long, is.short) refl)
no_command table word words dashes is text none =
    ap (λ (w : Text). program_outcome table (w ∷ words)) is
    ∙ after_dashes table words (ap (λ (w : Text). find (answers_to w) (names table)) (sym is) ∙ no_label table word none)
no_command table word words (named name value) is text none =
    stopped_by table word words ErrorKind.UnknownArgument [] (rw (no_label table word none, is.dashes, is.long) refl)
no_command table word words unknown is text none =
    let letter : HasLetter (is.first ∷ is.rest) = has_letter is.first is.rest (rw is.whole at text) in
    stopped_by table word words ErrorKind.UnknownArgument []
    (rw (no_label table word none, is.dashes, is.long, is.short, no_letters is.first is.rest letter) refl)

no_words : (table : List Row) → program_outcome table [] ≡ None
unfolding walk_fault defaults_fault
no_words table = refl

-- each row of the table is found among its rules
abbrev pub AreSound : List Row → Type 0
AreSound table = (word : Text) (row : Row) → find (λ r. bytes_eq r.word word) table ≡ Some row → IsSound row

-- What a parse of the program's words gives is what the grammar gives.
pub program_agrees : (table : List Row) (words : List Text) → AreSound table → AreTexts words
    → program_outcome table words ≡ option_map rows_of_words (row_and_arguments table words)
program_agrees table [] sound texts = no_words table
program_agrees table (word ∷ words) sound texts = go (find (λ r. bytes_eq r.word word) table) refl
  where
    go : (o : Option Row) → find (λ r. bytes_eq r.word word) table ≡ o
        → program_outcome table (word ∷ words) ≡ option_map rows_of_words (option_and_then (λ row. option_map (λ (g : List Argument). (row, g)) (arguments_of row words)) o)
    go None e = no_command table word words (kind word) (looks word) texts.0 e
    go (Some row) e = a_command table word words row e (sound word row e) texts.1
