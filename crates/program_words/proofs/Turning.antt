-- clap's walk over the words of one command: options, and the words that it refuses.
use Rattle.std.proofs.Common.{◌≡◌, ◌∙◌, inl, inr, ◌+◌, ℕ, true, false, refl, ap, List, [], ◌∷◌, length, Option, Some, None}
use Rattle.std.specs.List.{find}
use Rattle.std.specs.Option.{option_map}
use Rattle.std.specs.Prelude.{option_and_then}
use Rattle.std.specs.Str.{IsUtf8, bytes_eq}
use Rattle.clap.specs.Walk.{Held, Row as Found, Walk, idle, arg_by_long, Waiting, settled, subcommand_met, used, walked}
use Rattle.clap.specs.Walk.{option as awaiting}
use Rattle.clap.specs.Kinds.{Kinds, or_else}
use Rattle.clap.specs.Faults.{flags_fault, settle_fault, use_fault, word_fault}
use Rattle.clap.specs.declared.error.kind.ErrorKind.{ErrorKind}
use Rattle.program_words.specs.Words.{Text, Parameter, Row, Argument, with_argument}
use Rattle.program_words.proofs.RowRules.{by_name, no_short, optional, row_rules}
use Rattle.program_words.specs.Parser.{rows}
use Rattle.program_words.proofs.Uses.{AreKnown, Pending, held, settles, use_is, with_pending}
use Rattle.program_words.proofs.Looks.{HasLetter, IsNamed, IsShort, has_letter, two_dashes}
use Rattle.program_words.proofs.Turns.{IsSound, at, outcome, outcome-turn, row_shape, unless}

-- the walk where the last word named this option
abbrev pub held_option : List Argument → Parameter → Held
held_option given o = record { rows = rows given; pending = Some (o.name, []); skip = 0 }

abbrev pub at_option : List Argument → Parameter → ℕ → Walk
at_option given o k = record { held = held_option given o; waiting = awaiting o.name; position = k + 1; is_trailing = false; stopped = None }

-- the walk with these rows
abbrev walk_with : List Found → Option (Text × List Text) → Waiting → ℕ → Walk
walk_with rs pending waiting k =
    record { held = record { rows = rs; pending = pending; skip = 0 }; waiting = waiting; position = k + 1; is_trailing = false; stopped = None }

abbrev pub option_named : Row → Text → Option Parameter
option_named row name = find (λ o. bytes_eq o.name name) row.options

long_is : (row : Row) (name : Text) (o : Option Parameter) → option_named row name ≡ o → arg_by_long (row_rules row) name ≡ option_map optional o
long_is row name o e = by_name row.operands row.options 1 name ∙ ap (option_map optional) e

-- ---- from a word at which nothing waits

pub no_option : (row : Row) (given : List Argument) (p : Pending) (k : ℕ) (word name : Text) (value : Option Text) (words : List Text)
    → IsNamed word name value → option_named row name ≡ None
    → outcome (row_shape row) (at false given p k) (word ∷ words) ≡ None
no_option row given p k word name value words is none =
    let long : arg_by_long (row_rules row) name ≡ None = long_is row name None none in
    let fault : word_fault (row_shape row) [] false idle word (held given p) ≡ ErrorKind.UnknownArgument ∷ [] = rw (is.dashes, is.long, long) refl in
    outcome-turn (row_shape row) (at false given p k) word words ∙ rw fault refl

with_value : (row : Row) (given : List Argument) (p : Pending) (k : ℕ) (o : Parameter) (word name value : Text) (words : List Text)
    → IsNamed word name (Some value) → option_named row name ≡ Some o
    → outcome (row_shape row) (at false given p k) (word ∷ words)
    ≡ unless (settle_fault (row_rules row) false (held given p))
    (unless (use_fault false (optional o) (value ∷ []) (settled (row_rules row) (held given p)).rows)
    (outcome (row_shape row) (walk_with (used (optional o) (value ∷ []) (settled (row_rules row) (held given p)).rows) None idle k) words))
unfolding walked
with_value row given p k o word name value words is some =
    let long : arg_by_long (row_rules row) name ≡ Some (optional o) = long_is row name (Some o) some in
    outcome-turn (row_shape row) (at false given p k) word words ∙ rw (is.dashes, is.long, long)
    (or_nothing (settle_fault (row_rules row) false (held given p)) (use_fault false (optional o) (value ∷ []) (settled (row_rules row) (held given p)).rows)
    (outcome (row_shape row) (walk_with (used (optional o) (value ∷ []) (settled (row_rules row) (held given p)).rows) None idle k) words))
  where
    or_nothing : (a b : Kinds) (x : Option (List Found)) → unless (or_else (or_else a b) []) x ≡ unless a (unless b x)
    or_nothing [] [] x = refl
    or_nothing [] (k2 ∷ ks) x = refl
    or_nothing (k2 ∷ ks) b x = refl

-- `--name=value`
pub value_turn : (row : Row) (given : List Argument) (p : Pending) (k : ℕ) (o : Parameter) (word name value : Text) (words : List Text)
    → IsSound row → AreKnown (row_rules row) p → IsNamed word name (Some value) → option_named row name ≡ Some o
    → outcome (row_shape row) (at false given p k) (word ∷ words)
    ≡ option_and_then (λ g. option_and_then (λ more. outcome (row_shape row) (at false more None k) words) (with_argument g value (Some o))) (with_pending given p)
value_turn row given p k o word name value words sound known is some =
    with_value row given p k o word name value words is some ∙ elim (settles (row_rules row) given p known) [
      | inl f ↦ rw (f.fault_is, f.none) refl
      | inr g ↦ rw (g.fault_is, g.some, g.after_is) (then_used g.given)
    ]
  where
    then_used : (g : List Argument)
        → unless (use_fault false (optional o) (value ∷ []) (rows g))
        (outcome (row_shape row) (walk_with (used (optional o) (value ∷ []) (rows g)) None idle k) words)
        ≡ option_and_then (λ more. outcome (row_shape row) (at false more None k) words) (with_argument g value (Some o))
    then_used g = elim (use_is o (optional o) value g (inr refl) (sound.option_known name o some).small) [
      | inl f ↦ rw (f.fault_is, f.none) refl
      | inr u ↦ rw (u.fault_is, u.some, u.after_is) refl
    ]

-- `--name`
named_turn : (row : Row) (given : List Argument) (p : Pending) (k : ℕ) (o : Parameter) (word name : Text) (words : List Text)
    → IsNamed word name None → option_named row name ≡ Some o
    → outcome (row_shape row) (at false given p k) (word ∷ words)
    ≡ unless (settle_fault (row_rules row) false (held given p))
    (outcome (row_shape row) (walk_with (settled (row_rules row) (held given p)).rows (Some (o.name, [])) (awaiting o.name) k) words)
unfolding walked
named_turn row given p k o word name words is some =
    let long : arg_by_long (row_rules row) name ≡ Some (optional o) = long_is row name (Some o) some in
    outcome-turn (row_shape row) (at false given p k) word words ∙ rw (is.dashes, is.long, long)
    (or_nothing (settle_fault (row_rules row) false (held given p))
    (outcome (row_shape row) (walk_with (settled (row_rules row) (held given p)).rows (Some (o.name, [])) (awaiting o.name) k) words))
  where
    or_nothing : (a : Kinds) (x : Option (List Found)) → unless (or_else a []) x ≡ unless a x
    or_nothing [] x = refl
    or_nothing (k2 ∷ ks) x = refl

pub name_turn : (row : Row) (given : List Argument) (p : Pending) (k : ℕ) (o : Parameter) (word name : Text) (words : List Text)
    → AreKnown (row_rules row) p → IsNamed word name None → option_named row name ≡ Some o
    → outcome (row_shape row) (at false given p k) (word ∷ words)
    ≡ option_and_then (λ g. outcome (row_shape row) (at_option g o k) words) (with_pending given p)
name_turn row given p k o word name words known is some =
    named_turn row given p k o word name words is some ∙ elim (settles (row_rules row) given p known) [
      | inl f ↦ rw (f.fault_is, f.none) refl
      | inr g ↦ rw (g.fault_is, g.some, g.after_is) refl
    ]

pub dashes_turn : (row : Row) (given : List Argument) (p : Pending) (k : ℕ) (words : List Text)
    → outcome (row_shape row) (at false given p k) (two_dashes ∷ words) ≡ outcome (row_shape row) (at true given p k) words
unfolding walked
dashes_turn row given p k words = outcome-turn (row_shape row) (at false given p k) two_dashes words

-- ---- letters after one dash

letters_fail : (row : Row) (h : Held) (b : ℕ) (bs : Text) → HasLetter (b ∷ bs)
    → flags_fault (row_rules row) false (length (b ∷ bs)) (b ∷ bs) 0 h ≡ ErrorKind.UnknownArgument ∷ []
unfolding flags_fault
letters_fail row h b bs letter = rw (letter.is, no_short row.operands row.options 1 letter.letter) refl

pub letters_turn : (row : Row) (w : Walk) (word : Text) (words : List Text) → IsShort word → IsUtf8 word
    → w.is_trailing ≡ false → w.stopped ≡ None → w.held.skip ≡ 0 → subcommand_met [] w.waiting word ≡ None
    → outcome (row_shape row) w (word ∷ words) ≡ None
letters_turn row w word words is text free going fresh met =
    let letter : HasLetter (is.first ∷ is.rest) = has_letter is.first is.rest (rw is.whole at text) in
    let fault : word_fault (row_shape row) [] false w.waiting word w.held ≡ ErrorKind.UnknownArgument ∷ [] =
    rw (met, is.dashes, is.long, is.short, fresh) (letters_fail row (record w.held { skip = 0 }) is.first is.rest letter) in
    outcome-turn (row_shape row) w word words ∙ rw (free, going, fault) refl
