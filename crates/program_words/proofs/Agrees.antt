-- clap's walk over the words of one command reads just the arguments that the grammar gives them.
use Rattle.std.proofs.Common.{◌≡◌, ◌∙◌, inl, inr, ◌+◌, ◌&&◌, ℕ, Bool, true, false, refl, sym, ap, arith, List, [], ◌∷◌, map, Option, Some, None}
use Rattle.std.specs.Option.{option_map}
use Rattle.std.specs.Prelude.{slice_get, option_and_then}
use Rattle.std.specs.Str.{IsUtf8, bytes_eq}
use Rattle.clap.specs.Walk.{Rule, Walk, arg_by_id, arg_by_index, arg_by_long, walked}
use Rattle.clap.specs.Walk.{option as awaiting}
use Rattle.clap.specs.Faults.{settle_fault, turn_fault, use_fault, word_fault}
use Rattle.clap.specs.declared.error.kind.ErrorKind.{ErrorKind}
use Rattle.program_words.specs.Words.{Text, Kind, plain, dashes, named, unknown, Parameter, Row, Item, operand, option, Argument, and_then_items, arguments, items, items_from, kind, valued, with_argument}
use Rattle.program_words.proofs.RowRules.{by_name, by_place, bytes_eq-same, optional, placed, row_rules}
use Rattle.program_words.specs.Parser.{rows}
use Rattle.program_words.proofs.Uses.{AreKnown, IsKnown, IsOf, Pending, held, with_pending}
use Rattle.program_words.proofs.Looks.{IsNamed, IsPlain, Looks, looks, two_dashes}
use Rattle.program_words.proofs.Turns.{IsSound, IsTaken, at, ended, ended_is, expected, expected_after, no_place, operand_turn, outcome, outcome-end, outcome-turn, row_shape, taken_plain, taken_trailing}
use Rattle.program_words.proofs.Turning.{at_option, dashes_turn, held_option, letters_turn, name_turn, no_option, option_named, value_turn}

-- ---- an option that has no value

no_value : (p : Parameter) (a : Rule) (given : List Argument) → IsOf p a → use_fault false a [] (rows given) ≡ ErrorKind.InvalidValue ∷ []
no_value p a given (inl e) = rw e.1 refl
no_value p a given (inr e) = rw e refl

unsettled : (c : List Rule) (given : List Argument) (o : Parameter) → IsKnown c o → settle_fault c false (held_option given o) ≡ ErrorKind.InvalidValue ∷ []
unsettled c given o known = rw known.by_id (no_value o known.rule given known.of)

ended_without : (row : Row) (given : List Argument) (o : Parameter) → IsKnown (row_rules row) o → ended (row_shape row) (held_option given o) ≡ None
ended_without row given o known = rw (unsettled (row_rules row) given o known) refl

-- the walk where `--` follows the option
abbrev at_dashes : List Argument → Parameter → ℕ → Walk
at_dashes given o k = record { held = held_option given o; waiting = awaiting o.name; position = k + 1; is_trailing = true; stopped = None }

positional_without : (row : Row) (given : List Argument) (o : Parameter) (k : ℕ) (word : Text) (place : Option Parameter) → IsKnown (row_rules row) o
    → arg_by_index (row_rules row) (k + 1) ≡ option_map (placed (k + 1)) place
    → (kind : ErrorKind) × (turn_fault (row_shape row) [] (at_dashes given o k) word ≡ kind ∷ [])
positional_without row given o k word None known place = (ErrorKind.UnknownArgument, rw place refl)
positional_without row given o k word (Some p) known place =
    let none : (bytes_eq o.name p.name && false) ≡ false = and_false _ in
    (ErrorKind.InvalidValue, rw (place, none, unsettled (row_rules row) given o known) refl)
  where
    and_false : (b : Bool) → (b && false) ≡ false
    and_false true = refl
    and_false false = refl

dashes_without : (row : Row) (given : List Argument) (o : Parameter) (k : ℕ) (words : List Text) → IsKnown (row_rules row) o
    → outcome (row_shape row) (at_dashes given o k) words ≡ None
dashes_without row given o k [] known = outcome-end (row_shape row) (at_dashes given o k) ∙ ended_without row given o known
dashes_without row given o k (word ∷ words) known =
    let fault = positional_without row given o k word (slice_get row.operands k) known (by_place row.operands row.options 1 (k + 1) k (omega arith)) in
    outcome-turn (row_shape row) (at_dashes given o k) word words ∙ rw fault.1 refl

-- ---- from a word that an option waits for

take_value : (row : Row) (given : List Argument) (o : Parameter) (k : ℕ) (word : Text) (words : List Text) (a : Rule)
    → IsPlain word → arg_by_id (row_rules row) o.name ≡ Some a → IsOf o a
    → outcome (row_shape row) (at_option given o k) (word ∷ words) ≡ outcome (row_shape row) (at false given (Some (o, word)) k) words
unfolding walked
take_value row given o k word words a is by_id (inl e) =
    let same : bytes_eq o.name o.name ≡ true = bytes_eq-same o.name in
    let found : arg_by_id (row_rules row) o.name ≡ Some (placed e.0 o) = by_id ∙ ap (λ (r : Rule). Some r) e.1 in
    outcome-turn (row_shape row) (at_option given o k) word words ∙ rw (is.dashes, is.long, is.short, found, same) refl
take_value row given o k word words a is by_id (inr e) =
    let same : bytes_eq o.name o.name ≡ true = bytes_eq-same o.name in
    let found : arg_by_id (row_rules row) o.name ≡ Some (optional o) = by_id ∙ ap (λ (r : Rule). Some r) e in
    outcome-turn (row_shape row) (at_option given o k) word words ∙ rw (is.dashes, is.long, is.short, found, same) refl

dashes_after : (row : Row) (given : List Argument) (o : Parameter) (k : ℕ) (words : List Text) → IsKnown (row_rules row) o
    → outcome (row_shape row) (at_option given o k) (two_dashes ∷ words) ≡ None
unfolding walked
dashes_after row given o k words known =
    outcome-turn (row_shape row) (at_option given o k) two_dashes words ∙ dashes_without row given o k words known

named_after : (row : Row) (given : List Argument) (o : Parameter) (k : ℕ) (word name : Text) (value : Option Text) (words : List Text) (other : Option Parameter)
    → IsKnown (row_rules row) o → IsNamed word name value → option_named row name ≡ other
    → outcome (row_shape row) (at_option given o k) (word ∷ words) ≡ None
named_after row given o k word name value words None known is found =
    let long : arg_by_long (row_rules row) name ≡ None = by_name row.operands row.options 1 name ∙ ap (option_map optional) found in
    let fault : word_fault (row_shape row) [] false (awaiting o.name) word (held_option given o) ≡ ErrorKind.UnknownArgument ∷ [] = rw (is.dashes, is.long, long) refl in
    outcome-turn (row_shape row) (at_option given o k) word words ∙ rw fault refl
named_after row given o k word name None words (Some p) known is found =
    let long : arg_by_long (row_rules row) name ≡ Some (optional p) = by_name row.operands row.options 1 name ∙ ap (option_map optional) found in
    let fault : word_fault (row_shape row) [] false (awaiting o.name) word (held_option given o) ≡ ErrorKind.InvalidValue ∷ [] =
    rw (is.dashes, is.long, long, unsettled (row_rules row) given o known) refl in
    outcome-turn (row_shape row) (at_option given o k) word words ∙ rw fault refl
named_after row given o k word name (Some value) words (Some p) known is found =
    let long : arg_by_long (row_rules row) name ≡ Some (optional p) = by_name row.operands row.options 1 name ∙ ap (option_map optional) found in
    let fault : word_fault (row_shape row) [] false (awaiting o.name) word (held_option given o) ≡ ErrorKind.InvalidValue ∷ [] =
    rw (is.dashes, is.long, long, unsettled (row_rules row) given o known) refl in
    outcome-turn (row_shape row) (at_option given o k) word words ∙ rw fault refl

-- ---- one item more

more_expected : (row : Row) (k : ℕ) (more : Option (List Argument)) (is : List Item)
    → option_map rows (option_and_then (λ m. arguments row m k is) more) ≡ expected_after row more k (Some is)
more_expected row k None is = refl
more_expected row k (Some m) is = refl

none_expected : (row : Row) (k : ℕ) (more : Option (List Argument)) → None ≡ expected_after row more k None
none_expected row k None = refl
none_expected row k (Some m) = refl

-- an operand that has no place, and one that has
operand_none : (row : Row) (g : List Argument) (k : ℕ) (word : Text) (rest : Option (List Item)) → slice_get row.operands k ≡ None
    → expected row g k (and_then_items (operand word) rest) ≡ None
unfolding arguments
operand_none row g k word None e = refl
operand_none row g k word (Some is) e = rw e refl

operand_some : (row : Row) (g : List Argument) (k : ℕ) (word : Text) (rest : Option (List Item)) (o : Parameter) → slice_get row.operands k ≡ Some o
    → expected row g k (and_then_items (operand word) rest) ≡ expected_after row (with_argument g word (Some o)) (k + 1) rest
unfolding arguments
operand_some row g k word None o e = none_expected row (k + 1) (with_argument g word (Some o))
operand_some row g k word (Some is) o e = rw e (more_expected row (k + 1) (with_argument g word (Some o)) is)

-- an option that the row lacks, and one that it has
option_none : (row : Row) (g : List Argument) (k : ℕ) (name value : Text) (rest : Option (List Item)) → option_named row name ≡ None
    → expected row g k (and_then_items (option name value) rest) ≡ None
unfolding arguments
option_none row g k name value None e = refl
option_none row g k name value (Some is) e = rw e refl

option_some : (row : Row) (g : List Argument) (k : ℕ) (name value : Text) (rest : Option (List Item)) (o : Parameter) → option_named row name ≡ Some o
    → expected row g k (and_then_items (option name value) rest) ≡ expected_after row (with_argument g value (Some o)) k rest
unfolding arguments
option_some row g k name value None o e = none_expected row k (with_argument g value (Some o))
option_some row g k name value (Some is) o e = rw e (more_expected row k (with_argument g value (Some o)) is)

-- no value makes an option that the row lacks right
lacks : (row : Row) (g : List Argument) (k : ℕ) (name : Text) (words : List Text) → option_named row name ≡ None → expected row g k (items (Some name) words) ≡ None
unfolding items
lacks row g k name [] e = refl
lacks row g k name (word ∷ words) e = by (kind word)
  where
    by : (kind : Kind) → expected row g k (valued name kind word (items None words)) ≡ None
    by plain = option_none row g k name word (items None words) e
    by dashes = refl
    by (named other value) = refl
    by unknown = refl

-- two results that agree after each list of arguments
after_each : {X : Type 0} (gs : Option (List Argument)) (f h : List Argument → Option X) → ((g : List Argument) → f g ≡ h g) → option_and_then f gs ≡ option_and_then h gs
after_each None f h same = refl
after_each (Some g) f h same = same g

none_after : {X : Type 0} (gs : Option (List Argument)) (h : List Argument → Option X) → ((g : List Argument) → h g ≡ None) → None ≡ option_and_then h gs
none_after None h none = refl
none_after (Some g) h none = sym (none g)

-- ---- all the words

-- the operands after `--`
pub reads_operands : (row : Row) (words : List Text) (given : List Argument) (p : Pending) (k : ℕ) → IsSound row → AreKnown (row_rules row) p
    → outcome (row_shape row) (at true given p k) words ≡ expected_after row (with_pending given p) k (Some (map operand words))
reads_operands row [] given p k sound known = outcome-end (row_shape row) (at true given p k) ∙ ended_is row given p k known
reads_operands row (word ∷ words) given p k sound known = go (slice_get row.operands k) refl (λ g q m. reads_operands row words g q m sound)
  where
    taken : IsTaken row true word (held given p) (k + 1)
    taken = taken_trailing row word (held given p) (k + 1)

    rest : Option (List Item)
    rest = Some (map operand words)

    go : (o : Option Parameter) → slice_get row.operands k ≡ o
        → ((g : List Argument) (q : Pending) (m : ℕ) → AreKnown (row_rules row) q → outcome (row_shape row) (at true g q m) words ≡ expected_after row (with_pending g q) m (Some (map operand words)))
        → outcome (row_shape row) (at true given p k) (word ∷ words) ≡ expected_after row (with_pending given p) k (and_then_items (operand word) (Some (map operand words)))
    go None e later =
        no_place row true given p k word words taken e
        ∙ none_after (with_pending given p) (λ g. expected row g k (and_then_items (operand word) (Some (map operand words)))) (λ g. operand_none row g k word (Some (map operand words)) e)
    go (Some o) e later =
        operand_turn row true given p k o word words sound known taken e
        ∙ after_each (with_pending given p) (λ g. outcome (row_shape row) (at true g (Some (o, word)) (k + 1)) words) (λ g. expected row g k (and_then_items (operand word) (Some (map operand words))))
        (λ g. later g (Some (o, word)) (k + 1) (sound.operand_known k o e) ∙ sym (operand_some row g k word (Some (map operand words)) o e))

-- what the walk reads of the words, where nothing waits and where an option does
abbrev pub Agrees : Row → List Text → Type 0
Agrees row words =
    ((given : List Argument) (p : Pending) (k : ℕ) → AreKnown (row_rules row) p
    → outcome (row_shape row) (at false given p k) words ≡ expected_after row (with_pending given p) k (items None words))
    × ((given : List Argument) (o : Parameter) (k : ℕ) (name : Text) → option_named row name ≡ Some o
    → outcome (row_shape row) (at_option given o k) words ≡ expected row given k (items (Some name) words))

agrees_none : (row : Row) → IsSound row → Agrees row []
unfolding items
agrees_none row sound = (
  λ given p k known. outcome-end (row_shape row) (at false given p k) ∙ ended_is row given p k known,
  λ given o k name is. outcome-end (row_shape row) (at_option given o k) ∙ ended_without row given o (sound.option_known name o is),
)

idle_plain : (row : Row) (word : Text) (words : List Text) → IsSound row → IsPlain word → Agrees row words
    → (given : List Argument) (p : Pending) (k : ℕ) → AreKnown (row_rules row) p
    → outcome (row_shape row) (at false given p k) (word ∷ words) ≡ expected_after row (with_pending given p) k (and_then_items (operand word) (items None words))
idle_plain row word words sound is later given p k known = go (slice_get row.operands k) refl
  where
    taken : IsTaken row false word (held given p) (k + 1)
    taken = taken_plain row word (held given p) (k + 1) is

    go : (o : Option Parameter) → slice_get row.operands k ≡ o
        → outcome (row_shape row) (at false given p k) (word ∷ words) ≡ expected_after row (with_pending given p) k (and_then_items (operand word) (items None words))
    go None e =
        no_place row false given p k word words taken e
        ∙ none_after (with_pending given p) (λ g. expected row g k (and_then_items (operand word) (items None words))) (λ g. operand_none row g k word (items None words) e)
    go (Some o) e =
        operand_turn row false given p k o word words sound known taken e
        ∙ after_each (with_pending given p) (λ g. outcome (row_shape row) (at false g (Some (o, word)) (k + 1)) words) (λ g. expected row g k (and_then_items (operand word) (items None words)))
        (λ g. later.0 g (Some (o, word)) (k + 1) (sound.operand_known k o e) ∙ sym (operand_some row g k word (items None words) o e))

idle_named : (row : Row) (word name : Text) (value : Option Text) (words : List Text) → IsSound row → IsNamed word name value → Agrees row words
    → (given : List Argument) (p : Pending) (k : ℕ) → AreKnown (row_rules row) p → (o : Option Parameter) → option_named row name ≡ o
    → outcome (row_shape row) (at false given p k) (word ∷ words) ≡ expected_after row (with_pending given p) k (items_from (named name value) word words (λ wanting. items wanting words))
idle_named row word name None words sound is later given p k known None e =
    no_option row given p k word name None words is e
    ∙ none_after (with_pending given p) (λ g. expected row g k (items (Some name) words)) (λ g. lacks row g k name words e)
idle_named row word name (Some value) words sound is later given p k known None e =
    no_option row given p k word name (Some value) words is e
    ∙ none_after (with_pending given p) (λ g. expected row g k (and_then_items (option name value) (items None words))) (λ g. option_none row g k name value (items None words) e)
idle_named row word name None words sound is later given p k known (Some o) e =
    name_turn row given p k o word name words known is e
    ∙ after_each (with_pending given p) (λ g. outcome (row_shape row) (at_option g o k) words) (λ g. expected row g k (items (Some name) words)) (λ g. later.1 g o k name e)
idle_named row word name (Some value) words sound is later given p k known (Some o) e =
    value_turn row given p k o word name value words sound known is e
    ∙ after_each (with_pending given p) (λ g. option_and_then (λ more. outcome (row_shape row) (at false more None k) words) (with_argument g value (Some o))) (λ g. expected row g k (and_then_items (option name value) (items None words)))
    (λ g. after_each (with_argument g value (Some o)) (λ more. outcome (row_shape row) (at false more None k) words) (λ more. expected row more k (items None words)) (λ more. later.0 more None k tt)
    ∙ sym (option_some row g k name value (items None words) o e))

idle_agrees : (row : Row) (word : Text) (words : List Text) → IsSound row → IsUtf8 word → (kind : Kind) → Looks word kind → Agrees row words
    → (given : List Argument) (p : Pending) (k : ℕ) → AreKnown (row_rules row) p
    → outcome (row_shape row) (at false given p k) (word ∷ words) ≡ expected_after row (with_pending given p) k (items_from kind word words (λ wanting. items wanting words))
idle_agrees row word words sound text plain is later given p k known = idle_plain row word words sound is later given p k known
idle_agrees row word words sound text dashes is later given p k known =
    ap (λ (w : Text). outcome (row_shape row) (at false given p k) (w ∷ words)) is
    ∙ dashes_turn row given p k words
    ∙ reads_operands row words given p k sound known
idle_agrees row word words sound text (named name value) is later given p k known = idle_named row word name value words sound is later given p k known (option_named row name) refl
idle_agrees row word words sound text unknown is later given p k known =
    letters_turn row (at false given p k) word words is text refl refl refl refl ∙ none_expected row k (with_pending given p)

option_agrees : (row : Row) (word : Text) (words : List Text) → IsSound row → IsUtf8 word → (kind : Kind) → Looks word kind → Agrees row words
    → (given : List Argument) (o : Parameter) (k : ℕ) (name : Text) → option_named row name ≡ Some o
    → outcome (row_shape row) (at_option given o k) (word ∷ words) ≡ expected row given k (valued name kind word (items None words))
option_agrees row word words sound text plain is later given o k name e =
    let known : IsKnown (row_rules row) o = sound.option_known name o e in
    take_value row given o k word words known.rule is known.by_id known.of
    ∙ later.0 given (Some (o, word)) k known
    ∙ sym (option_some row given k name word (items None words) o e)
option_agrees row word words sound text dashes is later given o k name e =
    ap (λ (w : Text). outcome (row_shape row) (at_option given o k) (w ∷ words)) is ∙ dashes_after row given o k words (sound.option_known name o e)
option_agrees row word words sound text (named other value) is later given o k name e =
    named_after row given o k word other value words (option_named row other) (sound.option_known name o e) is refl
option_agrees row word words sound text unknown is later given o k name e = letters_turn row (at_option given o k) word words is text refl refl refl refl

-- each word is text
abbrev pub AreTexts : List Text → Type 0
AreTexts [] = Unit {0}
AreTexts (word ∷ words) = IsUtf8 word × AreTexts words

pub agrees : (row : Row) (words : List Text) → IsSound row → AreTexts words → Agrees row words
unfolding items
agrees row [] sound texts = agrees_none row sound
agrees row (word ∷ words) sound texts =
    let later : Agrees row words = agrees row words sound texts.1 in (
      λ given p k known. idle_agrees row word words sound texts.0 (kind word) (looks word) later given p k known,
      λ given o k name is. option_agrees row word words sound texts.0 (kind word) (looks word) later given o k name is,
    )
