-- The program's parser is the table's, and its parse is the grammar's.
use Rattle.std.proofs.Common.{◌≡◌, ◌∙◌, inl, inr, ◌<◌, ◌+◌, ◌&&◌, ℕ, Bool, cond, true, false, zero, suc, refl, sym, ap, arith, List, [], ◌∷◌, map, length, Option, Some, None, not, is_some, nat_lt, ltb-true, ◌==◌}
use Rattle.std.specs.List.{AllByRecursion, find, list_all}
use Rattle.std.specs.Option.{option_map, option_map_or}
use Rattle.std.specs.Prelude.{Box, slice_get, option_and_then}
use Rattle.std.specs.Box.{box_value}
use Rattle.std.specs.Str.{bytes_eq}
use Rattle.std.specs.String.{string_bytes}
use Rattle.std.specs.declared.string.String.{String}
use Rattle.std.proofs.lemmas.Str.{IsUtf8-string_bytes}
use Rattle.clap.specs.Walk.{Row as Found, Rule, first_of, has_long, nothing_held, one_of, row_text, rows_of, stop_after}
use Rattle.clap.specs.Simple.{App, HasMatchesOf, built, entered, names_of, subcommand_of, subcommand_rows, subcommand_rows_of}
use Rattle.clap.specs.Matches.{found_of, subcommand_name_of}
use Rattle.clap.specs.Values.{kind_of}
use Rattle.clap.specs.Kinds.{HasKind, Kinds}
use Rattle.clap.specs.Faults.{built_fault, fault_of, is_simple_and_free}
use Rattle.clap.specs.declared.error.Error.{Error}
use Rattle.clap.specs.declared.error.kind.ErrorKind.{ErrorKind}
use Rattle.clap.specs.declared.parser.matches.ArgMatches.{ArgMatches}
use Rattle.clap.specs.declared.parser.matches.SubCommand.{SubCommand}
use Rattle.clap.specs.declared.parser.matches.ArgMatches.TheViews.{out-ArgMatches, out-SubCommand}
use Rattle.clap.proofs.WalkLemmas.{both}
use Rattle.program_words.specs.Words.{Text, Parameter, Row, Argument, argument, row_and_arguments}
use Rattle.program_words.specs.Rows.{command_rows}
use Rattle.program_words.specs.Commands.{Command, request_from, request_of, request_with}
use Rattle.program_words.specs.Parser.{program, row_of, rows, rows_of_words}
use Rattle.program_words.specs.Views.{request_in}
use Rattle.program_words.proofs.RowRules.{are_distinct, by_name, by_own_id, by_place, found_row, optional, placed, row_rules}
use Rattle.program_words.proofs.Uses.{is_small}
use Rattle.program_words.proofs.Turns.{IsSound, unless}
use Rattle.program_words.proofs.Agrees.{AreTexts}
use Rattle.program_words.proofs.Top.{AreSound, program_agrees, program_of}

-- ---- the rows of the table

at_place : {X : Type 0} (p : X → Bool) (xs : List X) (k : ℕ) (x : X) → list_all p xs ≡ true → slice_get xs k ≡ Some x → p x ≡ true
at_place p [] k x all at = absurd (cc)
at_place p (y ∷ ys) zero x all at = let same : y ≡ x = cc in rw (← same) (both _ _ all).0
at_place p (y ∷ ys) (suc k) x all at = at_place p ys k x (both _ _ all).1 at

found_in : {X : Type 0} (p q : X → Bool) (xs : List X) (x : X) → list_all p xs ≡ true → find q xs ≡ Some x → p x ≡ true
found_in p q [] x all found = absurd (cc)
found_in p q (y ∷ ys) x all found = go (q y) (found_in p q ys x (both _ _ all).1) found
  where
    go : (b : Bool) → (find q ys ≡ Some x → p x ≡ true) → cond b (Some y) (find q ys) ≡ Some x → p x ≡ true
    go true later f = let same : y ≡ x = cc in rw (← same) (both _ _ all).0
    go false later f = later f

abbrev are_small : List Parameter → Bool
are_small ps = list_all (λ p. is_small p.value) ps

sound : (row : Row) → length row.operands < 1000 → are_distinct (row_rules row) ≡ true → are_small row.operands ≡ true → are_small row.options ≡ true → IsSound row
sound row few apart operands options = record {
  few = few;
  operand_known = λ k p at. record {
    rule = placed (k + 1) p;
    of = inl (k + 1, refl);
    by_id = by_own_id (λ (a : Rule). option_map_or (λ i. i == k + 1) a.index false) (row_rules row) (placed (k + 1) p) apart
        (by_place row.operands row.options 1 (k + 1) k (omega arith) ∙ ap (option_map (placed (k + 1))) at);
    small = at_place (λ (p : Parameter). is_small p.value) row.operands k p operands at;
  };
  option_known = λ name p found. record {
    rule = optional p;
    of = inr refl;
    by_id = by_own_id (λ (a : Rule). not (is_some a.index) && has_long a name) (row_rules row) (optional p) apart
        (by_name row.operands row.options 1 name ∙ ap (option_map optional) found);
    small = found_in (λ (p : Parameter). is_small p.value) (λ (o : Parameter). bytes_eq o.name name) row.options p options found;
  };
}

-- the numbers of a row are small, and its rules are apart
abbrev is_fine : Row → Bool
is_fine row = (nat_lt (length row.operands) 1000 && are_distinct (row_rules row)) && (are_small row.operands && are_small row.options)

all_sound : (table : List Row) → list_all is_fine table ≡ true → AllByRecursion IsSound table
all_sound [] fine = tt
all_sound (row ∷ table) fine =
    let here = both _ _ (both _ _ fine).0 in
    let rules = both _ _ here.0 in
    let values = both _ _ here.1 in
    (sound row (ltb-true _ _ rules.0) rules.1 values.0 values.1, all_sound table (both _ _ fine).1)

rows_sound : AreSound command_rows
rows_sound = found_row IsSound command_rows (all_sound command_rows refl)

-- ---- the parser

built_is : built (program command_rows) ≡ program_of command_rows
built_is = refl

is_plain : is_simple_and_free (program command_rows) ≡ true
is_plain = refl

texts : {Z : Type 0} (words : List (String Z)) → AreTexts (map string_bytes words)
texts [] = tt
texts (word ∷ words) = (IsUtf8-string_bytes word, texts words)

outcome_is : (app : App) (words : List Text) → app ≡ program command_rows → AreTexts words
    → unless (fault_of app words) (subcommand_of app words) ≡ option_map rows_of_words (row_and_arguments command_rows words)
outcome_is app words is are =
    ap (λ (a : App). unless (fault_of a words) (subcommand_of a words)) is
    ∙ ap (λ (a : App). unless (built_fault a nothing_held words) (entered a (stop_after a.top.rules (names_of a) words))) built_is
    ∙ program_agrees command_rows words rows_sound are

-- ---- the requests

first_of-rows : (name : Text) (given : List Argument) → first_of name (rows given) ≡ argument name given
first_of-rows name [] = refl
first_of-rows name (a ∷ given) = go (bytes_eq a.0 name) (first_of-rows name given)
  where
    go : (b : Bool) → first_of name (rows given) ≡ argument name given
        → option_and_then (λ (r : Found). slice_get r.values 0) (cond b (Some (row_of a)) (find (λ r. bytes_eq r.id name) (rows given)))
        ≡ option_map (λ (x : Argument). x.1) (cond b (Some a) (find (λ x. bytes_eq x.0 name) given))
    go true e = refl
    go false e = e

one_of-rows : (name : Text) (given : List Argument) → one_of name (rows given) ≡ argument name given
one_of-rows name [] = refl
one_of-rows name (a ∷ given) = go (bytes_eq a.0 name) (one_of-rows name given)
  where
    go : (b : Bool) → one_of name (rows given) ≡ argument name given
        → option_and_then row_text (cond b (Some (row_of a)) (find (λ r. bytes_eq r.id name) (rows given)))
        ≡ option_map (λ (x : Argument). x.1) (cond b (Some a) (find (λ x. bytes_eq x.0 name) given))
    go true e = refl
    go false e = e

-- the request of what was found for a command's word
abbrev asked : Text × List Found → Option Command
asked r = request_with r.0 (λ name. first_of name r.1) (λ name. one_of name r.1)

asked_is : (r : Row × List Argument) → asked (rows_of_words r) ≡ request_from r.0 r.1
asked_is r = λ i. request_with r.0.word (λ name. first_of-rows name r.1 i) (λ name. one_of-rows name r.1 i)

asked_of : (found : Option (Row × List Argument)) → option_and_then asked (option_map rows_of_words found) ≡ option_and_then (λ r. request_from r.0 r.1) found
asked_of None = refl
asked_of (Some r) = asked_is r

pub request_found : {Z : Type 0} (app : App) (words : List (String Z)) (m : ArgMatches) → app ≡ program command_rows
    → HasMatchesOf app (map string_bytes words) m → (is_simple_and_free app ≡ true → fault_of app (map string_bytes words) ≡ [])
    → request_in m ≡ request_of (map string_bytes words)
request_found app words m is matches fault =
    let ws : List Text = map string_bytes words in
    let plain : is_simple_and_free app ≡ true = ap is_simple_and_free is ∙ is_plain in
    let none : fault_of app ws ≡ [] = fault plain in
    let same : subcommand_of app ws ≡ option_map rows_of_words (row_and_arguments command_rows ws) =
    sym (ap (λ (f : Kinds). unless f (subcommand_of app ws)) none) ∙ outcome_is app ws is (texts words) in
    ap (option_and_then asked) ((matches (both _ _ plain).0).1 ∙ same) ∙ asked_of (row_and_arguments command_rows ws)

pub no_request : {Z : Type 0} (app : App) (words : List (String Z)) (e : Error) → app ≡ program command_rows
    → (is_simple_and_free app ≡ true → HasKind (fault_of app (map string_bytes words)) e) → ¬ (kind_of e ≡ ErrorKind.OutOfMemory)
    → request_of (map string_bytes words) ≡ None
no_request app words e is kinds other =
    let ws : List Text = map string_bytes words in
    go (fault_of app ws) (row_and_arguments command_rows ws) (kinds (ap is_simple_and_free is ∙ is_plain)) (outcome_is app ws is (texts words))
  where
    go : (fault : Kinds) (found : Option (Row × List Argument)) → HasKind fault e
        → unless fault (subcommand_of app (map string_bytes words)) ≡ option_map rows_of_words found → option_and_then (λ r. request_from r.0 r.1) found ≡ None
    go [] found (inl memory) same = absurd (other memory)
    go [] found (inr among) same = absurd among
    go (k ∷ ks) None has same = refl
    go (k ∷ ks) (Some r) has same = absurd (cc)

-- ---- what was asked

module _ {Z : Type 0} where
  none_asked : (sub : Option (Box SubCommand Z)) → None ≡ option_map (λ b. (out-SubCommand (box_value b)).name.now) sub → None ≡ option_and_then asked (subcommand_rows sub)
  none_asked None e = refl
  none_asked (Some b) e = absurd (cc)

  some_asked : (sub : Option (Box SubCommand Z)) (word : Text) (rs : List Found) → Some word ≡ option_map (λ b. (out-SubCommand (box_value b)).name.now) sub
      → Some rs ≡ option_map (λ p. p.1) (subcommand_rows sub) → asked (word, rs) ≡ option_and_then asked (subcommand_rows sub)
  some_asked None word rs e f = absurd (cc)
  some_asked (Some b) word rs e f =
      let same_word : word ≡ (out-SubCommand (box_value b)).name.now = cc in
      let same_rows : rs ≡ rows_of (found_of (out-SubCommand (box_value b)).matches) = cc in
      rw (same_word, same_rows) (refl {a = asked ((out-SubCommand (box_value b)).name.now, rows_of (found_of (out-SubCommand (box_value b)).matches))})

pub asked_none : (m : ArgMatches) → None ≡ subcommand_name_of m → None ≡ request_in m
asked_none m e = none_asked (out-ArgMatches m).subcommand e

pub asked_some : (m : ArgMatches) (word : Text) (rs : List Found) → Some word ≡ subcommand_name_of m → Some rs ≡ option_map (λ p. p.1) (subcommand_rows_of m)
    → request_with word (λ name. first_of name rs) (λ name. one_of name rs) ≡ request_in m
asked_some m word rs e f = some_asked (out-ArgMatches m).subcommand word rs e f
