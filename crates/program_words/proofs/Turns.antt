-- clap's walk over the words of one command, turn by turn.
use Rattle.std.proofs.Common.{◌≡◌, ◌∙◌, inl, inr, ◌<◌, ◌+◌, ◌&&◌, ◌||◌, ℕ, Bool, cond, true, false, not, refl, ap, arith, List, [], ◌∷◌, map, length, Option, Some, None}
use Rattle.std.specs.List.{find, fold, list_all, list_any}
use Rattle.std.specs.Option.{option_map}
use Rattle.std.specs.Prelude.{slice_get, option_and_then, min}
use Rattle.std.specs.Str.{bytes_eq}
use Rattle.std.proofs.lemmas.Option.{slice_get_within}
use Rattle.clap.specs.Lexer.{usize_max}
use Rattle.clap.specs.Walk.{Held, Row as Found, Rule, Walk, idle, value, arg_by_index, finished, has_row, settled, walked, with_default, word_met, is_pending}
use Rattle.clap.specs.Simple.{Shape, new_shape}
use Rattle.clap.specs.Takes.{is_given as is_given_in}
use Rattle.clap.specs.Kinds.{Kinds, or_else}
use Rattle.clap.specs.Faults.{check_fault, default_fault, defaults_fault, settle_fault, turn_fault, walk_fault, word_fault}
use Rattle.clap.specs.declared.error.kind.ErrorKind.{ErrorKind}
use Rattle.program_words.specs.Words.{Text, Parameter, Row, Item, Argument, arguments, is_given}
use Rattle.program_words.proofs.RowRules.{by_place, optional, placed, placed_from, row_rules}
use Rattle.program_words.specs.Parser.{rows}
use Rattle.program_words.proofs.Uses.{AreKnown, IsKnown, Pending, held, is_given-rows, settles, with_pending}
use Rattle.program_words.proofs.Looks.{IsPlain}

-- what a parse reads of the command of a row, once it is built below the program's
abbrev pub row_shape : Row → Shape
row_shape row = record (new_shape row.word) {
  rules = row_rules row;
  no_binary_name = true;
  disable_help_flag = true;
  disable_help_subcommand = true;
  disable_version_flag = true;
  is_built = true;
}

-- the parameters of the row are found among its rules
pub record IsSound (row : Row) : Type 0 where
  pub few : length row.operands < 1000
  pub operand_known : (k : ℕ) (p : Parameter) → slice_get row.operands k ≡ Some p → IsKnown (row_rules row) p
  pub option_known : (name : Text) (p : Parameter) → find (λ o. bytes_eq o.name name) row.options ≡ Some p → IsKnown (row_rules row) p

-- ---- faults and results

abbrev pub unless : {X : Type 0} → Kinds → Option X → Option X
unless [] x = x
unless (k ∷ ks) x = None

pub unless-or_else : {X : Type 0} (a b : Kinds) (x : Option X) → unless (or_else a b) x ≡ unless a (unless b x)
unless-or_else [] b x = refl
unless-or_else (k ∷ ks) b x = refl

-- the rows at the end of the walk, where the words have no fault
abbrev pub ended : Shape → Held → Option (List Found)
ended s h =
    unless (settle_fault s.rules false h)
    (unless (defaults_fault (settled s.rules h).rows s.rules)
    (unless (check_fault s (finished s.rules h) false) (Some (finished s.rules h))))

-- the rows of the words, walked on from here, where they have no fault
abbrev pub outcome : Shape → Walk → List Text → Option (List Found)
outcome s w words = unless (walk_fault s [] w words) (ended s (fold (walked s.rules []) w words).held)

pub outcome-turn : (s : Shape) (w : Walk) (word : Text) (words : List Text)
    → outcome s w (word ∷ words) ≡ unless (turn_fault s [] w word) (outcome s (walked s.rules [] w word) words)
unfolding walk_fault
outcome-turn s w word words = unless-or_else (turn_fault s [] w word) (walk_fault s [] (walked s.rules [] w word) words) _

pub outcome-end : (s : Shape) (w : Walk) → outcome s w [] ≡ ended s w.held
unfolding walk_fault
outcome-end s w = refl

-- ---- the end

and_false : (b : Bool) → (b && false) ≡ false
and_false true = refl
and_false false = refl

or_true : (b : Bool) → (b || true) ≡ true
or_true true = refl
or_true false = refl

no_default : (b : Bool) (rs : List Found) → cond b rs rs ≡ rs
no_default true rs = refl
no_default false rs = refl

no_defaults_optional : (os : List Parameter) (rs : List Found) → fold with_default rs (map optional os) ≡ rs
no_defaults_optional [] rs = refl
no_defaults_optional (p ∷ os) rs = ap (λ (x : List Found). fold with_default x (map optional os)) (no_default (has_row p.name rs) rs) ∙ no_defaults_optional os rs

pub no_defaults : (ps os : List Parameter) (i : ℕ) (rs : List Found) → fold with_default rs (placed_from i ps (map optional os)) ≡ rs
no_defaults [] os i rs = no_defaults_optional os rs
no_defaults (p ∷ ps) os i rs =
    ap (λ (x : List Found). fold with_default x (placed_from (i + 1) ps (map optional os))) (no_default (has_row p.name rs) rs) ∙ no_defaults ps os (i + 1) rs

no_default_fault : (p : Parameter) (a : Rule) (rs : List Found) (rest : List Rule) → a.defaults ≡ [] → defaults_fault rs rest ≡ []
    → with_default rs a ≡ rs → defaults_fault rs (a ∷ rest) ≡ []
unfolding defaults_fault
no_default_fault p a rs rest none later same =
    let past : default_fault rs a ≡ [] = rw (none, or_true (has_row a.id rs)) refl in
    rw (past, same) later

no_faults_optional : (os : List Parameter) (rs : List Found) → defaults_fault rs (map optional os) ≡ []
unfolding defaults_fault
no_faults_optional [] rs = refl
no_faults_optional (p ∷ os) rs = no_default_fault p (optional p) rs (map optional os) refl (no_faults_optional os rs) (no_default (has_row p.name rs) rs)

pub no_default_faults : (ps os : List Parameter) (i : ℕ) (rs : List Found) → defaults_fault rs (placed_from i ps (map optional os)) ≡ []
no_default_faults [] os i rs = no_faults_optional os rs
no_default_faults (p ∷ ps) os i rs =
    no_default_fault p (placed i p) rs (placed_from (i + 1) ps (map optional os)) refl (no_default_faults ps os (i + 1) rs) (no_default (has_row p.name rs) rs)

-- an operand that isn't given
abbrev is_missing : List Found → Rule → Bool
is_missing rs a = a.required && not (is_given_in a.id rs)

no_missing_option : (os : List Parameter) (rs : List Found) → list_any (is_missing rs) (map optional os) ≡ false
no_missing_option [] rs = refl
no_missing_option (p ∷ os) rs = no_missing_option os rs

missing_operands : (ps os : List Parameter) (i : ℕ) (given : List Argument)
    → list_any (is_missing (rows given)) (placed_from i ps (map optional os)) ≡ not (list_all (λ p. is_given p.name given) ps)
missing_operands [] os i given = no_missing_option os (rows given)
missing_operands (p ∷ ps) os i given =
    rw (is_given-rows p.name given) (go (is_given p.name given) (missing_operands ps os (i + 1) given))
  where
    go : (b : Bool) → list_any (is_missing (rows given)) (placed_from (i + 1) ps (map optional os)) ≡ not (list_all (λ q. is_given q.name given) ps)
        → (not b || list_any (is_missing (rows given)) (placed_from (i + 1) ps (map optional os))) ≡ not (b && list_all (λ q. is_given q.name given) ps)
    go true e = e
    go false e = refl

-- the rows of the arguments that the items give after these, if they are right
abbrev pub expected : Row → List Argument → ℕ → Option (List Item) → Option (List Found)
expected row given k rest = option_map rows (option_and_then (arguments row given k) rest)

-- and after what is pending
abbrev pub expected_after : Row → Option (List Argument) → ℕ → Option (List Item) → Option (List Found)
expected_after row given k rest = option_and_then (λ g. expected row g k rest) given

ended_given : (row : Row) (given : List Argument) (k : ℕ)
    → unless (defaults_fault (rows given) (row_rules row))
    (unless (check_fault (row_shape row) (fold with_default (rows given) (row_rules row)) false) (Some (fold with_default (rows given) (row_rules row))))
    ≡ expected row given k (Some [])
unfolding arguments
ended_given row given k =
    rw (no_default_faults row.operands row.options 1 (rows given), no_defaults row.operands row.options 1 (rows given), missing_operands row.operands row.options 1 given)
    (go (list_all (λ p. is_given p.name given) row.operands))
  where
    go : (b : Bool) → unless (cond (not b) (ErrorKind.MissingRequiredArgument ∷ []) []) (Some (rows given)) ≡ option_map rows (cond b (Some given) None)
    go true = refl
    go false = refl

pub ended_is : (row : Row) (given : List Argument) (p : Pending) (k : ℕ) → AreKnown (row_rules row) p
    → ended (row_shape row) (held given p) ≡ expected_after row (with_pending given p) k (Some [])
ended_is row given p k known = elim (settles (row_rules row) given p known) [
  | inl f ↦ rw (f.fault_is, f.none) refl
  | inr g ↦ rw (g.fault_is, g.some, g.after_is) (ended_given row g.given k)
]

-- ---- operands

-- the walk after some words: the arguments that were used, what is pending, and how many operands came; after `--` each
-- word is an operand
abbrev pub at : Bool → List Argument → Pending → ℕ → Walk
at trailing given p k = record { held = held given p; waiting = idle; position = k + 1; is_trailing = trailing; stopped = None }

-- clap takes the word for an operand
pub record IsTaken (row : Row) (trailing : Bool) (word : Text) (h : Held) (position : ℕ) : Type 0 where
  pub met : word_met (row_rules row) [] trailing idle position word h ≡ (h, value)
  pub fault : word_fault (row_shape row) [] trailing idle word h ≡ []

pub taken_trailing : (row : Row) (word : Text) (h : Held) (position : ℕ) → IsTaken row true word h position
taken_trailing row word h position = record { met = refl; fault = refl }

pub taken_plain : (row : Row) (word : Text) (h : Held) (position : ℕ) → IsPlain word → IsTaken row false word h position
taken_plain row word h position plain = record {
  met = rw (plain.dashes, plain.long, plain.short) refl;
  fault = rw (plain.dashes, plain.long, plain.short) refl;
}

-- the walk after an operand that has a place
abbrev placed_walk : Bool → List Found → Parameter → Text → ℕ → Walk
placed_walk trailing rs p word k = record {
  held = record { rows = rs; pending = Some (p.name, word ∷ []); skip = 0 };
  waiting = idle;
  position = min ((k + 1) + 1) usize_max;
  is_trailing = trailing;
  stopped = None;
}

pub no_place : (row : Row) (trailing : Bool) (given : List Argument) (p : Pending) (k : ℕ) (word : Text) (words : List Text)
    → IsTaken row trailing word (held given p) (k + 1) → slice_get row.operands k ≡ None
    → outcome (row_shape row) (at trailing given p k) (word ∷ words) ≡ None
no_place row trailing given p k word words taken none =
    let place : arg_by_index (row_rules row) (k + 1) ≡ None = by_place row.operands row.options 1 (k + 1) k (omega arith) ∙ ap (option_map (placed (k + 1))) none in
    let fault : turn_fault (row_shape row) [] (at trailing given p k) word ≡ ErrorKind.UnknownArgument ∷ [] = rw (taken.fault, taken.met, place) refl in
    outcome-turn (row_shape row) (at trailing given p k) word words ∙ rw fault refl

in_place : (row : Row) (trailing : Bool) (given : List Argument) (p : Pending) (k : ℕ) (o : Parameter) (word : Text) (words : List Text)
    → IsTaken row trailing word (held given p) (k + 1) → slice_get row.operands k ≡ Some o
    → outcome (row_shape row) (at trailing given p k) (word ∷ words)
    ≡ unless (settle_fault (row_rules row) false (held given p)) (outcome (row_shape row) (placed_walk trailing (settled (row_rules row) (held given p)).rows o word k) words)
unfolding walked
in_place row trailing given p k o word words taken some =
    let place : arg_by_index (row_rules row) (k + 1) ≡ Some (placed (k + 1) o) = by_place row.operands row.options 1 (k + 1) k (omega arith) ∙ ap (option_map (placed (k + 1))) some in
    let pending : (is_pending (placed (k + 1) o) (held given p).pending && false) ≡ false = and_false _ in
    let fault : turn_fault (row_shape row) [] (at trailing given p k) word ≡ settle_fault (row_rules row) false (held given p) = rw (taken.fault, taken.met, place, pending) refl in
    let trails : (trailing || false) ≡ trailing = or_same trailing in
    let after : walked (row_rules row) [] (at trailing given p k) word ≡ placed_walk trailing (settled (row_rules row) (held given p)).rows o word k = rw (taken.met, place, pending, trails) refl in
    outcome-turn (row_shape row) (at trailing given p k) word words ∙ rw (fault, after) refl
  where
    or_same : (b : Bool) → (b || false) ≡ b
    or_same true = refl
    or_same false = refl

-- the walk after an operand, once what was pending is used
pub operand_turn : (row : Row) (trailing : Bool) (given : List Argument) (p : Pending) (k : ℕ) (o : Parameter) (word : Text) (words : List Text)
    → IsSound row → AreKnown (row_rules row) p → IsTaken row trailing word (held given p) (k + 1) → slice_get row.operands k ≡ Some o
    → outcome (row_shape row) (at trailing given p k) (word ∷ words)
    ≡ option_and_then (λ g. outcome (row_shape row) (at trailing g (Some (o, word)) (k + 1)) words) (with_pending given p)
operand_turn row trailing given p k o word words sound known taken some =
    let few : k < length row.operands = slice_get_within row.operands k o some in
    let less : length row.operands < 1000 = sound.few in
    let position : min ((k + 1) + 1) usize_max ≡ (k + 1) + 1 = omega arith in
    in_place row trailing given p k o word words taken some ∙ elim (settles (row_rules row) given p known) [
      | inl f ↦ rw (f.fault_is, f.none) refl
      | inr g ↦ rw (g.fault_is, g.some, g.after_is, position) refl
    ]
