-- What clap reads of a row's operands and options, once it has built them, and what it finds among them.
use Rattle.std.proofs.Common.{◌≡◌, ◌+◌, ◌&&◌, ◌||◌, ℕ, Bool, cond, true, false, not, zero, suc, refl, sym, ap, arith, List, [], ◌∷◌, map, Option, Some, None, true≢false, nat_eq, ne_eqb, eq-eqb, subst}
use Rattle.std.specs.List.{AllByRecursion, find, list_any}
use Rattle.std.specs.Option.{option_map}
use Rattle.std.specs.Prelude.{slice_get}
use Rattle.std.specs.Str.{bytes_eq}
use Rattle.std.proofs.lemmas.Slice.Eq.{bytes_eq-Decides}
use Rattle.clap.specs.Walk.{Rule, arg_by_id, arg_by_index, arg_by_long, arg_by_short}
use Rattle.clap.specs.Simple.{new_rule}
use Rattle.clap.specs.declared.builder.action.ArgAction.TheVariants.{Set}
use Rattle.clap.specs.declared.builder.range.ValueRange.{ValueRange}
use Rattle.clap.specs.declared.builder.value_parser.ValueParser.{ValueParser}
use Rattle.clap.specs.declared.builder.value_parser.ValueParser.TheVariants as vp
use Rattle.clap.proofs.WalkLemmas.{both}
use Rattle.program_words.specs.Words.{Text, Value, any_word, number, Parameter, Row}

-- the parser of a value
abbrev pub parser : Value → ValueParser
parser any_word = vp.String
parser (number low high) = vp.Unsigned low high

-- an operand and an option, as they are made
abbrev pub operand_rule : Parameter → Rule
operand_rule p = record (new_rule p.name) { required = true; action = Some Set; parser = Some (parser p.value) }

abbrev pub option_rule : Parameter → Rule
option_rule p = record (new_rule p.name) { long = Some p.name; action = Some Set; parser = Some (parser p.value) }

abbrev one_value : Option ValueRange
one_value = Some (record { start_inclusive = 1; end_inclusive = 1 })

-- the same as built: the operand in its place, from 1
abbrev pub placed : ℕ → Parameter → Rule
placed i p = record (operand_rule p) { range = one_value; index = Some i }

abbrev pub optional : Parameter → Rule
optional p = record (option_rule p) { range = one_value }

abbrev pub placed_from : ℕ → List Parameter → List Rule → List Rule
placed_from i [] rest = rest
placed_from i (p ∷ ps) rest = placed i p ∷ placed_from (i + 1) ps rest

abbrev pub row_rules : Row → List Rule
row_rules row = placed_from 1 row.operands (map optional row.options)

-- ---- by word

-- what holds of each row of a table holds of the row that is found in it
pub found_row : (P : Row → Type 0) (table : List Row) → AllByRecursion P table → (word : Text) (row : Row) → find (λ r. bytes_eq r.word word) table ≡ Some row → P row
found_row P [] all word row found = absurd (cc)
found_row P (q ∷ table) all word row found = go (bytes_eq q.word word) (found_row P table all.1 word row) found
  where
    go : (b : Bool) → (find (λ r. bytes_eq r.word word) table ≡ Some row → P row) → cond b (Some q) (find (λ r. bytes_eq r.word word) table) ≡ Some row → P row
    go true later f = let same : q ≡ row = cc in subst P same all.0
    go false later f = later f

-- ---- by place

no_index : (ps : List Parameter) (i : ℕ) → arg_by_index (map optional ps) i ≡ None
no_index [] i = refl
no_index (p ∷ ps) i = no_index ps i

pub by_place : (ps os : List Parameter) (i j k : ℕ) → j ≡ i + k → arg_by_index (placed_from i ps (map optional os)) j ≡ option_map (placed j) (slice_get ps k)
by_place [] os i j k e = no_index os j
by_place (p ∷ ps) os i j zero e =
    let same : i ≡ j = omega arith in
    let here : nat_eq i j ≡ true = eq-eqb i j same in
    rw here (ap (λ n. Some (placed n p)) same)
by_place (p ∷ ps) os i j (suc k) e =
    let other : nat_eq i j ≡ false = ne_eqb i j (λ same. omega arith) in
    rw other (by_place ps os (i + 1) j k (omega arith))

-- ---- by name

pub or_false : (b : Bool) → (b || false) ≡ b
or_false true = refl
or_false false = refl

options_by_name : (os : List Parameter) (name : Text) → arg_by_long (map optional os) name ≡ option_map optional (find (λ p. bytes_eq p.name name) os)
options_by_name [] name = refl
options_by_name (p ∷ os) name =
    rw (or_false (bytes_eq p.name name)) (go (bytes_eq p.name name) (options_by_name os name))
  where
    go : (b : Bool) → arg_by_long (map optional os) name ≡ option_map optional (find (λ q. bytes_eq q.name name) os)
        → cond b (Some (optional p)) (arg_by_long (map optional os) name) ≡ option_map optional (cond b (Some p) (find (λ q. bytes_eq q.name name) os))
    go true e = refl
    go false e = e

pub by_name : (ps os : List Parameter) (i : ℕ) (name : Text) → arg_by_long (placed_from i ps (map optional os)) name ≡ option_map optional (find (λ p. bytes_eq p.name name) os)
by_name [] os i name = options_by_name os name
by_name (p ∷ ps) os i name = by_name ps os (i + 1) name

no_short_options : (os : List Parameter) (c : ℕ) → arg_by_short (map optional os) c ≡ None
no_short_options [] c = refl
no_short_options (p ∷ os) c = no_short_options os c

-- no letter names an option
pub no_short : (ps os : List Parameter) (i c : ℕ) → arg_by_short (placed_from i ps (map optional os)) c ≡ None
no_short [] os i c = no_short_options os c
no_short (p ∷ ps) os i c = no_short ps os (i + 1) c

-- ---- by id

-- the names differ
abbrev pub are_distinct : List Rule → Bool
are_distinct [] = true
are_distinct (a ∷ rest) = not (list_any (λ b. bytes_eq a.id b.id) rest) && are_distinct rest

pub bytes_eq-same : (t : Text) → bytes_eq t t ≡ true
bytes_eq-same t = (bytes_eq-Decides t t).1 refl

found_not : {X : Type 0} (p q : X → Bool) (xs : List X) (x : X) → find p xs ≡ Some x → list_any q xs ≡ false → q x ≡ false
found_not p q [] x found none = absurd (cc)
found_not p q (y ∷ ys) x found none = go (p y) (q y) refl (found_not p q ys x) found none
  where
    go : (b c : Bool) → q y ≡ c → (find p ys ≡ Some x → list_any q ys ≡ false → q x ≡ false) → cond b (Some y) (find p ys) ≡ Some x → (c || list_any q ys) ≡ false → q x ≡ false
    go b true ec later f n = absurd (true≢false n)
    go true false ec later f n = let same : y ≡ x = cc in rw (← same) ec
    go false false ec later f n = later f n

-- what is found is found by its id
pub by_own_id : (p : Rule → Bool) (xs : List Rule) (a : Rule) → are_distinct xs ≡ true → find p xs ≡ Some a → arg_by_id xs a.id ≡ Some a
by_own_id p [] a apart found = absurd (cc)
by_own_id p (x ∷ xs) a apart found = go (p x) (by_own_id p xs a parts.1) found
  where
    parts : (not (list_any (λ b. bytes_eq x.id b.id) xs) ≡ true) × (are_distinct xs ≡ true)
    parts = both _ _ apart

    alone : (b : Bool) → not b ≡ true → b ≡ false
    alone true e = absurd (true≢false (sym e))
    alone false e = refl

    go : (b : Bool) → (find p xs ≡ Some a → arg_by_id xs a.id ≡ Some a) → cond b (Some x) (find p xs) ≡ Some a → arg_by_id (x ∷ xs) a.id ≡ Some a
    go true later f = let same : x ≡ a = cc in rw (← same, bytes_eq-same x.id) refl
    go false later f =
        let other : bytes_eq x.id a.id ≡ false = found_not p (λ (b : Rule). bytes_eq x.id b.id) xs a f (alone _ parts.0) in
        rw other (later f)
