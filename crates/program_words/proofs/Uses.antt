-- What clap makes of one use of an operand or an option.
use Rattle.std.proofs.Common.{◌≡◌, ◌∙◌, ◌⊎◌, inl, inr, ◌<◌, ◌≤◌, ◌^◌, ◌&&◌, ◌||◌, ℕ, Bool, cond, true, false, refl, sym, ap, arith, List, [], ◌∷◌, ◌++◌, length, append-nil, Option, Some, None, true≢false, nat_lt, nat_le, lt-ltb, ltb-true, leb-true}
use Rattle.std.specs.List.{find, list_all}
use Rattle.std.specs.Option.{option_map, option_map_or}
use Rattle.std.specs.Char.{digit_value}
use Rattle.std.specs.Str.{bytes_eq}
use Rattle.std.specs.Str.Parse.{digits_value, without_leading_plus}
use Rattle.std.proofs.lemmas.List.{map-append}
use Rattle.clap.specs.Walk.{Held, Row as Found, Rule, arg_by_id, at_row, has_row, more_values, settled, used, with_values, without}
use Rattle.clap.specs.Facts.{explicit_source}
use Rattle.clap.specs.Values.{reading_of, refused_kind}
use Rattle.clap.specs.ValueTests.{accepts}
use Rattle.clap.specs.Takes.{is_given as is_given_in}
use Rattle.clap.specs.Kinds.{Kinds, or_else}
use Rattle.clap.specs.Faults.{settle_fault, use_fault}
use Rattle.clap.specs.declared.builder.value_parser.Reading.{Reading}
use Rattle.clap.specs.declared.builder.value_parser.Reading.TheVariants as reading
use Rattle.clap.specs.declared.error.kind.ErrorKind.{ErrorKind}
use Rattle.clap.specs.declared.error.kind.ErrorKind.TheVariants as kinds
use Rattle.clap.specs.declared.parser.matches.ValueSource.TheVariants.{CommandLine}
use Rattle.program_words.specs.Words.{Text, Value, any_word, number, Parameter, Argument, fits, is_given, with_argument}
use Rattle.program_words.specs.Parser.{row_of, rows}
use Rattle.program_words.proofs.RowRules.{parser, placed, optional}

-- ---- the rows of arguments

pub has_row-rows : (name : Text) (given : List Argument) → has_row name (rows given) ≡ is_given name given
has_row-rows name [] = refl
has_row-rows name (a ∷ given) = ap (λ (b : Bool). bytes_eq a.0 name || b) (has_row-rows name given)

pub is_given-rows : (name : Text) (given : List Argument) → is_given_in name (rows given) ≡ is_given name given
is_given-rows name [] = refl
is_given-rows name (a ∷ given) = go (bytes_eq a.0 name) (is_given-rows name given)
  where
    go : (b : Bool) → is_given_in name (rows given) ≡ is_given name given
        → option_map_or (λ (r : Found). explicit_source r.source) (cond b (Some (row_of a)) (find (λ r. bytes_eq r.id name) (rows given))) false ≡ (b || is_given name given)
    go true e = refl
    go false e = e

at_row-new : (id : Text) (change : Found → List Found) (missing rs : List Found) → has_row id rs ≡ false → at_row id change missing rs ≡ rs ++ missing
at_row-new id change missing [] new = refl
at_row-new id change missing (r ∷ rs) new = go (bytes_eq r.id id) (at_row-new id change missing rs) new
  where
    go : (b : Bool) → (has_row id rs ≡ false → at_row id change missing rs ≡ rs ++ missing) → (b || has_row id rs) ≡ false
        → cond b (change r ++ rs) (r ∷ at_row id change missing rs) ≡ r ∷ (rs ++ missing)
    go true later e = absurd (true≢false e)
    go false later e = ap (λ (xs : List Found). r ∷ xs) (later e)

-- ---- one use

-- the number fits what clap holds
abbrev pub is_small : Value → Bool
is_small any_word = true
is_small (number low high) = nat_lt high (2 ^ 64)

small_number : (n low high : ℕ) → high < 2 ^ 64 → (nat_lt n (2 ^ 64) && (nat_le low n && nat_le n high)) ≡ (nat_le low n && nat_le n high)
small_number n low high small = go (nat_le low n) (nat_le n high) refl
  where
    drops : (x : Bool) → (x && false) ≡ false
    drops true = refl
    drops false = refl

    go : (a b : Bool) → nat_le n high ≡ b → (nat_lt n (2 ^ 64) && (a && b)) ≡ (a && b)
    go a true e =
        let less : n ≤ high = leb-true n high e in
        let fits : nat_lt n (2 ^ 64) ≡ true = lt-ltb n (2 ^ 64) (omega arith) in
        rw fits refl
    go true false e = drops (nat_lt n (2 ^ 64))
    go false false e = drops (nat_lt n (2 ^ 64))

pub accepts_as : (value : Value) (word : Text) → is_small value ≡ true → accepts false (parser value) word ≡ fits value word
accepts_as any_word word small = refl
accepts_as (number low high) word small =
    let digits : List ℕ = without_leading_plus word in
    ap (λ (b : Bool). (nat_lt 0 (length digits) && list_all (λ d. nat_lt (digit_value d) 10) digits) && b)
    (small_number (digits_value 10 digits) low high (ltb-true high (2 ^ 64) small))

reads_as_written : (value : Value) → reading_of (parser value) ≡ reading.AsWritten
reads_as_written any_word = refl
reads_as_written (number low high) = refl

-- the rows after the use, and the fault that it has
abbrev used_rows : Parameter → Text → List Argument → List Found
used_rows p value given = with_values p.name (reading_of (parser p.value)) CommandLine (value ∷ []) (without p.name (rows given))

abbrev fault_in_use : Parameter → Text → List Argument → Kinds
fault_in_use p value given =
    or_else (cond (has_row p.name (rows given) && true) (kinds.ArgumentConflict ∷ []) [])
    (or_else (cond (accepts false (parser p.value) value) [] (refused_kind (parser p.value) ∷ [])) [])

-- a use that fails, and one that gives one argument more
pub record Fails (fault : Kinds) (more : Option (List Argument)) : Type 0 where
  pub kind : ErrorKind
  pub rest : Kinds
  pub fault_is : fault ≡ kind ∷ rest
  pub none : more ≡ None

pub record Gives (fault : Kinds) (more : Option (List Argument)) (after : List Found) : Type 0 where
  pub given : List Argument
  pub fault_is : fault ≡ []
  pub some : more ≡ Some given
  pub after_is : after ≡ rows given

abbrev pub Used : Kinds → Option (List Argument) → List Found → Type 0
Used fault more after = Fails fault more ⊎ Gives fault more after

used_once : (p : Parameter) (value : Text) (given : List Argument) → is_small p.value ≡ true
    → Used (fault_in_use p value given) (with_argument given value (Some p)) (used_rows p value given)
used_once p value given small = go (is_given p.name given) (fits p.value value) refl refl
  where
    new_rows : is_given p.name given ≡ false → used_rows p value given ≡ rows (given ++ (p.name, value) ∷ [])
    new_rows new =
        let none : has_row p.name (rows given) ≡ false = has_row-rows p.name given ∙ new in
        let kept : without p.name (rows given) ≡ rows given = at_row-new p.name (λ _. []) [] (rows given) none ∙ append-nil (rows given) in
        ap (with_values p.name (reading_of (parser p.value)) CommandLine (value ∷ [])) kept
        ∙ at_row-new p.name (more_values CommandLine (value ∷ [])) (record { id = p.name; values = value ∷ []; count = None; source = Some CommandLine; reading = reading_of (parser p.value) } ∷ []) (rows given) none
        ∙ ap (λ (how : Reading). rows given ++ (record { id = p.name; values = value ∷ []; count = None; source = Some CommandLine; reading = how }) ∷ []) (reads_as_written p.value)
        ∙ sym (map-append row_of given ((p.name, value) ∷ []))

    go : (b c : Bool) → is_given p.name given ≡ b → fits p.value value ≡ c
        → Used (fault_in_use p value given) (with_argument given value (Some p)) (used_rows p value given)
    go true c eb ec =
        let had : has_row p.name (rows given) ≡ true = has_row-rows p.name given ∙ eb in
        inl (record { kind = kinds.ArgumentConflict; rest = []; fault_is = rw had refl; none = rw eb refl })
    go false true eb ec =
        let none : has_row p.name (rows given) ≡ false = has_row-rows p.name given ∙ eb in
        let passes : accepts false (parser p.value) value ≡ true = accepts_as p.value value small ∙ ec in
        inr (record { given = given ++ (p.name, value) ∷ []; fault_is = rw (none, passes) refl; some = rw (eb, ec) refl; after_is = new_rows eb })
    go false false eb ec =
        let none : has_row p.name (rows given) ≡ false = has_row-rows p.name given ∙ eb in
        let refused : accepts false (parser p.value) value ≡ false = accepts_as p.value value small ∙ ec in
        inl (record { kind = refused_kind (parser p.value); rest = []; fault_is = rw (none, refused) refl; none = rw (eb, ec) refl })

-- the rule is that of the operand or the option
abbrev pub IsOf : Parameter → Rule → Type 0
IsOf p a = ((i : ℕ) × (a ≡ placed i p)) ⊎ (a ≡ optional p)

pub use_is : (p : Parameter) (a : Rule) (value : Text) (given : List Argument) → IsOf p a → is_small p.value ≡ true
    → Used (use_fault false a (value ∷ []) (rows given)) (with_argument given value (Some p)) (used a (value ∷ []) (rows given))
use_is p a value given (inl e) small = rw e.1 (used_once p value given small)
use_is p a value given (inr e) small = rw e (used_once p value given small)

-- ---- what is pending

-- what the last word gave, and is not used yet
abbrev pub Pending : Type 0
Pending = Option (Parameter × Text)

abbrev pub held : List Argument → Pending → Held
held given p = record { rows = rows given; pending = option_map (λ q. (q.0.name, q.1 ∷ [])) p; skip = 0 }

-- the parameter is one of the rules
pub record IsKnown (c : List Rule) (p : Parameter) : Type 0 where
  pub rule : Rule
  pub of : IsOf p rule
  pub by_id : arg_by_id c p.name ≡ Some rule
  pub small : is_small p.value ≡ true

abbrev pub AreKnown : List Rule → Pending → Type 0
AreKnown c None = Unit {0}
AreKnown c (Some p) = IsKnown c p.0

-- the arguments with what is pending
abbrev pub with_pending : List Argument → Pending → Option (List Argument)
with_pending given None = Some given
with_pending given (Some p) = with_argument given p.1 (Some p.0)

pub settles : (c : List Rule) (given : List Argument) (p : Pending) → AreKnown c p
    → Used (settle_fault c false (held given p)) (with_pending given p) (settled c (held given p)).rows
settles c given None known = inr (record { given = given; fault_is = refl; some = refl; after_is = refl })
settles c given (Some p) known = rw known.by_id (use_is p.0 known.rule p.1 given known.of known.small)
