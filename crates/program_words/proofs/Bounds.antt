-- The numbers of a request are within their bounds.
use Rattle.std.proofs.Common.{◌≡◌, ◌∙◌, ◌≤◌, ◌&&◌, ◌||◌, ◌++◌, ℕ, Bool, cond, true, false, not, zero, suc, refl, sym, ap, List, [], ◌∷◌, Option, Some, None, codes, option_and_then, option_map, unwrap_or, leb-true, arith, subst}
use Rattle.std.specs.List.{find, list_all, list_any}
use Rattle.std.specs.Prelude.{slice_get}
use Rattle.std.specs.Str.{bytes_eq}
use Rattle.std.specs.Str.Parse.{digits_value, without_leading_plus}
use Rattle.std.proofs.lemmas.Slice.Eq.{bytes_eq-Decides}
use Rattle.clap.proofs.WalkLemmas.{both}
use Rattle.program_words.specs.Words.{Text, Parameter, Row, Item, operand, option, Argument, argument, arguments, arguments_of, items, fits, is_given, is_number_in, operands_after, parameter_of, value_of, with_argument}
use Rattle.mach_base.specs.declared.limits.TheConstants.{MOST_HARTS, MOST_ROUNDS, MOST_STEPS}
use Rattle.program_words.specs.Rows.{asm_row, command_rows, elf_row, load_row, lockstep_row, replay_row, run_row, uni_row}
use Rattle.program_words.specs.Commands.{Command, Values, asm, elf, load, lockstep, number_or, number_to, options_of, replay, request_from, run, uni}
use Rattle.program_words.specs.Laws.{AreWithin, IsCommandWithin, RequestsAreWithin}
use Rattle.program_words.proofs.RowRules.{bytes_eq-same, found_row, or_false}

-- the argument is one of these parameters, and fits it
abbrev pub fits_one : List Parameter → Argument → Bool
fits_one ps a = list_any (λ p. bytes_eq p.name a.0 && fits p.value a.1) ps

abbrev pub all_fit : Row → List Argument → Bool
all_fit row given = list_all (λ a. fits_one row.operands a || fits_one row.options a) given

or_true : (b : Bool) → (b || true) ≡ true
or_true true = refl
or_true false = refl

fits_here : (p : Parameter) (value : Text) → fits p.value value ≡ true → (bytes_eq p.name p.name && fits p.value value) ≡ true
fits_here p value fit = rw (bytes_eq-same p.name, fit) refl

by_place : (ps : List Parameter) (k : ℕ) (p : Parameter) (value : Text) → slice_get ps k ≡ Some p → fits p.value value ≡ true → fits_one ps (p.name, value) ≡ true
by_place [] k p value at fit = absurd (cc)
by_place (q ∷ ps) zero p value at fit = let same : q ≡ p = cc in rw (same, fits_here p value fit) refl
by_place (q ∷ ps) (suc k) p value at fit = rw (by_place ps k p value at fit) (or_true _)

by_name : (ps : List Parameter) (name : Text) (p : Parameter) (value : Text) → find (λ o. bytes_eq o.name name) ps ≡ Some p → fits p.value value ≡ true → fits_one ps (p.name, value) ≡ true
by_name [] name p value found fit = absurd (cc)
by_name (q ∷ ps) name p value found fit = go (bytes_eq q.name name) (by_name ps name p value) found
  where
    go : (b : Bool) → (find (λ o. bytes_eq o.name name) ps ≡ Some p → fits p.value value ≡ true → fits_one ps (p.name, value) ≡ true)
        → cond b (Some q) (find (λ o. bytes_eq o.name name) ps) ≡ Some p → fits_one (q ∷ ps) (p.name, value) ≡ true
    go true later f = let same : q ≡ p = cc in rw (same, fits_here p value fit) refl
    go false later f = rw (later f fit) (or_true _)

item_fits : (row : Row) (k : ℕ) (item : Item) (p : Parameter) → parameter_of row k item ≡ Some p → fits p.value (value_of item) ≡ true
    → (fits_one row.operands (p.name, value_of item) || fits_one row.options (p.name, value_of item)) ≡ true
item_fits row k (operand value) p found fit = rw (by_place row.operands k p value found fit) refl
item_fits row k (option name value) p found fit = rw (by_name row.options name p value found fit) (or_true _)

all_and : (row : Row) (given : List Argument) (a : Argument) → all_fit row given ≡ true → (fits_one row.operands a || fits_one row.options a) ≡ true → all_fit row (given ++ a ∷ []) ≡ true
all_and row [] a all fit = rw fit refl
all_and row (b ∷ given) a all fit =
    let parts : ((fits_one row.operands b || fits_one row.options b) ≡ true) × (all_fit row given ≡ true) = both _ _ all in
    rw (parts.0, all_and row given a parts.1 fit) refl

one_more : (row : Row) (given more : List Argument) (k : ℕ) (item : Item) (p : Option Parameter) → parameter_of row k item ≡ p → all_fit row given ≡ true
    → with_argument given (value_of item) p ≡ Some more → all_fit row more ≡ true
one_more row given more k item None found all e = absurd (cc)
one_more row given more k item (Some p) found all e = go (is_given p.name given) (fits p.value (value_of item)) refl e
  where
    go : (b c : Bool) → fits p.value (value_of item) ≡ c → cond (not b && c) (Some (given ++ (p.name, value_of item) ∷ [])) None ≡ Some more → all_fit row more ≡ true
    go true c fit f = absurd (cc)
    go false true fit f =
        let same : given ++ (p.name, value_of item) ∷ [] ≡ more = cc in
        ap (all_fit row) (sym same) ∙ all_and row given (p.name, value_of item) all (item_fits row k item p found fit)
    go false false fit f = absurd (cc)

pub arguments_fit : (row : Row) (is : List Item) (given out : List Argument) (k : ℕ) → all_fit row given ≡ true → arguments row given k is ≡ Some out → all_fit row out ≡ true
unfolding arguments
arguments_fit row [] given out k all e = go (list_all (λ p. is_given p.name given) row.operands) e
  where
    go : (b : Bool) → cond b (Some given) None ≡ Some out → all_fit row out ≡ true
    go true f = let same : given ≡ out = cc in ap (all_fit row) (sym same) ∙ all
    go false f = absurd (cc)
arguments_fit row (item ∷ is) given out k all e =
    go (with_argument given (value_of item) (parameter_of row k item)) refl (λ more. arguments_fit row is more out (operands_after k item)) e
  where
    go : (more : Option (List Argument)) → with_argument given (value_of item) (parameter_of row k item) ≡ more
        → ((m : List Argument) → all_fit row m ≡ true → arguments row m (operands_after k item) is ≡ Some out → all_fit row out ≡ true)
        → option_and_then (λ m. arguments row m (operands_after k item) is) more ≡ Some out → all_fit row out ≡ true
    go None is later f = absurd (cc)
    go (Some m) is later f = later m (one_more row given m k item (parameter_of row k item) refl all is) f

-- the argument of a name fits one of that name
pub argument_fits : (row : Row) (given : List Argument) (name value : Text) → all_fit row given ≡ true → argument name given ≡ Some value
    → (fits_one row.operands (name, value) || fits_one row.options (name, value)) ≡ true
argument_fits row [] name value all e = absurd (cc)
argument_fits row (a ∷ given) name value all e = go (bytes_eq a.0 name) refl (argument_fits row given name value (both _ _ all).1) e
  where
    go : (b : Bool) → bytes_eq a.0 name ≡ b
        → (argument name given ≡ Some value → (fits_one row.operands (name, value) || fits_one row.options (name, value)) ≡ true)
        → option_map (λ (x : Argument). x.1) (cond b (Some a) (find (λ x. bytes_eq x.0 name) given)) ≡ Some value
        → (fits_one row.operands (name, value) || fits_one row.options (name, value)) ≡ true
    go true is later f =
        let same_name : a.0 ≡ name = (bytes_eq-Decides a.0 name).0 is in
        let same_value : a.1 ≡ value = cc in
        rw (← same_name, ← same_value) (both _ _ all).0
    go false is later f = later f

-- a number of a name is within the bounds that hold its default
pub number_within : (values : Values) (name : Text) (low high most default : ℕ) → low ≤ default → default ≤ high
    → ((t : Text) → values name ≡ Some t → is_number_in low high t ≡ true) → (low ≤ number_or values name most default) × (number_or values name most default ≤ high)
number_within values name low high most default least greatest fit = go (values name) fit
  where
    within : (t : Text) (b : Bool) → is_number_in low high t ≡ true
        → (low ≤ unwrap_or (cond b (Some (digits_value 10 (without_leading_plus t))) None) default) × (unwrap_or (cond b (Some (digits_value 10 (without_leading_plus t))) None) default ≤ high)
    within t true h = let bounds = both _ _ (both _ _ h).1 in (leb-true _ _ bounds.0, leb-true _ _ bounds.1)
    within t false h = (least, greatest)

    go : (o : Option Text) → ((t : Text) → o ≡ Some t → is_number_in low high t ≡ true)
        → (low ≤ unwrap_or (option_and_then (number_to most) o) default) × (unwrap_or (option_and_then (number_to most) o) default ≤ high)
    go None h = (least, greatest)
    go (Some t) h = within t (is_number_in 0 most t) (h t refl)

-- ---- requests

with_value_within : (o : Option Text) (make : Text → Option Command) (r : Command) → ((t : Text) → make t ≡ Some r → IsCommandWithin r) → option_and_then make o ≡ Some r → IsCommandWithin r
with_value_within None make r within e = absurd (cc)
with_value_within (Some t) make r within e = within t e

made_within : (made r : Command) → IsCommandWithin made → Some made ≡ Some r → IsCommandWithin r
made_within made r within e = let same : made ≡ r = cc in subst IsCommandWithin same within

-- the options of the arguments that fit
options_within : (row : Row) (given : List Argument) → all_fit row given ≡ true
    → ((t : Text) → (fits_one row.operands (codes "harts", t) || fits_one row.options (codes "harts", t)) ≡ true → is_number_in 1 MOST_HARTS t ≡ true)
    → ((t : Text) → (fits_one row.operands (codes "steps", t) || fits_one row.options (codes "steps", t)) ≡ true → is_number_in 1 MOST_STEPS t ≡ true)
    → ((t : Text) → (fits_one row.operands (codes "rounds", t) || fits_one row.options (codes "rounds", t)) ≡ true → is_number_in 1 MOST_ROUNDS t ≡ true)
    → AreWithin (options_of (λ name. argument name given))
options_within row given all harts steps rounds =
    let values : Values = λ name. argument name given in
    record {
      harts = number_within values (codes "harts") 1 MOST_HARTS 255 1 (omega arith) (omega arith) (λ t e. harts t (argument_fits row given (codes "harts") t all e));
      steps = number_within values (codes "steps") 1 MOST_STEPS 18446744073709551615 1000000 (omega arith) (omega arith) (λ t e. steps t (argument_fits row given (codes "steps") t all e));
      rounds = number_within values (codes "rounds") 1 MOST_ROUNDS 4294967295 1000 (omega arith) (omega arith) (λ t e. rounds t (argument_fits row given (codes "rounds") t all e));
    }

-- the requests of a row are within their bounds
abbrev pub IsRowWithin : Row → Type 0
IsRowWithin row = (given : List Argument) (r : Command) → all_fit row given ≡ true → request_from row given ≡ Some r → IsCommandWithin r

uni_within : IsRowWithin uni_row
uni_within given r all e =
    with_value_within (argument (codes "image") given) _ r (λ image. with_value_within (argument (codes "script") given) _ r (λ script. made_within (uni image script) r tt)) e

-- a request is within its bounds where it is so with each image, map and script
start_within : (given : List Argument) (make : Text → Text → Text → Option Command) (r : Command) → ((image map script : Text) → make image map script ≡ Some r → IsCommandWithin r)
    → option_and_then (λ image. option_and_then (λ map. option_and_then (λ script. make image map script) (argument (codes "script") given)) (argument (codes "map") given)) (argument (codes "image") given) ≡ Some r
    → IsCommandWithin r
start_within given make r within e =
    with_value_within (argument (codes "image") given) _ r (λ image. with_value_within (argument (codes "map") given) _ r
    (λ map. with_value_within (argument (codes "script") given) _ r (λ script. within image map script))) e

replay_within : IsRowWithin replay_row
replay_within given r all e =
    start_within given _ r (λ image map script. with_value_within (argument (codes "journal") given) _ r (λ journal. made_within (replay image map script journal) r tt)) e

run_within : IsRowWithin run_row
run_within given r all e =
    let options : AreWithin (options_of (λ name. argument name given)) =
    options_within run_row given all (λ t h. sym (or_false _) ∙ h) (λ t h. sym (or_false _) ∙ h) (λ t h. sym (or_false _) ∙ h) in
    start_within given _ r (λ image map script. with_value_within (argument (codes "journal") given) _ r
    (λ journal. made_within (run image map script journal (options_of (λ name. argument name given))) r options)) e

lockstep_within : IsRowWithin lockstep_row
lockstep_within given r all e =
    let options : AreWithin (options_of (λ name. argument name given)) =
    options_within lockstep_row given all (λ t h. sym (or_false _) ∙ h) (λ t h. sym (or_false _) ∙ h) (λ t h. sym (or_false _) ∙ h) in
    start_within given _ r (λ image map script. with_value_within (argument (codes "plan") given) _ r (λ plan. with_value_within (argument (codes "journal") given) _ r
    (λ journal. made_within (lockstep image map script plan journal (options_of (λ name. argument name given))) r options))) e

asm_within : IsRowWithin asm_row
asm_within given r all e =
    with_value_within (argument (codes "source") given) _ r (λ source. with_value_within (argument (codes "image") given) _ r (λ image. made_within (asm source image) r tt)) e

elf_within : IsRowWithin elf_row
elf_within given r all e =
    with_value_within (argument (codes "elf") given) _ r (λ executable. with_value_within (argument (codes "image") given) _ r
    (λ image. with_value_within (argument (codes "map") given) _ r (λ map. made_within (elf executable image map) r tt))) e

number_fits : (given : List Argument) (t : Text) → all_fit load_row given ≡ true → argument (codes "number") given ≡ Some t → is_number_in 0 4294967295 t ≡ true
number_fits given t all e = sym (or_false _) ∙ (sym (or_false _) ∙ argument_fits load_row given (codes "number") t all e)

load_within : IsRowWithin load_row
load_within given r all e = go (argument (codes "number") given) (λ t. number_fits given t all) e
  where
    read : (t : Text) (b : Bool) → is_number_in 0 4294967295 t ≡ true → option_map (λ n. load n) (cond b (Some (digits_value 10 (without_leading_plus t))) None) ≡ Some r → IsCommandWithin r
    read t true h f = made_within (load (digits_value 10 (without_leading_plus t))) r (leb-true _ _ (both _ _ (both _ _ h).1).1) f
    read t false h f = absurd (cc)

    go : (o : Option Text) → ((t : Text) → o ≡ Some t → is_number_in 0 4294967295 t ≡ true) → option_map (λ n. load n) (option_and_then (number_to 4294967295) o) ≡ Some r → IsCommandWithin r
    go None h f = absurd (cc)
    go (Some t) h f = read t (is_number_in 0 4294967295 t) (h t refl) f

rows_within : (word : Text) (row : Row) → find (λ r. bytes_eq r.word word) command_rows ≡ Some row → IsRowWithin row
rows_within = found_row IsRowWithin command_rows (uni_within, (replay_within, (run_within, (lockstep_within, (asm_within, (elf_within, (load_within, tt)))))))

given_within : (row : Row) (words : List Text) (r : Command) → IsRowWithin row
    → option_and_then (λ (q : Row × List Argument). request_from q.0 q.1) (option_map (λ (g : List Argument). (row, g)) (arguments_of row words)) ≡ Some r → IsCommandWithin r
given_within row words r within e = go (items None words) e
  where
    fit : (is : List Item) (o : Option (List Argument)) → arguments row [] 0 is ≡ o
        → option_and_then (λ (q : Row × List Argument). request_from q.0 q.1) (option_map (λ (g : List Argument). (row, g)) o) ≡ Some r → IsCommandWithin r
    fit is None a f = absurd (cc)
    fit is (Some given) a f = within given r (arguments_fit row is [] given 0 refl a) f

    go : (o : Option (List Item))
        → option_and_then (λ (q : Row × List Argument). request_from q.0 q.1) (option_map (λ (g : List Argument). (row, g)) (option_and_then (arguments row [] 0) o)) ≡ Some r → IsCommandWithin r
    go None f = absurd (cc)
    go (Some is) f = fit is (arguments row [] 0 is) refl f

pub requests_are_within : RequestsAreWithin
requests_are_within [] r e = absurd (cc)
requests_are_within (word ∷ words) r e = go (find (λ q. bytes_eq q.word word) command_rows) refl e
  where
    go : (o : Option Row) → find (λ q. bytes_eq q.word word) command_rows ≡ o
        → option_and_then (λ (q : Row × List Argument). request_from q.0 q.1) (option_and_then (λ (row : Row). option_map (λ (g : List Argument). (row, g)) (arguments_of row words)) o) ≡ Some r → IsCommandWithin r
    go None found f = absurd (cc)
    go (Some row) found f = given_within row words r (rows_within word row found) f
