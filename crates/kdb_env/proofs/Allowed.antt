-- What holds of variables after `set`, and of their values.
use Rattle.std.proofs.Common.{◌≡◌, ℕ, ◌+◌, Bool, true, false, not, cond, ◌&&◌, List, [], ◌∷◌, length, Option, Some, None, Result, is_some, is_none, nat_le, codes, unwrap_or, refl, sym, ap, subst, ◌∙◌, arith}
use Rattle.std.specs.List.{AllByRecursion, list_all}
use Rattle.std.specs.Option.{option_or}
use Rattle.std.specs.Str.{bytes_eq}
use Rattle.std.proofs.lemmas.Bool.{and_parts, and_from, false_from_ne_true}
use Rattle.std.proofs.lemmas.Slice.Eq.{bytes_eq-Decides}
use Rattle.mach_base.specs.declared.limits.TheConstants.{MOST_VARIABLES}
use Rattle.mach_base.specs.Number.{number_of}
use Rattle.mach_base.specs.declared.number.NumFault.{NumFault}
use Rattle.kdb_env.specs.declared.env_fault.EnvFault.{EnvFault}
use Rattle.kdb_env.specs.declared.env_fault.EnvFault.TheVariants.{BadName, BadRadix, BadWidth, BadCount, Full}
use Rattle.kdb_env.specs.Variables.{Variables, value_of, with_value, value_fault, is_name, is_full, is_radix, is_width, is_count, refusal_of, defaults, number_at, are_apart, AreVariables}

-- each value is one that its name takes
abbrev pub AreAllowed : Variables → Type 0
AreAllowed vars = AllByRecursion (λ v. value_fault v.0 v.1 ≡ None) vars

same_name : (a b : List ℕ) → bytes_eq a b ≡ true → a ≡ b
same_name a b is = (bytes_eq-Decides a b).0 is

AreAllowed-with_value : (vars : Variables) (name value : List ℕ) → AreAllowed vars → value_fault name value ≡ None → AreAllowed (with_value vars name value)
AreAllowed-with_value [] name value all here = (here, tt)
AreAllowed-with_value (v ∷ vs) name value all here = by (bytes_eq name v.0) refl (AreAllowed-with_value vs name value all.1 here)
  where
    by : (t : Bool) → bytes_eq name v.0 ≡ t → AreAllowed (with_value vs name value) → AreAllowed (cond t ((v.0, value) ∷ vs) (v ∷ with_value vs name value))
    by true is rest = (subst (λ (n : List ℕ). value_fault n value ≡ None) (same_name name v.0 is) here, all.1)
    by false is rest = (all.0, rest)

-- names stay names
named-with_value : (vars : Variables) (name value : List ℕ) → list_all (λ v. is_name v.0) vars ≡ true → is_name name ≡ true → list_all (λ v. is_name v.0) (with_value vars name value) ≡ true
named-with_value [] name value all here = and_from (is_name name) true here refl
named-with_value (v ∷ vs) name value all here = by (bytes_eq name v.0) (named-with_value vs name value parts.1 here)
  where
    parts : (is_name v.0 ≡ true) × (list_all (λ w. is_name w.0) vs ≡ true)
    parts = and_parts (is_name v.0) (list_all (λ w. is_name w.0) vs) all

    by : (t : Bool) → list_all (λ w. is_name w.0) (with_value vs name value) ≡ true → list_all (λ w. is_name w.0) (cond t ((v.0, value) ∷ vs) (v ∷ with_value vs name value)) ≡ true
    by true rest = all
    by false rest = and_from (is_name v.0) (list_all (λ w. is_name w.0) (with_value vs name value)) parts.0 rest

-- two names that differ do so both ways
other_way : (a b : List ℕ) → bytes_eq a b ≡ false → bytes_eq b a ≡ false
other_way a b differ =
    false_from_ne_true (bytes_eq b a) (λ same. let is : bytes_eq a b ≡ true = (bytes_eq-Decides a b).1 (sym (same_name b a same)) in absurd (cc))

-- the value of another name stays
value_of-other : (vars : Variables) (name value asked : List ℕ) → bytes_eq asked name ≡ false → value_of (with_value vars name value) asked ≡ value_of vars asked
value_of-other [] name value asked differ = ap (λ (t : Bool). cond t (Some value) None) differ
value_of-other (v ∷ vs) name value asked differ = by (bytes_eq name v.0) refl (value_of-other vs name value asked differ)
  where
    by : (t : Bool) → bytes_eq name v.0 ≡ t → value_of (with_value vs name value) asked ≡ value_of vs asked → value_of (cond t ((v.0, value) ∷ vs) (v ∷ with_value vs name value)) asked ≡ cond (bytes_eq asked v.0) (Some v.1) (value_of vs asked)
    by true is rest =
        let other : bytes_eq asked v.0 ≡ false = subst (λ (n : List ℕ). bytes_eq asked n ≡ false) (same_name name v.0 is) differ in
        ap (λ (t : Bool). cond t (Some value) (value_of vs asked)) other ∙ sym (ap (λ (t : Bool). cond t (Some v.1) (value_of vs asked)) other)
    by false is rest = ap (λ (o : Option (List ℕ)). cond (bytes_eq asked v.0) (Some v.1) o) rest

-- names stay apart
apart-with_value : (vars : Variables) (name value : List ℕ) → are_apart vars ≡ true → are_apart (with_value vars name value) ≡ true
apart-with_value [] name value apart = refl
apart-with_value (v ∷ vs) name value apart = by (bytes_eq name v.0) refl (apart-with_value vs name value parts.1)
  where
    parts : (is_none (value_of vs v.0) ≡ true) × (are_apart vs ≡ true)
    parts = and_parts (is_none (value_of vs v.0)) (are_apart vs) apart

    by : (t : Bool) → bytes_eq name v.0 ≡ t → are_apart (with_value vs name value) ≡ true → are_apart (cond t ((v.0, value) ∷ vs) (v ∷ with_value vs name value)) ≡ true
    by true is rest = apart
    by false differ rest =
        let same = value_of-other vs name value v.0 (other_way name v.0 differ) in
        and_from (is_none (value_of (with_value vs name value) v.0)) (are_apart (with_value vs name value)) (ap (λ (o : Option (List ℕ)). is_none o) same ∙ parts.0) rest

-- the value of a name is one that it takes
pub value_fault-value_of : (vars : Variables) (name value : List ℕ) → AreAllowed vars → value_of vars name ≡ Some value → value_fault name value ≡ None
value_fault-value_of [] name value all is = absurd (cc)
value_fault-value_of (v ∷ vs) name value all is = by (bytes_eq name v.0) refl is (λ found. value_fault-value_of vs name value all.1 found)
  where
    by : (t : Bool) → bytes_eq name v.0 ≡ t → cond t (Some v.1) (value_of vs name) ≡ Some value → (value_of vs name ≡ Some value → value_fault name value ≡ None) → value_fault name value ≡ None
    by true same found rest =
        let e : v.1 ≡ value = cc in
        subst (λ (n : List ℕ). value_fault n value ≡ None) (sym (same_name name v.0 same)) (subst (λ (x : List ℕ). value_fault v.0 x ≡ None) e all.0)
    by false same found rest = rest found

other_value : (t : Bool) (x y : List ℕ) (o : Option (List ℕ)) → is_some (cond t (Some x) o) ≡ true → is_some (cond t (Some y) o) ≡ true
other_value true x y o h = refl
other_value false x y o h = h

other_rest : (t : Bool) (x : List ℕ) (o p : Option (List ℕ)) → (is_some o ≡ true → is_some p ≡ true) → is_some (cond t (Some x) o) ≡ true → is_some (cond t (Some x) p) ≡ true
other_rest true x o p f h = refl
other_rest false x o p f h = f h

is_some-with_value : (vars : Variables) (name value asked : List ℕ) → is_some (value_of vars asked) ≡ true → is_some (value_of (with_value vars name value) asked) ≡ true
is_some-with_value [] name value asked there = absurd (cc)
is_some-with_value (v ∷ vs) name value asked there = by (λ found. is_some-with_value vs name value asked found) (bytes_eq name v.0)
  where
    by : (is_some (value_of vs asked) ≡ true → is_some (value_of (with_value vs name value) asked) ≡ true) → (t : Bool) → is_some (value_of (cond t ((v.0, value) ∷ vs) (v ∷ with_value vs name value)) asked) ≡ true
    by rest true = other_value (bytes_eq asked v.0) v.1 value (value_of vs asked) there
    by rest false = other_rest (bytes_eq asked v.0) v.1 (value_of vs asked) (value_of (with_value vs name value) asked) rest there

length-with_value : (vars : Variables) (name value : List ℕ) → length (with_value vars name value) ≡ cond (is_none (value_of vars name)) (length vars + 1) (length vars)
length-with_value [] name value = refl
length-with_value (v ∷ vs) name value = by (bytes_eq name v.0) (length-with_value vs name value)
  where
    by : (t : Bool) → length (with_value vs name value) ≡ cond (is_none (value_of vs name)) (length vs + 1) (length vs) → length (cond t ((v.0, value) ∷ vs) (v ∷ with_value vs name value)) ≡ cond (is_none (cond t (Some v.1) (value_of vs name))) (length (v ∷ vs) + 1) (length (v ∷ vs))
    by true rest = refl
    by false rest = deeper (is_none (value_of vs name)) rest
      where
        deeper : (n : Bool) → length (with_value vs name value) ≡ cond n (length vs + 1) (length vs) → length (v ∷ with_value vs name value) ≡ cond n (length (v ∷ vs) + 1) (length (v ∷ vs))
        deeper true h = omega arith
        deeper false h = omega arith

few_more : (new : Bool) (n m : ℕ) → (new && nat_le MOST_VARIABLES n) ≡ false → m ≡ cond new (n + 1) n → nat_le n MOST_VARIABLES ≡ true → nat_le m MOST_VARIABLES ≡ true
few_more new n m full is few = grind arith

value_fault-first : (fault rest : Option EnvFault) → option_or fault rest ≡ None → fault ≡ None
value_fault-first None rest e = refl
value_fault-first (Some f) rest e = e

full-last : (fault : Option EnvFault) (full : Bool) → option_or fault (cond full (Some Full) None) ≡ None → full ≡ false
full-last None false e = refl
full-last None true e = absurd (cc)
full-last (Some f) full e = absurd (cc)

is_name-passes : (named : Bool) (rest : Option EnvFault) → cond (not named) (Some BadName) rest ≡ None → named ≡ true
is_name-passes true rest e = refl
is_name-passes false rest e = absurd (cc)

behind_name : (named : Bool) (rest : Option EnvFault) → cond (not named) (Some BadName) rest ≡ None → rest ≡ None
behind_name true rest e = e
behind_name false rest e = absurd (cc)

-- after a value that isn't refused
pub AreVariables-with_value : (vars : Variables) (name value : List ℕ) → AreVariables vars → refusal_of vars name value ≡ None → AreVariables (with_value vars name value)
AreVariables-with_value vars name value are passes =
    let faults = behind_name (is_name name) (option_or (value_fault name value) (cond (is_full vars name) (Some Full) None)) passes in
    let here = value_fault-first (value_fault name value) (cond (is_full vars name) (Some Full) None) faults in
    let room = full-last (value_fault name value) (is_full vars name) faults in
    let rest = option_or (value_fault name value) (cond (is_full vars name) (Some Full) None) in
    record {
      named = named-with_value vars name value are.named (is_name-passes (is_name name) rest passes);
      apart = apart-with_value vars name value are.apart;
      allowed = AreAllowed-with_value vars name value are.allowed here;
      few = few_more (is_none (value_of vars name)) (length vars) (length (with_value vars name value)) room (length-with_value vars name value) are.few;
      radix = is_some-with_value vars name value (codes "RADIX") are.radix;
      width = is_some-with_value vars name value (codes "BYTESPERWORD") are.width;
      count = is_some-with_value vars name value (codes "MDCOUNT") are.count;
    }

-- at the start
pub AreVariables-defaults : AreVariables defaults
unfolding defaults value_fault
AreVariables-defaults = record {
  named = refl;
  apart = refl;
  allowed = (refl, (refl, (refl, (refl, (refl, tt)))));
  few = refl;
  radix = refl;
  width = refl;
  count = refl;
}

passed : (t : Bool) (f : EnvFault) → cond t None (Some f) ≡ None → t ≡ true
passed true f e = refl
passed false f e = absurd (cc)

pub is_radix-value_of : (vars : Variables) (value : List ℕ) → AreVariables vars → value_of vars (codes "RADIX") ≡ Some value → is_radix value ≡ true
unfolding value_fault
is_radix-value_of vars value are is =
    passed (is_radix value) BadRadix (value_fault-value_of vars (codes "RADIX") value are.allowed is)

pub is_width-value_of : (vars : Variables) (value : List ℕ) → AreVariables vars → value_of vars (codes "BYTESPERWORD") ≡ Some value → is_width value ≡ true
unfolding value_fault
is_width-value_of vars value are is =
    passed (is_width value) BadWidth (value_fault-value_of vars (codes "BYTESPERWORD") value are.allowed is)

pub is_count-value_of : (vars : Variables) (value : List ℕ) → AreVariables vars → value_of vars (codes "MDCOUNT") ≡ Some value → is_count value ≡ true
unfolding value_fault
is_count-value_of vars value are is =
    passed (is_count value) BadCount (value_fault-value_of vars (codes "MDCOUNT") value are.allowed is)

-- the number that a variable's value is
pub number_at-value_of : (vars : Variables) (name value : List ℕ) (number : Result ℕ NumFault) → value_of vars name ≡ Some value → number_of 10 value ≡ number → number_at vars name ≡ number
unfolding number_at
number_at-value_of vars name value number is reads =
    ap (λ (o : Option (List ℕ)). number_of 10 (unwrap_or o [])) is ∙ reads

-- the same, read in the variables that a table holds
pub number_at-held : (vars held : Variables) (name value : List ℕ) (number : Result ℕ NumFault) → held ≡ vars → Some value ≡ value_of held name → number_of 10 value ≡ number → number_at vars name ≡ number
number_at-held vars held name value number same is reads =
    number_at-value_of vars name value number (ap (λ (vs : Variables). value_of vs name) (sym same) ∙ sym is) reads

-- a value that is this text reads as this number
pub number_of-text : (value text : List ℕ) (number : Result ℕ NumFault) → bytes_eq value text ≡ true → number_of 10 text ≡ number → number_of 10 value ≡ number
number_of-text value text number is reads = ap (number_of 10) (same_name value text is) ∙ reads

-- the five of the start, set one after another
pub defaults-set : (t0 t1 t2 t3 t4 t5 : Variables) → t0 ≡ [] → t1 ≡ with_value t0 (codes "PROMPT") (codes "[%d]kdb> ") → t2 ≡ with_value t1 (codes "RADIX") (codes "16") → t3 ≡ with_value t2 (codes "MDCOUNT") (codes "8") → t4 ≡ with_value t3 (codes "BYTESPERWORD") (codes "8") → t5 ≡ with_value t4 (codes "LINES") (codes "24") → t5 ≡ defaults
unfolding defaults
defaults-set t0 t1 t2 t3 t4 t5 h0 h1 h2 h3 h4 h5 =
    h5
    ∙ ap (λ (t : Variables). with_value t (codes "LINES") (codes "24")) (h4
    ∙ ap (λ (t : Variables). with_value t (codes "BYTESPERWORD") (codes "8")) (h3
    ∙ ap (λ (t : Variables). with_value t (codes "MDCOUNT") (codes "8")) (h2
    ∙ ap (λ (t : Variables). with_value t (codes "RADIX") (codes "16")) (h1
    ∙ ap (λ (t : Variables). with_value t (codes "PROMPT") (codes "[%d]kdb> ")) h0))))
