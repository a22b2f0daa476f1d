-- The registers that are named by their numbers.
use Rattle.std.proofs.Common.{◌≡◌, ◌↔◌, ℕ, ◌+◌, ◌-◌, ◌*◌, ◌/◌, ◌%◌, ◌<◌, ◌≤◌, eqb, Bool, true, false, ◌&&◌, List, [], ◌∷◌, ◌++◌, codes, Option, Some, None, cond, refl, ap, ◌∙◌, arith, nat_le, nat_lt}
use Rattle.std.proofs.lemmas.Bool.{eqb-true, leb-true, ltb-true, ltb-false, and_parts, false≢true}
use Rattle.std.proofs.lemmas.Fmt.{decimal_digit, decimal_step}
use Rattle.mach_base.specs.Number.{dec_text}
use Rattle.hart_ctx.specs.RegisterName.{is_decimal, x_number}
use Rattle.hart_ctx.proofs.Names.{below_all}

-- whether it is this number
abbrev is_found : Option ℕ → ℕ → Bool
is_found None n = false
is_found (Some m) n = eqb m n

is_found-true : (o : Option ℕ) (n : ℕ) → is_found o n ≡ true → o ≡ Some n
is_found-true None n e = absurd (false≢true e)
is_found-true (Some m) n e = ap (λ k. Some k) (eqb-true m n e)

-- the digits of a number below 100
abbrev digits : ℕ → List ℕ
digits n = cond (nat_lt n 10) ((48 + n) ∷ []) ((48 + n / 10) ∷ (48 + n % 10) ∷ [])

dec_text-digits : (n : ℕ) (b : Bool) → nat_lt n 10 ≡ b → n < 100 → dec_text n ≡ cond b ((48 + n) ∷ []) ((48 + n / 10) ∷ (48 + n % 10) ∷ [])
dec_text-digits n true lt small = decimal_digit n (ltb-true n 10 lt)
dec_text-digits n false ge small =
    let more = ltb-false n 10 ge in
    decimal_step n (omega arith) (omega arith) ∙ ap (λ front. front ++ (48 + n % 10) ∷ []) (decimal_digit (n / 10) (omega arith))

-- the number that is written after x is read
written : (n : ℕ) → n < 32 → x_number (codes "x" ++ dec_text n) ≡ Some n
written n lt =
    ap (λ text. x_number (codes "x" ++ text)) (dec_text-digits n _ refl (omega arith))
    ∙ is_found-true (x_number (codes "x" ++ digits n)) n (below_all (λ k. is_found (x_number (codes "x" ++ digits k)) k) 32 n lt refl)

-- the text of a number of one digit, and of two
one_digit : (x d : ℕ) → x ≡ 120 → 48 ≤ d → d ≤ 57 → x ∷ d ∷ [] ≡ codes "x" ++ dec_text (d - 48)
one_digit x d is_x low high =
    let digit : 48 + (d - 48) ≡ d = omega arith in
    rw (is_x, decimal_digit (d - 48) (omega arith), digit) refl

two_digits : (x t u : ℕ) → x ≡ 120 → 49 ≤ t → t ≤ 57 → 48 ≤ u → u ≤ 57 → x ∷ t ∷ u ∷ [] ≡ codes "x" ++ dec_text (10 * (t - 48) + (u - 48))
two_digits x t u is_x low_t high_t low_u high_u =
    let tens : (10 * (t - 48) + (u - 48)) / 10 ≡ t - 48 = omega arith in
    let units : 48 + (10 * (t - 48) + (u - 48)) % 10 ≡ u = omega arith in
    let first : 48 + (t - 48) ≡ t = omega arith in
    rw (is_x, decimal_step (10 * (t - 48) + (u - 48)) (omega arith) (omega arith), tens, units, decimal_digit (t - 48) (omega arith), first) refl

-- what is read of a name is its number
abbrev Numbers : List ℕ → ℕ → Type 0
Numbers name n = (n < 32) × (name ≡ codes "x" ++ dec_text n)

read_one : (x d n : ℕ) (b : Bool) → ((eqb x 120) && is_decimal d) ≡ b → cond b (Some (d - 48)) None ≡ Some n → Numbers (x ∷ d ∷ []) n
read_one x d n false why e = absurd (cc)
read_one x d n true why e =
    let parts = and_parts (eqb x 120) (is_decimal d) why in
    let range = and_parts (nat_le 48 d) (nat_le d 57) parts.1 in
    let high = leb-true d 57 range.1 in
    let same : d - 48 ≡ n = cc in
    (omega arith, one_digit x d (eqb-true x 120 parts.0) (leb-true 48 d range.0) high ∙ ap (λ k. codes "x" ++ dec_text k) same)

read_two : (x t u n : ℕ) (b : Bool) → ((eqb x 120) && (nat_le 49 t && (is_decimal t && (is_decimal u && nat_lt (10 * (t - 48) + (u - 48)) 32)))) ≡ b → cond b (Some (10 * (t - 48) + (u - 48))) None ≡ Some n → Numbers (x ∷ t ∷ u ∷ []) n
read_two x t u n false why e = absurd (cc)
read_two x t u n true why e =
    let a = and_parts (eqb x 120) _ why in
    let b = and_parts (nat_le 49 t) _ a.1 in
    let c = and_parts (is_decimal t) _ b.1 in
    let d = and_parts (is_decimal u) _ c.1 in
    let tens = and_parts (nat_le 48 t) (nat_le t 57) c.0 in
    let units = and_parts (nat_le 48 u) (nat_le u 57) d.0 in
    let small = ltb-true (10 * (t - 48) + (u - 48)) 32 d.1 in
    let same : 10 * (t - 48) + (u - 48) ≡ n = cc in
    (omega arith, two_digits x t u (eqb-true x 120 a.0) (leb-true 49 t b.0) (leb-true t 57 tens.1) (leb-true 48 u units.0) (leb-true u 57 units.1) ∙ ap (λ k. codes "x" ++ dec_text k) same)

read : (name : List ℕ) (n : ℕ) → x_number name ≡ Some n → Numbers name n
read [] n e = absurd (cc)
read (x ∷ []) n e = absurd (cc)
read (x ∷ d ∷ []) n e = read_one x d n _ refl e
read (x ∷ t ∷ u ∷ []) n e = read_two x t u n _ refl e
read (x ∷ t ∷ u ∷ v ∷ rest) n e = absurd (cc)

spelled : (name : List ℕ) (n : ℕ) → Numbers name n → x_number name ≡ Some n
spelled name n h = ap x_number h.1 ∙ written n h.0

-- a name by number is x and the number in decimal digits
pub x_number_is : (name : List ℕ) (n : ℕ) → (x_number name ≡ Some n) ↔ ((n < 32) × (name ≡ codes "x" ++ dec_text n))
x_number_is name n = (read name n, spelled name n)
