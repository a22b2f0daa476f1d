-- Digits: how they are written, and that they are read again.
use Rattle.std.proofs.Common.{◌≡◌, ℕ, zero, suc, ◌+◌, ◌*◌, ◌/◌, ◌%◌, ◌^◌, ◌<◌, ◌≤◌, ◌⊎◌, ⊎_elim, false, cond, List, [], ◌∷◌, ◌++◌, append_assoc, refl, sym, ap, subst, ◌∙◌, arith}
use Rattle.std.proofs.lemmas.Bool.{eq-eqb, ne_eqb, lt-ltb}
use Rattle.std.proofs.lemmas.Fmt.{decimal_digit, decimal_step, decimal_is_IsNumeral, digits_is_IsNumeral}
use Rattle.std.proofs.lemmas.Str.{digit_value-digit_char}
use Rattle.std.proofs.lemmas.Int.Digits.{digits_value_push}
use Rattle.std.specs.Char.{digit_char}
use Rattle.std.specs.Fmt.{digits, digits_onto}
use Rattle.std.specs.Str.Parse.{digits_value}
use Rattle.mach_base.specs.Number.{dec_text, hex_text}
use Rattle.rv_asm.specs.Meant.{value_of}

digit_char-decimal : (n : ℕ) → n < 10 → digit_char n ≡ 48 + n
digit_char-decimal n lt = ap (λ b. cond b (48 + n) (87 + n)) (lt-ltb n 10 lt)

-- a number of one decimal digit, and of more
one_decimal : (n : ℕ) → n < 10 → dec_text n ≡ digit_char n ∷ []
one_decimal n lt = decimal_digit n lt ∙ ap (λ d. d ∷ []) (sym (digit_char-decimal n lt))

more_decimal : (n : ℕ) → 10 ≤ n → n < 2 ^ 64 → dec_text n ≡ dec_text (n / 10) ++ digit_char (n % 10) ∷ []
more_decimal n more small = decimal_step n more small ∙ ap (λ d. dec_text (n / 10) ++ d ∷ []) (sym (digit_char-decimal (n % 10) (omega arith)))

abbrev spell : ℕ → ℕ → List ℕ → List ℕ
spell k n acc = digits_onto k 16 false n acc

last : (k n : ℕ) (acc : List ℕ) → n < 16 → spell (suc k) n acc ≡ digit_char (n % 16) ∷ acc
last k n acc h = ap (λ t. cond t (digit_char (n % 16) ∷ acc) (spell k (n / 16) (digit_char (n % 16) ∷ acc))) (eq-eqb (n / 16) 0 (omega arith))

next : (k n : ℕ) (acc : List ℕ) → 16 ≤ n → spell (suc k) n acc ≡ spell k (n / 16) (digit_char (n % 16) ∷ acc)
next k n acc h = ap (λ t. cond t (digit_char (n % 16) ∷ acc) (spell k (n / 16) (digit_char (n % 16) ∷ acc))) (ne_eqb (n / 16) 0 (λ e. omega arith))

order : (n : ℕ) → (n < 16) ⊎ (16 ≤ n)
order n = grind arith

spell-append : (k n : ℕ) (acc : List ℕ) → spell k n acc ≡ spell k n [] ++ acc
spell-append zero n acc = refl
spell-append (suc k) n acc = ⊎_elim
    (λ l. last k n acc l ∙ ap (λ x. x ++ acc) (sym (last k n [] l)))
    (λ l. next k n acc l ∙ spell-append k (n / 16) (digit_char (n % 16) ∷ acc) ∙ sym (append_assoc (spell k (n / 16) []) (digit_char (n % 16) ∷ []) acc) ∙ ap (λ x. x ++ acc) (sym (next k n [] l ∙ spell-append k (n / 16) (digit_char (n % 16) ∷ []))))
    (order n)

-- the limit of the digits doesn't matter where it is large enough
enough : (j k n : ℕ) (acc : List ℕ) → n < 16 ^ suc j → n < 16 ^ suc k → spell (suc j) n acc ≡ spell (suc k) n acc
enough zero k n acc p q = last zero n acc (omega arith) ∙ sym (last k n acc (omega arith))
enough (suc j) zero n acc p q = last (suc j) n acc (omega arith) ∙ sym (last zero n acc (omega arith))
enough (suc j) (suc k) n acc p q = ⊎_elim
    (λ l. last (suc j) n acc l ∙ sym (last (suc k) n acc l))
    (λ l. next (suc j) n acc l ∙ enough j k (n / 16) (digit_char (n % 16) ∷ acc) (omega arith) (omega arith) ∙ sym (next (suc k) n acc l))
    (order n)

-- a number of one hexadecimal digit, and of more
one_hex : (n : ℕ) → n < 16 → digits 16 false n ≡ digit_char n ∷ []
unfolding digits
one_hex n lt = let same : n % 16 ≡ n = omega arith in last 63 n [] lt ∙ ap (λ d. digit_char d ∷ []) same

more_hex : (n : ℕ) → 16 ≤ n → n < 2 ^ 32 → digits 16 false n ≡ digits 16 false (n / 16) ++ digit_char (n % 16) ∷ []
unfolding digits
more_hex n more small =
    next 63 n [] more ∙ enough 62 63 (n / 16) (digit_char (n % 16) ∷ []) (omega arith) (omega arith) ∙ spell-append 64 (n / 16) (digit_char (n % 16) ∷ [])

-- a number of one digit in either radix, and of more
pub one_digit : (radix n : ℕ) → (radix ≡ 10) ⊎ (radix ≡ 16) → n < radix → digits radix false n ≡ digit_char n ∷ []
one_digit radix n is lt = ⊎_elim
    (λ ten. ap (λ r. digits r false n) ten ∙ one_decimal n (omega arith))
    (λ sixteen. ap (λ r. digits r false n) sixteen ∙ one_hex n (omega arith))
    is

pub more_digits : (radix n : ℕ) → (radix ≡ 10) ⊎ (radix ≡ 16) → radix ≤ n → n < 2 ^ 32 → digits radix false n ≡ digits radix false (n / radix) ++ digit_char (n % radix) ∷ []
more_digits radix n is more small = ⊎_elim
    (λ ten. subst (λ r. digits r false n ≡ digits r false (n / r) ++ digit_char (n % r) ∷ []) (sym ten) (more_decimal n (omega arith) (omega arith)))
    (λ sixteen. subst (λ r. digits r false n ≡ digits r false (n / r) ++ digit_char (n % r) ∷ []) (sym sixteen) (more_hex n (omega arith) small))
    is

-- what is written is read again
pub value_of-decimal : (n : ℕ) → n < 2 ^ 32 → value_of 10 (dec_text n) ≡ n
unfolding value_of
value_of-decimal n small = let is = decimal_is_IsNumeral n (omega arith) in omega (arith, is.1)

pub value_of-hex : (n : ℕ) → n < 2 ^ 32 → value_of 16 (digits 16 false n) ≡ n
unfolding value_of
value_of-hex n small = let is = digits_is_IsNumeral 16 false (omega arith) (omega arith) n (omega arith) in omega (arith, is.1)

digits_value-hex_text : (k n : ℕ) → n < 16 ^ k → digits_value 16 (hex_text k n) ≡ n
digits_value-hex_text zero n small = omega arith
digits_value-hex_text (suc k) n small =
    let rest = digits_value-hex_text k (n / 16) (omega arith) in
    let digit = digit_value-digit_char (n % 16) (omega arith) in
    digits_value_push 16 (hex_text k (n / 16)) (digit_char (n % 16)) ∙ omega (arith, rest, digit)

pub value_of-hex_text : (n : ℕ) → n < 2 ^ 32 → value_of 16 (hex_text 8 n) ≡ n
unfolding value_of
value_of-hex_text n small = omega (arith, digits_value-hex_text 8 n (omega arith))

-- one digit more, read modulo 2^32
pub value_more : (radix value front digit whole : ℕ) → (radix ≡ 10) ⊎ (radix ≡ 16) → value ≡ front % 2 ^ 32 → whole ≡ front * radix + digit
    → (value * radix + digit) % 2 ^ 32 ≡ whole % 2 ^ 32
value_more radix value front digit whole is so_far more = ⊎_elim
    (λ ten. let a : value * radix ≡ value * 10 = ap (λ r. value * r) ten in let b : front * radix ≡ front * 10 = ap (λ r. front * r) ten in omega arith)
    (λ sixteen. let a : value * radix ≡ value * 16 = ap (λ r. value * r) sixteen in let b : front * radix ≡ front * 16 = ap (λ r. front * r) sixteen in omega arith)
    is
