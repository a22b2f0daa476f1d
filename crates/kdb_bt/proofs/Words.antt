-- The number that bytes spell: byte by byte, and how large it is.
use Rattle.std.proofs.Common.{◌≡◌, ℕ, suc, zero, ◌+◌, ◌-◌, ◌*◌, ◌^◌, ◌<◌, ◌≤◌, Bool, true, false, cond, ◌&&◌, Option, Some, None, is_some, refl, sym, ap, ◌∙◌, arith}
use Rattle.std.specs.Option.{unwrap_or}
use Rattle.std.proofs.Math.Nat.{mul_comm, mul_assoc}
use Rattle.mach_base.specs.Machine.{Memory, byte_at}
use Rattle.mach_base.specs.Bytes.{all_bytes, is_mapped, byte_or_zero, number_in}
use Rattle.kdb_bt.specs.Frames.{number_at}
use native.Mathlib.Numerals.{unary_clauses}

-- a byte with the number of the bytes after it, if both are there
abbrev pub with_byte : Option ℕ → Option ℕ → Option ℕ
with_byte None rest = None
with_byte (Some b) None = None
with_byte (Some b) (Some rest) = Some (b + 256 * rest)

more_bytes : (n : ℕ) → 256 ^ suc n ≡ 256 ^ n * 256
more_bytes n = simp unary_clauses

-- the first of several bytes, and the others
all_bytes-cons : (test : ℕ → Bool) (addr n : ℕ) → all_bytes test addr (suc n) ≡ (test addr && all_bytes test (addr + 1) n)
all_bytes-cons test addr zero =
    let here : addr + 0 ≡ addr = omega arith in
    ap (λ (a : ℕ). test a) here ∙ one (test addr)
  where
    one : (t : Bool) → t ≡ (t && true)
    one true = refl
    one false = refl
all_bytes-cons test addr (suc n) =
    let place : addr + suc n ≡ (addr + 1) + n = omega arith in
    ap (λ (t : Bool). t && test (addr + suc n)) (all_bytes-cons test addr n)
    ∙ ap (λ (a : ℕ). (test addr && all_bytes test (addr + 1) n) && test a) place
    ∙ three (test addr) (all_bytes test (addr + 1) n) (test ((addr + 1) + n))
  where
    three : (x y z : Bool) → ((x && y) && z) ≡ (x && (y && z))
    three true y z = refl
    three false y z = refl

scaled : (b x y : ℕ) → y ≡ x * 256 → b * y ≡ 256 * (b * x)
scaled b x y e = ap (λ (k : ℕ). b * k) e ∙ sym (mul_assoc b x 256) ∙ mul_comm (b * x) 256

number_in-cons : (m : Memory) (addr n : ℕ) → number_in m addr (suc n) ≡ byte_or_zero m addr + 256 * number_in m (addr + 1) n
number_in-cons m addr zero =
    let here : addr + 0 ≡ addr = omega arith in
    let same : byte_or_zero m (addr + 0) ≡ byte_or_zero m addr = ap (λ (a : ℕ). byte_or_zero m a) here in
    let one : 256 ^ 0 ≡ 1 = refl in
    first (byte_or_zero m (addr + 0)) (byte_or_zero m addr) (256 ^ 0) same one
  where
    first : (b c p : ℕ) → b ≡ c → p ≡ 1 → 0 + b * p ≡ c + 256 * 0
    first b c p e f = rw (e, f) (omega arith)
number_in-cons m addr (suc n) =
    let place : addr + suc n ≡ (addr + 1) + n = omega arith in
    let same : byte_or_zero m (addr + suc n) ≡ byte_or_zero m ((addr + 1) + n) = ap (λ (a : ℕ). byte_or_zero m a) place in
    let low = number_in-cons m addr n in
    let high = scaled (byte_or_zero m ((addr + 1) + n)) (256 ^ n) (256 ^ suc n) (more_bytes n) in
    both (number_in m addr (suc n)) (byte_or_zero m addr) (number_in m (addr + 1) n) (byte_or_zero m (addr + suc n) * 256 ^ suc n) (byte_or_zero m ((addr + 1) + n) * 256 ^ n) low (ap (λ (b : ℕ). b * 256 ^ suc n) same ∙ high)
  where
    both : (whole b rest top last : ℕ) → whole ≡ b + 256 * rest → top ≡ 256 * last → whole + top ≡ b + 256 * (rest + last)
    both whole b rest top last e f = omega arith

-- the number of several bytes, by the first of them and the others
number_at-cons : (m : Memory) (addr n : ℕ) → number_at m addr (suc n) ≡ with_byte (byte_at m addr) (number_at m (addr + 1) n)
unfolding number_at
number_at-cons m addr n =
    ap (λ (t : Bool). cond t (Some (number_in m addr (suc n))) None) (all_bytes-cons (is_mapped m) addr n)
    ∙ ap (λ (k : ℕ). cond (is_mapped m addr && all_bytes (is_mapped m) (addr + 1) n) (Some k) None) (number_in-cons m addr n)
    ∙ by (byte_at m addr) (all_bytes (is_mapped m) (addr + 1) n) (number_in m (addr + 1) n)
  where
    by : (o : Option ℕ) (t : Bool) (k : ℕ) → cond (is_some o && t) (Some (unwrap_or o 0 + 256 * k)) None ≡ with_byte o (cond t (Some k) None)
    by None t k = refl
    by (Some b) true k = refl
    by (Some b) false k = refl

-- no byte is the number 0
pub no_bytes : (m : Memory) (addr count : ℕ) → count ≡ 0 → number_at m addr count ≡ Some 0
unfolding number_at
no_bytes m addr count none = ap (λ (k : ℕ). number_at m addr k) none

pub bytes_more : (m : Memory) (addr count : ℕ) → 0 < count → number_at m addr count ≡ with_byte (byte_at m addr) (number_at m (addr + 1) (count - 1))
bytes_more m addr zero some = absurd (omega arith)
bytes_more m addr (suc n) some =
    let less : suc n - 1 ≡ n = omega arith in
    number_at-cons m addr n ∙ ap (λ (k : ℕ). with_byte (byte_at m addr) (number_at m (addr + 1) k)) (sym less)

-- how a number is put together
pub ruleset numbers = (no_bytes, bytes_more)

-- a byte more in front
pub number_fits : (byte rest count n : ℕ) → count ≡ suc n → byte < 256 → rest < 256 ^ n → byte + 256 * rest < 256 ^ count
number_fits byte rest count n more small fits = rw (more, more_bytes n) (omega (arith, fits))

-- eight bytes make a word
pub word_fits : (number count : ℕ) → count ≤ 8 → number < 256 ^ count → number < 2 ^ 64
word_fits number zero few fits = omega (arith, fits)
word_fits number (suc zero) few fits = omega (arith, fits)
word_fits number (suc (suc zero)) few fits = omega (arith, fits)
word_fits number (suc (suc (suc zero))) few fits = omega (arith, fits)
word_fits number (suc (suc (suc (suc zero)))) few fits = omega (arith, fits)
word_fits number (suc (suc (suc (suc (suc zero))))) few fits = omega (arith, fits)
word_fits number (suc (suc (suc (suc (suc (suc zero)))))) few fits = omega (arith, fits)
word_fits number (suc (suc (suc (suc (suc (suc (suc zero))))))) few fits = omega (arith, fits)
word_fits number (suc (suc (suc (suc (suc (suc (suc (suc zero)))))))) few fits = omega (arith, fits)
word_fits number (suc (suc (suc (suc (suc (suc (suc (suc (suc n))))))))) few fits = absurd (omega arith)
