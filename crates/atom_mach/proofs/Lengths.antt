-- How long texts are.
use Rattle.std.proofs.Common.{◌≡◌, ℕ, suc, zero, ◌+◌, ◌*◌, ◌/◌, ◌%◌, ◌^◌, ◌<◌, ◌≤◌, ◌==◌, Bool, true, false, cond, List, [], ◌∷◌, ◌++◌, length, codes, filter, refl, ap, ◌∙◌, length-append, arith}
use Rattle.std.specs.List.{range_with_len}
use Rattle.std.specs.Char.{digit_char}
use Rattle.std.proofs.lemmas.Fmt.{length-decimal-le}
use Rattle.mach_base.specs.Number.{dec_text, hex_text}
use Rattle.mach_base.specs.Texts.{newline, address_text}
use Rattle.mach_base.specs.Masks.{has_bit}
use Rattle.mach_base.specs.declared.event.Cause.{Cause}
use Rattle.mach_base.specs.declared.event.Cause.TheVariants.{Unmapped, NoRight, Misaligned, Illegal, BadService}
use Rattle.mach_base.specs.declared.event.Reason.{Reason}
use Rattle.mach_base.specs.declared.event.Reason.TheVariants.{Start, Breakpoint, Compiled, Step, Fault as FaultReason}
use Rattle.atom_mach.specs.Texts.{cause_text, reason_text, numbers_text, harts_in, late_text, entering_text, banner_text, HasByte, BannersAreShort}

-- a text that a short one was appended to
pub grown : (o n text : List ℕ) (k : ℕ) → n ≡ o ++ text → length text ≤ k → length n ≤ length o + k
grown o n text k e le = let sum = ap length e ∙ length-append o text in omega arith

pub byte_digits : (n : ℕ) → n < 256 → length (dec_text n) ≤ 3
byte_digits n lt = length-decimal-le 3 n (omega arith) (omega arith) (omega arith)

pub hart_digits : (n : ℕ) → n < 32 → length (dec_text n) ≤ 2
hart_digits n lt = length-decimal-le 2 n (omega arith) (omega arith) (omega arith)

pub number_digits : (n : ℕ) → n < 2 ^ 64 → length (dec_text n) ≤ 20
number_digits n lt = length-decimal-le 20 n (omega arith) (omega arith) lt

hex_digits : (n value : ℕ) → length (hex_text n value) ≡ n
hex_digits zero value = refl
hex_digits (suc n) value =
    let before = hex_digits n (value / 16) in
    length-append (hex_text n (value / 16)) (digit_char (value % 16) ∷ []) ∙ omega arith

pub address_length : (addr : ℕ) → length (address_text addr) ≡ 18
unfolding address_text
address_length addr = let digits = hex_digits 16 addr in length-append (codes "0x") (hex_text 16 addr) ∙ omega arith

cause_length : (cause : Cause) → length (cause_text cause) ≤ 11
unfolding cause_text
cause_length Unmapped = omega arith
cause_length NoRight = omega arith
cause_length Misaligned = omega arith
cause_length Illegal = omega arith
cause_length BadService = omega arith

-- two texts, one after the other
both : (a b : List ℕ) (m n : ℕ) → length a ≤ m → length b ≤ n → length (a ++ b) ≤ m + n
both a b m n p q = let sum = length-append a b in omega arith

reason_length : (reason : Reason) → HasByte reason → length (reason_text reason) ≤ 36
unfolding reason_text
reason_length Start low = omega arith
reason_length (Breakpoint i) low =
    let text = both (codes "Breakpoint ") (dec_text i) 11 3 (omega arith) (byte_digits i low) in omega arith
reason_length Compiled low = omega arith
reason_length Step low = omega arith
reason_length (FaultReason f) low =
    let addr = address_length f.addr in
    let end = both (codes " ") (address_text f.addr) 1 18 (omega arith) (omega arith) in
    let text = both (codes "Fault ") (cause_text f.cause ++ (codes " " ++ address_text f.addr)) 6 30 (omega arith) (both (cause_text f.cause) (codes " " ++ address_text f.addr) 11 19 (cause_length f.cause) end) in
    omega arith

entering_length : (h : ℕ) (reason : Reason) (pc : ℕ) → h < 32 → HasByte reason → length (entering_text h reason pc) ≤ 95
unfolding entering_text
entering_length h reason pc lt low =
    let addr = address_length pc in
    let end = both (address_text pc) newline 18 1 (omega arith) (omega arith) in
    let at = both (codes " @ ") (address_text pc ++ newline) 3 19 (omega arith) end in
    let why = both (reason_text reason) (codes " @ " ++ (address_text pc ++ newline)) 36 22 (reason_length reason low) at in
    let due = both (codes " due to ") (reason_text reason ++ (codes " @ " ++ (address_text pc ++ newline))) 8 58 (omega arith) why in
    let who = both (dec_text h) (codes " due to " ++ (reason_text reason ++ (codes " @ " ++ (address_text pc ++ newline)))) 3 66 (byte_digits h (omega arith)) due in
    let text = both (codes "Entering kdb on processor ") _ 26 69 (omega arith) who in
    text

-- the numbers of some harts
abbrev AreHarts : List ℕ → Type 0
AreHarts [] = Unit {0}
AreHarts (n ∷ ns) = (n < 32) × AreHarts ns

numbers_length : (ns : List ℕ) → AreHarts ns → length (numbers_text ns) ≤ 3 * length ns
numbers_length [] all = omega arith
numbers_length (n ∷ []) all = let one = hart_digits n all.0 in omega arith
numbers_length (n ∷ k ∷ ns) all =
    let rest = numbers_length (k ∷ ns) all.1 in
    let text = both (dec_text n) (32 ∷ numbers_text (k ∷ ns)) 2 (1 + 3 * length (k ∷ ns)) (hart_digits n all.0) (omega arith) in
    omega arith

range_harts : (mask a n : ℕ) → a + n ≤ 32 → AreHarts (filter (has_bit mask) (range_with_len a n)) × (length (filter (has_bit mask) (range_with_len a n)) ≤ n)
range_harts mask a zero le = (tt, omega arith)
range_harts mask a (suc n) le = by_bit (has_bit mask a) (range_harts mask (a + 1) n (omega arith))
  where
    by_bit : (b : Bool) → AreHarts (filter (has_bit mask) (range_with_len (a + 1) n)) × (length (filter (has_bit mask) (range_with_len (a + 1) n)) ≤ n) →
        AreHarts (cond b (a ∷ filter (has_bit mask) (range_with_len (a + 1) n)) (filter (has_bit mask) (range_with_len (a + 1) n)))
        × (length (cond b (a ∷ filter (has_bit mask) (range_with_len (a + 1) n)) (filter (has_bit mask) (range_with_len (a + 1) n))) ≤ suc n)
    by_bit true rest = let few = rest.1 in ((omega arith, rest.0), omega arith)
    by_bit false rest = let few = rest.1 in (rest.0, omega arith)

late_length : (late : ℕ) → length (late_text late) ≤ 135
unfolding late_text
late_length late = by_late (late == 0)
  where
    by_late : (b : Bool) → length (cond b [] (codes "Timed out waiting for secondary CPUs: " ++ (numbers_text (harts_in late) ++ newline))) ≤ 135
    by_late true = omega arith
    by_late false =
        let harts = range_harts late 0 32 (omega arith) in
        let few = harts.1 in
        let numbers = numbers_length (harts_in late) harts.0 in
        let end = both (numbers_text (harts_in late)) newline 96 1 (omega arith) (omega arith) in
        both (codes "Timed out waiting for secondary CPUs: ") (numbers_text (harts_in late) ++ newline) 38 97 (omega arith) end

pub banners_short : BannersAreShort
unfolding banner_text
banners_short late h reason pc lt low =
    let text = both (late_text late) (entering_text h reason pc) 135 95 (late_length late) (entering_length h reason pc lt low) in omega arith
