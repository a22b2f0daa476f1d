-- What is written of an instruction's operands is read as them.
use Rattle.std.proofs.Common.{◌≡◌, ℕ, suc, ◌-◌, ◌*◌, ◌%◌, ◌^◌, ◌<◌, ◌≤◌, ◌==◌, Bool, true, false, not, ◌&&◌, ◌||◌, cond, List, [], ◌∷◌, ◌++◌, codes, take, drop, ℤ, pos, negsuc, neg_ℤ, refl, sym, ap, ◌∙◌, arith, lit≤}
use Rattle.std.proofs.lemmas.Bool.{and_parts, lt-ltb, ne_eqb, eqb-true, ltb-true, false≢true}
use Rattle.std.proofs.lemmas.Fmt.{decimal_is_IsNumeral, digits_is_IsNumeral}
use Rattle.std.specs.Char.{digit_value}
use Rattle.std.specs.Fmt.{digits, signed_decimal}
use Rattle.std.specs.Int.{w32, cast_unsigned}
use Rattle.std.specs.Str.Parse.{AllDigits}
use Rattle.mach_base.specs.Number.{dec_text}
use Rattle.hart_ctx.specs.RegisterName.{name_of}
use Rattle.hart_ctx.specs.declared.register_name.RegName.TheVariants.{X}
use Rattle.hart_ctx.proofs.Names.{below_all, register_named-name}
use Rattle.rv_table.specs.declared.op.Form.{Form}
use Rattle.rv_table.specs.declared.op.Form.TheVariants.{U, J, I, Fence, B, S, Shift6, Shift5, R, Lr, Amo, Sys}
use Rattle.rv_decode.specs.Bits.{bits_at, signed, is_signed, is_unsigned, is_multiple}
use Rattle.rv_decode.specs.Fields.{Fields, has_rd, has_rs1, has_rs2, fits_immediate, fits_form}
use Rattle.rv_decode.proofs.Signed as signs
use Rattle.rv_asm.specs.declared.loose.Operands.{Operands}
use Rattle.rv_asm.specs.declared.parts.Part.{Part}
use Rattle.rv_asm.specs.declared.parts.Part.TheVariants.{Rd, Rs1, Rs2, Imm, Upper, Comma, Open, Close}
use Rattle.rv_asm.specs.Parts.{parts_in}
use Rattle.rv_asm.specs.Spelling.{upper_bits, part_text, parts_text}
use Rattle.rv_asm.specs.Meant.{word_len, value_of, number_in, register_meant, number_meant, upper_meant, with_part, part_len, operands_meant, no_operands}
use Rattle.rv_asm.proofs.Digits.{value_of-decimal, value_of-hex}
use Rattle.rv_asm.proofs.Words.{is_plain, is_stopped, take_word, drop_word, plain_digits}

-- ---- each part is a word, and is read as it was

-- the part is a word, and no mark
abbrev pub is_word : Part → Bool
is_word Comma = false
is_word Open = false
is_word Close = false
is_word _ = true

-- the field that a part writes is in its range
abbrev pub Sound : Fields → Part → Type 0
Sound f Rd = f.rd < 32
Sound f Rs1 = f.rs1 < 32
Sound f Rs2 = f.rs2 < 32
Sound f Imm = is_signed 21 f.imm ≡ true
Sound f Upper = (is_signed 32 f.imm ≡ true) × (is_multiple 4096 f.imm ≡ true)
Sound f _ = Unit {0}

plain_register : (n : ℕ) → n < 32 → is_plain (name_of (X n)) ≡ true
unfolding name_of
plain_register n lt = below_all (λ k. is_plain (name_of (X k))) 32 n lt refl

plain_decimal : (n : ℕ) → n < 2 ^ 32 → is_plain (dec_text n) ≡ true
plain_decimal n small = plain_digits 10 (dec_text n) (omega arith) (decimal_is_IsNumeral n (omega arith)).0.1

plain_signed : (z : ℤ) → is_signed 21 z ≡ true → is_plain (signed_decimal z) ≡ true
plain_signed (pos n) h = plain_decimal n (omega (arith, ltb-true n (2 ^ 20) h))
plain_signed (negsuc n) h = plain_decimal (suc n) (omega (arith, ltb-true n (2 ^ 20) h))

upper_small : (f : Fields) → upper_bits f < 2 ^ 20
upper_small f = omega arith

plain_upper : (f : Fields) → is_plain (codes "0x" ++ digits 16 false (upper_bits f)) ≡ true
plain_upper f = plain_digits 16 (digits 16 false (upper_bits f)) (omega arith) (digits_is_IsNumeral 16 false (omega arith) (omega arith) (upper_bits f) (omega (arith, upper_small f))).0.1

plain_part : (f : Fields) (part : Part) → is_word part ≡ true → Sound f part → is_plain (part_text f part) ≡ true
unfolding part_text
plain_part f Rd is sound = plain_register f.rd sound
plain_part f Rs1 is sound = plain_register f.rs1 sound
plain_part f Rs2 is sound = plain_register f.rs2 sound
plain_part f Imm is sound = plain_signed f.imm sound
plain_part f Upper is sound = plain_upper f
plain_part f Comma is sound = absurd (false≢true is)
plain_part f Open is sound = absurd (false≢true is)
plain_part f Close is sound = absurd (false≢true is)

register_meant-name : (n : ℕ) → n < 32 → register_meant (name_of (X n)) ≡ n
register_meant-name n lt = ap number_in (register_named-name (X n) lt)

number_meant-digits : (ds : List ℕ) → AllDigits 10 ds → number_meant ds ≡ pos (value_of 10 ds % 2 ^ 31)
unfolding number_meant value_of
number_meant-digits [] all = refl
number_meant-digits (d ∷ ds) all =
    ap (λ t. cond t (neg_ℤ (pos (value_of 10 ds % 2 ^ 31))) (pos (value_of 10 (d ∷ ds) % 2 ^ 31))) (ne_eqb d 45 (λ e. omega (arith, ap digit_value e, all.0)))

number_meant-negative : (ds : List ℕ) (n : ℕ) → value_of 10 ds % 2 ^ 31 ≡ suc n → number_meant (45 ∷ ds) ≡ negsuc n
unfolding number_meant
number_meant-negative ds n e = ap (λ m. neg_ℤ (pos m)) e

number_meant-signed : (z : ℤ) → is_signed 21 z ≡ true → number_meant (signed_decimal z) ≡ z
number_meant-signed (pos n) h =
    let small = ltb-true n (2 ^ 20) h in
    number_meant-digits (dec_text n) (decimal_is_IsNumeral n (omega arith)).0.1 ∙ ap pos (omega (arith, value_of-decimal n (omega arith), small))
number_meant-signed (negsuc n) h =
    let small = ltb-true n (2 ^ 20) h in
    number_meant-negative (dec_text (suc n)) n (omega (arith, value_of-decimal (suc n) (omega arith), small))

upper_meant-digits : (ds : List ℕ) (n : ℕ) → n < 2 ^ 20 → value_of 16 ds ≡ n → upper_meant (codes "0x" ++ ds) ≡ signed 32 (n * 2 ^ 12)
unfolding upper_meant
upper_meant-digits ds n small e = let same : value_of 16 ds % 2 ^ 20 ≡ n = omega arith in ap (λ v. signed 32 (v * 2 ^ 12)) same

signed-upper : (z : ℤ) → is_signed 32 z ≡ true → is_multiple 4096 z ≡ true → signed 32 (bits_at (cast_unsigned w32 z) 12 20 * 2 ^ 12) ≡ z
signed-upper z s m =
    let low = signs.pattern-multiple_4096 z s m in
    let small = signs.pattern-lt z s in
    let p : ℕ = cast_unsigned w32 z in
    let same : bits_at p 12 20 * 2 ^ 12 ≡ p % 2 ^ 32 = omega arith in
    ap (signed 32) same ∙ signs.signed-pattern 32 0 z refl refl s

upper_meant-text : (f : Fields) → is_signed 32 f.imm ≡ true → is_multiple 4096 f.imm ≡ true → upper_meant (codes "0x" ++ digits 16 false (upper_bits f)) ≡ f.imm
upper_meant-text f s m =
    upper_meant-digits (digits 16 false (upper_bits f)) (upper_bits f) (upper_small f) (value_of-hex (upper_bits f) (omega (arith, upper_small f))) ∙ signed-upper f.imm s m

-- the operands with one field more of these
abbrev pub put : Fields → Part → Operands → Operands
put f Rd o = record o { rd = f.rd }
put f Rs1 o = record o { rs1 = f.rs1 }
put f Rs2 o = record o { rs2 = f.rs2 }
put f Imm o = record o { imm = f.imm }
put f Upper o = record o { imm = f.imm }
put f _ o = o

read_part : (f : Fields) (part : Part) (o : Operands) → Sound f part → with_part part (part_text f part) o ≡ put f part o
unfolding with_part part_text
read_part f Rd o sound = ap (λ n. record o { rd = n }) (register_meant-name f.rd sound)
read_part f Rs1 o sound = ap (λ n. record o { rs1 = n }) (register_meant-name f.rs1 sound)
read_part f Rs2 o sound = ap (λ n. record o { rs2 = n }) (register_meant-name f.rs2 sound)
read_part f Imm o sound = ap (λ n. record o { imm = n }) (number_meant-signed f.imm sound)
read_part f Upper o sound = ap (λ n. record o { imm = n }) (upper_meant-text f sound.0 sound.1)
read_part f Comma o sound = refl
read_part f Open o sound = refl
read_part f Close o sound = refl

-- ---- the parts one after the other

-- a mark comes next, or nothing
abbrev pub is_marked : List Part → Bool
is_marked [] = true
is_marked (part ∷ parts) = not (is_word part)

-- after each word there is a mark, or nothing
abbrev pub alternates : List Part → Bool
alternates [] = true
alternates (part ∷ parts) = (not (is_word part) || is_marked parts) && alternates parts

abbrev pub AllSound : Fields → List Part → Type 0
AllSound f [] = Unit {0}
AllSound f (part ∷ parts) = Sound f part × AllSound f parts

abbrev pub filled : Fields → List Part → Operands → Operands
filled f [] o = o
filled f (part ∷ parts) o = filled f parts (put f part o)

stopped : (f : Fields) (parts : List Part) → is_marked parts ≡ true → is_stopped (parts_text f parts) ≡ true
unfolding part_text
stopped f [] is = refl
stopped f (Comma ∷ parts) is = refl
stopped f (Open ∷ parts) is = refl
stopped f (Close ∷ parts) is = refl
stopped f (Rd ∷ parts) is = absurd (false≢true is)
stopped f (Rs1 ∷ parts) is = absurd (false≢true is)
stopped f (Rs2 ∷ parts) is = absurd (false≢true is)
stopped f (Imm ∷ parts) is = absurd (false≢true is)
stopped f (Upper ∷ parts) is = absurd (false≢true is)

-- a part is cut off the text of the parts
abbrev IsCut : Fields → Part → List Part → Type 0
IsCut f part parts =
    (take (part_len part (part_text f part ++ parts_text f parts)) (part_text f part ++ parts_text f parts) ≡ part_text f part)
    × (drop (part_len part (part_text f part ++ parts_text f parts)) (part_text f part ++ parts_text f parts) ≡ parts_text f parts)

cut_word : (f : Fields) (part : Part) (parts : List Part) → part_len part (part_text f part ++ parts_text f parts) ≡ word_len (part_text f part ++ parts_text f parts)
    → is_word part ≡ true → is_marked parts ≡ true → Sound f part → IsCut f part parts
cut_word f part parts len is marked sound =
    let text = part_text f part ++ parts_text f parts in
    let plain = plain_part f part is sound in
    let stop = stopped f parts marked in
    (ap (λ n. take n text) len ∙ take_word (part_text f part) (parts_text f parts) plain stop, ap (λ n. drop n text) len ∙ drop_word (part_text f part) (parts_text f parts) plain stop)

cut_part : (f : Fields) (part : Part) (parts : List Part) → (not (is_word part) || is_marked parts) ≡ true → Sound f part → IsCut f part parts
unfolding part_len part_text
cut_part f Rd parts marked sound = cut_word f Rd parts refl refl marked sound
cut_part f Rs1 parts marked sound = cut_word f Rs1 parts refl refl marked sound
cut_part f Rs2 parts marked sound = cut_word f Rs2 parts refl refl marked sound
cut_part f Imm parts marked sound = cut_word f Imm parts refl refl marked sound
cut_part f Upper parts marked sound = cut_word f Upper parts refl refl marked sound
cut_part f Comma parts marked sound = (refl, refl)
cut_part f Open parts marked sound = (refl, refl)
cut_part f Close parts marked sound = (refl, refl)

pub read_parts : (f : Fields) (parts : List Part) (o : Operands) → alternates parts ≡ true → AllSound f parts → operands_meant parts (parts_text f parts) o ≡ filled f parts o
read_parts f [] o alt sound = refl
read_parts f (part ∷ parts) o alt sound =
    let both = and_parts _ _ alt in
    let cut = cut_part f part parts both.0 sound.0 in
    let text = part_text f part ++ parts_text f parts in
    ap (λ t. operands_meant parts t (with_part part (take (part_len part text) text) o)) cut.1
    ∙ ap (λ t. operands_meant parts (parts_text f parts) (with_part part t o)) cut.0
    ∙ ap (operands_meant parts (parts_text f parts)) (read_part f part o sound.0)
    ∙ read_parts f parts (put f part o) both.1 sound.1

-- ---- the forms

-- fields of an instruction: registers, and what the form has
pub record Good (form : Form) (f : Fields) : Type 0 where
  pub rd : f.rd < 32
  pub rs1 : f.rs1 < 32
  pub rs2 : f.rs2 < 32
  pub no_rd : (has_rd form || (f.rd == 0)) ≡ true
  pub no_rs1 : (has_rs1 form || (f.rs1 == 0)) ≡ true
  pub no_rs2 : (has_rs2 form || (f.rs2 == 0)) ≡ true
  pub imm : fits_immediate form f.imm ≡ true

pub good : (form : Form) (f : Fields) → f.rd < 32 → f.rs1 < 32 → f.rs2 < 32 → fits_form form f.rd f.rs1 f.rs2 f.imm f.aq f.rl ≡ true → Good form f
good form f r s t h =
    let a = and_parts _ _ h in let b = and_parts _ _ a.1 in let c = and_parts _ _ b.1 in let d = and_parts _ _ c.1 in
    record { rd = r; rs1 = s; rs2 = t; no_rd = a.0; no_rs1 = b.0; no_rs2 = c.0; imm = d.1 }

pub alternates-parts_in : (form : Form) (based : Bool) → alternates (parts_in form based) ≡ true
unfolding parts_in
alternates-parts_in I true = refl
alternates-parts_in I false = refl
alternates-parts_in U based = refl
alternates-parts_in J based = refl
alternates-parts_in Fence based = refl
alternates-parts_in B based = refl
alternates-parts_in S based = refl
alternates-parts_in Shift6 based = refl
alternates-parts_in Shift5 based = refl
alternates-parts_in R based = refl
alternates-parts_in Lr based = refl
alternates-parts_in Amo based = refl
alternates-parts_in Sys based = refl

-- a narrower number is one of 21 bits
signed_wider : (n : ℕ) (z : ℤ) → 2 ^ (n - 1) ≤ 2 ^ 20 → is_signed n z ≡ true → is_signed 21 z ≡ true
signed_wider n (pos v) l h = lt-ltb _ _ (omega (arith, ltb-true v (2 ^ (n - 1)) h))
signed_wider n (negsuc v) l h = lt-ltb _ _ (omega (arith, ltb-true v (2 ^ (n - 1)) h))

unsigned_wider : (n : ℕ) (z : ℤ) → 2 ^ n ≤ 2 ^ 20 → is_unsigned n z ≡ true → is_signed 21 z ≡ true
unsigned_wider n (pos v) l h = lt-ltb _ _ (omega (arith, ltb-true v (2 ^ n) h))
unsigned_wider n (negsuc v) l h = absurd (omega (arith, ltb-true v 0 h))

pub sound-parts_in : (form : Form) (based : Bool) (f : Fields) → Good form f → AllSound f (parts_in form based)
unfolding parts_in fits_immediate
sound-parts_in U based f g = (g.rd, (tt, (and_parts _ _ g.imm, tt)))
sound-parts_in J based f g = (g.rd, (tt, ((and_parts _ _ g.imm).0, tt)))
sound-parts_in I true f g = (g.rd, (tt, (signed_wider 12 f.imm (lit≤ tt) g.imm, (tt, (g.rs1, (tt, tt))))))
sound-parts_in I false f g = (g.rd, (tt, (g.rs1, (tt, (signed_wider 12 f.imm (lit≤ tt) g.imm, tt)))))
sound-parts_in Fence based f g = (g.rd, (tt, (g.rs1, (tt, (unsigned_wider 12 f.imm (lit≤ tt) g.imm, tt)))))
sound-parts_in B based f g = (g.rs1, (tt, (g.rs2, (tt, (signed_wider 13 f.imm (lit≤ tt) (and_parts _ _ g.imm).0, tt)))))
sound-parts_in S based f g = (g.rs2, (tt, (signed_wider 12 f.imm (lit≤ tt) g.imm, (tt, (g.rs1, (tt, tt))))))
sound-parts_in Shift6 based f g = (g.rd, (tt, (g.rs1, (tt, (unsigned_wider 6 f.imm (lit≤ tt) g.imm, tt)))))
sound-parts_in Shift5 based f g = (g.rd, (tt, (g.rs1, (tt, (unsigned_wider 5 f.imm (lit≤ tt) g.imm, tt)))))
sound-parts_in R based f g = (g.rd, (tt, (g.rs1, (tt, (g.rs2, tt)))))
sound-parts_in Lr based f g = (g.rd, (tt, (tt, (g.rs1, (tt, tt)))))
sound-parts_in Amo based f g = (g.rd, (tt, (g.rs2, (tt, (tt, (g.rs1, (tt, tt)))))))
sound-parts_in Sys based f g = tt

make : ℕ → ℕ → ℕ → ℤ → Operands
make rd rs1 rs2 imm = record { rd = rd; rs1 = rs1; rs2 = rs2; imm = imm }

-- the operands of an instruction
abbrev pub operands_of : Fields → Operands
operands_of f = record { rd = f.rd; rs1 = f.rs1; rs2 = f.rs2; imm = f.imm }

same : (o : Operands) (f : Fields) → o.rd ≡ f.rd → o.rs1 ≡ f.rs1 → o.rs2 ≡ f.rs2 → o.imm ≡ f.imm → o ≡ operands_of f
unfolding make
same o f a b c d =
    let left : o ≡ make o.rd o.rs1 o.rs2 o.imm = refl in
    let right : operands_of f ≡ make f.rd f.rs1 f.rs2 f.imm = refl in
    cc

zero_is : (n : ℕ) → (false || (n == 0)) ≡ true → 0 ≡ n
zero_is n h = sym (eqb-true n 0 h)

no_immediate : (z : ℤ) → is_unsigned 0 z ≡ true → pos 0 ≡ z
no_immediate z h = let v = signs.unsigned_value 0 z h in let none : 0 ≡ v.0 = omega (arith, v.2) in ap pos none ∙ sym v.1

-- a form's parts give all fields that it has, and the others are 0
pub filled-parts_in : (form : Form) (based : Bool) (f : Fields) → Good form f → filled f (parts_in form based) no_operands ≡ operands_of f
unfolding parts_in fits_immediate has_rd has_rs1 has_rs2
filled-parts_in U based f g = same _ f refl (zero_is f.rs1 g.no_rs1) (zero_is f.rs2 g.no_rs2) refl
filled-parts_in J based f g = same _ f refl (zero_is f.rs1 g.no_rs1) (zero_is f.rs2 g.no_rs2) refl
filled-parts_in I true f g = same _ f refl refl (zero_is f.rs2 g.no_rs2) refl
filled-parts_in I false f g = same _ f refl refl (zero_is f.rs2 g.no_rs2) refl
filled-parts_in Fence based f g = same _ f refl refl (zero_is f.rs2 g.no_rs2) refl
filled-parts_in B based f g = same _ f (zero_is f.rd g.no_rd) refl refl refl
filled-parts_in S based f g = same _ f (zero_is f.rd g.no_rd) refl refl refl
filled-parts_in Shift6 based f g = same _ f refl refl (zero_is f.rs2 g.no_rs2) refl
filled-parts_in Shift5 based f g = same _ f refl refl (zero_is f.rs2 g.no_rs2) refl
filled-parts_in R based f g = same _ f refl refl refl (no_immediate f.imm g.imm)
filled-parts_in Lr based f g = same _ f refl refl (zero_is f.rs2 g.no_rs2) (no_immediate f.imm g.imm)
filled-parts_in Amo based f g = same _ f refl refl refl (no_immediate f.imm g.imm)
filled-parts_in Sys based f g = same _ f (zero_is f.rd g.no_rd) (zero_is f.rs1 g.no_rs1) (zero_is f.rs2 g.no_rs2) (no_immediate f.imm g.imm)
