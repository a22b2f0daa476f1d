-- To decode and to encode undo each other.
use Rattle.std.proofs.Common.{◌≡◌, ℕ, ◌*◌, ◌%◌, ◌^◌, ◌<◌, Bool, true, false, not, ◌&&◌, ◌||◌, cond, refl, sym, ap, ◌∙◌, arith, subst, ℤ, pos, Some, bit_and, lit≤}
use Rattle.std.specs.Int.{w32, cast_unsigned, from_bool}
use Rattle.std.specs.Option.{option_map}
use Rattle.std.specs.Prelude.{◌==◌}
use Rattle.std.proofs.lemmas.Bool.{and_parts, eq-eqb, eqb-true, lt-ltb, and_from, false≢true}
use Rattle.std.proofs.lemmas.Nat.{and_mask}
use Rattle.rv_table.specs.declared.op.Form.{Form}
use Rattle.rv_table.specs.declared.op.Form.TheVariants.{U, J, I, Fence, B, S, Shift6, Shift5, R, Lr, Amo, Sys}
use Rattle.rv_table.specs.declared.op.Op.{Op}
use Rattle.rv_table.specs.declared.table.Row.{Row}
use Rattle.rv_table.specs.Rows.{row_for, row_of, matches}
use Rattle.rv_table.proofs.Found.{op-row_for, row_of-matches, row_of-Some}
use Rattle.rv_decode.specs.Bits.{bits_at, flag_at, signed, is_unsigned}
use Rattle.rv_decode.specs.Encoding.{moved, immediate_bits, encoded}
use Rattle.rv_decode.specs.Fields.{Fields, i_immediate, s_immediate, b_immediate, u_immediate, j_immediate, immediate, has_rd, has_rs1, has_rs2, has_order, fields_in, fits_immediate, fits_form, decoded}
use Rattle.rv_decode.proofs.Masks.{mask_of, mask-row_for, value-row_for, and_opcode, and_funct3, and_funct6, and_funct7, and_funct5, and_funct5_rs2, and_whole}
use Rattle.rv_decode.proofs.Signed as signs
use Rattle.rv_decode.proofs.Words as words
use Rattle.rv_decode.proofs.Words.{word_of, b_bits, j_bits, s_bits, b_number, j_number, s_number, under_funct3, under_funct6, under_funct7, under_funct5, under_funct5_rs2}

-- the word of a form with this value and these fields
word_in : Form → ℕ → Fields → ℕ
word_in form v f =
    word_of v f.rd f.rs1 f.rs2 (from_bool f.aq) (from_bool f.rl) (immediate_bits form (cast_unsigned w32 f.imm))

-- ---- the fields of a word fit

pub fits-immediate : (form : Form) (w : ℕ) → fits_immediate form (immediate form w) ≡ true
unfolding fits_immediate immediate
fits-immediate U w = and_from _ _ (signs.is_signed-signed 32 (bits_at w 12 20 * 2 ^ 12) refl (omega arith)) (signs.is_multiple-signed_32 (bits_at w 12 20 * 2 ^ 12) (omega arith) (omega arith))
fits-immediate J w = and_from _ _ (signs.is_signed-signed 21 (j_number w) refl (omega arith)) (signs.is_multiple-signed_21 (j_number w) (omega arith) (omega arith))
fits-immediate I w = signs.is_signed-signed 12 (bits_at w 20 12) refl (omega arith)
fits-immediate Fence w = lt-ltb (bits_at w 20 12) (2 ^ 12) (omega arith)
fits-immediate B w = and_from _ _ (signs.is_signed-signed 13 (b_number w) refl (omega arith)) (signs.is_multiple-signed_13 (b_number w) (omega arith) (omega arith))
fits-immediate S w = signs.is_signed-signed 12 (s_number w) refl (omega arith)
fits-immediate Shift6 w = lt-ltb (bits_at w 20 6) (2 ^ 6) (omega arith)
fits-immediate Shift5 w = lt-ltb (bits_at w 20 5) (2 ^ 5) (omega arith)
fits-immediate R w = refl
fits-immediate Lr w = refl
fits-immediate Amo w = refl
fits-immediate Sys w = refl

abbrev pub fits_of : Form → Fields → Bool
fits_of form f = fits_form form f.rd f.rs1 f.rs2 f.imm f.aq f.rl

fits-has : (b : Bool) (x : ℕ) → (b || (cond b x 0 == 0)) ≡ true
fits-has true x = refl
fits-has false x = refl

fits-order : (b x y : Bool) → (b || (not (b && x) && not (b && y))) ≡ true
fits-order true x y = refl
fits-order false x y = refl

pub fits-fields_in : (form : Form) (op : Op) (w : ℕ) → fits_of form (fields_in form op w) ≡ true
unfolding fields_in
fits-fields_in form op w =
    and_from _ _ (fits-has (has_rd form) (bits_at w 7 5)) (and_from _ _ (fits-has (has_rs1 form) (bits_at w 15 5))
    (and_from _ _ (fits-has (has_rs2 form) (bits_at w 20 5)) (and_from _ _ (fits-order (has_order form) (flag_at w 26) (flag_at w 25))
    (fits-immediate form w))))

pub fits-read : (form : Form) (op : Op) (w : ℕ) (f : Fields) → f ≡ fields_in form op w
    → fits_form form f.rd f.rs1 f.rs2 f.imm f.aq f.rl ≡ true
fits-read form op w f e = ap (fits_of form) e ∙ fits-fields_in form op w

-- ---- from a word to its fields and back

-- the value of a form's row that a word matches, with the fields that the word has there, is the word
again : (form : Form) (op : Op) (w v : ℕ) → w < 2 ^ 32 → bit_and w (mask_of form) ≡ v → word_in form v (fields_in form op w) ≡ w
unfolding word_in fields_in immediate immediate_bits has_rd has_rs1 has_rs2 has_order
again U op w v h m =
    let p : ℕ = cast_unsigned w32 (u_immediate w) in
    ap (λ x. word_of x (bits_at w 7 5) 0 0 0 0 (moved p 12 20 12)) (sym m ∙ and_opcode w)
    ∙ words.again_u w p h (signs.pattern-signed 32 (bits_at w 12 20 * 2 ^ 12) 0 refl refl (omega arith))
again J op w v h m =
    let p : ℕ = cast_unsigned w32 (j_immediate w) in
    ap (λ x. word_of x (bits_at w 7 5) 0 0 0 0 (j_bits p)) (sym m ∙ and_opcode w)
    ∙ words.again_j w p h (signs.pattern-signed 21 (j_number w) 2047 refl refl (omega arith))
again I op w v h m =
    let p : ℕ = cast_unsigned w32 (i_immediate w) in
    ap (λ x. word_of x (bits_at w 7 5) (bits_at w 15 5) 0 0 0 (moved p 0 12 20)) (sym m ∙ and_funct3 w)
    ∙ words.again_i w p h (signs.pattern-signed 12 (bits_at w 20 12) 1048575 refl refl (omega arith))
again Fence op w v h m =
    ap (λ x. word_of x (bits_at w 7 5) (bits_at w 15 5) 0 0 0 (moved (bits_at w 20 12) 0 12 20)) (sym m ∙ and_funct3 w)
    ∙ words.again_i w (bits_at w 20 12) h (omega arith)
again B op w v h m =
    let p : ℕ = cast_unsigned w32 (b_immediate w) in
    ap (λ x. word_of x 0 (bits_at w 15 5) (bits_at w 20 5) 0 0 (b_bits p)) (sym m ∙ and_funct3 w)
    ∙ words.again_b w p h (signs.pattern-signed 13 (b_number w) 524287 refl refl (omega arith))
again S op w v h m =
    let p : ℕ = cast_unsigned w32 (s_immediate w) in
    ap (λ x. word_of x 0 (bits_at w 15 5) (bits_at w 20 5) 0 0 (s_bits p)) (sym m ∙ and_funct3 w)
    ∙ words.again_s w p h (signs.pattern-signed 12 (s_number w) 1048575 refl refl (omega arith))
again Shift6 op w v h m =
    ap (λ x. word_of x (bits_at w 7 5) (bits_at w 15 5) 0 0 0 (moved (bits_at w 20 6) 0 6 20)) (sym m ∙ and_funct6 w)
    ∙ words.again_shift6 w h
again Shift5 op w v h m =
    ap (λ x. word_of x (bits_at w 7 5) (bits_at w 15 5) 0 0 0 (moved (bits_at w 20 5) 0 5 20)) (sym m ∙ and_funct7 w)
    ∙ words.again_shift5 w h
again R op w v h m =
    ap (λ x. word_of x (bits_at w 7 5) (bits_at w 15 5) (bits_at w 20 5) 0 0 0) (sym m ∙ and_funct7 w) ∙ words.again_r w h
again Lr op w v h m =
    ap (λ x. word_of x (bits_at w 7 5) (bits_at w 15 5) 0 (from_bool (flag_at w 26)) (from_bool (flag_at w 25)) 0)
    (sym m ∙ and_funct5_rs2 w)
    ∙ ap (λ x. word_of (under_funct5_rs2 w) (bits_at w 7 5) (bits_at w 15 5) 0 x (from_bool (flag_at w 25)) 0)
    (signs.from_bool-flag_at w 26)
    ∙ ap (λ x. word_of (under_funct5_rs2 w) (bits_at w 7 5) (bits_at w 15 5) 0 (bits_at w 26 1) x 0) (signs.from_bool-flag_at w 25)
    ∙ words.again_lr w h
again Amo op w v h m =
    ap (λ x. word_of x (bits_at w 7 5) (bits_at w 15 5) (bits_at w 20 5) (from_bool (flag_at w 26)) (from_bool (flag_at w 25)) 0)
    (sym m ∙ and_funct5 w)
    ∙ ap (λ x. word_of (under_funct5 w) (bits_at w 7 5) (bits_at w 15 5) (bits_at w 20 5) x (from_bool (flag_at w 25)) 0)
    (signs.from_bool-flag_at w 26)
    ∙ ap (λ x. word_of (under_funct5 w) (bits_at w 7 5) (bits_at w 15 5) (bits_at w 20 5) (bits_at w 26 1) x 0)
    (signs.from_bool-flag_at w 25)
    ∙ words.again_amo w h
again Sys op w v h m = let e : v ≡ w = sym m ∙ and_whole w h in omega arith

op-fields_in : (form : Form) (op : Op) (w : ℕ) → (fields_in form op w).op ≡ op
unfolding fields_in
op-fields_in form op w = refl

encoded-is : (f : Fields) → encoded f ≡ word_in (row_for f.op).form (row_for f.op).value f
unfolding encoded word_in
encoded-is f = refl

-- the row of a word gives its mask and value by the operation
pub encoded-decoded : (w : ℕ) (r : Row) → w < 2 ^ 32 → row_of w ≡ Some r → encoded (fields_in r.form r.op w) ≡ w
encoded-decoded w r h e =
    let found = row_of-Some w r e in
    let mask : r.mask ≡ mask_of r.form = ap (λ s. s.mask) found.1 ∙ mask-row_for r.op ∙ ap (λ s. mask_of s.form) (sym found.1) in
    let under : bit_and w (mask_of r.form) ≡ r.value = ap (bit_and w) (sym mask) ∙ eqb-true _ _ found.0 in
    encoded-is (fields_in r.form r.op w)
    ∙ ap (λ o. word_in (row_for o).form (row_for o).value (fields_in r.form r.op w)) (op-fields_in r.form r.op w)
    ∙ ap (λ s. word_in s.form s.value (fields_in r.form r.op w)) (sym found.1)
    ∙ again r.form r.op w r.value h under

pub form-row_of : (w : ℕ) (r : Row) → row_of w ≡ Some r → r.form ≡ (row_for r.op).form
form-row_of w r e = ap (λ s. s.form) (row_of-Some w r e).1

-- ---- from fields to their word and back

-- what a row's value and fields give: a word of 32 bits that matches the row and has these fields
record IsWordOf (form : Form) (v : ℕ) (f : Fields) (w : ℕ) : Type 0 where
  below : w < 2 ^ 32
  under : bit_and w (mask_of form) ≡ v
  fields : fields_in form f.op w ≡ f

-- records with equal fields
make : Op → ℕ → ℕ → ℕ → ℤ → Bool → Bool → Fields
make op rd rs1 rs2 imm aq rl = record { op = op; rd = rd; rs1 = rs1; rs2 = rs2; imm = imm; aq = aq; rl = rl }

made : (f : Fields) → f ≡ make f.op f.rd f.rs1 f.rs2 f.imm f.aq f.rl
unfolding make
made f = refl

pub same_fields : (f g : Fields) → f.op ≡ g.op → f.rd ≡ g.rd → f.rs1 ≡ g.rs1 → f.rs2 ≡ g.rs2 → f.imm ≡ g.imm → f.aq ≡ g.aq → f.rl ≡ g.rl → f ≡ g
same_fields f g a b c d e h i = let k = made f in let l = made g in cc

-- what a form's fit says, part by part
record Fits (form : Form) (f : Fields) : Type 0 where
  rd : (has_rd form || (f.rd == 0)) ≡ true
  rs1 : (has_rs1 form || (f.rs1 == 0)) ≡ true
  rs2 : (has_rs2 form || (f.rs2 == 0)) ≡ true
  order : (has_order form || (not f.aq && not f.rl)) ≡ true
  imm : fits_immediate form f.imm ≡ true

Fits-fits_of : (form : Form) (f : Fields) → fits_of form f ≡ true → Fits form f
Fits-fits_of form f h =
    let a = and_parts _ _ h in let b = and_parts _ _ a.1 in let c = and_parts _ _ b.1 in let d = and_parts _ _ c.1 in
    record { rd = a.0; rs1 = b.0; rs2 = c.0; order = d.0; imm = d.1 }

-- the fields that the form has; one that it lacks is 0 or false
unfoldable held : Form → Fields → Fields
held form f =
    make f.op (cond (has_rd form) f.rd 0) (cond (has_rs1 form) f.rs1 0) (cond (has_rs2 form) f.rs2 0) f.imm
    (has_order form && f.aq) (has_order form && f.rl)

register-held : (has : Bool) (x : ℕ) → (has || (x == 0)) ≡ true → x ≡ cond has x 0
register-held true x h = refl
register-held false x h = eqb-true x 0 h

order-held : (has x y : Bool) → (has || (not x && not y)) ≡ true → (x ≡ (has && x)) × (y ≡ (has && y))
order-held true x y h = (refl, refl)
order-held false false false h = (refl, refl)
order-held false true y h = absurd (false≢true h)
order-held false false true h = absurd (false≢true h)

fields-held : (form : Form) (f : Fields) → Fits form f → f ≡ held form f
unfolding held make
fields-held form f fit =
    let order = order-held (has_order form) f.aq f.rl fit.order in
    same_fields f (held form f) refl (register-held (has_rd form) f.rd fit.rd) (register-held (has_rs1 form) f.rs1 fit.rs1)
    (register-held (has_rs2 form) f.rs2 fit.rs2) refl order.0 order.1

-- an immediate of no bits is 0
no_immediate : (imm : ℤ) → is_unsigned 0 imm ≡ true → pos 0 ≡ imm
no_immediate imm fit =
    let x = signs.unsigned_value 0 imm fit in
    let none : 0 ≡ x.0 = omega arith in
    ap pos none ∙ sym x.1

-- a bit that a flag was written to is read as the flag
flag_again : (flag : Bool) (bit : ℕ) → bit ≡ from_bool flag → (bit == 1) ≡ flag
flag_again flag bit is = ap (λ b. b == 1) is ∙ signs.flag-from_bool flag

-- a value that its form's mask leaves whole, with the fields that the form has
held-word : (form : Form) (v : ℕ) (f : Fields) → bit_and v (mask_of form) ≡ v → f.rd < 32 → f.rs1 < 32 → f.rs2 < 32
    → fits_immediate form f.imm ≡ true → IsWordOf form v (held form f) (word_in form v (held form f))
unfolding word_in fields_in immediate immediate_bits has_rd has_rs1 has_rs2 has_order fits_immediate held make
held-word U v f h r s t fit =
    let w : ℕ = word_in U v (held U f) in
    let range = and_parts _ _ fit in
    let few = signs.pattern-multiple_4096 f.imm (signs.is_signed_32 32 f.imm (lit≤ tt) range.0) range.1 in
    let parts = words.back_u v f.rd (cast_unsigned w32 f.imm) w (sym h ∙ and_opcode v) r (signs.pattern-lt f.imm range.0) few refl in
    let imm = ap (signed 32) parts.3 ∙ signs.signed-pattern 32 0 f.imm refl refl range.0 in
    record { below = parts.0; under = and_opcode w ∙ parts.1; fields = same_fields (fields_in U f.op w) (held U f) refl parts.2 refl refl imm refl refl }
held-word J v f h r s t fit =
    let w : ℕ = word_in J v (held J f) in
    let range = and_parts _ _ fit in
    let even = signs.pattern-multiple_2 f.imm (signs.is_signed_32 21 f.imm (lit≤ tt) range.0) range.1 in
    let parts = words.back_j v f.rd (cast_unsigned w32 f.imm) w (sym h ∙ and_opcode v) r even refl in
    let imm = ap (signed 21) parts.3 ∙ signs.signed-pattern 21 2047 f.imm refl refl range.0 in
    record { below = parts.0; under = and_opcode w ∙ parts.1; fields = same_fields (fields_in J f.op w) (held J f) refl parts.2 refl refl imm refl refl }
held-word I v f h r s t fit =
    let w : ℕ = word_in I v (held I f) in
    let parts = words.back_i v f.rd f.rs1 (cast_unsigned w32 f.imm) w (sym h ∙ and_funct3 v) r s refl in
    let imm = ap (signed 12) parts.4 ∙ signs.signed-pattern 12 1048575 f.imm refl refl fit in
    record { below = parts.0; under = and_funct3 w ∙ parts.1; fields = same_fields (fields_in I f.op w) (held I f) refl parts.2 parts.3 refl imm refl refl }
held-word Fence v f h r s t fit =
    let w : ℕ = word_in Fence v (held Fence f) in
    let x = signs.unsigned_value 12 f.imm fit in
    let parts = words.back_i v f.rd f.rs1 x.0 w (sym h ∙ and_funct3 v) r s (ap (λ z. word_of v f.rd f.rs1 0 0 0 (moved (cast_unsigned w32 z) 0 12 20)) x.1) in
    let imm = ap pos (parts.4 ∙ signs.mod_small x.0 12 x.2) ∙ sym x.1 in
    record { below = parts.0; under = and_funct3 w ∙ parts.1; fields = same_fields (fields_in Fence f.op w) (held Fence f) refl parts.2 parts.3 refl imm refl refl }
held-word B v f h r s t fit =
    let w : ℕ = word_in B v (held B f) in
    let range = and_parts _ _ fit in
    let even = signs.pattern-multiple_2 f.imm (signs.is_signed_32 13 f.imm (lit≤ tt) range.0) range.1 in
    let parts = words.back_b v f.rs1 f.rs2 (cast_unsigned w32 f.imm) w (sym h ∙ and_funct3 v) s t even refl in
    let imm = ap (signed 13) parts.4 ∙ signs.signed-pattern 13 524287 f.imm refl refl range.0 in
    record { below = parts.0; under = and_funct3 w ∙ parts.1; fields = same_fields (fields_in B f.op w) (held B f) refl refl parts.2 parts.3 imm refl refl }
held-word S v f h r s t fit =
    let w : ℕ = word_in S v (held S f) in
    let parts = words.back_s v f.rs1 f.rs2 (cast_unsigned w32 f.imm) w (sym h ∙ and_funct3 v) s t refl in
    let imm = ap (signed 12) parts.4 ∙ signs.signed-pattern 12 1048575 f.imm refl refl fit in
    record { below = parts.0; under = and_funct3 w ∙ parts.1; fields = same_fields (fields_in S f.op w) (held S f) refl refl parts.2 parts.3 imm refl refl }
held-word Shift6 v f h r s t fit =
    let w : ℕ = word_in Shift6 v (held Shift6 f) in
    let x = signs.unsigned_value 6 f.imm fit in
    let parts = words.back_shift6 v f.rd f.rs1 x.0 w (sym h ∙ and_funct6 v) r s x.2 (ap (λ z. word_of v f.rd f.rs1 0 0 0 (moved (cast_unsigned w32 z) 0 6 20)) x.1) in
    record { below = parts.0; under = and_funct6 w ∙ parts.1; fields = same_fields (fields_in Shift6 f.op w) (held Shift6 f) refl parts.2 parts.3 refl (ap pos parts.4 ∙ sym x.1) refl refl }
held-word Shift5 v f h r s t fit =
    let w : ℕ = word_in Shift5 v (held Shift5 f) in
    let x = signs.unsigned_value 5 f.imm fit in
    let parts = words.back_shift5 v f.rd f.rs1 x.0 w (sym h ∙ and_funct7 v) r s x.2 (ap (λ z. word_of v f.rd f.rs1 0 0 0 (moved (cast_unsigned w32 z) 0 5 20)) x.1) in
    record { below = parts.0; under = and_funct7 w ∙ parts.1; fields = same_fields (fields_in Shift5 f.op w) (held Shift5 f) refl parts.2 parts.3 refl (ap pos parts.4 ∙ sym x.1) refl refl }
held-word R v f h r s t fit =
    let w : ℕ = word_in R v (held R f) in
    let parts = words.back_r v f.rd f.rs1 f.rs2 w (sym h ∙ and_funct7 v) r s t refl in
    record { below = parts.0; under = and_funct7 w ∙ parts.1; fields = same_fields (fields_in R f.op w) (held R f) refl parts.2 parts.3 parts.4 (no_immediate f.imm fit) refl refl }
held-word Lr v f h r s t fit =
    let w : ℕ = word_in Lr v (held Lr f) in
    let parts = words.back_lr v f.rd f.rs1 (from_bool f.aq) (from_bool f.rl) w (sym h ∙ and_funct5_rs2 v) r s (signs.from_bool-lt f.aq) (signs.from_bool-lt f.rl) refl in
    record { below = parts.0; under = and_funct5_rs2 w ∙ parts.1; fields = same_fields (fields_in Lr f.op w) (held Lr f) refl parts.2 parts.3 refl (no_immediate f.imm fit) (flag_again f.aq _ parts.4) (flag_again f.rl _ parts.5) }
held-word Amo v f h r s t fit =
    let w : ℕ = word_in Amo v (held Amo f) in
    let parts = words.back_amo v f.rd f.rs1 f.rs2 (from_bool f.aq) (from_bool f.rl) w (sym h ∙ and_funct5 v) r s t (signs.from_bool-lt f.aq) (signs.from_bool-lt f.rl) refl in
    record { below = parts.0; under = and_funct5 w ∙ parts.1; fields = same_fields (fields_in Amo f.op w) (held Amo f) refl parts.2 parts.3 parts.4 (no_immediate f.imm fit) (flag_again f.aq _ parts.5) (flag_again f.rl _ parts.6) }
held-word Sys v f h r s t fit =
    let w : ℕ = word_in Sys v (held Sys f) in
    let hv : v ≡ v % 2 ^ 32 = sym h ∙ and_mask v 32 in
    let alone : w ≡ word_of v 0 0 0 0 0 0 = refl in
    let same : w ≡ v = omega arith in
    record { below = omega arith; under = and_whole w (omega arith) ∙ same; fields = same_fields (fields_in Sys f.op w) (held Sys f) refl refl refl refl (no_immediate f.imm fit) refl refl }

-- so it is with fields that fit the form
back : (form : Form) (v : ℕ) (f : Fields) → bit_and v (mask_of form) ≡ v → f.rd < 32 → f.rs1 < 32 → f.rs2 < 32 → Fits form f
    → IsWordOf form v f (word_in form v f)
back form v f h r s t fit =
    subst (λ g. IsWordOf form v g (word_in form v g)) (sym (fields-held form f fit)) (held-word form v f h r s t fit.imm)

-- an instruction's word has 32 bits and is decoded as the instruction
pub decoded-encoded : (f : Fields) → f.rd < 32 → f.rs1 < 32 → f.rs2 < 32 → fits_of (row_for f.op).form f ≡ true
    → (encoded f < 2 ^ 32) × (decoded (encoded f) ≡ Some f)
unfolding decoded
decoded-encoded f r s t fit =
    let v : ℕ = (row_for f.op).value in
    let form : Form = (row_for f.op).form in
    let is = back form v f (ap (bit_and v) (sym (mask-row_for f.op)) ∙ value-row_for f.op) r s t (Fits-fits_of form f fit) in
    let there : matches (word_in form v f) (row_for f.op) ≡ true =
    eq-eqb _ _ (ap (bit_and (word_in form v f)) (mask-row_for f.op) ∙ is.under) in
    let found : decoded (word_in form v f) ≡ Some (fields_in form (row_for f.op).op (word_in form v f)) =
    ap (option_map (λ x. fields_in x.form x.op (word_in form v f))) (row_of-matches (word_in form v f) f.op there) in
    let whole : decoded (word_in form v f) ≡ Some f =
    found ∙ ap (λ o. Some (fields_in form o (word_in form v f))) (op-row_for f.op) ∙ ap Some is.fields in
    (subst (λ w. w < 2 ^ 32) (sym (encoded-is f)) is.below, ap decoded (encoded-is f) ∙ whole)
