-- The word whose spelling a line is.
use Rattle.std.proofs.Common.{◌≡◌, ℕ, ◌^◌, ◌<◌, Bool, true, false, cond, ◌&&◌, nat_lt, List, ◌++◌, Option, Some, None, refl, ap, subst, ◌∙◌}
use Rattle.std.proofs.lemmas.Bool.{lt-ltb, ltb-true}
use Rattle.std.proofs.lemmas.Slice.Eq.{bytes_eq-Decides}
use Rattle.std.specs.Option.{option_or}
use Rattle.std.specs.Str.{bytes_eq}
use Rattle.rv_asm.specs.Meant.{word_meant}
use Rattle.rv_asm.specs.Spelling.{insn_text}
use Rattle.rv_asm.proofs.Inverse.{word_meant-insn_text}
use Rattle.rv_decode.specs.Fields.{decoded}
use Rattle.asm_text.specs.declared.labels.Given.{Given}
use Rattle.asm_text.specs.Labels.{Labels, given}
use Rattle.asm_text.specs.Instructions.{distance_text, goes, if_goes, if_spelled, last_split, word_at, word_of, word_towards, word_with_name}

-- the spelling of a word means it
pub word_of-insn_text : (line : List ℕ) (word : ℕ) → word < 2 ^ 32 → line ≡ insn_text word → word_of line ≡ Some word
unfolding word_of
word_of-insn_text line word small is =
    let same : bytes_eq line (insn_text word) ≡ true = (bytes_eq-Decides line (insn_text word)).1 is in
    let fits : nat_lt word (2 ^ 32) ≡ true = lt-ltb word (2 ^ 32) small in
    ap (if_spelled line) (ap word_meant is ∙ word_meant-insn_text word small)
    ∙ ap (λ t. cond (t && bytes_eq line (insn_text word)) (Some word) None) fits
    ∙ ap (λ t. cond t (Some word) None) same

-- what is known of a line that means a word
pub record IsSpelled (line : List ℕ) (word : ℕ) : Type 0 where
  pub spelling : line ≡ insn_text word
  pub fits : word < 2 ^ 32

spelled_by : (line : List ℕ) (word w : ℕ) (t u : Bool) → nat_lt w (2 ^ 32) ≡ t → bytes_eq line (insn_text w) ≡ u → cond (t && u) (Some w) None ≡ Some word → IsSpelled line word
spelled_by line word w true true fits same is =
    let it : w ≡ word = some_same w word is in
    record { spelling = (bytes_eq-Decides line (insn_text w)).0 same ∙ ap insn_text it; fits = subst (λ (v : ℕ). v < 2 ^ 32) it (ltb-true w (2 ^ 32) fits) }
  where
    some_same : (a b : ℕ) → ◌≡◌ {A = Option ℕ} (Some a) (Some b) → a ≡ b
    some_same a b e = cc
spelled_by line word w true false fits same is = absurd (cc)
spelled_by line word w false u fits same is = absurd (cc)

-- only the spelling of a word means it
pub word_of-is : (line : List ℕ) (word : ℕ) → word_of line ≡ Some word → IsSpelled line word
unfolding word_of
word_of-is line word is = by (word_meant line) is
  where
    by : (o : Option ℕ) → if_spelled line o ≡ Some word → IsSpelled line word
    by None e = absurd (cc)
    by (Some w) e = spelled_by line word w (nat_lt w (2 ^ 32)) (bytes_eq line (insn_text w)) refl refl e

-- a line that is no spelling means no word
pub no_word : (line : List ℕ) → ((w : ℕ) → w < 2 ^ 32 → line ≡ insn_text w → ⊥) → word_of line ≡ None
no_word line other = by (word_of line) refl
  where
    by : (o : Option ℕ) → word_of line ≡ o → o ≡ None
    by None is = refl
    by (Some w) is = let it = word_of-is line w is in absurd (other w it.fits it.spelling)

-- a jump or branch is the word that was assembled
pub if_goes-is : (o : Option ℕ) (word : ℕ) → if_goes o ≡ Some word → (o ≡ Some word) × (goes (decoded word) ≡ true)
if_goes-is None word is = absurd (cc)
if_goes-is (Some w) word is = by (goes (decoded w)) refl is
  where
    some_same : (a b : ℕ) → ◌≡◌ {A = Option ℕ} (Some a) (Some b) → a ≡ b
    some_same a b e = cc

    by : (t : Bool) → goes (decoded w) ≡ t → cond t (Some w) None ≡ Some word → (Some w ≡ Some word) × (goes (decoded word) ≡ true)
    by true yes_ e = (e, subst (λ (v : ℕ). goes (decoded v) ≡ true) (some_same w word e) yes_)
    by false no_ e = absurd (cc)

towards-fits : (place : ℕ) (there : Option Given) (text : List ℕ) (word : ℕ) → word_towards place there text ≡ Some word → word < 2 ^ 32
towards-fits place None text word is = absurd (cc)
towards-fits place (Some there) text word is = (word_of-is (text ++ distance_text place there.address) word (if_goes-is (word_of (text ++ distance_text place there.address)) word is).0).fits

name-fits : (labels : Labels) (place : Option ℕ) (split : List ℕ × List ℕ) (word : ℕ) → word_with_name labels place split ≡ Some word → word < 2 ^ 32
name-fits labels None split word is = absurd (cc)
name-fits labels (Some place) split word is = towards-fits place (given labels split.1) split.0 word is

-- the word of a line has 32 bits
pub word_at-fits : (labels : Labels) (place : Option ℕ) (line : List ℕ) (word : ℕ) → word_at labels place line ≡ Some word → word < 2 ^ 32
unfolding word_at
word_at-fits labels place line word is = by (word_of line) refl is
  where
    by : (o : Option ℕ) → word_of line ≡ o → option_or o (word_with_name labels place (last_split line)) ≡ Some word → word < 2 ^ 32
    by None none e = name-fits labels place (last_split line) word e
    by (Some w) some e = (word_of-is line word (some ∙ e)).fits
