-- What a word looks like to clap.
use Rattle.std.proofs.Common.{◌≡◌, ◌∙◌, ℕ, Bool, cond, true, false, refl, sym, ap, List, [], ◌∷◌, Option, Some, None, nat_eq, eqb-true}
use Rattle.std.specs.Prelude.{slice_get}
use Rattle.std.specs.Char.{encode_utf8}
use Rattle.std.specs.Str.{IsUtf8, bytes_eq, chars, encode_utf8_all}
use Rattle.std.proofs.lemmas.Str.{encodes-chars}
use Rattle.clap.specs.Lexer.{long_of, short_of}
use Rattle.program_words.specs.Words.{Text, Kind, plain, dashes, named, unknown, kind, kind_after_dash, kind_after_dashes}

abbrev pub two_dashes : Text
two_dashes = 45 ∷ 45 ∷ []

-- a word that is no flag
pub record IsPlain (word : Text) : Type 0 where
  pub dashes : bytes_eq word two_dashes ≡ false
  pub long : long_of word ≡ None
  pub short : short_of word ≡ None

-- `--name` or `--name=value`
pub record IsNamed (word name : Text) (value : Option Text) : Type 0 where
  pub dashes : bytes_eq word two_dashes ≡ false
  pub long : long_of word ≡ Some (name, value)

-- letters after one dash
pub record IsShort (word : Text) : Type 0 where
  pub dashes : bytes_eq word two_dashes ≡ false
  pub long : long_of word ≡ None
  pub first : ℕ
  pub rest : Text
  pub short : short_of word ≡ Some (first ∷ rest)
  pub whole : word ≡ 45 ∷ first ∷ rest

abbrev pub Looks : Text → Kind → Type 0
Looks word plain = IsPlain word
Looks word dashes = word ≡ two_dashes
Looks word (named name value) = IsNamed word name value
Looks word unknown = IsShort word

after_dashes : (word : Text) → Looks (45 ∷ 45 ∷ word) (kind_after_dashes word)
after_dashes [] = refl
after_dashes (b ∷ bs) = record { dashes = refl; long = refl }

after_dash : (word : Text) → Looks (45 ∷ word) (kind_after_dash word)
after_dash [] = record { dashes = refl; long = refl; short = refl }
after_dash (b ∷ bs) = go (nat_eq b 45) refl
  where
    go : (x : Bool) → nat_eq b 45 ≡ x → Looks (45 ∷ b ∷ bs) (cond x (kind_after_dashes bs) unknown)
    go true e = let same : b ≡ 45 = eqb-true b 45 e in rw same (after_dashes bs)
    go false e = record { dashes = rw e refl; long = rw e refl; first = b; rest = bs; short = rw e refl; whole = refl }

pub looks : (word : Text) → Looks word (kind word)
looks [] = record { dashes = refl; long = refl; short = refl }
looks (b ∷ bs) = go (nat_eq b 45) refl
  where
    go : (x : Bool) → nat_eq b 45 ≡ x → Looks (b ∷ bs) (cond x (kind_after_dash bs) plain)
    go true e = let same : b ≡ 45 = eqb-true b 45 e in rw same (after_dash bs)
    go false e = record { dashes = rw e refl; long = rw e refl; short = rw e refl }

-- text has a first letter after its dash
pub record HasLetter (word : Text) : Type 0 where
  pub letter : ℕ
  pub is : slice_get (chars word) 0 ≡ Some letter

letter_of : (b : ℕ) (bs : Text) (cs : List ℕ) → chars (b ∷ bs) ≡ cs → encode_utf8_all (45 ∷ cs) ≡ 45 ∷ b ∷ bs → HasLetter (b ∷ bs)
unfolding encode_utf8
letter_of b bs [] e encoded = absurd (cc)
letter_of b bs (c ∷ cs) e encoded = record { letter = c; is = rw e refl }

dash_first : (b : ℕ) (bs : Text) → chars (45 ∷ b ∷ bs) ≡ 45 ∷ chars (b ∷ bs)
unfolding chars
dash_first b bs = refl

pub has_letter : (b : ℕ) (bs : Text) → IsUtf8 (45 ∷ b ∷ bs) → HasLetter (b ∷ bs)
has_letter b bs text = letter_of b bs (chars (b ∷ bs)) refl (ap encode_utf8_all (sym (dash_first b bs)) ∙ encodes-chars (45 ∷ b ∷ bs) text)
