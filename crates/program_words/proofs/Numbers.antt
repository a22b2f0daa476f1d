-- A number that clap reads is that of the grammar.
use Rattle.std.proofs.Common.{◌≡◌, ◌∙◌, ◌<◌, ◌+◌, ◌^◌, ℕ, Bool, cond, true, false, refl, sym, ap, arith, List, Option, Some, None, Result, Ok, Err, true≢false, lt-ltb}
use Rattle.std.specs.Prelude.{option_and_then}
use Rattle.std.specs.Str.Parse.{ExplainsUnsignedError, HasUnsignedDigitsIfOk, ParsesUnsigned, digits_value, without_leading_plus}
use Rattle.clap.specs.Matches.{ReadsOne}
use Rattle.clap.specs.Words.{found_of, one_text}
use Rattle.clap.specs.Values.{IsUnsignedIn}
use Rattle.clap.specs.declared.builder.value_parser.ValueParser.TheVariants as vp
use Rattle.clap.specs.declared.parser.matches.ArgMatches.{ArgMatches}
use Rattle.clap.proofs.ValueTestLemmas.{Accepts-accepts, accepts-Accepts}
use Rattle.clap.proofs.WalkLemmas.{one_text-rows}
use Rattle.program_words.specs.Words.{Text, number, is_number_in}
use Rattle.program_words.specs.Commands.{number_to}
use Rattle.program_words.specs.Parser.{numbers_in}
use Rattle.program_words.proofs.Uses.{accepts_as}

module _ (k most : ℕ) (most_is : most + 1 ≡ 2 ^ k) (small : most < 2 ^ 64) where
  in_range : (t : Text) → is_number_in 0 most t ≡ true → IsUnsignedIn 0 most t
  in_range t e = accepts-Accepts false (vp.Unsigned 0 most) t (accepts_as (number 0 most) t (lt-ltb most (2 ^ 64) small) ∙ e)

  out_of_range : (t : Text) → is_number_in 0 most t ≡ false → IsUnsignedIn 0 most t → ⊥
  out_of_range t e h =
      true≢false (sym (Accepts-accepts false (vp.Unsigned 0 most) t h) ∙ accepts_as (number 0 most) t (lt-ltb most (2 ^ 64) small) ∙ e)

  parsed : (E : Type 0) (t : Text) (v : ℕ) → ParsesUnsigned {E = E} k 10 t (Ok v) → Some v ≡ number_to most t
  parsed E t v h = go (is_number_in 0 most t) refl
    where
      go : (b : Bool) → is_number_in 0 most t ≡ b → Some v ≡ cond b (Some (digits_value 10 (without_leading_plus t))) None
      go true e = ap (λ (n : ℕ). Some n) h.1
      go false e = absurd (out_of_range t e (h.0.0, omega arith, omega arith, omega arith))

  refused : {E : Type 0} (t : Text) (e : E) → ParsesUnsigned k 10 t (Err e) → None ≡ number_to most t
  refused t err h = go (is_number_in 0 most t) refl
    where
      go : (b : Bool) → is_number_in 0 most t ≡ b → None ≡ cond b (Some (digits_value 10 (without_leading_plus t))) None
      go true e =
          let within : IsUnsignedIn 0 most t = in_range t e in
          absurd (h (within.0, omega (arith, within.3)))
      go false e = refl

  -- what `get_one` reads of the text that a name has, if it has one
  pub number_read : {E : Type 0} (gives : List ℕ → Result ℕ E → Type 0) → ((t : Text) (r : Result ℕ E) → gives t r → ParsesUnsigned k 10 t r)
      → (text : Option Text) (result : Option ℕ) → (text ≡ None → result ≡ None) → ((t : Text) → text ≡ Some t → ReadsOne gives t result)
      → result ≡ option_and_then (number_to most) text
  number_read gives parses None result none some = none refl
  number_read {E = E} gives parses (Some t) result none some = go result (some t refl)
    where
      go : (o : Option ℕ) → ReadsOne gives t o → o ≡ number_to most t
      go (Some v) h = parsed E t v (parses t (Ok v) h)
      go None h = refused t h.0 (parses t (Err h.0) h.1)

  -- the number of a name among what clap found
  pub number_found : (found : ArgMatches) (name : Text) (result : Option ℕ) → (one_text (found_of found) name ≡ None → result ≡ None)
      → ((t : Text) → one_text (found_of found) name ≡ Some t → ReadsOne (λ bs r. ParsesUnsigned k 10 bs r × ExplainsUnsignedError 10 bs r × HasUnsignedDigitsIfOk bs r) t result)
      → result ≡ option_and_then (number_to most) (numbers_in found name)
  number_found found name result none some =
      number_read (λ bs r. ParsesUnsigned k 10 bs r × ExplainsUnsignedError 10 bs r × HasUnsignedDigitsIfOk bs r) (λ t r g. g.0) (numbers_in found name) result
      (λ e. none (one_text-rows (found_of found) name ∙ e)) (λ t e. some t (one_text-rows (found_of found) name ∙ e))
