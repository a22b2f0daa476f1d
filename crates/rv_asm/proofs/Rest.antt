-- What follows a text in a line that begins with it.
use Rattle.std.proofs.Common.{◌≡◌, ◌≢◌, ℕ, Bool, true, false, cond, List, [], ◌∷◌, ◌++◌, Option, Some, None, MatchOption, Bor, refl, sym, ap, ◌∙◌, subst, eqb}
use Rattle.std.specs.Option.{option_and_then}
use Rattle.std.proofs.lemmas.Bool.{eq-eqb, eqb-true}
use Rattle.rv_asm.specs.Rest.{after}

next : (b t : ℕ) (text line : List ℕ) (is : Bool) → eqb b t ≡ is → after (t ∷ text) (b ∷ line) ≡ cond is (after text line) None
next b t text line is e = ap (λ x. cond x (after text line) None) e

-- what is written after a text follows it
pub after_text : (text rest : List ℕ) → after text (text ++ rest) ≡ Some rest
after_text [] rest = refl
after_text (t ∷ text) rest = next t t text (text ++ rest) true (eq-eqb t t refl) ∙ after_text text rest

same_head : (b t : ℕ) (text line rest : List ℕ) (is : Bool) → eqb b t ≡ is → after (t ∷ text) (b ∷ line) ≡ Some rest
    → (after text line ≡ Some rest → line ≡ text ++ rest) → b ∷ line ≡ t ∷ (text ++ rest)
same_head b t text line rest true is e more =
    let same : b ≡ t = eqb-true b t is in
    let tail = more (sym (next b t text line true is) ∙ e) in
    cc
same_head b t text line rest false is e more = let none = sym (next b t text line false is) ∙ e in absurd (cc)

-- what follows a text is written after it
pub after_is : (text line rest : List ℕ) → after text line ≡ Some rest → line ≡ text ++ rest
after_is [] line rest e = cc
after_is (t ∷ text) [] rest e = absurd (cc)
after_is (t ∷ text) (b ∷ line) rest e = same_head b t text line rest (eqb b t) refl e (after_is text line rest)

-- a line that doesn't begin with a text has nothing after it
pub after_not : (text line : List ℕ) → ((rest : List ℕ) → line ≢ text ++ rest) → after text line ≡ None
after_not text line not = by (after text line) refl
  where
    by : (o : Option (List ℕ)) → after text line ≡ o → o ≡ None
    by None e = refl
    by (Some rest) e = absurd (not rest (after_is text line rest e))

both_heads : (c t : ℕ) (a b line : List ℕ) (is : Bool) → eqb c t ≡ is → after (a ++ b) line ≡ option_and_then (λ rest. after b rest) (after a line)
    → after (t ∷ (a ++ b)) (c ∷ line) ≡ option_and_then (λ rest. after b rest) (after (t ∷ a) (c ∷ line))
both_heads c t a b line true is more = next c t (a ++ b) line true is ∙ more ∙ ap (option_and_then (λ rest. after b rest)) (sym (next c t a line true is))
both_heads c t a b line false is more = next c t (a ++ b) line false is ∙ ap (option_and_then (λ rest. after b rest)) (sym (next c t a line false is))

-- one text after another
pub after_both : (a b line : List ℕ) → after (a ++ b) line ≡ option_and_then (λ rest. after b rest) (after a line)
after_both [] b line = refl
after_both (t ∷ a) b [] = refl
after_both (t ∷ a) b (c ∷ line) = both_heads c t a b line (eqb c t) refl (after_both a b line)

-- where a text is one after another, what follows it
pub none_after : (text a b line : List ℕ) → text ≡ a ++ b → after a line ≡ None → after text line ≡ None
none_after text a b line e none = ap (λ t. after t line) e ∙ after_both a b line ∙ ap (option_and_then (λ rest. after b rest)) none

pub some_after : (text a b line rest : List ℕ) → text ≡ a ++ b → after a line ≡ Some rest → after text line ≡ after b rest
some_after text a b line rest e some = ap (λ t. after t line) e ∙ after_both a b line ∙ ap (option_and_then (λ x. after b x)) some

-- an answer on the one is an answer on the other
pub same_answer : (x y : Option (List ℕ)) (result : Option (Bor (List ℕ))) → x ≡ y
    → MatchOption result (y ≡ None) (λ rest. y ≡ Some rest.now) → MatchOption result (x ≡ None) (λ rest. x ≡ Some rest.now)
same_answer x y result e h = subst (λ z. MatchOption result (z ≡ None) (λ rest. z ≡ Some rest.now)) (sym e) h

-- and where there is none
pub no_answer : (x : Option (List ℕ)) (result : Option (Bor (List ℕ))) → x ≡ None → result ≡ None
    → MatchOption result (x ≡ None) (λ rest. x ≡ Some rest.now)
no_answer x result e none = subst (λ r. MatchOption r (x ≡ None) (λ rest. x ≡ Some rest.now)) (sym none) e
