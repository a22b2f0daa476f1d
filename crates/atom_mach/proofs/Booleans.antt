-- What tests and options come to.
use Rattle.std.proofs.Common.{◌≡◌, ◌&&◌, ◌||◌, Bool, true, false, not, cond, Option, Some, None, is_some, is_none, refl, sym}
use Rattle.std.proofs.lemmas.Bool.{false≢true}

pub cond_true : {A : Type 0} (b : Bool) (x y : A) → b ≡ true → cond b x y ≡ x
cond_true b x y e = rw e refl

pub cond_false : {A : Type 0} (b : Bool) (x y : A) → b ≡ false → cond b x y ≡ y
cond_false b x y e = rw e refl

pub and_true : (a b : Bool) → (a && b) ≡ true → (a ≡ true) × (b ≡ true)
and_true true b e = (refl, e)
and_true false b e = absurd (cc)

pub both : (a b : Bool) → a ≡ true → b ≡ true → (a && b) ≡ true
both a b p q = rw (p, q) refl

pub neither : (a b : Bool) → (a || b) ≡ false → (a ≡ false) × (b ≡ false)
neither true b e = absurd (false≢true (sym e))
neither false b e = (refl, e)

pub and_false : (a : Bool) → (a && false) ≡ false
and_false true = refl
and_false false = refl

pub and_first : (a b : Bool) → a ≡ false → (a && b) ≡ false
and_first a b e = rw e refl

pub and_second : (a b : Bool) → b ≡ false → (a && b) ≡ false
and_second a b e = rw e (and_false a)

pub not_is : (b : Bool) → not b ≡ true → b ≡ false
not_is true e = absurd (false≢true e)
not_is false e = refl

pub either_case : (a b : Bool) {C : Type 0} → (a || b) ≡ true → (a ≡ true → C) → (b ≡ true → C) → C
either_case true b e f g = f refl
either_case false b e f g = g e

pub is_none-None : {A : Type 0} (o : Option A) → is_none o ≡ true → o ≡ None
is_none-None None e = refl
is_none-None (Some x) e = absurd (false≢true e)

pub is_some-None : {A : Type 0} (o : Option A) → is_some o ≡ false → o ≡ None
is_some-None None e = refl
is_some-None (Some x) e = absurd (false≢true (sym e))

-- what is allowed, by its test
pub taken : {A : Type 0} (b : Bool) (x d : A) → cond b (Some x) None ≡ Some d → (b ≡ true) × (x ≡ d)
taken true x d e = (refl, cc)
taken false x d e = absurd (cc)

-- whatever the test, nothing
pub either_none : {A : Type 0} (b : Bool) → ◌≡◌ {A = Option A} (cond b None None) None
either_none true = refl
either_none false = refl
