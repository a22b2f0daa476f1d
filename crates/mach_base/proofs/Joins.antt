-- Texts appended one after the other are their concatenation appended.
use Rattle.std.proofs.Common.{◌≡◌, List, ◌++◌, ℕ, ap, ◌∙◌, append_assoc}

pub join2 : (o p q a b : List ℕ) → p ≡ o ++ a → q ≡ p ++ b → q ≡ o ++ (a ++ b)
join2 o p q a b e f = f ∙ ap (λ x. x ++ b) e ∙ append_assoc o a b

pub join3 : (o p q r a b c : List ℕ) → p ≡ o ++ a → q ≡ p ++ b → r ≡ q ++ c → r ≡ o ++ (a ++ (b ++ c))
join3 o p q r a b c e f g = join2 o p r a (b ++ c) e (join2 p q r b c f g)

pub join4 : (o p q r s a b c d : List ℕ) → p ≡ o ++ a → q ≡ p ++ b → r ≡ q ++ c → s ≡ r ++ d → s ≡ o ++ (a ++ (b ++ (c ++ d)))
join4 o p q r s a b c d e f g h = join2 o p s a (b ++ (c ++ d)) e (join3 p q r s b c d f g h)

pub join5 : (o p q r s t a b c d e : List ℕ) → p ≡ o ++ a → q ≡ p ++ b → r ≡ q ++ c → s ≡ r ++ d → t ≡ s ++ e → t ≡ o ++ (a ++ (b ++ (c ++ (d ++ e))))
join5 o p q r s t a b c d e f g h i j = join2 o p t a (b ++ (c ++ (d ++ e))) f (join4 p q r s t b c d e g h i j)

pub join6 : (o p q r s t u a b c d e f : List ℕ) → p ≡ o ++ a → q ≡ p ++ b → r ≡ q ++ c → s ≡ r ++ d → t ≡ s ++ e → u ≡ t ++ f → u ≡ o ++ (a ++ (b ++ (c ++ (d ++ (e ++ f)))))
join6 o p q r s t u a b c d e f g h i j k l = join2 o p u a (b ++ (c ++ (d ++ (e ++ f)))) g (join5 p q r s t u b c d e f h i j k l)
