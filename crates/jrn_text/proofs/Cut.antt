-- Where a text is cut.
use Rattle.std.proofs.Common.{◌≡◌, ◌≢◌, ℕ, zero, suc, ◌<◌, ◌==◌, Bool, true, false, cond, List, [], ◌∷◌, ◌++◌, length, get_or, take, drop, Option, Some, None, refl, ◌+◌, sym, ap, ◌∙◌, add-one, arith}
use Rattle.std.proofs.lemmas.Bool.{eq-eqb, ne_eqb}
use Rattle.std.specs.Option.{option_map}
use Rattle.jrn_text.specs.Cuts.{cut_at}

-- no byte of the text has this value
abbrev pub HasNone : ℕ → List ℕ → Type 0
HasNone byte [] = Unit {0}
HasNone byte (b ∷ bs) = (b ≢ byte) × HasNone byte bs

pub none_append : (byte : ℕ) (xs ys : List ℕ) → HasNone byte xs → HasNone byte ys → HasNone byte (xs ++ ys)
none_append byte [] ys none more = more
none_append byte (x ∷ xs) ys none more = (none.0, none_append byte xs ys none.1 more)

-- a text is cut where its first such byte stands
pub cut_found : (byte : ℕ) (xs ys : List ℕ) → HasNone byte xs → cut_at byte (xs ++ (byte ∷ ys)) ≡ Some (xs, ys)
cut_found byte [] ys none =
    ap (λ t. cond t (Some ([], ys)) (option_map (λ p. (byte ∷ p.0, p.1)) (cut_at byte ys))) (eq-eqb byte byte refl)
cut_found byte (x ∷ xs) ys none =
    ap (λ t. cond t (Some ([], xs ++ (byte ∷ ys))) (option_map (λ p. (x ∷ p.0, p.1)) (cut_at byte (xs ++ (byte ∷ ys))))) (ne_eqb x byte none.0) ∙ ap (option_map (λ p. (x ∷ p.0, p.1))) (cut_found byte xs ys none.1)

-- a text without such a byte isn't cut
pub cut_none : (byte : ℕ) (xs : List ℕ) → HasNone byte xs → cut_at byte xs ≡ None
cut_none byte [] none = refl
cut_none byte (x ∷ xs) none =
    ap (λ t. cond t (Some ([], xs)) (option_map (λ p. (x ∷ p.0, p.1)) (cut_at byte xs))) (ne_eqb x byte none.0) ∙ ap (option_map (λ p. (x ∷ p.0, p.1))) (cut_none byte xs none.1)

-- the same by the place of the byte
pub cut_there : (byte at : ℕ) (bs : List ℕ) → ((k : ℕ) → k < at → get_or bs k 0 ≢ byte) → at < length bs → get_or bs at 0 ≡ byte → cut_at byte bs ≡ Some (take at bs, drop (suc at) bs)
cut_there byte zero [] before within is = absurd (omega arith)
cut_there byte zero (b ∷ bs) before within is = ap (λ t. cond t (Some ([], bs)) (option_map (λ p. (b ∷ p.0, p.1)) (cut_at byte bs))) (eq-eqb b byte is)
cut_there byte (suc n) [] before within is = absurd (omega arith)
cut_there byte (suc n) (b ∷ bs) before within is =
    ap (λ t. cond t (Some ([], bs)) (option_map (λ p. (b ∷ p.0, p.1)) (cut_at byte bs))) (ne_eqb b byte (before 0 (omega arith)))
    ∙ ap (option_map (λ p. (b ∷ p.0, p.1))) (cut_there byte n bs (λ (k : ℕ) (h : k < n). before (suc k) (omega arith)) (omega arith) is)

pub cut_here : (byte at : ℕ) (bs : List ℕ) → ((k : ℕ) → k < at → get_or bs k 0 ≢ byte) → at < length bs → get_or bs at 0 ≡ byte → cut_at byte bs ≡ Some (take at bs, drop (at + 1) bs)
cut_here byte at bs before within is = rw add-one (cut_there byte at bs before within is)

pub cut_not : (byte : ℕ) (bs : List ℕ) → ((k : ℕ) → k < length bs → get_or bs k 0 ≢ byte) → cut_at byte bs ≡ None
cut_not byte [] before = refl
cut_not byte (b ∷ bs) before =
    ap (λ t. cond t (Some ([], bs)) (option_map (λ p. (b ∷ p.0, p.1)) (cut_at byte bs))) (ne_eqb b byte (before 0 (omega arith)))
    ∙ ap (option_map (λ p. (b ∷ p.0, p.1))) (cut_not byte bs (λ (k : ℕ) (h : k < length bs). before (suc k) (omega arith)))
