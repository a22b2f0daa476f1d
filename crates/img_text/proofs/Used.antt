-- The values of a segment up to the last that isn't 0.
use Rattle.std.proofs.Common.{◌≡◌, ℕ, zero, suc, ◌+◌, ◌-◌, ◌*◌, ◌≤◌, ◌<◌, ◌==◌, true, false, cond, Bool, List, [], ◌∷◌, ◌++◌, length, length-append, take, drop, replicate, refl, sym, ap, ◌∙◌, append_assoc, arith}
use Rattle.std.proofs.lemmas.Bool.{eqb-true}
use Rattle.std.proofs.lemmas.List.{drop-drop}
use Rattle.std.specs.Int.{w64, from_le_bytes}
use Rattle.std.specs.List.{flat_map}
use Rattle.img_text.specs.declared.directive.Width.TheVariants.{Eight}
use Rattle.img_text.specs.Reading.{value_bytes}
use Rattle.img_text.specs.Writing.{values_of, before_used, used_values}

-- the value of this number
abbrev pub value_at : List ℕ → ℕ → ℕ
value_at bytes number = from_le_bytes w64 (take 8 (drop (8 * number) bytes))

-- so many values and one are those and the last
values-last : (n : ℕ) (bytes : List ℕ) → values_of (suc n) bytes ≡ values_of n bytes ++ value_at bytes n ∷ []
unfolding values_of
values-last zero bytes = refl
values-last (suc n) bytes =
    let further : drop (8 * n) (drop 8 bytes) ≡ drop (8 * suc n) bytes = drop-drop (8 * n) 8 bytes ∙ ap (λ (k : ℕ). drop k bytes) (omega arith) in
    ap (λ (vs : List ℕ). from_le_bytes w64 (take 8 bytes) ∷ vs) (values-last n (drop 8 bytes))
    ∙ ap (λ (bs : List ℕ). from_le_bytes w64 (take 8 bytes) ∷ (values_of n (drop 8 bytes) ++ from_le_bytes w64 (take 8 bs) ∷ [])) further

-- a 0 at the end is left out
used-zero : (vs : List ℕ) → used_values (vs ++ 0 ∷ []) ≡ used_values vs
unfolding used_values
used-zero [] = refl
used-zero (v ∷ vs) = ap (before_used v) (used-zero vs)

before-some : (v w : ℕ) (vs : List ℕ) → before_used v (vs ++ w ∷ []) ≡ v ∷ (vs ++ w ∷ [])
before-some v w [] = refl
before-some v w (x ∷ vs) = refl

-- nothing is left out where the last isn't 0
used-some : (vs : List ℕ) (w : ℕ) → (w == 0) ≡ false → used_values (vs ++ w ∷ []) ≡ vs ++ w ∷ []
unfolding used_values
used-some [] w some = rw some refl
used-some (v ∷ vs) w some = ap (before_used v) (used-some vs w some) ∙ before-some v w vs

-- one more is left out
pub one_less : (count done : ℕ) (bytes whole : List ℕ) → done < count → value_at bytes (count - 1 - done) ≡ 0 → used_values (values_of (count - done) bytes) ≡ whole → used_values (values_of (count - (done + 1)) bytes) ≡ whole
one_less count done bytes whole more none told =
    let here : count - done ≡ suc (count - (done + 1)) = omega arith in
    let place : count - 1 - done ≡ count - (done + 1) = omega arith in
    let last : values_of (count - done) bytes ≡ values_of (count - (done + 1)) bytes ++ 0 ∷ [] =
    ap (λ (k : ℕ). values_of k bytes) here ∙ values-last (count - (done + 1)) bytes ∙ ap (λ (v : ℕ). values_of (count - (done + 1)) bytes ++ v ∷ []) (ap (value_at bytes) (sym place) ∙ none) in
    sym (used-zero (values_of (count - (done + 1)) bytes)) ∙ ap used_values (sym last) ∙ told

-- none is left out any more
pub last_stays : (count done : ℕ) (bytes whole : List ℕ) → done < count → 0 < value_at bytes (count - 1 - done) → used_values (values_of (count - done) bytes) ≡ whole → values_of (count - done) bytes ≡ whole
last_stays count done bytes whole more some told =
    let here : count - done ≡ suc (count - 1 - done) = omega arith in
    let last : values_of (count - done) bytes ≡ values_of (count - 1 - done) bytes ++ value_at bytes (count - 1 - done) ∷ [] =
    ap (λ (k : ℕ). values_of k bytes) here ∙ values-last (count - 1 - done) bytes in
    last ∙ sym (used-some (values_of (count - 1 - done) bytes) (value_at bytes (count - 1 - done)) (is_some (value_at bytes (count - 1 - done)) some)) ∙ ap used_values (sym last) ∙ told
  where
    is_some : (v : ℕ) → 0 < v → (v == 0) ≡ false
    is_some v h = by (v == 0) refl
      where
        by : (b : Bool) → (v == 0) ≡ b → (v == 0) ≡ false
        by true is = absurd (omega (arith, eqb-true v 0 is))
        by false is = is

-- all are left out
pub none_stays : (count done : ℕ) (bytes whole : List ℕ) → count ≤ done → used_values (values_of (count - done) bytes) ≡ whole → values_of 0 bytes ≡ whole
unfolding values_of used_values
none_stays count done bytes whole all told =
    let none : count - done ≡ 0 = omega arith in
    rw none at told

-- so many zeros are left out
pub record LeavesOut (vs us : List ℕ) : Type 0 where
  pub count : ℕ
  pub whole : vs ≡ us ++ replicate count 0

leaves-before : (v : ℕ) (vs us : List ℕ) → LeavesOut vs us → LeavesOut (v ∷ vs) (before_used v us)
leaves-before v vs [] out = by (v == 0) refl
  where
    by : (b : Bool) → (v == 0) ≡ b → LeavesOut (v ∷ vs) (cond b [] (v ∷ []))
    by true is = record { count = suc out.count; whole = ap (λ (n : ℕ). n ∷ vs) (eqb-true v 0 is) ∙ ap (λ (ws : List ℕ). 0 ∷ ws) out.whole }
    by false is = record { count = out.count; whole = ap (λ (ws : List ℕ). v ∷ ws) out.whole }
leaves-before v vs (w ∷ ws) out = record { count = out.count; whole = ap (λ (xs : List ℕ). v ∷ xs) out.whole }

pub leaves_out : (vs : List ℕ) → LeavesOut vs (used_values vs)
unfolding used_values
leaves_out [] = record { count = 0; whole = refl }
leaves_out (v ∷ vs) = leaves-before v vs (used_values vs) (leaves_out vs)

abbrev zeros : ℕ → List ℕ
zeros n = replicate n 0

abbrev bytes_of : List ℕ → List ℕ
bytes_of vs = flat_map (value_bytes Eight) vs

bytes_of-append : (vs ws : List ℕ) → bytes_of (vs ++ ws) ≡ bytes_of vs ++ bytes_of ws
bytes_of-append [] ws = refl
bytes_of-append (v ∷ vs) ws = ap (λ (bs : List ℕ). value_bytes Eight v ++ bs) (bytes_of-append vs ws) ∙ sym (append_assoc (value_bytes Eight v) (bytes_of vs) (bytes_of ws))

bytes_of-zeros : (n : ℕ) → bytes_of (replicate n 0) ≡ replicate (8 * n) 0
bytes_of-zeros zero = refl
bytes_of-zeros (suc n) =
    let more : 8 * suc n ≡ suc (suc (suc (suc (suc (suc (suc (suc (8 * n)))))))) = omega arith in
    ap (λ (bs : List ℕ). value_bytes Eight 0 ++ bs) (bytes_of-zeros n) ∙ ap (λ (k : ℕ). replicate k 0) (sym more)

-- the bytes of the values that are used, filled up with zeros, are the bytes of all
pub filled_up : (vs : List ℕ) (len : ℕ) → length (bytes_of vs) ≡ len → bytes_of (used_values vs) ++ replicate (len - length (bytes_of (used_values vs))) 0 ≡ bytes_of vs
filled_up vs len long =
    let out = leaves_out vs in
    let us = used_values vs in
    let all : bytes_of vs ≡ bytes_of us ++ replicate (8 * out.count) 0 =
    ap bytes_of out.whole ∙ bytes_of-append us (replicate out.count 0) ∙ ap (λ (bs : List ℕ). bytes_of us ++ bs) (bytes_of-zeros out.count) in
    let sum : len ≡ length (bytes_of us) + length (zeros (8 * out.count)) = sym long ∙ ap length all ∙ length-append (bytes_of us) (zeros (8 * out.count)) in
    let rest : len - length (bytes_of us) ≡ 8 * out.count = omega (arith, sum, length-replicate (8 * out.count)) in
    ap (λ (k : ℕ). bytes_of us ++ replicate k 0) rest ∙ sym all
  where
    length-replicate : (n : ℕ) → length (zeros n) ≡ n
    length-replicate zero = refl
    length-replicate (suc n) = ap (λ (k : ℕ). suc k) (length-replicate n)

-- no more values are used than there are
pub used-few : (vs : List ℕ) → length (used_values vs) ≤ length vs
used-few vs =
    let out = leaves_out vs in
    omega (arith, ap length out.whole, length-append (used_values vs) (replicate out.count 0))
