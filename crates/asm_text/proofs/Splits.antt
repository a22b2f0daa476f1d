-- Where a line is split after its last blank.
use Rattle.std.proofs.Common.{◌≡◌, ℕ, inl, inr, arith, subst, eqb, Bool, true, false, cond, List, [], ◌∷◌, ◌++◌, length, take, drop, refl, sym, ap, ◌∙◌, append_assoc}
use Rattle.std.proofs.lemmas.Bool.{eqb-true}
use Rattle.std.proofs.lemmas.List.{append-nil, drop_all}
use Rattle.asm_text.specs.Instructions.{onto_split, last_split}
use Rattle.asm_text.specs.Grammar.{HasNoBlank, EndsWithBlank}

pub last_split-none : (text : List ℕ) → HasNoBlank text → last_split text ≡ ([], text)
last_split-none [] none = refl
last_split-none (b ∷ bs) none = ap (onto_split b) (last_split-none bs none.1) ∙ ap (λ t. cond t (b ∷ [], bs) ([], b ∷ bs)) none.0

onto_end : (b : ℕ) (front back : List ℕ) → onto_split b (front ++ 32 ∷ [], back) ≡ (b ∷ (front ++ 32 ∷ []), back)
onto_end b [] back = refl
onto_end b (c ∷ cs) back = refl

pub last_split-blank : (front back : List ℕ) → HasNoBlank back → last_split (front ++ 32 ∷ back) ≡ (front ++ 32 ∷ [], back)
last_split-blank [] back none = ap (onto_split 32) (last_split-none back none)
last_split-blank (b ∷ bs) back none = ap (onto_split b) (last_split-blank bs back none) ∙ onto_end b bs back

take_front : (xs ys : List ℕ) → take (length xs) (xs ++ ys) ≡ xs
take_front [] ys = refl
take_front (x ∷ xs) ys = ap (λ (zs : List ℕ). x ∷ zs) (take_front xs ys)

drop_front : (xs ys : List ℕ) → drop (length xs) (xs ++ ys) ≡ ys
drop_front [] ys = refl
drop_front (x ∷ xs) ys = drop_front xs ys

-- what stands before and after a place in a line
pub record IsSplit (line left : List ℕ) : Type 0 where
  pub joined : line ≡ left ++ drop (length left) line
  pub clear : HasNoBlank (drop (length left) line)

pub split_begin : (line : List ℕ) → IsSplit line line
split_begin line =
    let none : drop (length line) line ≡ [] = drop_all (length line) line (omega arith) in
    record { joined = sym (append-nil line) ∙ ap (λ (xs : List ℕ). line ++ xs) (sym none); clear = rw none tt }

-- the rest of a line from its last byte before a place
moved_back : (line left front : List ℕ) (last : ℕ) → left ≡ front ++ last ∷ [] → IsSplit line left → drop (length front) line ≡ last ∷ drop (length left) line
moved_back line left front last cut split =
    let whole : line ≡ front ++ (last ∷ drop (length left) line) =
    split.joined ∙ ap (λ (xs : List ℕ). xs ++ drop (length left) line) cut ∙ append_assoc front (last ∷ []) (drop (length left) line) in
    ap (drop (length front)) whole ∙ drop_front front (last ∷ drop (length left) line)

pub split_more : (line left front : List ℕ) (last : ℕ) → left ≡ front ++ last ∷ [] → eqb last 32 ≡ false → IsSplit line left → IsSplit line front
split_more line left front last cut other split =
    let rest = moved_back line left front last cut split in
    record {
      joined =
          split.joined
          ∙ ap (λ (xs : List ℕ). xs ++ drop (length left) line) cut
          ∙ append_assoc front (last ∷ []) (drop (length left) line)
          ∙ ap (λ (xs : List ℕ). front ++ xs) (sym rest);
      clear = subst HasNoBlank (sym rest) (other, split.clear);
    }

pub split_found : (line left front : List ℕ) (last : ℕ) → left ≡ front ++ last ∷ [] → last ≡ 32 → IsSplit line left → last_split line ≡ (take (length left) line, drop (length left) line)
split_found line left front last cut is split =
    let back = drop (length left) line in
    let blank : left ≡ front ++ 32 ∷ [] = cut ∙ ap (λ (b : ℕ). front ++ b ∷ []) is in
    let whole : line ≡ front ++ 32 ∷ back = split.joined ∙ ap (λ (xs : List ℕ). xs ++ back) blank ∙ append_assoc front (32 ∷ []) back in
    let taken : take (length left) line ≡ front ++ 32 ∷ [] = ap (take (length left)) split.joined ∙ take_front left back ∙ blank in
    ap last_split whole ∙ last_split-blank front back split.clear ∙ ap (λ (xs : List ℕ). (xs, back)) (sym taken)

pub split_end : (line left : List ℕ) → length left ≡ 0 → IsSplit line left → last_split line ≡ (take 0 line, drop 0 line)
split_end line [] none split = last_split-none line split.clear
split_end line (b ∷ bs) none split = absurd (omega (arith, none))

-- a line is its parts, of which the first ends with a blank and the second has none
pub record AreParts (line : List ℕ) (split : List ℕ × List ℕ) : Type 0 where
  pub joined : line ≡ split.0 ++ split.1
  pub blank : EndsWithBlank split.0
  pub one : HasNoBlank split.1

more_parts : (b : ℕ) (line front word : List ℕ) → AreParts line (front, word) → AreParts (b ∷ line) (onto_split b (front, word))
more_parts b line [] word p = by (eqb b 32) refl
  where
    by : (t : Bool) → eqb b 32 ≡ t → AreParts (b ∷ line) (cond t (b ∷ [], word) ([], b ∷ word))
    by true is = record { joined = ap (λ (xs : List ℕ). b ∷ xs) p.joined; blank = inr ([], ap (λ (c : ℕ). c ∷ []) (eqb-true b 32 is)); one = p.one }
    by false is = record { joined = ap (λ (xs : List ℕ). b ∷ xs) p.joined; blank = inl refl; one = (is, p.one) }
more_parts b line (c ∷ cs) word p = record { joined = ap (λ (xs : List ℕ). b ∷ xs) p.joined; blank = longer p.blank; one = p.one }
  where
    longer : EndsWithBlank (c ∷ cs) → EndsWithBlank (b ∷ c ∷ cs)
    longer (inl none) = absurd (cc)
    longer (inr e) = inr (b ∷ e.0, ap (λ (xs : List ℕ). b ∷ xs) e.1)

pub last_split-parts : (line : List ℕ) → AreParts line (last_split line)
last_split-parts [] = record { joined = refl; blank = inl refl; one = tt }
last_split-parts (b ∷ bs) = more_parts b bs (last_split bs).0 (last_split bs).1 (last_split-parts bs)

-- and only its parts
pub last_split-is : (front word : List ℕ) → EndsWithBlank front → HasNoBlank word → last_split (front ++ word) ≡ (front, word)
last_split-is front word (inl none) one = rw none (last_split-none word one)
last_split-is front word (inr e) one =
    ap (λ (xs : List ℕ). last_split (xs ++ word)) e.1
    ∙ ap last_split (append_assoc e.0 (32 ∷ []) word)
    ∙ last_split-blank e.0 word one
    ∙ ap (λ (xs : List ℕ). (xs, word)) (sym e.1)
