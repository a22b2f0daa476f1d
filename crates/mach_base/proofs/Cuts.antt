-- Where lines and words are cut.
use Rattle.std.proofs.Common.{◌≡◌, ℕ, zero, suc, ◌+◌, ◌-◌, ◌<◌, ◌≤◌, Bool, true, false, cond, eqb, not, ◌&&◌, List, [], ◌∷◌, length, get_or, take, drop, refl, sym, ap, ◌∙◌, arith, drop-cons, add-one}
use Rattle.std.proofs.lemmas.List.{take_all, nil_from_length}
use Rattle.std.proofs.lemmas.Bool.{ne_eqb, eq-eqb, eqb-true, false≢true}
use Rattle.std.proofs.Math.Seq.{drop-length}
use Rattle.std.specs.Str.Lines.{strip_carriage_return}
use Rattle.mach_base.specs.Lines.{is_blank, begins_with_feed, begins_with_word, onto_first, lines_of, words_of}

pub and_no : (b : Bool) → (b && false) ≡ false
and_no true = refl
and_no false = refl

and_yes : (b : Bool) → (b && true) ≡ b
and_yes true = refl
and_yes false = refl

strip-cons : (b c : ℕ) (cs : List ℕ) → strip_carriage_return (b ∷ c ∷ cs) ≡ b ∷ strip_carriage_return (c ∷ cs)
strip-cons b c cs =
    let whole : length (b ∷ c ∷ cs) - 1 ≡ suc (length cs) = omega arith in
    let rest : length (c ∷ cs) - 1 ≡ length cs = omega arith in
    rw (whole, rest) (inside (eqb (get_or (c ∷ cs) (length cs) 0) 13) b (take (length cs) (c ∷ cs)) (c ∷ cs))
  where
    inside : (t : Bool) (b : ℕ) (x y : List ℕ) → cond t (b ∷ x) (b ∷ y) ≡ b ∷ cond t x y
    inside true b x y = refl
    inside false b x y = refl

-- a byte within a line
line_goes_on : (b : ℕ) (bs : List ℕ) → eqb b 10 ≡ false → begins_with_feed bs ≡ false → lines_of (b ∷ bs) ≡ onto_first b (lines_of bs)
unfolding lines_of
line_goes_on b bs here next = rw (here, next, and_no) refl

positive : (n : ℕ) → eqb n 0 ≡ false → 0 < n
positive zero h = absurd (false≢true (sym h))
positive (suc n) h = omega arith

-- nothing has no lines
pub lines_of-none : (bs : List ℕ) → eqb (length bs) 0 ≡ true → lines_of bs ≡ []
unfolding lines_of
lines_of-none bs h = ap lines_of (nil_from_length bs (eqb-true _ _ h))

-- what is after one byte of a rest
pub behind : (bs : List ℕ) (n : ℕ) → n < length bs → take (length (drop n bs) - 1) (drop 1 (drop n bs)) ≡ drop (suc n) bs
behind bs n h = rw (drop-cons bs n 0) (cut_one (get_or bs n 0) (drop (suc n) bs))
  where
    cut_one : (x : ℕ) (r : List ℕ) → take (length (x ∷ r) - 1) (drop 1 (x ∷ r)) ≡ r
    cut_one x r = take_all _ r (omega arith)

-- a text without a line feed is one line
pub lines_of-last : (bs : List ℕ) → 0 < length bs → ((k : ℕ) → k < length bs → get_or bs k 0 ≡ 10 → ⊥) → lines_of bs ≡ bs ∷ []
unfolding lines_of
lines_of-last [] some no_feed = absurd (omega arith)
lines_of-last (b ∷ []) some no_feed =
    let here : eqb b 10 ≡ false = ne_eqb b 10 (no_feed 0 (omega arith)) in
    rw (here, and_no) refl
lines_of-last (b ∷ c ∷ cs) some no_feed =
    let here : eqb b 10 ≡ false = ne_eqb b 10 (no_feed 0 (omega arith)) in
    let next : eqb c 10 ≡ false = ne_eqb c 10 (no_feed 1 (omega arith)) in
    let rest = lines_of-last (c ∷ cs) (omega arith) (λ (k : ℕ) (h : k < length (c ∷ cs)). no_feed (suc k) (omega arith)) in
    line_goes_on b (c ∷ cs) here next ∙ ap (onto_first b) rest

-- a text without a line feed is one line, and nothing is left
pub lines_of-one : (bs : List ℕ) (n : ℕ) → n ≡ length bs → eqb (length bs) 0 ≡ false → ((k : ℕ) → k < n → get_or bs k 0 ≡ 10 → ⊥) → lines_of bs ≡ bs ∷ lines_of []
unfolding lines_of
lines_of-one bs n all some no_feed = lines_of-last bs (positive _ some) (λ (k : ℕ) (h : k < length bs). no_feed k (omega arith))

-- the first line ends at the first line feed
pub lines_of-feed : (bs : List ℕ) (n : ℕ) → n < length bs → ((k : ℕ) → k < n → get_or bs k 0 ≡ 10 → ⊥) → get_or bs n 0 ≡ 10 → lines_of bs ≡ strip_carriage_return (take n bs) ∷ lines_of (drop (suc n) bs)
unfolding lines_of
lines_of-feed [] n within before feed = absurd (omega arith)
lines_of-feed (b ∷ bs) zero within before feed = rw (eq-eqb b 10 feed) refl
lines_of-feed (b ∷ []) (suc n) within before feed = absurd (omega arith)
lines_of-feed (b ∷ c ∷ cs) (suc zero) within before feed =
    let here : eqb b 10 ≡ false = ne_eqb b 10 (before 0 (omega arith)) in
    let next : eqb c 10 ≡ true = eq-eqb c 10 feed in
    rw (here, next, and_yes) (by_return (eqb b 13))
  where
    by_return : (t : Bool) → cond t ([] ∷ lines_of cs) ((b ∷ []) ∷ lines_of cs) ≡ cond t [] (b ∷ []) ∷ lines_of cs
    by_return true = refl
    by_return false = refl
lines_of-feed (b ∷ c ∷ cs) (suc (suc n)) within before feed =
    let here : eqb b 10 ≡ false = ne_eqb b 10 (before 0 (omega arith)) in
    let next : eqb c 10 ≡ false = ne_eqb c 10 (before 1 (omega arith)) in
    let rest = lines_of-feed (c ∷ cs) (suc n) (omega arith) (λ (k : ℕ) (h : k < suc n). before (suc k) (omega arith)) feed in
    line_goes_on b (c ∷ cs) here next ∙ (ap (onto_first b) rest ∙ ap (λ l. l ∷ lines_of (drop (suc n) cs)) (sym (strip-cons b c (take n cs))))

-- a blank before the first word
pub words_of-blank : (bs : List ℕ) (n : ℕ) → n < length bs → is_blank (get_or bs n 0) ≡ true → words_of (drop n bs) ≡ words_of (drop (n + 1) bs)
unfolding words_of
words_of-blank bs n within blank = rw (add-one, drop-cons bs n 0, blank) refl

-- a byte within a word
pub word_goes_on : (b : ℕ) (bs : List ℕ) → is_blank b ≡ false → begins_with_word bs ≡ true → words_of (b ∷ bs) ≡ onto_first b (words_of bs)
unfolding words_of
word_goes_on b bs here next = rw (here, next) refl

-- the first word ends before the first blank, or at the line's end
pub words_of-word : (bs : List ℕ) (n : ℕ) → 0 < n → n ≤ length bs → ((k : ℕ) → k < n → is_blank (get_or bs k 0) ≡ false) → begins_with_word (drop n bs) ≡ false → words_of bs ≡ take n bs ∷ words_of (drop n bs)
unfolding words_of
words_of-word bs zero some within word end = absurd (omega arith)
words_of-word [] (suc n) some within word end = absurd (omega arith)
words_of-word (b ∷ bs) (suc zero) some within word end = rw (word 0 (omega arith), end) refl
words_of-word (b ∷ []) (suc (suc n)) some within word end = absurd (omega arith)
words_of-word (b ∷ c ∷ cs) (suc (suc n)) some within word end =
    let here : is_blank b ≡ false = word 0 (omega arith) in
    let next : begins_with_word (c ∷ cs) ≡ true = ap not (word 1 (omega arith)) in
    let rest = words_of-word (c ∷ cs) (suc n) (omega arith) (omega arith) (λ (k : ℕ) (h : k < suc n). word (suc k) (omega arith)) end in
    word_goes_on b (c ∷ cs) here next ∙ ap (onto_first b) rest

-- what stands after a place with a blank begins with no word
pub no_word_at : (bs : List ℕ) (n : ℕ) → n < length bs → is_blank (get_or bs n 0) ≡ true → begins_with_word (drop n bs) ≡ false
no_word_at bs n within blank = rw (drop-cons bs n 0, blank) refl

-- a line of nothing has no words
pub words_of-none : (bs : List ℕ) (rest : List ℕ) → words_of bs ≡ words_of rest → eqb (length rest) 0 ≡ true → words_of bs ≡ []
unfolding words_of
words_of-none bs rest same h = same ∙ ap words_of (nil_from_length rest (eqb-true _ _ h))

-- a blank is not where a word begins
pub past_first : (bs : List ℕ) (n : ℕ) → is_blank (get_or bs 0 0) ≡ false → is_blank (get_or bs n 0) ≡ true → 0 < n
past_first bs zero word blank = absurd (false≢true (sym word ∙ blank))
past_first bs (suc n) word blank = omega arith

-- the whole line is one word
pub words_of-whole : (bs : List ℕ) (n : ℕ) → length bs ≤ n → 0 < length bs → ((k : ℕ) → k < n → is_blank (get_or bs k 0) ≡ false) → words_of bs ≡ take (length bs) bs ∷ words_of (drop (length bs) bs)
words_of-whole bs n all some word = words_of-word bs (length bs) some (omega arith) (λ (k : ℕ) (h : k < length bs). word k (omega arith)) (rw drop-length refl)
