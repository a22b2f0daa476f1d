-- The marks of a line read from left to right: the words so far, and what stands before and after the first pipe.
use Rattle.std.proofs.Common.{◌≡◌, ℕ, suc, ◌+◌, Bool, true, false, cond, not, eqb, List, [], ◌∷◌, ◌++◌, map, filter, length, get_or, take, drop, Option, Some, None, unwrap_or, refl, sym, ap, ◌∙◌, append_assoc, add-one, drop-cons, arith, ◌<◌}
use Rattle.std.proofs.lemmas.List.{append-nil}
use Rattle.std.specs.Option.{option_to_list}
use Rattle.std.specs.List.{list_any, slice_split, onto_first, before_first, after_first, prefix_len}
use Rattle.kdb_lex.specs.Mark.{mark_of, is_quoted_after, is_pipe, ends_word}
use Rattle.kdb_lex.specs.Line.{marks, is_word, word_text, words_of, pattern_of, filter_pattern}
use Rattle.kdb_lex.specs.declared.mark.Mark.{Mark}
use Rattle.kdb_lex.specs.declared.mark.Mark.TheVariants.{Blank, Pipe, Quote, Byte}

-- the words of these marks, where this word has begun
abbrev pub words_from : Option (List ℕ) → List Mark → List (List ℕ)
words_from o [] = option_to_list o
words_from o (Blank ∷ ms) = option_to_list o ++ words_from None ms
words_from o (Pipe ∷ ms) = option_to_list o ++ words_from None ms
words_from o (Quote ∷ ms) = words_from (Some (unwrap_or o [])) ms
words_from o (Byte b ∷ ms) = words_from (Some (unwrap_or o [] ++ b ∷ [])) ms

-- the words of parts, where the first part goes on with this word
abbrev words_of_parts : Option (List ℕ) → List (List Mark) → List (List ℕ)
words_of_parts None parts = map word_text (filter is_word parts)
words_of_parts (Some w) [] = w ∷ []
words_of_parts (Some w) (part ∷ parts) = (w ++ word_text part) ∷ map word_text (filter is_word parts)

byte_onto : (o : Option (List ℕ)) (b : ℕ) (parts : List (List Mark)) → words_of_parts (Some (unwrap_or o [] ++ b ∷ [])) parts ≡ words_of_parts o (onto_first (Byte b) parts)
byte_onto None b [] = refl
byte_onto None b (part ∷ parts) = refl
byte_onto (Some w) b [] = refl
byte_onto (Some w) b (part ∷ parts) = ap (λ x. x ∷ map word_text (filter is_word parts)) (append_assoc w (b ∷ []) (word_text part))

quote_onto : (o : Option (List ℕ)) (parts : List (List Mark)) → words_of_parts (Some (unwrap_or o [])) parts ≡ words_of_parts o (onto_first Quote parts)
quote_onto None [] = refl
quote_onto None (part ∷ parts) = refl
quote_onto (Some w) [] = ap (λ x. x ∷ []) (sym (append-nil w))
quote_onto (Some w) (part ∷ parts) = refl

end_onto : (o : Option (List ℕ)) (parts : List (List Mark)) → option_to_list o ++ words_of_parts None parts ≡ words_of_parts o ([] ∷ parts)
end_onto None parts = refl
end_onto (Some w) parts = ap (λ x. x ∷ map word_text (filter is_word parts)) (sym (append-nil w))

last_onto : (o : Option (List ℕ)) → option_to_list o ≡ words_of_parts o ([] ∷ [])
last_onto None = refl
last_onto (Some w) = ap (λ x. x ∷ []) (sym (append-nil w))

words_from-parts : (o : Option (List ℕ)) (ms : List Mark) → words_from o ms ≡ words_of_parts o (slice_split ends_word ms)
words_from-parts o [] = last_onto o
words_from-parts o (Blank ∷ ms) = ap (λ ws. option_to_list o ++ ws) (words_from-parts None ms) ∙ end_onto o (slice_split ends_word ms)
words_from-parts o (Pipe ∷ ms) = ap (λ ws. option_to_list o ++ ws) (words_from-parts None ms) ∙ end_onto o (slice_split ends_word ms)
words_from-parts o (Quote ∷ ms) = words_from-parts (Some (unwrap_or o [])) ms ∙ quote_onto o (slice_split ends_word ms)
words_from-parts o (Byte b ∷ ms) = words_from-parts (Some (unwrap_or o [] ++ b ∷ [])) ms ∙ byte_onto o b (slice_split ends_word ms)

-- the words read from left to right are the words
pub words_from-None : (ms : List Mark) → words_from None ms ≡ words_of ms
words_from-None ms = words_from-parts None ms

-- the marks before the first pipe
abbrev pub before : List Mark → List Mark
before [] = []
before (m ∷ ms) = cond (is_pipe m) [] (m ∷ before ms)

-- the marks after the first pipe
abbrev pub after : List Mark → List Mark
after [] = []
after (m ∷ ms) = cond (is_pipe m) ms (after ms)

one_more : (n : ℕ) (m : Mark) (ms : List Mark) → take (1 + n) (m ∷ ms) ≡ m ∷ take n ms
one_more n m ms = let e : 1 + n ≡ suc n = omega arith in rw e refl

one_deeper : (n : ℕ) (m : Mark) (ms : List Mark) → drop (1 + n + 1) (m ∷ ms) ≡ drop (n + 1) ms
one_deeper n m ms = let e : 1 + n + 1 ≡ suc (n + 1) = omega arith in rw e refl

abbrev front_len : List Mark → ℕ
front_len ms = prefix_len (λ x. not (is_pipe x)) ms

pub before_first-is_pipe : (ms : List Mark) → before_first is_pipe ms ≡ before ms
before_first-is_pipe [] = refl
before_first-is_pipe (Blank ∷ ms) = one_more (front_len ms) Blank ms ∙ ap (λ xs. Blank ∷ xs) (before_first-is_pipe ms)
before_first-is_pipe (Pipe ∷ ms) = refl
before_first-is_pipe (Quote ∷ ms) = one_more (front_len ms) Quote ms ∙ ap (λ xs. Quote ∷ xs) (before_first-is_pipe ms)
before_first-is_pipe (Byte b ∷ ms) = one_more (front_len ms) (Byte b) ms ∙ ap (λ xs. Byte b ∷ xs) (before_first-is_pipe ms)

pub after_first-is_pipe : (ms : List Mark) → after_first is_pipe ms ≡ after ms
after_first-is_pipe [] = refl
after_first-is_pipe (Blank ∷ ms) = one_deeper (front_len ms) Blank ms ∙ after_first-is_pipe ms
after_first-is_pipe (Pipe ∷ ms) = refl
after_first-is_pipe (Quote ∷ ms) = one_deeper (front_len ms) Quote ms ∙ after_first-is_pipe ms
after_first-is_pipe (Byte b ∷ ms) = one_deeper (front_len ms) (Byte b) ms ∙ after_first-is_pipe ms

-- one mark more
pub marks-drop : (quoted : Bool) (line : List ℕ) (i : ℕ) (m : Mark) → i < length line → mark_of quoted (get_or line i 0) ≡ m → marks quoted (drop i line) ≡ m ∷ marks (is_quoted_after quoted m) (drop (i + 1) line)
marks-drop quoted line i m lt is =
    rw add-one
    (ap (marks quoted) (drop-cons line i 0 lt)
    ∙ ap (λ (x : Mark). x ∷ marks (is_quoted_after quoted x) (drop (suc i) line)) is)

-- the words of a line whose marks were read up to the first pipe
pub words-at_pipe : (line : List ℕ) (old new : List (List ℕ)) → new ≡ old ++ words_from None (before (marks false line)) → new ≡ old ++ words_of (before_first is_pipe (marks false line))
words-at_pipe line old new h =
    h ∙ ap (λ ws. old ++ ws) (words_from-None (before (marks false line)) ∙ ap words_of (sym (before_first-is_pipe (marks false line))))

-- a pipe stands outside quotes
pub mark_of-Pipe : (quoted : Bool) (b : ℕ) → mark_of quoted b ≡ Pipe → quoted ≡ false
mark_of-Pipe false b is = refl
mark_of-Pipe true b is = absurd (no_pipe (eqb b 34) is)
  where
    no_pipe : (t : Bool) → cond t Quote (Byte b) ≡ Pipe → ⊥
    no_pipe true e = cc
    no_pipe false e = cc

before-no_pipe : (ms : List Mark) → list_any is_pipe ms ≡ false → before ms ≡ ms
before-no_pipe [] none = refl
before-no_pipe (Blank ∷ ms) none = ap (λ xs. Blank ∷ xs) (before-no_pipe ms none)
before-no_pipe (Pipe ∷ ms) none = absurd (cc)
before-no_pipe (Quote ∷ ms) none = ap (λ xs. Quote ∷ xs) (before-no_pipe ms none)
before-no_pipe (Byte b ∷ ms) none = ap (λ xs. Byte b ∷ xs) (before-no_pipe ms none)

-- the pattern of a filter without a second pipe
pub filter_pattern-no_pipe : (ms : List Mark) (words : List (List ℕ)) → list_any is_pipe ms ≡ false → words ≡ words_of (before_first is_pipe ms) → filter_pattern ms ≡ pattern_of words
filter_pattern-no_pipe ms words none is =
    ap (λ (t : Bool). cond t None (pattern_of (words_of ms))) none
    ∙ ap pattern_of (ap words_of (sym (before_first-is_pipe ms ∙ before-no_pipe ms none)) ∙ sym is)
