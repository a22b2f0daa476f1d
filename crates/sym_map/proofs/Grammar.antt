-- What reading a map file gives is what its grammar says.
use Rattle.std.proofs.Common.{◌≡◌, ℕ, ◌+◌, ◌<◌, ◌≤◌, ◌⊎◌, inl, inr, Bool, false, cond, nat_lt, List, [], ◌∷◌, ◌++◌, length, Option, Some, None, Result, Ok, Err, refl, sym, ap, subst, ◌∙◌, arith}
use Rattle.std.proofs.lemmas.Bool.{cases_Bool, ltb-true, ltb-false, lt-ltb, le-ltb}
use Rattle.mach_base.specs.declared.limits.TheConstants.{MOST_SYMBOLS}
use Rattle.mach_base.specs.declared.event.What.TheVariants.{Symbols}
use Rattle.mach_base.specs.Lines.{lines_of, words_of, is_comment}
use Rattle.mach_base.specs.Machine.{Symbol}
use Rattle.mach_base.specs.Sequence.{◌>>=◌}
use Rattle.mach_base.proofs.LineByLine.{each_line-right, each_line-bad, cases_lines as each_cases, RightUpTo}
use Rattle.sym_map.specs.declared.fault.MapFault.{MapFault}
use Rattle.sym_map.specs.declared.fault.MapFault.TheVariants.{Bad, TooLarge}
use Rattle.sym_map.specs.Reading.{is_undefined, symbol_of, line_of, read_lines, within_limit, symbols_of}
use Rattle.sym_map.specs.Grammar.{IsMapLine, Names, IsFirstBad, GivesItsSymbols, NamesTheFirstBadLine, NameTooMany, CountsItsSymbols, blank, comment, undefined, named, in_module}

-- One line.

-- a line that is right gives its symbol, if any
right_is : (number : ℕ) (words : List (List ℕ)) (s : Option Symbol) → IsMapLine words s → line_of number words ≡ Ok s
unfolding line_of
right_is number words s blank = refl
right_is number words s (comment w ws is) = rw is refl
right_is number words s (undefined kind name plain is) = rw (plain, is) refl
right_is number words s (named addr kind name x plain is) = rw (plain, is) refl
right_is number words s (in_module addr kind name m x plain is) = rw (plain, is) refl

-- a line that is right, with what it gives
record Right (number : ℕ) (words : List (List ℕ)) : Type 0 where
  found : Option Symbol
  right : IsMapLine words found

-- a line with an address is right where it names a symbol
by_symbol : (number : ℕ) (words : List (List ℕ)) (o : Option Symbol) → ((x : Symbol) → o ≡ Some x → IsMapLine words (Some x)) → (o ≡ None → line_of number words ≡ Err (Bad number)) → Right number words ⊎ (line_of number words ≡ Err (Bad number))
by_symbol number words None right wrong = inr (wrong refl)
by_symbol number words (Some x) right wrong = inl (record { found = Some x; right = right x refl })

after : (number : ℕ) (w : List ℕ) (ws : List (List ℕ)) → is_comment w ≡ false → Right number (w ∷ ws) ⊎ (line_of number (w ∷ ws) ≡ Err (Bad number))
unfolding line_of
after number w [] plain = inr (rw plain refl)
after number w (kind ∷ []) plain =
    elim (cases_Bool (is_undefined w)) [
      | inl is ↦ inl (record { found = None; right = undefined w kind plain is })
      | inr defined ↦ inr (rw (plain, defined) refl)
    ]
after number w (kind ∷ name ∷ []) plain =
    by_symbol number (w ∷ kind ∷ name ∷ []) (symbol_of w kind name) (λ x e. named w kind name x plain e) (λ e. rw (plain, e) refl)
after number w (kind ∷ name ∷ m ∷ []) plain =
    by_symbol number (w ∷ kind ∷ name ∷ m ∷ []) (symbol_of w kind name) (λ x e. in_module w kind name m x plain e) (λ e. rw (plain, e) refl)
after number w (kind ∷ name ∷ m ∷ k ∷ rest) plain = inr (rw plain refl)

-- a line is right, or it is bad
cases_line : (number : ℕ) (words : List (List ℕ)) → Right number words ⊎ (line_of number words ≡ Err (Bad number))
cases_line number [] = inl (record { found = None; right = blank })
cases_line number (w ∷ ws) =
    elim (cases_Bool (is_comment w)) [
      | inl is ↦ inl (record { found = None; right = comment w ws is })
      | inr plain ↦ after number w ws plain
    ]

wrong_from : (number : ℕ) (words : List (List ℕ)) → line_of number words ≡ Err (Bad number) → (s : Option Symbol) → ¬ (IsMapLine words s)
wrong_from number words bad s m = let right = right_is number words s m in absurd (cc)

bad_from : (number : ℕ) (words : List (List ℕ)) → ((s : Option Symbol) → ¬ (IsMapLine words s)) → line_of number words ≡ Err (Bad number)
bad_from number words wrong = elim (cases_line number words) [ inl r ↦ absurd (wrong r.found r.right) | inr bad ↦ bad ]

-- Lines one after the other.

cases_words : (words : List (List ℕ)) → ((s : Option Symbol) × IsMapLine words s) ⊎ ((s : Option Symbol) → ¬ (IsMapLine words s))
cases_words words = elim (cases_line 0 words) [ inl r ↦ inl (r.found, r.right) | inr bad ↦ inr (wrong_from 0 words bad) ]

cases_lines : (lines : List (List ℕ)) → ((symbols : List Symbol) × Names lines symbols) ⊎ RightUpTo IsMapLine lines
cases_lines lines = each_cases IsMapLine cases_words lines

-- Texts.

-- a text whose lines are all right
all_right : (text : List ℕ) (ss : List Symbol) → Names (lines_of text) ss → symbols_of text ≡ within_limit ss
all_right text ss right = ap (λ (r : Result (List Symbol) MapFault). r >>= within_limit) (each_line-right IsMapLine line_of right_is 1 (lines_of text) ss right)

-- a text with a line that isn't
bad_line : (text : List ℕ) (before : List (List ℕ)) (ss : List Symbol) (l : List ℕ) (ls : List (List ℕ)) → lines_of text ≡ before ++ l ∷ ls → Names before ss → ((s : Option Symbol) → ¬ (IsMapLine (words_of l) s)) → symbols_of text ≡ Err (Bad (1 + length before))
bad_line text before ss l ls split right wrong =
    let bad = each_line-bad IsMapLine line_of Bad right_is 1 before ss l ls right (bad_from (1 + length before) (words_of l) wrong) in
    ap (λ (ms : List (List ℕ)). read_lines 1 ms >>= within_limit) split ∙ ap (λ (r : Result (List Symbol) MapFault). r >>= within_limit) bad

few_is : (ss : List Symbol) → length ss ≤ MOST_SYMBOLS → within_limit ss ≡ Ok ss
few_is ss few = ap (λ (t : Bool). cond t (Err (TooLarge Symbols (length ss))) (Ok ss)) (le-ltb MOST_SYMBOLS (length ss) few)

many_is : (ss : List Symbol) → MOST_SYMBOLS < length ss → within_limit ss ≡ Err (TooLarge Symbols (length ss))
many_is ss many = ap (λ (t : Bool). cond t (Err (TooLarge Symbols (length ss))) (Ok ss)) (lt-ltb MOST_SYMBOLS (length ss) many)

abbrev Few : List Symbol → Type 0
Few ss = (length ss ≤ MOST_SYMBOLS) × (within_limit ss ≡ Ok ss)

abbrev Many : List Symbol → Type 0
Many ss = (MOST_SYMBOLS < length ss) × (within_limit ss ≡ Err (TooLarge Symbols (length ss)))

cases_limit : (ss : List Symbol) → Few ss ⊎ Many ss
cases_limit ss =
    elim (cases_Bool (nat_lt MOST_SYMBOLS (length ss))) [
      | inl many ↦ let is = ltb-true MOST_SYMBOLS (length ss) many in inr (is, many_is ss is)
      | inr few ↦ let is = ltb-false MOST_SYMBOLS (length ss) few in inl (is, few_is ss is)
    ]

ok_same : (x y : List Symbol) (r : Result (List Symbol) MapFault) → r ≡ Ok x → r ≡ Ok y → x ≡ y
ok_same x y r e f = cc

bad_same : (m n : ℕ) (r : Result (List Symbol) MapFault) → r ≡ Err (Bad m) → r ≡ Err (Bad n) → m ≡ n
bad_same m n r e f = cc

large_same : (m n : ℕ) (r : Result (List Symbol) MapFault) → r ≡ Err (TooLarge Symbols m) → r ≡ Err (TooLarge Symbols n) → m ≡ n
large_same m n r e f = cc

gives_there : (text : List ℕ) (symbols : List Symbol) → symbols_of text ≡ Ok symbols → Names (lines_of text) symbols × (length symbols ≤ MOST_SYMBOLS)
gives_there text symbols gives =
    elim (cases_lines (lines_of text)) [
      | inl all ↦ elim (cases_limit all.0) [
        | inl few ↦
            let same = ok_same all.0 symbols (symbols_of text) (all_right text all.0 all.1 ∙ few.1) gives in
            subst (λ (ss : List Symbol). Names (lines_of text) ss × (length ss ≤ MOST_SYMBOLS)) same (all.1, few.0)
        | inr many ↦ let large = all_right text all.0 all.1 ∙ many.1 in absurd (cc)
      ]
      | inr b ↦ let bad = bad_line text b.before b.values b.line b.after b.split b.right b.wrong in absurd (cc)
    ]

pub gives_its_symbols : GivesItsSymbols
gives_its_symbols text symbols = (
  λ gives. gives_there text symbols gives,
  λ both. all_right text symbols both.0 ∙ few_is symbols both.1,
)

names_bad : (text : List ℕ) (number : ℕ) → symbols_of text ≡ Err (Bad number) → IsFirstBad (lines_of text) number
names_bad text number gives =
    elim (cases_lines (lines_of text)) [
      | inl all ↦ elim (cases_limit all.0) [
        | inl few ↦ let ok = all_right text all.0 all.1 ∙ few.1 in absurd (cc)
        | inr many ↦ let large = all_right text all.0 all.1 ∙ many.1 in absurd (cc)
      ]
      | inr b ↦
          let bad = bad_line text b.before b.values b.line b.after b.split b.right b.wrong in
          let same = bad_same number (1 + length b.before) (symbols_of text) gives bad in
          record {
            before = b.before;
            line = b.line;
            after = b.after;
            split = b.split;
            place = omega arith;
            right = (b.values, b.right);
            wrong = b.wrong;
          }
    ]

pub names_the_first_bad_line : NamesTheFirstBadLine
names_the_first_bad_line text number = (
  λ gives. names_bad text number gives,
  λ b.
      let place : 1 + length b.before ≡ number = omega (arith, b.place) in
      bad_line text b.before b.right.0 b.line b.after b.split b.right.1 b.wrong ∙ ap (λ (n : ℕ). Err (Bad n)) place,
)

counts_there : (text : List ℕ) (size : ℕ) → symbols_of text ≡ Err (TooLarge Symbols size) → NameTooMany (lines_of text) size
counts_there text size gives =
    elim (cases_lines (lines_of text)) [
      | inl all ↦ elim (cases_limit all.0) [
        | inl few ↦ let ok = all_right text all.0 all.1 ∙ few.1 in absurd (cc)
        | inr many ↦
            let same = large_same size (length all.0) (symbols_of text) gives (all_right text all.0 all.1 ∙ many.1) in
            record { symbols = all.0; names = all.1; count = same; many = omega (arith, many.0) }
      ]
      | inr b ↦ let bad = bad_line text b.before b.values b.line b.after b.split b.right b.wrong in absurd (cc)
    ]

pub counts_its_symbols : CountsItsSymbols
counts_its_symbols text size = (
  λ gives. counts_there text size gives,
  λ t.
      let many : MOST_SYMBOLS < length t.symbols = omega (arith, t.count, t.many) in
      all_right text t.symbols t.names ∙ many_is t.symbols many ∙ ap (λ (n : ℕ). Err (TooLarge Symbols n)) (sym t.count),
)
