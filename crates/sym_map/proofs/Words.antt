-- The words of a line, and the names of symbols, which are words.
use Rattle.std.proofs.Common.{◌≡◌, ℕ, zero, suc, ◌<◌, Bool, true, false, not, cond, nat_le, ◌&&◌, eqb, List, [], ◌∷◌, length, get_or, Option, Some, None, Ok, refl, sym, ap, subst, arith}
use Rattle.std.specs.List.{list_all, AllByRecursion, cons_option}
use Rattle.std.specs.Option.{option_map}
use Rattle.std.proofs.lemmas.Bool.{and_from, and_parts, leb-true, not_from_false}
use Rattle.mach_base.specs.Lines.{is_blank, begins_with_word, onto_first, lines_of, words_of}
use Rattle.mach_base.specs.Machine.{Symbol}
use Rattle.mach_base.specs.declared.limits.TheConstants.{SYMBOL_BYTES}
use Rattle.mach_base.specs.LineByLine.{nothing, one_more}
use Rattle.sym_map.specs.Limits.{IsSymbolName, AreSymbols}
use Rattle.sym_map.specs.Reading.{symbols_of, symbol_of, address_of}
use Rattle.sym_map.specs.Grammar.{IsMapLine, Names, blank, comment, undefined, named, in_module}
use Rattle.sym_map.proofs.Grammar.{gives_its_symbols}

-- what is between blanks
record IsWord (word : List ℕ) : Type 0 where
  some : 0 < length word
  whole : list_all (λ b. not (is_blank b)) word ≡ true

longer : (b : ℕ) (bs : List ℕ) → is_blank b ≡ false → list_all (λ c. not (is_blank c)) bs ≡ true → IsWord (b ∷ bs)
longer b bs solid rest = record { some = omega arith; whole = and_from (not (is_blank b)) (list_all (λ c. not (is_blank c)) bs) (not_from_false (is_blank b) solid) rest }

onto : (b : ℕ) (words : List (List ℕ)) → is_blank b ≡ false → AllByRecursion IsWord words → AllByRecursion IsWord (onto_first b words)
onto b [] solid all = (longer b [] solid refl, tt)
onto b (w ∷ ws) solid all = (longer b w solid all.0.whole, all.1)

are_words : (bs : List ℕ) → AllByRecursion IsWord (words_of bs)
unfolding words_of
are_words [] = tt
are_words (b ∷ bs) = by (is_blank b) (begins_with_word bs) refl (are_words bs)
  where
    by : (gap more : Bool) → is_blank b ≡ gap → AllByRecursion IsWord (words_of bs) → AllByRecursion IsWord (cond gap (words_of bs) (cond more (onto_first b (words_of bs)) ((b ∷ []) ∷ words_of bs)))
    by true more solid rest = rest
    by false true solid rest = onto b (words_of bs) solid rest
    by false false solid rest = (longer b [] solid refl, rest)

guarded : (small : Bool) (rest : Option Symbol) (s : Symbol) → cond small rest None ≡ Some s → (small ≡ true) × (rest ≡ Some s)
guarded true rest s e = (refl, e)
guarded false rest s e = absurd (cc)

name_of : (addr : Option ℕ) (name : List ℕ) (s : Symbol) → option_map (λ a. record { addr = a; name = name }) addr ≡ Some s → s.name ≡ name
name_of None name s e = absurd (cc)
name_of (Some a) name s e = let is : record { addr = a; name = name } ≡ s = cc in ap (λ (x : Symbol). x.name) (sym is)

-- a symbol's name is a word that isn't too long
named_well : (addr kind name : List ℕ) (s : Symbol) → symbol_of addr kind name ≡ Some s → IsWord name → IsSymbolName s.name
named_well addr kind name s e word =
    let g = guarded (eqb (length kind) 1 && nat_le (length name) SYMBOL_BYTES) (option_map (λ a. record { addr = a; name = name }) (address_of addr)) s e in
    let short = (and_parts (eqb (length kind) 1) (nat_le (length name) SYMBOL_BYTES) g.0).1 in
    let well : IsSymbolName name = record { some = word.some; short = leb-true (length name) SYMBOL_BYTES short; whole = word.whole } in
    subst (λ (n : List ℕ). IsSymbolName n) (sym (name_of (address_of addr) name s g.1)) well

on_line : (words : List (List ℕ)) (s : Option Symbol) (ss : List Symbol) → AllByRecursion IsWord words → IsMapLine words s → AllByRecursion (λ x. IsSymbolName x.name) ss → AllByRecursion (λ x. IsSymbolName x.name) (cons_option s ss)
on_line words s ss all blank rest = rest
on_line words s ss all (comment w ws is) rest = rest
on_line words s ss all (undefined kind name is of) rest = rest
on_line words s ss all (named addr kind name x is of) rest = (named_well addr kind name x of all.1.1.0, rest)
on_line words s ss all (in_module addr kind name m x is of) rest = (named_well addr kind name x of all.1.1.0, rest)

on_lines : (lines : List (List ℕ)) (ss : List Symbol) → Names lines ss → AllByRecursion (λ s. IsSymbolName s.name) ss
on_lines lines ss nothing = tt
on_lines lines ss (one_more l ls s rest is more) = on_line (words_of l) s rest (are_words l) is (on_lines ls rest more)

-- the symbols of a text keep the limits
pub symbols_keep_limits : (text : List ℕ) (symbols : List Symbol) → symbols_of text ≡ Ok symbols → AreSymbols symbols
symbols_keep_limits text symbols is =
    let both = (gives_its_symbols text symbols).0 is in
    record { few = both.1; named = on_lines (lines_of text) symbols both.0 }

-- so does each of them
pub named_at : (symbols : List Symbol) (k : ℕ) (d : Symbol) → AllByRecursion (λ s. IsSymbolName s.name) symbols → k < length symbols → IsSymbolName (get_or symbols k d).name
named_at [] k d all within = absurd (omega arith)
named_at (s ∷ ss) zero d all within = all.0
named_at (s ∷ ss) (suc k) d all within = named_at ss k d all.1 (omega arith)
