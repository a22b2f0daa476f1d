-- Lists of entries and their lines.
use Rattle.std.proofs.lemmas.Bool.{eqb-true, false≢true}
use Rattle.std.proofs.Common.{◌<◌, eqb, true, false, ◌≡◌, ℕ, ◌+◌, ◌≤◌, List, [], ◌∷◌, ◌++◌, length, refl, sym, ap, subst, ◌∙◌, append_assoc, append-nil, arith}
use Rattle.std.proofs.lemmas.List.{length-append, nil_from_length}
use Rattle.std.specs.List.{AllByRecursion}
use Rattle.mach_base.specs.Texts.{newline}
use Rattle.mach_base.specs.declared.event.Entry.{Entry}
use Rattle.jrn_text.specs.Entries.{IsEntry, entry_text, entry_line, lines_text}

-- one entry more
pub lines-snoc : (es : List Entry) (e : Entry) → lines_text (es ++ e ∷ []) ≡ lines_text es ++ entry_line e
lines-snoc [] e = append-nil (entry_line e)
lines-snoc (x ∷ xs) e = ap (λ t. entry_line x ++ t) (lines-snoc xs e) ∙ sym (append_assoc (entry_line x) (lines_text xs) (entry_line e))

pub all-snoc : (harts : ℕ) (es : List Entry) (e : Entry) → AllByRecursion (IsEntry harts) es → IsEntry harts e → AllByRecursion (IsEntry harts) (es ++ e ∷ [])
all-snoc harts [] e all is = (is, tt)
all-snoc harts (x ∷ xs) e all is = (all.0, all-snoc harts xs e all.1 is)

-- the lines of the entries so far and of the next one
pub line_on : (text rest more : List ℕ) (es : List Entry) (e : Entry) → text ≡ lines_text es ++ rest → rest ≡ entry_line e ++ more → text ≡ lines_text (es ++ e ∷ []) ++ more
line_on text rest more es e from next =
    from ∙ ap (λ t. lines_text es ++ t) next ∙ sym (append_assoc (lines_text es) (entry_line e) more) ∙ ap (λ t. t ++ more) (sym (lines-snoc es e))

-- each entry's line has a byte
pub line_some : (e : Entry) → 1 ≤ length (entry_line e)
line_some e = omega (arith, length-append (entry_text e) newline)

-- there are no more entries than bytes
pub lines_long : (es : List Entry) → length es ≤ length (lines_text es)
lines_long [] = omega arith
lines_long (e ∷ es) = omega (arith, length-append (entry_line e) (lines_text es), line_some e, lines_long es)

pub few_entries : (text rest : List ℕ) (es : List Entry) → text ≡ lines_text es ++ rest → length es ≤ length text
few_entries text rest es from = omega (arith, ap length from, length-append (lines_text es) rest, lines_long es)

-- what follows a line is shorter
pub shorter : (text rest : List ℕ) (e : Entry) → text ≡ entry_line e ++ rest → length rest < length text
shorter text rest e from = omega (arith, ap length from, length-append (entry_line e) rest, line_some e)

-- where no entry was read yet
pub all_none : (harts : ℕ) (es : List Entry) → es ≡ [] → AllByRecursion (IsEntry harts) es
all_none harts es is = subst (AllByRecursion (IsEntry harts)) (sym is) tt

pub from_none : (text : List ℕ) (es : List Entry) → es ≡ [] → text ≡ lines_text es ++ text
from_none text es is = ap (λ l. lines_text l ++ text) (sym is)

-- whether bytes are left
pub some_left : (xs : List ℕ) → eqb (length xs) 0 ≡ false → 0 < length xs
some_left [] h = absurd (false≢true (sym h))
some_left (x ∷ xs) h = omega arith

pub none_left : (xs : List ℕ) → eqb (length xs) 0 ≡ true → xs ≡ []
none_left xs h = nil_from_length xs (eqb-true _ _ h)

-- a journal's text is its first line, and its entries' lines
pub whole_text : (text header rest lines : List ℕ) → text ≡ header ++ rest → rest ≡ lines → text ≡ header ++ lines
whole_text text header rest lines is same = is ∙ ap (λ t. header ++ t) same
