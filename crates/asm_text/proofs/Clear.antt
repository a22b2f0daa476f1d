-- Lines that are written with a carriage return and a line feed read as these lines.
use Rattle.std.proofs.Common.{◌≡◌, ℕ, ◌+◌, ◌^◌, ◌<◌, Bool, true, false, cond, eqb, ◌&&◌, List, [], ◌∷◌, ◌++◌, Option, Some, None, refl, sym, ap, ◌∙◌, arith, subst}
use Rattle.std.proofs.lemmas.Bool.{ne_eqb}
use Rattle.std.proofs.lemmas.List.{append-nil}
use Rattle.std.specs.List.{AllByRecursion}
use Rattle.std.specs.Prelude.{codes}
use Rattle.mach_base.specs.Lines.{begins_with_feed, onto_first, lines_of, words_of}
use Rattle.mach_base.specs.Number.{dec_text}
use Rattle.img_text.specs.Reading.{image_of, image_of_lines}
use Rattle.img_text.proofs.Spelled.{IsPlain, line_text, IsPlain-line}
use Rattle.asm_text.specs.declared.kind.LineKind.{LineKind}
use Rattle.asm_text.specs.declared.kind.LineKind.TheVariants.{Skipped, Segment, Values, Start, Label, Instruction}
use Rattle.asm_text.specs.Kinds.{kind_of, label_of, place_after}
use Rattle.asm_text.specs.Labels.{Labels, labels_of}
use Rattle.asm_text.specs.Instructions.{trimmed, word_at}
use Rattle.asm_text.specs.Reading.{word_line, is_first, line_by, image_line, image_lines, image_header, lines_for, lines_text}
use Rattle.asm_text.proofs.Words.{word_at-fits}

-- no byte of the line is a line feed
abbrev pub IsClear : List ℕ → Type 0
IsClear line = AllByRecursion (λ b. eqb b 10 ≡ false) line

abbrev pub AreClear : List (List ℕ) → Type 0
AreClear lines = AllByRecursion IsClear lines

and_no : (t : Bool) → (t && false) ≡ false
and_no true = refl
and_no false = refl

no_feed : (line rest : List ℕ) → IsClear line → begins_with_feed (line ++ (13 ∷ 10 ∷ rest)) ≡ false
no_feed [] rest clear = refl
no_feed (b ∷ bs) rest clear = clear.0

pub lines_of-ended : (line rest : List ℕ) → IsClear line → lines_of (line ++ (13 ∷ 10 ∷ rest)) ≡ line ∷ lines_of rest
unfolding lines_of
lines_of-ended [] rest clear = refl
lines_of-ended (b ∷ bs) rest clear =
    begin_line b (bs ++ (13 ∷ 10 ∷ rest)) clear.0 (no_feed bs rest clear.1) ∙ ap (onto_first b) (lines_of-ended bs rest clear.1)
  where
    begin_line : (b : ℕ) (more : List ℕ) → eqb b 10 ≡ false → begins_with_feed more ≡ false → lines_of (b ∷ more) ≡ onto_first b (lines_of more)
    begin_line b more here next = rw (here, next, and_no) refl

pub lines_of-lines_text : (lines : List (List ℕ)) → AreClear lines → lines_of (lines_text lines) ≡ lines
unfolding lines_text lines_of
lines_of-lines_text [] clear = refl
lines_of-lines_text (l ∷ ls) clear = lines_of-ended l (lines_text ls) clear.0 ∙ ap (λ (xs : List (List ℕ)). l ∷ xs) (lines_of-lines_text ls clear.1)

clear_onto : (b : ℕ) (lines : List (List ℕ)) → eqb b 10 ≡ false → AreClear lines → AreClear (onto_first b lines)
clear_onto b [] here clear = ((here, tt), tt)
clear_onto b (l ∷ ls) here clear = ((here, clear.0), clear.1)

-- the lines of a text have no line feeds
pub lines_of-clear : (text : List ℕ) → AreClear (lines_of text)
unfolding lines_of
lines_of-clear [] = tt
lines_of-clear (b ∷ bs) = by (eqb b 10) refl (eqb b 13 && begins_with_feed bs) (lines_of-clear bs)
  where
    by : (t : Bool) → eqb b 10 ≡ t → (u : Bool) → AreClear (lines_of bs) → AreClear (cond t ([] ∷ lines_of bs) (cond u (lines_of bs) (onto_first b (lines_of bs))))
    by true is u rest = (tt, rest)
    by false is true rest = rest
    by false is false rest = clear_onto b (lines_of bs) is rest

clear_both : (front back : List ℕ) → IsClear front → IsClear back → IsClear (front ++ back)
clear_both [] back first second = second
clear_both (b ∷ bs) back first second = (first.0, clear_both bs back first.1 second)

plain_clear : (line : List ℕ) → IsPlain line → IsClear line
plain_clear [] plain = tt
plain_clear (b ∷ bs) plain = let above : 31 < b = plain.0 in (ne_eqb b 10 (λ (e : b ≡ 10). omega arith), plain_clear bs plain.1)

-- the line that puts a word
pub word_line-line_text : (w : ℕ) (l : List ℕ) → word_line (Some w) l ≡ line_text (codes "w") (w ∷ [])
word_line-line_text w l = ap (λ (ds : List ℕ). codes "w " ++ ds) (sym (append-nil (dec_text w)))

put_clear : (w : ℕ) (l : List ℕ) → w < 2 ^ 32 → IsClear (word_line (Some w) l)
put_clear w l small =
    let fits : w < 2 ^ 64 = omega (arith, small) in
    subst IsClear (sym (word_line-line_text w l)) (plain_clear (line_text (codes "w") (w ∷ [])) (IsPlain-line (codes "w") (w ∷ []) (omega arith, tt) (fits, tt)))

word_line_clear : (labels : Labels) (place : Option ℕ) (l : List ℕ) → IsClear l → IsClear (word_line (word_at labels place (trimmed l)) l)
word_line_clear labels place l clear = by (word_at labels place (trimmed l)) refl
  where
    by : (o : Option ℕ) → word_at labels place (trimmed l) ≡ o → IsClear (word_line o l)
    by None is = clear
    by (Some w) is = put_clear w l (word_at-fits labels place (trimmed l) w is)

label_clear : (t : Bool) (l : List ℕ) → IsClear l → IsClear (cond t [] l)
label_clear true l clear = tt
label_clear false l clear = clear

line_by_clear : (kind : LineKind) (labels : Labels) (number : ℕ) (place : Option ℕ) (l : List ℕ) → IsClear l → IsClear (line_by kind labels number place l)
line_by_clear Skipped labels number place l clear = clear
line_by_clear Segment labels number place l clear = clear
line_by_clear (Values unit) labels number place l clear = clear
line_by_clear Start labels number place l clear = clear
line_by_clear Label labels number place l clear = label_clear (is_first labels number (label_of (words_of l))) l clear
line_by_clear Instruction labels number place l clear = word_line_clear labels place l clear

image_lines_clear : (labels : Labels) (number : ℕ) (place : Option ℕ) (ls : List (List ℕ)) → AreClear ls → AreClear (image_lines labels number place ls)
unfolding image_lines image_line
image_lines_clear labels number place [] clear = tt
image_lines_clear labels number place (l ∷ ls) clear =
    (line_by_clear (kind_of (words_of l)) labels number place l clear.0, image_lines_clear labels (number + 1) (place_after place (words_of l)) ls clear.1)

-- what is written for a source's lines reads as the lines that stand for them
pub lines_of-source : (ls : List (List ℕ)) → AreClear ls → lines_of (lines_text (image_header ∷ lines_for ls)) ≡ image_header ∷ lines_for ls
lines_of-source ls clear =
    lines_of-lines_text (image_header ∷ lines_for ls) ((refl, (refl, (refl, (refl, (refl, (refl, tt)))))), image_lines_clear (labels_of ls) 2 None ls clear)

pub image_of-lines_text : (ls : List (List ℕ)) → AreClear ls → image_of (lines_text (image_header ∷ lines_for ls)) ≡ image_of_lines (image_header ∷ lines_for ls)
image_of-lines_text ls clear = ap image_of_lines (lines_of-source ls clear)

-- the lines after the first of a text have no line feeds
pub rest_clear : (text first : List ℕ) (ls : List (List ℕ)) → lines_of text ≡ first ∷ ls → AreClear ls
rest_clear text first ls split = (subst AreClear split (lines_of-clear text)).1
