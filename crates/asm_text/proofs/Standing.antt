-- The line of the image format that stands for a line does what the grammar says.
use Rattle.std.proofs.Common.{◌≡◌, ℕ, ◌^◌, ◌<◌, ◌≤◌, Bool, true, false, cond, List, [], ◌∷◌, ◌++◌, Option, Some, None, Result, Ok, Err, refl, sym, ap, subst, ◌∙◌, arith}
use Rattle.std.proofs.lemmas.Bool.{eqb-true, eq-eqb}
use Rattle.std.specs.Prelude.{codes}
use Rattle.std.specs.Option.{option_or}
use Rattle.std.specs.Str.{bytes_eq}
use Rattle.mach_base.specs.declared.memory_range.Kind.TheVariants as kinds
use Rattle.mach_base.specs.Lines.{words_of, is_comment}
use Rattle.img_text.specs.declared.fault.Why.{Why}
use Rattle.img_text.specs.declared.fault.Why.TheVariants.{Word}
use Rattle.img_text.specs.declared.directive.Directive.TheVariants.{Begin, Put, Pc, Sp}
use Rattle.img_text.specs.declared.directive.Width.TheVariants.{One, Four, Eight}
use Rattle.img_text.specs.Directives.{directive_of, with_numbers, line_of}
use Rattle.img_text.specs.Grammar.{Entry}
use Rattle.img_text.proofs.Spelled.{words_of-line, each_number-dec_text}
use Rattle.asm_text.specs.declared.labels.Given.{Given}
use Rattle.asm_text.specs.declared.kind.LineKind.{LineKind}
use Rattle.asm_text.specs.declared.kind.LineKind.TheVariants.{Skipped, Segment, Values, Start, Label, Instruction}
use Rattle.asm_text.specs.Kinds.{directive_kind, kind_or, kind_of, label_of}
use Rattle.asm_text.specs.Labels.{Labels, given, is_given_at}
use Rattle.asm_text.specs.Instructions.{distance_text, if_goes, last_split, trimmed, word_at, word_of, word_towards, word_with_name}
use Rattle.asm_text.specs.Reading.{word_line, is_first, line_by, image_line}
use Rattle.asm_text.specs.Grammar.{IsWord, spelled, towards, IsLine, of_image, label, instruction}
use Rattle.asm_text.proofs.Clear.{word_line-line_text}
use Rattle.asm_text.proofs.Splits.{last_split-parts, last_split-is}
use Rattle.asm_text.proofs.Words.{no_word, word_of-insn_text, word_of-is, if_goes-is, word_at-fits}

-- ---- words

pub word_at-is : (labels : Labels) (place : Option ℕ) (line : List ℕ) (word : ℕ) → IsWord labels place line word → word_at labels place line ≡ Some word
unfolding word_at
word_at-is labels place line word (spelled p l w small is) =
    ap (λ o. option_or o (word_with_name labels place (last_split line))) (word_of-insn_text line word small is)
word_at-is labels place line word (towards p l w g) =
    ap (λ o. option_or o (word_with_name labels (Some p) (last_split line))) (no_word line g.other)
    ∙ ap (λ s. word_with_name labels (Some p) s) (ap last_split g.split ∙ last_split-is g.front g.name g.blank g.one)
    ∙ ap (λ there. word_towards p there g.front) g.is_given
    ∙ ap if_goes (word_of-insn_text (g.front ++ distance_text p g.there.address) word g.fits g.spelling)
    ∙ ap (λ t. cond t (Some word) None) g.goes

some_same : {A : Type 0} (a b : A) → ◌≡◌ {A = Option A} (Some a) (Some b) → a ≡ b
some_same a b e = cc

goes_to : (labels : Labels) (place : Option ℕ) (line : List ℕ) (word : ℕ) → word_of line ≡ None → word_with_name labels place (last_split line) ≡ Some word → IsWord labels place line word
goes_to labels None line word none is = absurd (cc)
goes_to labels (Some p) line word none is = by (given labels (last_split line).1) refl is
  where
    by : (there : Option Given) → given labels (last_split line).1 ≡ there → word_towards p there (last_split line).0 ≡ Some word → IsWord labels (Some p) line word
    by None at e = absurd (cc)
    by (Some there) at e =
        let parts = last_split-parts line in
        let found = if_goes-is (word_of ((last_split line).0 ++ distance_text p there.address)) word e in
        let it = word_of-is ((last_split line).0 ++ distance_text p there.address) word found.0 in
        towards p line word (record {
          front = (last_split line).0;
          name = (last_split line).1;
          there = there;
          split = parts.joined;
          blank = parts.blank;
          one = parts.one;
          is_given = at;
          spelling = it.spelling;
          fits = it.fits;
          goes = found.1;
          other = λ w small e2. let both = sym none ∙ word_of-insn_text line w small e2 in absurd (cc);
        })

pub word_at-from : (labels : Labels) (place : Option ℕ) (line : List ℕ) (word : ℕ) → word_at labels place line ≡ Some word → IsWord labels place line word
unfolding word_at
word_at-from labels place line word is = by (word_of line) refl is
  where
    by : (o : Option ℕ) → word_of line ≡ o → option_or o (word_with_name labels place (last_split line)) ≡ Some word → IsWord labels place line word
    by None none e = goes_to labels place line word none e
    by (Some w) some e = let it = word_of-is line word (some ∙ e) in spelled place line word it.fits it.spelling

-- ---- kinds

abbrev is_of_image : LineKind → Bool
is_of_image Skipped = true
is_of_image Segment = true
is_of_image (Values unit) = true
is_of_image Start = true
is_of_image Label = false
is_of_image Instruction = false

-- the directives of both
chain : (a b c d e f g h : Bool) (name : Option (List ℕ)) (ws : List (List ℕ)) → is_of_image (kind_or (cond a (Some Segment) (cond b (Some Segment) (cond c (Some Segment) (cond d (Some (Values 1)) (cond e (Some (Values 4)) (cond f (Some (Values 8)) (cond g (Some Start) (cond h (Some Start) None)))))))) name) ≡ false → with_numbers (cond a (Some (Begin kinds.Text)) (cond b (Some (Begin kinds.Data)) (cond c (Some (Begin kinds.Rodata)) (cond d (Some (Put One)) (cond e (Some (Put Four)) (cond f (Some (Put Eight)) (cond g (Some Pc) (cond h (Some Sp) None)))))))) ws ≡ Err Word
chain true b c d e f g h name ws is = absurd (cc)
chain false true c d e f g h name ws is = absurd (cc)
chain false false true d e f g h name ws is = absurd (cc)
chain false false false true e f g h name ws is = absurd (cc)
chain false false false false true f g h name ws is = absurd (cc)
chain false false false false false true g h name ws is = absurd (cc)
chain false false false false false false true h name ws is = absurd (cc)
chain false false false false false false false true name ws is = absurd (cc)
chain false false false false false false false false name ws is = refl

-- a label and an instruction are no lines of the image format
no_line : (words : List (List ℕ)) → is_of_image (kind_of words) ≡ false → line_of words ≡ Err Word
unfolding kind_of line_of
no_line [] is = absurd (cc)
no_line (w ∷ ws) is = by (is_comment w) is
  where
    by : (t : Bool) → is_of_image (cond t Skipped (kind_or (directive_kind w) (label_of (w ∷ ws)))) ≡ false → cond t (Ok None) (with_numbers (directive_of w) ws) ≡ Err Word
    by true e = absurd (cc)
    by false e = chain (bytes_eq w (codes "text")) (bytes_eq w (codes "data")) (bytes_eq w (codes "rodata")) (bytes_eq w (codes "b")) (bytes_eq w (codes "w")) (bytes_eq w (codes "d")) (bytes_eq w (codes "pc")) (bytes_eq w (codes "sp")) (label_of (w ∷ ws)) ws e

-- ---- lines

put_line : (w : ℕ) (l : List ℕ) → w < 2 ^ 32 → line_of (words_of (word_line (Some w) l)) ≡ Ok (Some (Put Four, w ∷ []))
unfolding line_of
put_line w l small =
    let fits : w < 2 ^ 64 = omega (arith, small) in
    let most : w ≤ 4294967295 = omega (arith, small) in
    let read = each_number-dec_text 4294967295 (w ∷ []) (fits, tt) (most, tt) in
    ap (λ (xs : List ℕ). line_of (words_of xs)) (word_line-line_text w l)
    ∙ ap line_of (words_of-line (codes "w") (w ∷ []) (omega arith) (omega arith, tt) (fits, tt))
    ∙ (rw read refl)

line_as : (labels : Labels) (number : ℕ) (place : Option ℕ) (l : List ℕ) (kind : LineKind) → kind_of (words_of l) ≡ kind → image_line labels number place l ≡ line_by kind labels number place l
unfolding image_line
line_as labels number place l kind is = ap (λ k. line_by k labels number place l) is

-- an empty line does nothing
empty_line : line_of (words_of []) ≡ Ok None
unfolding line_of words_of
empty_line = refl

first_given : (labels : Labels) (name : List ℕ) (there : Given) (number : ℕ) → given labels name ≡ Some there → there.line ≡ number → is_given_at (given labels name) number ≡ true
first_given labels name there number is at = ap (λ g. is_given_at g number) is ∙ eq-eqb there.line number at

-- what a line does, the line of the image does
pub line_reads : (labels : Labels) (number : ℕ) (place : Option ℕ) (l : List ℕ) (e : Option Entry) → IsLine labels number place l e → line_of (words_of (image_line labels number place l)) ≡ Ok e
line_reads labels number place l e (of_image k f is) = by (kind_of (words_of l)) refl
  where
    kept : image_line labels number place l ≡ l → line_of (words_of (image_line labels number place l)) ≡ Ok e
    kept same = ap (λ (xs : List ℕ). line_of (words_of xs)) same ∙ is

    by : (kind : LineKind) → kind_of (words_of l) ≡ kind → line_of (words_of (image_line labels number place l)) ≡ Ok e
    by Skipped k_is = kept (line_as labels number place l Skipped k_is)
    by Segment k_is = kept (line_as labels number place l Segment k_is)
    by (Values unit) k_is = kept (line_as labels number place l (Values unit) k_is)
    by Start k_is = kept (line_as labels number place l Start k_is)
    by Label k_is = let bad = no_line (words_of l) (ap is_of_image k_is) in absurd (cc)
    by Instruction k_is = let bad = no_line (words_of l) (ap is_of_image k_is) in absurd (cc)
line_reads labels number place l e (label k name there kind_is names is at) =
    ap (λ (xs : List ℕ). line_of (words_of xs)) (line_as labels number place l Label kind_is)
    ∙ ap (λ o. line_of (words_of (cond (is_first labels number o) [] l))) names
    ∙ ap (λ t. line_of (words_of (cond t [] l))) (first_given labels name there number is at)
    ∙ empty_line
line_reads labels number place l e (instruction k w kind_is word) =
    let at = word_at-is labels place (trimmed l) w word in
    ap (λ (xs : List ℕ). line_of (words_of xs)) (line_as labels number place l Instruction kind_is)
    ∙ ap (λ o. line_of (words_of (word_line o l))) at
    ∙ put_line w l (word_at-fits labels place (trimmed l) w at)

ok_same : (a b : Option Entry) (r : Result (Option Entry) Why) → r ≡ Ok a → r ≡ Ok b → a ≡ b
ok_same a b r e f = cc

given_there : (labels : Labels) (number : ℕ) (name : Option (List ℕ)) → is_first labels number name ≡ true → (bytes : List ℕ) × (there : Given) × (name ≡ Some bytes) × (given labels bytes ≡ Some there) × (there.line ≡ number)
given_there labels number None is = absurd (cc)
given_there labels number (Some bytes) is = by (given labels bytes) refl is
  where
    by : (g : Option Given) → given labels bytes ≡ g → is_given_at g number ≡ true → (b : List ℕ) × (there : Given) × (Some bytes ≡ Some b) × (given labels b ≡ Some there) × (there.line ≡ number)
    by None at e = absurd (cc)
    by (Some there) at e = (bytes, there, refl, at, eqb-true there.line number e)

-- what the line of the image does, the line does
pub line_from : (labels : Labels) (number : ℕ) (place : Option ℕ) (l : List ℕ) (e : Option Entry) → line_of (words_of (image_line labels number place l)) ≡ Ok e → IsLine labels number place l e
line_from labels number place l e is = by (kind_of (words_of l)) refl
  where
    kept : image_line labels number place l ≡ l → IsLine labels number place l e
    kept same = of_image l e (ap (λ (xs : List ℕ). line_of (words_of xs)) (sym same) ∙ is)

    wrong : is_of_image (kind_of (words_of l)) ≡ false → line_of (words_of l) ≡ Ok e → IsLine labels number place l e
    wrong other reads = let bad = no_line (words_of l) other in absurd (cc)

    as_label : kind_of (words_of l) ≡ Label → (t : Bool) → is_first labels number (label_of (words_of l)) ≡ t → line_of (words_of (cond t [] l)) ≡ Ok e → IsLine labels number place l e
    as_label k_is true first reads =
        let g = given_there labels number (label_of (words_of l)) first in
        let none : None ≡ e = ok_same None e (line_of (words_of [])) empty_line reads in
        subst (λ (o : Option Entry). IsLine labels number place l o) none (label l g.0 g.1 k_is g.2 g.3 g.4)
    as_label k_is false first reads = wrong (ap is_of_image k_is) reads

    as_word : kind_of (words_of l) ≡ Instruction → (o : Option ℕ) → word_at labels place (trimmed l) ≡ o → line_of (words_of (word_line o l)) ≡ Ok e → IsLine labels number place l e
    as_word k_is None none reads = wrong (ap is_of_image k_is) reads
    as_word k_is (Some w) some reads =
        let small = word_at-fits labels place (trimmed l) w some in
        let same : Some (Put Four, w ∷ []) ≡ e = ok_same (Some (Put Four, w ∷ [])) e (line_of (words_of (word_line (Some w) l))) (put_line w l small) reads in
        subst (λ (o : Option Entry). IsLine labels number place l o) same (instruction l w k_is (word_at-from labels place (trimmed l) w some))

    by : (kind : LineKind) → kind_of (words_of l) ≡ kind → IsLine labels number place l e
    by Skipped k_is = kept (line_as labels number place l Skipped k_is)
    by Segment k_is = kept (line_as labels number place l Segment k_is)
    by (Values unit) k_is = kept (line_as labels number place l (Values unit) k_is)
    by Start k_is = kept (line_as labels number place l Start k_is)
    by Label k_is = as_label k_is (is_first labels number (label_of (words_of l))) refl (ap (λ (xs : List ℕ). line_of (words_of xs)) (sym (line_as labels number place l Label k_is)) ∙ is)
    by Instruction k_is = as_word k_is (word_at labels place (trimmed l)) refl (ap (λ (xs : List ℕ). line_of (words_of xs)) (sym (line_as labels number place l Instruction k_is)) ∙ is)
