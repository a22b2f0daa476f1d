-- What is spelled means what was spelled.
use Rattle.std.proofs.lemmas.List.{take-append-drop}
use Rattle.std.proofs.Math.Seq.{take-append_seam}
use Rattle.std.specs.Str.{bytes_eq}
use Rattle.std.proofs.lemmas.Slice.Eq.{bytes_eq-Decides}
use Rattle.std.proofs.Common.{rules, take, drop, cond, nat_le, pow_mono, ◌==◌, ◌≡◌, ◌≢◌, ℕ, ◌+◌, ◌^◌, ◌<◌, ◌≤◌, ◌&&◌, Bool, true, false, List, [], ◌∷◌, ◌++◌, length, codes, Option, Some, None, nat_lt, refl, sym, ap, ◌∙◌, append_assoc, arith}
use Rattle.std.proofs.lemmas.Bool.{ltb-true, leb-true, false≢true}
use Rattle.std.specs.Char.{digit_value}
use Rattle.std.specs.Fmt.{digits}
use Rattle.std.specs.Result.{result_ok}
use Rattle.std.proofs.lemmas.Fmt.{digits_is_IsNumeral}
use Rattle.std.specs.Option.{option_and_then, option_map}
use Rattle.mach_base.specs.declared.event.Hart.{Hart}
use Rattle.mach_base.specs.declared.event.Ending.{Ending}
use Rattle.mach_base.specs.declared.event.Ending.TheVariants.{ScriptEnd, AllHalted, StepLimit, PlanEnd}
use Rattle.mach_base.specs.declared.event.Entry.{Entry}
use Rattle.mach_base.specs.declared.event.Entry.TheVariants.{Step, Intr, Send, Take, Open, Pull, Line, Plant, PlantStep, PullStep, Close, Off}
use Rattle.mach_base.specs.Packed.{hart, IsPackable}
use Rattle.mach_base.specs.Texts.{newline}
use Rattle.mach_base.specs.Number.{dec_text, number_of}
use Rattle.jrn_text.specs.Entries.{numbers_in, list_text, late_text, short_address, ending_word, lettered, entry_text, is_entry, IsEntry, entry_line}
use Rattle.jrn_text.specs.Journal.{header_text, is_header, IsHeader}
use Rattle.jrn_text.specs.Cuts.{cut_at}
use Rattle.jrn_text.specs.Loose.{number_below, late_in, opening_in, lettered_entry, loose_entry, after_blank, numbers_in_line, entry_meant, numbers_meant}
use Rattle.jrn_text.proofs.Cut.{HasNone, none_append, cut_found}
use Rattle.jrn_text.proofs.Numbers.{number_below-dec, number_of-dec, number_of-hex, digits_none, dec_none}
use Rattle.jrn_text.proofs.Masks.{late_in-text, list_none, numbers_below}

both_of : (a b : Bool) → (a && b) ≡ true → (a ≡ true) × (b ≡ true)
both_of true b is = (refl, is)
both_of false b is = absurd (false≢true is)

-- a hart or a place of a journal
small_hart : (h harts : ℕ) → harts ≤ 16 → nat_lt h harts ≡ true → h < 16
small_hart h harts few is = omega (arith, ltb-true h harts is, few)

few_late : (late harts : ℕ) → harts ≤ 16 → nat_lt late (2 ^ harts) ≡ true → late < 2 ^ 16
few_late late harts few is = omega (arith, ltb-true late (2 ^ harts) is, pow_mono {i = harts} {j = 16} few)

number-dec : (h : ℕ) → h < 16 → number_below 256 (dec_text h) ≡ Some h
number-dec h lt = number_below-dec 256 h (omega arith) (omega arith)

opening-text : (h late : ℕ) → h < 16 → late < 2 ^ 16 → opening_in (dec_text h ++ (32 ∷ late_text late)) ≡ Some (Open (hart h) late)
opening-text h late lt few =
    ap (option_and_then (λ cut. option_and_then (λ n. option_map (Open (hart n)) (late_in cut.1)) (number_below 256 cut.0))) (cut_found 32 (dec_text h) (late_text late) (dec_none 32 h (omega arith) (omega arith)))
    ∙ ap (option_and_then (λ n. option_map (Open (hart n)) (late_in (late_text late)))) (number-dec h lt)
    ∙ ap (option_map (Open (hart h))) (late_in-text late few)

pub loose-text : (harts : ℕ) (e : Entry) → harts ≤ 16 → IsEntry harts e → loose_entry (entry_text e) ≡ Some e
unfolding entry_text loose_entry lettered_entry short_address
loose-text harts (Step h) few is = ap (option_map (λ n. Step (hart n))) (number-dec h.0 (small_hart h.0 harts few is))
loose-text harts (Intr h) few is = ap (option_map (λ n. Intr (hart n))) (number-dec h.0 (small_hart h.0 harts few is))
loose-text harts (Send h) few is = ap (option_map (λ n. Send (hart n))) (number-dec h.0 (small_hart h.0 harts few is))
loose-text harts (Take h) few is = ap (option_map (λ n. Take (hart n))) (number-dec h.0 (small_hart h.0 harts few is))
loose-text harts (Open h late) few is =
    let both = both_of (nat_lt h.0 harts) (nat_lt late (2 ^ harts)) is in
    opening-text h.0 late (small_hart h.0 harts few both.0) (few_late late harts few both.1)
loose-text harts (Pull i) few is = ap (option_map Pull) (number-dec i (ltb-true i 16 is))
loose-text harts (Line h) few is = ap (option_map (λ n. Line (hart n))) (number-dec h.0 (small_hart h.0 harts few is))
loose-text harts (Plant i) few is = ap (option_map Plant) (number-dec i (ltb-true i 16 is))
loose-text harts (PlantStep addr) few is = ap (λ r. option_map PlantStep (result_ok r)) (number_of-hex addr (ltb-true addr (2 ^ 64) is))
loose-text harts PullStep few is = refl
loose-text harts (Close h) few is = ap (option_map (λ n. Close (hart n))) (number-dec h.0 (small_hart h.0 harts few is))
loose-text harts (Off ScriptEnd) few is = refl
loose-text harts (Off AllHalted) few is = refl
loose-text harts (Off StepLimit) few is = refl
loose-text harts (Off PlanEnd) few is = absurd (false≢true is)

-- no line feed stands inside an entry's line
lettered_none : (letter : ℕ) (text : List ℕ) → letter ≢ 10 → HasNone 10 text → HasNone 10 (lettered letter text)
lettered_none letter text ne none = (ne, ((λ e. omega (arith, e)), none))

dec_line : (h : ℕ) → h < 16 → HasNone 10 (dec_text h)
dec_line h lt = dec_none 10 h (omega arith) (omega arith)

late_none : (late : ℕ) → HasNone 10 (late_text late)
unfolding late_text
late_none late = by_test (late == 0)
  where
    by_test : (t : Bool) → HasNone 10 (cond t (codes "-") (list_text (numbers_in 16 late)))
    by_test true = ((λ e. omega (arith, e)), tt)
    by_test false = list_none 10 (numbers_in 16 late) (omega arith) (λ e. omega (arith, e)) (numbers_below 16 late)

address_none : (addr : ℕ) → addr < 2 ^ 64 → HasNone 10 (short_address addr)
unfolding short_address
address_none addr lt =
    ((λ e. omega (arith, e)), ((λ e. omega (arith, e)), digits_none 16 10 (digits 16 false addr) (omega arith) (digits_is_IsNumeral 16 false (omega arith) (omega arith) addr (omega arith)).0.1))

text_none : (harts : ℕ) (e : Entry) → harts ≤ 16 → IsEntry harts e → HasNone 10 (entry_text e)
unfolding entry_text
text_none harts (Step h) few is = lettered_none 83 _ (λ e. omega (arith, e)) (dec_line h.0 (small_hart h.0 harts few is))
text_none harts (Intr h) few is = lettered_none 73 _ (λ e. omega (arith, e)) (dec_line h.0 (small_hart h.0 harts few is))
text_none harts (Send h) few is = lettered_none 67 _ (λ e. omega (arith, e)) (dec_line h.0 (small_hart h.0 harts few is))
text_none harts (Take h) few is = lettered_none 84 _ (λ e. omega (arith, e)) (dec_line h.0 (small_hart h.0 harts few is))
text_none harts (Open h late) few is =
    let both = both_of (nat_lt h.0 harts) (nat_lt late (2 ^ harts)) is in
    lettered_none 79 _ (λ e. omega (arith, e)) (none_append 10 (dec_text h.0) (32 ∷ late_text late) (dec_line h.0 (small_hart h.0 harts few both.0)) ((λ e. omega (arith, e)), late_none late))
text_none harts (Pull i) few is = lettered_none 85 _ (λ e. omega (arith, e)) (dec_line i (ltb-true i 16 is))
text_none harts (Line h) few is = lettered_none 76 _ (λ e. omega (arith, e)) (dec_line h.0 (small_hart h.0 harts few is))
text_none harts (Plant i) few is = lettered_none 80 _ (λ e. omega (arith, e)) (dec_line i (ltb-true i 16 is))
text_none harts (PlantStep addr) few is = lettered_none 65 _ (λ e. omega (arith, e)) (address_none addr (ltb-true addr (2 ^ 64) is))
text_none harts PullStep few is = ((λ e. omega (arith, e)), tt)
text_none harts (Close h) few is = lettered_none 69 _ (λ e. omega (arith, e)) (dec_line h.0 (small_hart h.0 harts few is))
text_none harts (Off ScriptEnd) few is = search (rules, arith)
text_none harts (Off AllHalted) few is = search (rules, arith)
text_none harts (Off StepLimit) few is = search (rules, arith)
text_none harts (Off PlanEnd) few is = absurd (false≢true is)

-- a text that begins with an entry's line means that entry
pub meant : (harts : ℕ) (e : Entry) (text rest : List ℕ) → harts ≤ 16 → IsEntry harts e → text ≡ entry_line e ++ rest → entry_meant text ≡ Some e
meant harts e text rest few is from =
    ap entry_meant (from ∙ append_assoc (entry_text e) newline rest)
    ∙ ap (option_and_then (λ cut. loose_entry cut.0)) (cut_found 10 (entry_text e) rest (text_none harts e few is))
    ∙ loose-text harts e few is

-- the first line without its line feed
abbrev header_front : ℕ → ℕ → List ℕ
header_front harts limit = codes "kjrn 1 harts " ++ (dec_text harts ++ (codes " steps " ++ dec_text limit))

header_is : (harts limit : ℕ) (rest : List ℕ) → header_text harts limit ++ rest ≡ header_front harts limit ++ (10 ∷ rest)
unfolding header_text
header_is harts limit rest =
    ap (λ t. codes "kjrn 1 harts " ++ t)
    (append_assoc (dec_text harts) (codes " steps " ++ (dec_text limit ++ newline)) rest
    ∙ ap (λ t. dec_text harts ++ t) (ap (λ t. codes " steps " ++ t) (append_assoc (dec_text limit) newline rest))
    ∙ sym (append_assoc (dec_text harts) (codes " steps " ++ dec_text limit) (10 ∷ rest)))

header_none : (harts limit : ℕ) → harts < 2 ^ 64 → limit < 2 ^ 64 → HasNone 10 (header_front harts limit)
header_none harts limit few small =
    none_append 10 (codes "kjrn 1 harts ") (dec_text harts ++ (codes " steps " ++ dec_text limit)) (search (rules, arith))
    (none_append 10 (dec_text harts) (codes " steps " ++ dec_text limit) (dec_none 10 harts (omega arith) few)
    (none_append 10 (codes " steps ") (dec_text limit) (search (rules, arith)) (dec_none 10 limit (omega arith) small)))

numbers-front : (harts limit : ℕ) → harts < 256 → limit < 2 ^ 64 → numbers_in_line (header_front harts limit) ≡ Some (harts, limit)
numbers-front harts limit few small =
    ap (option_and_then (λ cut. option_and_then (λ text. option_and_then (λ n. option_map (λ l. (n, l)) (result_ok (number_of 10 text))) (number_below 256 cut.0)) (after_blank cut.1))) (cut_found 32 (dec_text harts) (codes "steps " ++ dec_text limit) (dec_none 32 harts (omega arith) (omega arith)))
    ∙ ap (option_and_then (λ n. option_map (λ l. (n, l)) (result_ok (number_of 10 (dec_text limit))))) (number_below-dec 256 harts few (omega arith))
    ∙ ap (λ r. option_map (λ l. (harts, l)) (result_ok r)) (number_of-dec limit small)

-- a text that begins with a first line means its numbers
pub numbers : (harts limit : ℕ) (text rest : List ℕ) → IsHeader harts limit → text ≡ header_text harts limit ++ rest → numbers_meant text ≡ Some (harts, limit)
numbers harts limit text rest is from =
    let both = both_of (nat_le 1 harts && nat_le harts 16) (nat_le 1 limit && nat_le limit 4000000) is in
    let harts_fit : harts ≤ 16 = leb-true harts 16 (both_of (nat_le 1 harts) (nat_le harts 16) both.0).1 in
    let limit_fits : limit ≤ 4000000 = leb-true limit 4000000 (both_of (nat_le 1 limit) (nat_le limit 4000000) both.1).1 in
    ap numbers_meant (from ∙ header_is harts limit rest)
    ∙ ap (option_and_then (λ cut. numbers_in_line cut.0)) (cut_found 10 (header_front harts limit) rest (header_none harts limit (omega arith) (omega arith)))
    ∙ numbers-front harts limit (omega arith) (omega arith)

-- an entry of a journal has bytes in a packed list
pub packable : (harts : ℕ) (e : Entry) → harts ≤ 16 → IsEntry harts e → IsPackable e
packable harts (Step h) few is = omega (arith, small_hart h.0 harts few is)
packable harts (Intr h) few is = omega (arith, small_hart h.0 harts few is)
packable harts (Send h) few is = omega (arith, small_hart h.0 harts few is)
packable harts (Take h) few is = omega (arith, small_hart h.0 harts few is)
packable harts (Open h late) few is =
    let both = both_of (nat_lt h.0 harts) (nat_lt late (2 ^ harts)) is in
    (omega (arith, small_hart h.0 harts few both.0), omega (arith, few_late late harts few both.1))
packable harts (Pull i) few is = omega (arith, ltb-true i 16 is)
packable harts (Line h) few is = omega (arith, small_hart h.0 harts few is)
packable harts (Plant i) few is = omega (arith, ltb-true i 16 is)
packable harts (PlantStep addr) few is = ltb-true addr (2 ^ 64) is
packable harts PullStep few is = tt
packable harts (Close h) few is = omega (arith, small_hart h.0 harts few is)
packable harts (Off ScriptEnd) few is = λ e. search (rules, e)
packable harts (Off AllHalted) few is = λ e. search (rules, e)
packable harts (Off StepLimit) few is = λ e. search (rules, e)
packable harts (Off PlanEnd) few is = absurd (false≢true is)

-- what a prefix strips
pub stripped : (s p x : List ℕ) → bytes_eq (take (length p) s) p ≡ true → x ≡ drop (length p) s → s ≡ p ++ x
stripped s p x same rest =
    sym (take-append-drop (length p) s) ∙ ap (λ t. t ++ drop (length p) s) ((bytes_eq-Decides (take (length p) s) p).0 same) ∙ ap (λ t. p ++ t) (sym rest)

pub unstripped : (s p x : List ℕ) → s ≡ p ++ x → bytes_eq (take (length p) s) p ≡ true
unstripped s p x is = (bytes_eq-Decides (take (length p) s) p).1 (ap (take (length p)) is ∙ take-append_seam p x)

-- the numbers that a first line means are its own
header_test : Option (ℕ × ℕ) → Bool
header_test None = false
header_test (Some p) = is_header p.0 p.1

header_spelled : Option (ℕ × ℕ) → List ℕ
header_spelled None = []
header_spelled (Some p) = header_text p.0 p.1

pub no_header : (found : Option (ℕ × ℕ)) (text : List ℕ) → found ≡ numbers_meant text → found ≡ None → (harts limit : ℕ) (rest : List ℕ) → IsHeader harts limit → text ≡ header_text harts limit ++ rest → ⊥
unfolding header_test
no_header found text means none harts limit rest is from =
    let same = sym none ∙ means ∙ numbers harts limit text rest is from in
    false≢true (ap header_test same ∙ is)

pub other_header : (found : Option (ℕ × ℕ)) (text : List ℕ) (h l : ℕ) → found ≡ numbers_meant text → found ≡ Some (h, l) → is_header h l ≡ false → (harts limit : ℕ) (rest : List ℕ) → IsHeader harts limit → text ≡ header_text harts limit ++ rest → ⊥
unfolding header_test
other_header found text h l means some not harts limit rest is from =
    let same = sym some ∙ means ∙ numbers harts limit text rest is from in
    false≢true (sym not ∙ ap header_test same ∙ is)

pub unspelled_header : (found : Option (ℕ × ℕ)) (text p : List ℕ) (h l : ℕ) → found ≡ numbers_meant text → found ≡ Some (h, l) → p ≡ header_text h l → bytes_eq (take (length p) text) p ≡ false → (harts limit : ℕ) (rest : List ℕ) → IsHeader harts limit → text ≡ header_text harts limit ++ rest → ⊥
unfolding header_spelled
unspelled_header found text p h l means some p_is not harts limit rest is from =
    let same = sym some ∙ means ∙ numbers harts limit text rest is from in
    let spelled = p_is ∙ ap header_spelled same in
    false≢true (sym not ∙ unstripped text p rest (from ∙ ap (λ t. t ++ rest) (sym spelled)))

-- the entry that a line means is its own
entry_test : ℕ → Option Entry → Bool
entry_test harts None = false
entry_test harts (Some e) = is_entry harts e

entry_spelled : Option Entry → List ℕ
entry_spelled None = []
entry_spelled (Some e) = entry_line e

pub no_entry : (harts : ℕ) (found : Option Entry) (text : List ℕ) → harts ≤ 16 → found ≡ entry_meant text → found ≡ None → (e : Entry) (rest : List ℕ) → IsEntry harts e → text ≡ entry_line e ++ rest → ⊥
unfolding entry_test
no_entry harts found text few means none e rest is from =
    let same = sym none ∙ means ∙ meant harts e text rest few is from in
    false≢true (ap (entry_test harts) same ∙ is)

pub other_entry : (harts : ℕ) (found : Option Entry) (text : List ℕ) (x : Entry) → harts ≤ 16 → found ≡ entry_meant text → found ≡ Some x → is_entry harts x ≡ false → (e : Entry) (rest : List ℕ) → IsEntry harts e → text ≡ entry_line e ++ rest → ⊥
unfolding entry_test
other_entry harts found text x few means some not e rest is from =
    let same = sym some ∙ means ∙ meant harts e text rest few is from in
    false≢true (sym not ∙ ap (entry_test harts) same ∙ is)

pub unspelled_entry : (harts : ℕ) (found : Option Entry) (text p : List ℕ) (x : Entry) → harts ≤ 16 → found ≡ entry_meant text → found ≡ Some x → p ≡ entry_line x → bytes_eq (take (length p) text) p ≡ false → (e : Entry) (rest : List ℕ) → IsEntry harts e → text ≡ entry_line e ++ rest → ⊥
unfolding entry_spelled
unspelled_entry harts found text p x few means some p_is not e rest is from =
    let same = sym some ∙ means ∙ meant harts e text rest few is from in
    let spelled = p_is ∙ ap entry_spelled same in
    false≢true (sym not ∙ unstripped text p rest (from ∙ ap (λ t. t ++ rest) (sym spelled)))

-- the harts of a first line
pub few_harts : (harts limit : ℕ) → IsHeader harts limit → harts ≤ 16
few_harts harts limit is =
    leb-true harts 16 (both_of (nat_le 1 harts) (nat_le harts 16) (both_of (nat_le 1 harts && nat_le harts 16) (nat_le 1 limit && nat_le limit 4000000) is).0).1
