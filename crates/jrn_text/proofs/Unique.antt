-- A text is one journal at most.
use Rattle.std.proofs.Common.{◌≡◌, ◌≢◌, ℕ, ◌+◌, ◌<◌, ◌≤◌, ◌⊎◌, inl, inr, List, [], ◌∷◌, ◌++◌, length, Option, Some, unwrap_or, refl, sym, ap, subst, ◌∙◌, append_assoc, append-nil, arith}
use Rattle.std.proofs.lemmas.List.{append_cancel_left, length-append}
use Rattle.std.specs.List.{AllByRecursion}
use Rattle.mach_base.specs.declared.event.Entry.{Entry}
use Rattle.jrn_text.specs.declared.fault.JournalFault.TheVariants.{Bad}
use Rattle.jrn_text.specs.Entries.{IsEntry, entry_line, lines_text}
use Rattle.jrn_text.specs.Loose.{entry_meant, numbers_meant}
use Rattle.jrn_text.specs.Journal.{header_text, journal_text, IsHeader, IsJournal, HasNoHeader, HasNoEntry, StopsAt, StopsAfter, Explains}
use Rattle.jrn_text.specs.Laws.{IsJournalText, TextsMeanOneThing}
use Rattle.jrn_text.proofs.Meaning.{meant, numbers, few_harts}
use Rattle.jrn_text.proofs.Lines.{line_some}

same_some : {A : Type 0} → (x y : A) → Some x ≡ Some y → x ≡ y
same_some x y e = ap (λ o. unwrap_or o x) e

-- nothing begins with an entry's line
empty_none : (harts : ℕ) → HasNoEntry harts []
empty_none harts e rest is from = omega (arith, ap length from, length-append (entry_line e) rest, line_some e)

same_entry : (harts : ℕ) (e f : Entry) (rest more : List ℕ) → harts ≤ 16 → IsEntry harts e → IsEntry harts f → entry_line e ++ rest ≡ entry_line f ++ more → e ≡ f
same_entry harts e f rest more few is it same =
    same_some e f (sym (meant harts e (entry_line e ++ rest) rest few is refl) ∙ meant harts f (entry_line e ++ rest) more few it same)

same_rest : (e f : Entry) (rest more : List ℕ) → e ≡ f → entry_line e ++ rest ≡ entry_line f ++ more → rest ≡ more
same_rest e f rest more is same = append_cancel_left (entry_line e) rest more (same ∙ ap (λ x. entry_line x ++ more) (sym is))

-- entries' lines, and after them what begins with none
record Parts (harts : ℕ) (text : List ℕ) (es : List Entry) (rest : List ℕ) : Type 0 where
  all : AllByRecursion (IsEntry harts) es
  text_is : text ≡ lines_text es ++ rest
  none : HasNoEntry harts rest

record Same (es fs : List Entry) (rest more : List ℕ) : Type 0 where
  entries : es ≡ fs
  rests : rest ≡ more

one_split : (harts : ℕ) (es fs : List Entry) (rest more text : List ℕ) → harts ≤ 16 → Parts harts text es rest → Parts harts text fs more → Same es fs rest more
one_split harts [] [] rest more text few a b = record { entries = refl; rests = sym a.text_is ∙ b.text_is }
one_split harts [] (f ∷ fs) rest more text few a b =
    absurd (a.none f (lines_text fs ++ more) b.all.0 (sym a.text_is ∙ b.text_is ∙ append_assoc (entry_line f) (lines_text fs) more))
one_split harts (e ∷ es) [] rest more text few a b =
    absurd (b.none e (lines_text es ++ rest) a.all.0 (sym b.text_is ∙ a.text_is ∙ append_assoc (entry_line e) (lines_text es) rest))
one_split harts (e ∷ es) (f ∷ fs) rest more text few a b =
    let both : entry_line e ++ (lines_text es ++ rest) ≡ entry_line f ++ (lines_text fs ++ more) =
    sym (append_assoc (entry_line e) (lines_text es) rest) ∙ sym a.text_is ∙ b.text_is ∙ append_assoc (entry_line f) (lines_text fs) more in
    let first = same_entry harts e f (lines_text es ++ rest) (lines_text fs ++ more) few a.all.0 b.all.0 both in
    let left : lines_text es ++ rest ≡ lines_text fs ++ more = same_rest e f (lines_text es ++ rest) (lines_text fs ++ more) first both in
    let others = one_split harts es fs rest more (lines_text es ++ rest) few
    (record { all = a.all.1; text_is = refl; none = a.none }) (record { all = b.all.1; text_is = left; none = b.none }) in
    record { entries = ap (λ x. x ∷ es) first ∙ ap (λ xs. f ∷ xs) others.entries; rests = others.rests }

-- a first line, and what follows it
record Headed (text : List ℕ) (harts limit : ℕ) (lines : List ℕ) : Type 0 where
  header : IsHeader harts limit
  text_is : text ≡ header_text harts limit ++ lines

same_numbers : (text : List ℕ) (h l k m : ℕ) (lines more : List ℕ) → Headed text h l lines → Headed text k m more → ◌≡◌ {A = ℕ × ℕ} (h, l) (k, m)
same_numbers text h l k m lines more a b =
    same_some (h, l) (k, m) (sym (numbers h l text lines a.header a.text_is) ∙ numbers k m text more b.header b.text_is)

same_lines : (text : List ℕ) (h l k m : ℕ) (lines more : List ℕ) → Headed text h l lines → Headed text k m more → lines ≡ more
same_lines text h l k m lines more a b =
    append_cancel_left (header_text h l) lines more
    (sym a.text_is ∙ b.text_is ∙ ap (λ (p : ℕ × ℕ). header_text p.0 p.1 ++ more) (sym (same_numbers text h l k m lines more a b)))

headed_of : (text : List ℕ) (h l : ℕ) (es : List Entry) → IsJournalText text h l es → Headed text h l (lines_text es)
headed_of text h l es j = record { header = j.journal.0; text_is = j.text_is }

parts_of : (harts : ℕ) (es : List Entry) → AllByRecursion (IsEntry harts) es → Parts harts (lines_text es) es []
parts_of harts es all = record { all = all; text_is = sym (append-nil (lines_text es)); none = empty_none harts }

stopped_of : (text : List ℕ) (line : ℕ) (s : StopsAfter text line) → Headed text s.harts s.limit s.lines
stopped_of text line s = record { header = s.header; text_is = s.text_is }

stop_parts : (harts : ℕ) (lines : List ℕ) (line : ℕ) (s : StopsAt harts lines line) → Parts harts lines s.entries s.rest
stop_parts harts lines line s = record { all = s.all; text_is = s.lines_are; none = s.bad }

parts_at : (harts others : ℕ) (text more : List ℕ) (es : List Entry) (rest : List ℕ) → others ≡ harts → more ≡ text → Parts others more es rest → Parts harts text es rest
parts_at harts others text more es rest same is p = subst (λ t. Parts harts t es rest) is (subst (λ h. Parts h more es rest) same p)

one_harts : (text : List ℕ) (h l k m : ℕ) (es fs : List Entry) → IsJournalText text h l es → IsJournalText text k m fs → h ≡ k
one_harts text h l k m es fs a b = ap (λ (p : ℕ × ℕ). p.0) (same_numbers text h l k m (lines_text es) (lines_text fs) (headed_of text h l es a) (headed_of text k m fs b))

one_limit : (text : List ℕ) (h l k m : ℕ) (es fs : List Entry) → IsJournalText text h l es → IsJournalText text k m fs → l ≡ m
one_limit text h l k m es fs a b = ap (λ (p : ℕ × ℕ). p.1) (same_numbers text h l k m (lines_text es) (lines_text fs) (headed_of text h l es a) (headed_of text k m fs b))

one_list : (text : List ℕ) (h l k m : ℕ) (es fs : List Entry) → IsJournalText text h l es → IsJournalText text k m fs → es ≡ fs
one_list text h l k m es fs a b =
    let lines = same_lines text h l k m (lines_text es) (lines_text fs) (headed_of text h l es a) (headed_of text k m fs b) in
    let others = parts_at h k (lines_text es) (lines_text fs) fs [] (sym (one_harts text h l k m es fs a b)) (sym lines) (parts_of k fs b.journal.1) in
    (one_split h es fs [] [] (lines_text es) (few_harts h l a.journal.0) (parts_of h es a.journal.1) others).entries

no_stop : (text : List ℕ) (h l line : ℕ) (es : List Entry) → IsJournalText text h l es → StopsAfter text line → ⊥
no_stop text h l line es j s =
    let a = headed_of text h l es j in
    let b = stopped_of text line s in
    let lines = same_lines text h l s.harts s.limit (lines_text es) s.lines a b in
    let harts = ap (λ (p : ℕ × ℕ). p.0) (same_numbers text h l s.harts s.limit (lines_text es) s.lines a b) in
    let others = parts_at h s.harts (lines_text es) s.lines s.stops.entries s.stops.rest (sym harts) (sym lines) (stop_parts s.harts s.lines line s.stops) in
    let same = one_split h es s.stops.entries [] s.stops.rest (lines_text es) (few_harts h l j.journal.0) (parts_of h es j.journal.1) others in
    omega (arith, s.stops.some, ap length same.rests)

whole_none : (text : List ℕ) (h l line : ℕ) (es : List Entry) → IsJournalText text h l es → Explains text (Bad line) → ⊥
whole_none text h l line es j (inl a) = a.1 h l (lines_text es) j.journal.0 j.text_is
whole_none text h l line es j (inr s) = no_stop text h l line es j s

one_stop : (text : List ℕ) (line other : ℕ) → StopsAfter text line → StopsAfter text other → line ≡ other
one_stop text line other s t =
    let a = stopped_of text line s in
    let b = stopped_of text other t in
    let lines = same_lines text s.harts s.limit t.harts t.limit s.lines t.lines a b in
    let harts = ap (λ (p : ℕ × ℕ). p.0) (same_numbers text s.harts s.limit t.harts t.limit s.lines t.lines a b) in
    let others = parts_at s.harts t.harts s.lines t.lines t.stops.entries t.stops.rest (sym harts) (sym lines) (stop_parts t.harts t.lines other t.stops) in
    let same = one_split s.harts s.stops.entries t.stops.entries s.stops.rest t.stops.rest s.lines (few_harts s.harts s.limit s.header) (stop_parts s.harts s.lines line s.stops) others in
    s.stops.line_is ∙ ap (λ es. length es + 2) same.entries ∙ sym t.stops.line_is

one_line : (text : List ℕ) (line other : ℕ) → Explains text (Bad line) → Explains text (Bad other) → line ≡ other
one_line text line other (inl a) (inl b) = a.0 ∙ sym b.0
one_line text line other (inl a) (inr t) = absurd (a.1 t.harts t.limit t.lines t.header t.text_is)
one_line text line other (inr s) (inl b) = absurd (b.1 s.harts s.limit s.lines s.header s.text_is)
one_line text line other (inr s) (inr t) = one_stop text line other s t

pub one_thing : TextsMeanOneThing
one_thing = record { harts = one_harts; limit = one_limit; entries = one_list; line = one_line; whole = whole_none }
