-- What reading a plan file gives is what its grammar says.
use Rattle.std.proofs.Common.{◌≡◌, ℕ, ◌+◌, ◌<◌, ◌≤◌, ◌⊎◌, inl, inr, Bool, true, false, cond, nat_lt, List, [], ◌∷◌, ◌++◌, length, Option, Some, None, Result, Ok, Err, refl, sym, ap, subst, ◌∙◌, arith}
use Rattle.std.specs.List.{cons_option}
use Rattle.std.specs.Option.{option_map}
use Rattle.std.specs.Result.{result_ok}
use Rattle.std.proofs.lemmas.Bool.{cases_Bool, ltb-true, ltb-false, lt-ltb, le-ltb}
use Rattle.mach_base.specs.declared.limits.TheConstants.{MOST_TICKS}
use Rattle.mach_base.specs.declared.event.Hart.{Hart}
use Rattle.mach_base.specs.declared.event.What.TheVariants as counts
use Rattle.mach_base.specs.Lines.{lines_of, words_of, is_comment}
use Rattle.mach_base.specs.Number.{number_of}
use Rattle.mach_base.specs.Sequence.{◌>>=◌}
use Rattle.mach_base.proofs.LineByLine.{each_line-right, each_line-bad, cases_lines as each_cases, RightUpTo}
use Rattle.mach_base.specs.LineByLine.{nothing, one_more}
use Rattle.plan_text.specs.declared.fault.PlanFault.{PlanFault}
use Rattle.plan_text.specs.declared.fault.PlanFault.TheVariants.{Bad, TooLarge}
use Rattle.plan_text.specs.Ticks.{AreBelow, Run, ticks_of}
use Rattle.plan_text.specs.Reading.{is_header, hart_below, hart_of, times_of, ended, with_word, onto, run_from, line_of, all_lines, told, within_limit, plan_of}
use Rattle.plan_text.specs.Grammar.{NameHarts, no_hart, a_hart, IsPlanLine, blank, comment, once, several, Say, IsPlan, HasNoHeader, no_line, another, IsFirstBad, GivesItsRuns, NamesTheFirstBadLine, SayTooMany, CountsItsTicks}
use Rattle.plan_text.proofs.Last.{no_hart_of_times}
use Rattle.plan_text.proofs.Below.{RunsBelow, ticks_below}

-- The words of one line.

names_run : (n : ℕ) (words : List (List ℕ)) (hs : List Hart) → NameHarts n words hs → run_from n words ≡ Some (record { harts = hs; times = 1 })
unfolding run_from
names_run n words hs no_hart = refl
names_run n words hs (a_hart w ws h rest is more) = rw (is, names_run n ws rest more) refl

names_last : (n : ℕ) (words : List (List ℕ)) (last : List ℕ) (hs : List Hart) (k : ℕ) → NameHarts n words hs → times_of last ≡ Some k → run_from n (words ++ last ∷ []) ≡ Some (record { harts = hs; times = k })
unfolding run_from
names_last n words last hs k no_hart is = rw (no_hart_of_times n last k is, is) refl
names_last n words last hs k (a_hart w ws h rest named more) is = rw (named, names_last n ws last rest k more is) refl

-- a line that is right gives its run, if any
right_is : (number n : ℕ) (words : List (List ℕ)) (run : Option Run) → IsPlanLine n words run → line_of number n words ≡ Ok run
unfolding line_of
right_is number n words run blank = refl
right_is number n words run (comment w ws is) = rw is refl
right_is number n words run (once w ws h hs plain names) = rw (plain, names_run n (w ∷ ws) (h ∷ hs) names) refl
right_is number n words run (several w ws last h hs k plain names is) = rw (plain, names_last n (w ∷ ws) last (h ∷ hs) k names is) refl

-- words that name harts, and after them how many times
record EndsIn (n : ℕ) (words : List (List ℕ)) (run : Run) : Type 0 where
  front : List (List ℕ)
  last : List ℕ
  split : words ≡ front ++ last ∷ []
  names : NameHarts n front run.harts
  times : times_of last ≡ Some run.times

-- words that name harts alone
record NamesAll (n : ℕ) (words : List (List ℕ)) (run : Run) : Type 0 where
  names : NameHarts n words run.harts
  times : run.times ≡ 1

abbrev Parts : ℕ → List (List ℕ) → Run → Type 0
Parts n words run = NamesAll n words run ⊎ EndsIn n words run

some_same : (x y : Run) → Some x ≡ Some y → x ≡ y
some_same x y e = cc

parts_onto : (n : ℕ) (w : List ℕ) (ws : List (List ℕ)) (h : Hart) (run : Run) → hart_of n w ≡ Some h → Parts n ws run → Parts n (w ∷ ws) (onto h run)
parts_onto n w ws h run is (inl all) = inl (record { names = a_hart w ws h run.harts is all.names; times = all.times })
parts_onto n w ws h run is (inr ends) = inr (record {
  front = w ∷ ends.front;
  last = ends.last;
  split = ap (λ (x : List (List ℕ)). w ∷ x) ends.split;
  names = a_hart w ends.front h run.harts is ends.names;
  times = ends.times;
})

last_parts : (n : ℕ) (w : List ℕ) (k : Option ℕ) (run : Run) → times_of w ≡ k → option_map (λ (times : ℕ). record { harts = []; times = times }) k ≡ Some run → Parts n (w ∷ []) run
last_parts n w None run is e = absurd (cc)
last_parts n w (Some k) run is e =
    subst (λ (r : Run). Parts n (w ∷ []) r) (some_same (record { harts = []; times = k }) run e) (inr (record { front = []; last = w; split = refl; names = no_hart; times = is }))

ended_parts : (n : ℕ) (w : List ℕ) (ws : List (List ℕ)) (run : Run) → ended w ws ≡ Some run → Parts n (w ∷ ws) run
ended_parts n w [] run e = last_parts n w (times_of w) run refl e
ended_parts n w (more ∷ rest) run e = absurd (cc)

word_parts : (n : ℕ) (w : List ℕ) (ws : List (List ℕ)) (run : Run) (h : Option Hart) → hart_of n w ≡ h → (o : Option Run) → ((rest : Run) → o ≡ Some rest → Parts n ws rest) → with_word h w ws o ≡ Some run → Parts n (w ∷ ws) run
word_parts n w ws run None is o more e = ended_parts n w ws run e
word_parts n w ws run (Some h) is None more e = absurd (cc)
word_parts n w ws run (Some h) is (Some rest) more e =
    subst (λ (r : Run). Parts n (w ∷ ws) r) (some_same (onto h rest) run e) (parts_onto n w ws h rest is (more rest refl))

parts_of : (n : ℕ) (words : List (List ℕ)) (run : Run) → run_from n words ≡ Some run → Parts n words run
unfolding run_from
parts_of n [] run e =
    subst (λ (r : Run). Parts n [] r) (some_same (record { harts = []; times = 1 }) run e) (inl (record { names = no_hart; times = refl }))
parts_of n (w ∷ ws) run e = word_parts n w ws run (hart_of n w) refl (run_from n ws) (λ rest more. parts_of n ws rest more) e

-- a line that is right, with what it gives
record Right (n : ℕ) (words : List (List ℕ)) : Type 0 where
  found : Option Run
  right : IsPlanLine n words found

abbrev Known : ℕ → ℕ → List (List ℕ) → Type 0
Known number n words = Right n words ⊎ (line_of number n words ≡ Err (Bad number))

heads : (w f : List ℕ) (ws fs : List (List ℕ)) → w ∷ ws ≡ f ∷ fs → w ≡ f
heads w f ws fs e = cc

ended_line : (n : ℕ) (front : List (List ℕ)) (last w : List ℕ) (ws : List (List ℕ)) (h : Hart) (hs : List Hart) (k : ℕ) → NameHarts n front (h ∷ hs) → times_of last ≡ Some k → w ∷ ws ≡ front ++ last ∷ [] → is_comment w ≡ false → IsPlanLine n (w ∷ ws) (Some (record { harts = h ∷ hs; times = k }))
ended_line n front last w ws h0 hs0 k (a_hart f fs h hs is more) times split plain =
    let same = heads w f ws (fs ++ last ∷ []) split in
    subst (λ (x : List (List ℕ)). IsPlanLine n x (Some (record { harts = h ∷ hs; times = k }))) (sym split)
    (several f fs last h hs k (ap is_comment (sym same) ∙ plain) (a_hart f fs h hs is more) times)

line_parts : (n : ℕ) (w : List ℕ) (ws : List (List ℕ)) (run : Run) (h : Hart) (hs : List Hart) → is_comment w ≡ false → run.harts ≡ h ∷ hs → Parts n (w ∷ ws) run → Right n (w ∷ ws)
line_parts n w ws run h hs plain is (inl all) =
    record { found = Some (record { harts = h ∷ hs; times = 1 }); right = once w ws h hs plain (subst (λ (x : List Hart). NameHarts n (w ∷ ws) x) is all.names) }
line_parts n w ws run h hs plain is (inr ends) = record {
  found = Some (record { harts = h ∷ hs; times = run.times });
  right = ended_line n ends.front ends.last w ws h hs run.times (subst (λ (x : List Hart). NameHarts n ends.front x) is ends.names) ends.times ends.split plain;
}

cases_run : (number n : ℕ) (w : List ℕ) (ws : List (List ℕ)) → is_comment w ≡ false → (o : Option Run) → run_from n (w ∷ ws) ≡ o → Known number n (w ∷ ws)
unfolding line_of
cases_run number n w ws plain None e = inr (rw (plain, e) refl)
cases_run number n w ws plain (Some run) e = by_harts run.harts refl
  where
    by_harts : (hs : List Hart) → run.harts ≡ hs → Known number n (w ∷ ws)
    by_harts [] is = inr (rw (plain, e, is) refl)
    by_harts (h ∷ hs) is = inl (line_parts n w ws run h hs plain is (parts_of n (w ∷ ws) run e))

-- a line is right, or it is bad
cases_line : (number n : ℕ) (words : List (List ℕ)) → Known number n words
cases_line number n [] = inl (record { found = None; right = blank })
cases_line number n (w ∷ ws) =
    elim (cases_Bool (is_comment w)) [
      | inl is ↦ inl (record { found = None; right = comment w ws is })
      | inr plain ↦ cases_run number n w ws plain (run_from n (w ∷ ws)) refl
    ]

wrong_from : (number n : ℕ) (words : List (List ℕ)) → line_of number n words ≡ Err (Bad number) → (run : Option Run) → ¬ (IsPlanLine n words run)
wrong_from number n words bad run m = let right = right_is number n words run m in absurd (cc)

bad_from : (number n : ℕ) (words : List (List ℕ)) → ((run : Option Run) → ¬ (IsPlanLine n words run)) → line_of number n words ≡ Err (Bad number)
bad_from number n words wrong = elim (cases_line number n words) [ inl r ↦ absurd (wrong r.found r.right) | inr bad ↦ bad ]

-- Lines one after the other.

-- how a line is read by its number and its words
abbrev pub line_for : ℕ → ℕ → List (List ℕ) → Result (Option Run) PlanFault
line_for n number words = line_of number n words

right_for : (n number : ℕ) (words : List (List ℕ)) (run : Option Run) → IsPlanLine n words run → line_for n number words ≡ Ok run
right_for n number words run is = right_is number n words run is

cases_words : (n : ℕ) (words : List (List ℕ)) → ((run : Option Run) × IsPlanLine n words run) ⊎ ((run : Option Run) → ¬ (IsPlanLine n words run))
cases_words n words = elim (cases_line 0 n words) [ inl r ↦ inl (r.found, r.right) | inr bad ↦ inr (wrong_from 0 n words bad) ]

cases_lines : (n : ℕ) (lines : List (List ℕ)) → ((runs : List Run) × Say n lines runs) ⊎ RightUpTo (IsPlanLine n) lines
cases_lines n lines = each_cases (IsPlanLine n) (cases_words n) lines

-- Texts.

abbrev AllRight : ℕ → List (List ℕ) → Type 0
AllRight n lines = (runs : List Run) × IsPlan n lines runs

-- a plan whose lines are right up to one
record BadAfterFirst (n : ℕ) (lines : List (List ℕ)) : Type 0 where
  first : List ℕ
  others : List (List ℕ)
  split : lines ≡ first ∷ others
  header : is_header (words_of first) ≡ true
  bad : RightUpTo (IsPlanLine n) others

cases_others : (n : ℕ) (l : List ℕ) (ls : List (List ℕ)) → is_header (words_of l) ≡ true → AllRight n (l ∷ ls) ⊎ BadAfterFirst n (l ∷ ls)
cases_others n l ls is =
    elim (cases_lines n ls) [
      | inl all ↦ inl (all.0, record { first = l; others = ls; split = refl; header = is; say = all.1 })
      | inr b ↦ inr (record { first = l; others = ls; split = refl; header = is; bad = b })
    ]

cases_text : (n : ℕ) (lines : List (List ℕ)) → HasNoHeader lines ⊎ (AllRight n lines ⊎ BadAfterFirst n lines)
cases_text n [] = inl no_line
cases_text n (l ∷ ls) =
    elim (cases_Bool (is_header (words_of l))) [
      | inl is ↦ inr (cases_others n l ls is)
      | inr other ↦ inl (another l ls other)
    ]

no_header : (n : ℕ) (lines : List (List ℕ)) → HasNoHeader lines → all_lines n lines ≡ Err (Bad 1)
unfolding all_lines
no_header n lines no_line = refl
no_header n lines (another l ls other) = rw other refl

all_right : (n : ℕ) (lines : List (List ℕ)) (runs : List Run) → IsPlan n lines runs → all_lines n lines ≡ Ok runs
unfolding all_lines
all_right n lines runs plan = rw (plan.split, plan.header) (each_line-right (IsPlanLine n) (line_for n) (right_for n) 2 plan.others runs plan.say)

bad_line : (n : ℕ) (lines : List (List ℕ)) (first : List ℕ) (before : List (List ℕ)) (runs : List Run) (l : List ℕ) (ls : List (List ℕ)) → lines ≡ first ∷ before ++ l ∷ ls → is_header (words_of first) ≡ true → Say n before runs → ((run : Option Run) → ¬ (IsPlanLine n (words_of l) run)) → all_lines n lines ≡ Err (Bad (2 + length before))
unfolding all_lines
bad_line n lines first before runs l ls split header right wrong =
    rw (split, header) (each_line-bad (IsPlanLine n) (line_for n) Bad (right_for n) 2 before runs l ls right (bad_from (2 + length before) n (words_of l) wrong))

bad_there : (n : ℕ) (lines : List (List ℕ)) (b : BadAfterFirst n lines) → all_lines n lines ≡ Err (Bad (2 + length b.bad.before))
bad_there n lines b =
    bad_line n lines b.first b.bad.before b.bad.values b.bad.line b.bad.after (b.split ∙ ap (λ (ls : List (List ℕ)). b.first ∷ ls) b.bad.split) b.header b.bad.right b.bad.wrong

limited : (r s : Result (List Run) PlanFault) → r ≡ s → r >>= within_limit ≡ s >>= within_limit
limited r s e = ap (λ (x : Result (List Run) PlanFault). x >>= within_limit) e

few_is : (runs : List Run) → length (ticks_of runs) ≤ MOST_TICKS → within_limit runs ≡ Ok runs
few_is runs few = ap (λ (t : Bool). cond t (Err (TooLarge counts.Ticks (told (length (ticks_of runs))))) (Ok runs)) (le-ltb MOST_TICKS (length (ticks_of runs)) few)

many_is : (runs : List Run) → MOST_TICKS < length (ticks_of runs) → within_limit runs ≡ Err (TooLarge counts.Ticks (told (length (ticks_of runs))))
many_is runs many = ap (λ (t : Bool). cond t (Err (TooLarge counts.Ticks (told (length (ticks_of runs))))) (Ok runs)) (lt-ltb MOST_TICKS (length (ticks_of runs)) many)

abbrev Few : List Run → Type 0
Few runs = (length (ticks_of runs) ≤ MOST_TICKS) × (within_limit runs ≡ Ok runs)

abbrev Many : List Run → Type 0
Many runs = (MOST_TICKS < length (ticks_of runs)) × (within_limit runs ≡ Err (TooLarge counts.Ticks (told (length (ticks_of runs)))))

cases_limit : (runs : List Run) → Few runs ⊎ Many runs
cases_limit runs =
    elim (cases_Bool (nat_lt MOST_TICKS (length (ticks_of runs)))) [
      | inl many ↦ let is = ltb-true MOST_TICKS (length (ticks_of runs)) many in inr (is, many_is runs is)
      | inr few ↦ let is = ltb-false MOST_TICKS (length (ticks_of runs)) few in inl (is, few_is runs is)
    ]

ok_same : (x y : List Run) (r : Result (List Run) PlanFault) → r ≡ Ok x → r ≡ Ok y → x ≡ y
ok_same x y r e f = cc

bad_same : (m k : ℕ) (r : Result (List Run) PlanFault) → r ≡ Err (Bad m) → r ≡ Err (Bad k) → m ≡ k
bad_same m k r e f = cc

large_same : (m k : ℕ) (r : Result (List Run) PlanFault) → r ≡ Err (TooLarge counts.Ticks m) → r ≡ Err (TooLarge counts.Ticks k) → m ≡ k
large_same m k r e f = cc

gives_there : (n : ℕ) (text : List ℕ) (runs : List Run) → plan_of n text ≡ Ok runs → IsPlan n (lines_of text) runs × (length (ticks_of runs) ≤ MOST_TICKS)
gives_there n text runs gives =
    elim (cases_text n (lines_of text)) [
      | inl none ↦ let bad = limited _ _ (no_header n (lines_of text) none) in absurd (cc)
      | inr some ↦ elim some [
        | inl all ↦ elim (cases_limit all.0) [
          | inl few ↦
              let same = ok_same all.0 runs (plan_of n text) (limited _ _ (all_right n (lines_of text) all.0 all.1) ∙ few.1) gives in
              subst (λ (rs : List Run). IsPlan n (lines_of text) rs × (length (ticks_of rs) ≤ MOST_TICKS)) same (all.1, few.0)
          | inr many ↦ let large = limited _ _ (all_right n (lines_of text) all.0 all.1) ∙ many.1 in absurd (cc)
        ]
        | inr b ↦ let bad = limited _ _ (bad_there n (lines_of text) b) in absurd (cc)
      ]
    ]

pub gives_its_runs : GivesItsRuns
gives_its_runs n text runs = (
  λ gives. gives_there n text runs gives,
  λ both. limited _ _ (all_right n (lines_of text) runs both.0) ∙ few_is runs both.1,
)

names_bad : (n : ℕ) (text : List ℕ) (number : ℕ) → plan_of n text ≡ Err (Bad number) → ((number ≡ 1) × HasNoHeader (lines_of text)) ⊎ IsFirstBad n (lines_of text) number
names_bad n text number gives =
    elim (cases_text n (lines_of text)) [
      | inl none ↦ inl (bad_same number 1 (plan_of n text) gives (limited _ _ (no_header n (lines_of text) none)), none)
      | inr some ↦ elim some [
        | inl all ↦ elim (cases_limit all.0) [
          | inl few ↦ let ok = limited _ _ (all_right n (lines_of text) all.0 all.1) ∙ few.1 in absurd (cc)
          | inr many ↦ let large = limited _ _ (all_right n (lines_of text) all.0 all.1) ∙ many.1 in absurd (cc)
        ]
        | inr b ↦
            let same = bad_same number (2 + length b.bad.before) (plan_of n text) gives (limited _ _ (bad_there n (lines_of text) b)) in
            inr (record {
              first = b.first;
              before = b.bad.before;
              line = b.bad.line;
              after = b.bad.after;
              split = b.split ∙ ap (λ (ls : List (List ℕ)). b.first ∷ ls) b.bad.split;
              header = b.header;
              place = omega (arith, same);
              right = (b.bad.values, b.bad.right);
              wrong = b.bad.wrong;
            })
      ]
    ]

is_bad : (n : ℕ) (text : List ℕ) (number : ℕ) → ((number ≡ 1) × HasNoHeader (lines_of text)) ⊎ IsFirstBad n (lines_of text) number → plan_of n text ≡ Err (Bad number)
is_bad n text number (inl none) = limited _ _ (no_header n (lines_of text) none.1) ∙ ap (λ (m : ℕ). Err (Bad m)) (sym none.0)
is_bad n text number (inr b) =
    let place : 2 + length b.before ≡ number = omega (arith, b.place) in
    limited _ _ (bad_line n (lines_of text) b.first b.before b.right.0 b.line b.after b.split b.header b.right.1 b.wrong) ∙ ap (λ (m : ℕ). Err (Bad m)) place

pub names_the_first_bad_line : NamesTheFirstBadLine
names_the_first_bad_line n text number = (λ gives. names_bad n text number gives, λ bad. is_bad n text number bad)

counts_there : (n : ℕ) (text : List ℕ) (size : ℕ) → plan_of n text ≡ Err (TooLarge counts.Ticks size) → SayTooMany n (lines_of text) size
counts_there n text size gives =
    elim (cases_text n (lines_of text)) [
      | inl none ↦ let bad = limited _ _ (no_header n (lines_of text) none) in absurd (cc)
      | inr some ↦ elim some [
        | inl all ↦ elim (cases_limit all.0) [
          | inl few ↦ let ok = limited _ _ (all_right n (lines_of text) all.0 all.1) ∙ few.1 in absurd (cc)
          | inr many ↦
              let same = large_same size (told (length (ticks_of all.0))) (plan_of n text) gives (limited _ _ (all_right n (lines_of text) all.0 all.1) ∙ many.1) in
              record { runs = all.0; plan = all.1; count = same; many = many.0 }
        ]
        | inr b ↦ let bad = limited _ _ (bad_there n (lines_of text) b) in absurd (cc)
      ]
    ]

pub counts_its_ticks : CountsItsTicks
counts_its_ticks n text size = (
  λ gives. counts_there n text size gives,
  λ t. limited _ _ (all_right n (lines_of text) t.runs t.plan) ∙ many_is t.runs t.many ∙ ap (λ (m : ℕ). Err (TooLarge counts.Ticks m)) (sym t.count),
)

-- Harts.

hart_is_below : (n : ℕ) (o : Option ℕ) (hart : Hart) → hart_below n o ≡ Some hart → hart.0 < n
hart_is_below n None hart e = absurd (cc)
hart_is_below n (Some number) hart e =
    elim (cases_Bool (nat_lt number n)) [
      | inl few ↦
          let is = sym (ap (λ (t : Bool). cond t (Some (record { 0 = number })) None) few) ∙ e in
          subst (λ (h : Hart). h.0 < n) (hart_same (record { 0 = number }) hart is) (ltb-true number n few)
      | inr many ↦ let none = sym (ap (λ (t : Bool). cond t (Some (record { 0 = number })) None) many) ∙ e in absurd (cc)
    ]
  where
    hart_same : (x y : Hart) → Some x ≡ Some y → x ≡ y
    hart_same x y e = cc

names_below : (n : ℕ) (words : List (List ℕ)) (hs : List Hart) → NameHarts n words hs → AreBelow n hs
names_below n words hs no_hart = tt
names_below n words hs (a_hart w ws h rest is more) = (hart_is_below n (result_ok (number_of 10 w)) h is, names_below n ws rest more)

line_below : (n : ℕ) (words : List (List ℕ)) (run : Option Run) (runs : List Run) → IsPlanLine n words run → RunsBelow n runs → RunsBelow n (cons_option run runs)
line_below n words run runs blank more = more
line_below n words run runs (comment w ws is) more = more
line_below n words run runs (once w ws h hs plain names) more = (names_below n (w ∷ ws) (h ∷ hs) names, more)
line_below n words run runs (several w ws last h hs k plain names is) more = (names_below n (w ∷ ws) (h ∷ hs) names, more)

say_below : (n : ℕ) (lines : List (List ℕ)) (runs : List Run) → Say n lines runs → RunsBelow n runs
say_below n lines runs nothing = tt
say_below n lines runs (one_more l ls run rest is more) = line_below n (words_of l) run rest is (say_below n ls rest more)

-- the runs of a text name harts that there are
pub plan_below : (n : ℕ) (lines : List (List ℕ)) (runs : List Run) → all_lines n lines ≡ Ok runs → AreBelow n (ticks_of runs)
plan_below n lines runs gives =
    elim (cases_text n lines) [
      | inl none ↦ let bad = no_header n lines none in absurd (cc)
      | inr some ↦ elim some [
        | inl all ↦
            let same = ok_same all.0 runs (all_lines n lines) (all_right n lines all.0 all.1) gives in
            subst (λ (rs : List Run). AreBelow n (ticks_of rs)) same (ticks_below n all.0 (say_below n all.1.others all.0 all.1.say))
        | inr b ↦ let bad = bad_there n lines b in absurd (cc)
      ]
    ]
