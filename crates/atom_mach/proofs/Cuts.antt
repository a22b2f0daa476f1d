-- How the parts of a session grow.
use Rattle.std.proofs.Common.{◌≡◌, ◌⊎◌, ℕ, zero, suc, ◌+◌, Bool, true, false, cond, List, [], ◌∷◌, ◌++◌, Option, Some, None, option_map, refl, sym, ap, subst, ◌∙◌, append_assoc, inl, inr, arith}
use Rattle.mach_base.specs.Texts.{newline}
use Rattle.mach_base.specs.Machine.{Machine}
use Rattle.mach_base.specs.declared.event.Hart.{Hart}
use Rattle.mach_base.specs.declared.event.Reason.{Reason}
use Rattle.mach_base.specs.declared.event.Ending.TheVariants.{ScriptEnd}
use Rattle.atom_mach.specs.declared.step.Mode.{Mode}
use Rattle.atom_mach.specs.declared.step.Mode.TheVariants.{Over}
use Rattle.atom_mach.specs.declared.step.AStep.TheVariants.{Session}
use Rattle.atom_mach.specs.State.{State, Done, prefixed}
use Rattle.atom_mach.specs.Modes.{ending_of}
use Rattle.atom_mach.specs.Session.{Cut, before_cut, is_hart, opening_reason, session_opening, prompt_text, with_read, line_effect, after_line, session_lines, session, cut_after, cut_lines, cut_for, cut_session}
use Rattle.atom_mach.specs.Step.{opened_for, does}
use Rattle.atom_mach.specs.Cuts.{CutsBeginWithTheOpening, CutsGrowByLines, LeavingCutsAreSessions, LastCutsAreSessions, SessionsAreCuts, CutsCountLines}

append-nothing : (xs : List ℕ) → xs ++ [] ≡ xs
append-nothing [] = refl
append-nothing (x ∷ xs) = ap (λ ys. x ∷ ys) (append-nothing xs)

same_text : (c : Cut) (text : List ℕ) → text ≡ c.text → record c { text = text } ≡ c
same_text c text e = rw e refl

before_twice : (a b : List ℕ) (c : Cut) → before_cut a (before_cut b c) ≡ before_cut (a ++ b) c
before_twice a b c = ap (λ (text : List ℕ). record c { text = text }) (sym (append_assoc a b c.text))

-- What a cut of a session is made of.

-- a session may open, and these are its first lines
record IsOpen (s : State) (m : Hart) (count : ℕ) (c : Cut) : Type 0 where
  there : is_hart s.machine m.0 ≡ true
  reason : Reason
  opens : opening_reason s.mode s.machine m.0 0 ≡ Some reason
  lines : Cut
  cut : cut_lines m count s.machine.unread (session_opening s.machine m 0 reason).machine ≡ Some lines
  whole : before_cut (session_opening s.machine m 0 reason).text lines ≡ c

is_open : (s : State) (m : Hart) (count : ℕ) (c : Cut) → cut_session s m count ≡ Some c → IsOpen s m count c
unfolding cut_session
is_open s m count c e = by_hart (is_hart s.machine m.0) refl e
  where
    by_lines : (reason : Reason) → opening_reason s.mode s.machine m.0 0 ≡ Some reason → is_hart s.machine m.0 ≡ true → (o : Option Cut) →
        cut_lines m count s.machine.unread (session_opening s.machine m 0 reason).machine ≡ o → option_map (before_cut (session_opening s.machine m 0 reason).text) o ≡ Some c → IsOpen s m count c
    by_lines reason opens there None g h = absurd (cc)
    by_lines reason opens there (Some lines) g h = record { there = there; reason = reason; opens = opens; lines = lines; cut = g; whole = cc }

    by_reason : is_hart s.machine m.0 ≡ true → (r : Option Reason) → opening_reason s.mode s.machine m.0 0 ≡ r → cut_for s.machine m count r ≡ Some c → IsOpen s m count c
    by_reason there None f g = absurd (cc)
    by_reason there (Some reason) f g = by_lines reason f there (cut_lines m count s.machine.unread (session_opening s.machine m 0 reason).machine) refl g

    by_hart : (b : Bool) → is_hart s.machine m.0 ≡ b → cond b (cut_for s.machine m count (opening_reason s.mode s.machine m.0 0)) None ≡ Some c → IsOpen s m count c
    by_hart true f g = by_reason f (opening_reason s.mode s.machine m.0 0) refl g
    by_hart false f g = absurd (cc)

-- a cut of these lines is one of the session
cut_with : (s : State) (m : Hart) (count : ℕ) (reason : Reason) (lines : Cut) → is_hart s.machine m.0 ≡ true → opening_reason s.mode s.machine m.0 0 ≡ Some reason → cut_lines m count s.machine.unread (session_opening s.machine m 0 reason).machine ≡ Some lines → cut_session s m count ≡ Some (before_cut (session_opening s.machine m 0 reason).text lines)
unfolding cut_session
cut_with s m count reason lines there opens cut = rw (there, opens, cut) refl

session_with : (s : State) (m : Hart) (reason : Reason) → is_hart s.machine m.0 ≡ true → opening_reason s.mode s.machine m.0 0 ≡ Some reason → does s (Session m) ≡ Some (prefixed (session_opening s.machine m 0 reason).text (session_lines m s.machine.unread (session_opening s.machine m 0 reason).machine))
unfolding does session
session_with s m reason there opens = rw (there, opens) refl

-- No line.

pub cuts_begin : CutsBeginWithTheOpening
unfolding cut_lines
cuts_begin s m reason there opens =
    let o = session_opening s.machine m 0 reason in
    cut_with s m 0 reason (record { text = []; machine = o.machine; left = None }) there opens refl
    ∙ ap (λ (text : List ℕ). Some (record o { text = text })) (append-nothing o.text)

-- The lines of a cut, one line and then the others.

-- one line, after which the session goes on, and the lines after it
record GoesOn (m : Hart) (count : ℕ) (line : List ℕ) (rest : List (List ℕ)) (s : Machine) (c : Cut) : Type 0 where
  inside : (line_effect m 0 line (with_read s rest)).left ≡ None
  lines : Cut
  cut : cut_lines m count rest (line_effect m 0 line (with_read s rest)).machine ≡ Some lines
  whole : before_cut (line_effect m 0 line (with_read s rest)).text lines ≡ c

-- the first line is the last of the cut and leaves the session, or the session goes on after it
record Leaves (m : Hart) (count : ℕ) (line : List ℕ) (rest : List (List ℕ)) (s : Machine) (c : Cut) : Type 0 where
  mode : Mode
  left : (line_effect m 0 line (with_read s rest)).left ≡ Some mode
  none : count ≡ 0
  whole : line_effect m 0 line (with_read s rest) ≡ c

first_line : (m : Hart) (count : ℕ) (line : List ℕ) (rest : List (List ℕ)) (s : Machine) (c : Cut) → cut_lines m (suc count) (line ∷ rest) s ≡ Some c → GoesOn m count line rest s c ⊎ Leaves m count line rest s c
unfolding cut_lines
first_line m count line rest s c e = by_left (line_effect m 0 line (with_read s rest)).left refl e
  where
    by_rest : (line_effect m 0 line (with_read s rest)).left ≡ None → (o : Option Cut) → cut_lines m count rest (line_effect m 0 line (with_read s rest)).machine ≡ o →
        option_map (before_cut (line_effect m 0 line (with_read s rest)).text) o ≡ Some c → GoesOn m count line rest s c ⊎ Leaves m count line rest s c
    by_rest inside None f g = absurd (cc)
    by_rest inside (Some lines) f g = inl (record { inside = inside; lines = lines; cut = f; whole = cc })

    by_count : (mode : Mode) → (line_effect m 0 line (with_read s rest)).left ≡ Some mode → (k : ℕ) → count ≡ k →
        cut_after (Some mode) k (line_effect m 0 line (with_read s rest)) (cut_lines m count rest (line_effect m 0 line (with_read s rest)).machine) ≡ Some c → GoesOn m count line rest s c ⊎ Leaves m count line rest s c
    by_count mode left zero f g = inr (record { mode = mode; left = left; none = f; whole = cc })
    by_count mode left (suc k) f g = absurd (cc)

    by_left : (left : Option Mode) → (line_effect m 0 line (with_read s rest)).left ≡ left →
        cut_after left count (line_effect m 0 line (with_read s rest)) (cut_lines m count rest (line_effect m 0 line (with_read s rest)).machine) ≡ Some c → GoesOn m count line rest s c ⊎ Leaves m count line rest s c
    by_left None f g = by_rest f (cut_lines m count rest (line_effect m 0 line (with_read s rest)).machine) refl g
    by_left (Some mode) f g = by_count mode f count refl g

-- and back: a line after which the session goes on, and lines after it
cut_more : (m : Hart) (count : ℕ) (line : List ℕ) (rest : List (List ℕ)) (s : Machine) (lines : Cut) → (line_effect m 0 line (with_read s rest)).left ≡ None → cut_lines m count rest (line_effect m 0 line (with_read s rest)).machine ≡ Some lines →
    cut_lines m (suc count) (line ∷ rest) s ≡ Some (before_cut (line_effect m 0 line (with_read s rest)).text lines)
unfolding cut_lines
cut_more m count line rest s lines inside cut = rw (inside, cut) refl

lines_more : (m : Hart) (line : List ℕ) (rest : List (List ℕ)) (s : Machine) → (line_effect m 0 line (with_read s rest)).left ≡ None →
    session_lines m (line ∷ rest) s ≡ prefixed (line_effect m 0 line (with_read s rest)).text (session_lines m rest (line_effect m 0 line (with_read s rest)).machine)
unfolding session_lines
lines_more m line rest s inside = rw inside refl

-- the unread lines after a line
unread_after : (m : Hart) (line : List ℕ) (rest : List (List ℕ)) (s : Machine) → (line_effect m 0 line (with_read s rest)).machine.unread ≡ rest
unfolding line_effect
unread_after m line rest s = refl

no_cut : (m : Hart) (count : ℕ) (s : Machine) (c : Cut) → cut_lines m (suc count) [] s ≡ Some c → ⊥
unfolding cut_lines
no_cut m count s c e = cc

none_cut : (m : Hart) (lines : List (List ℕ)) (s : Machine) (c : Cut) → cut_lines m 0 lines s ≡ Some c → record { text = []; machine = s; left = None } ≡ c
unfolding cut_lines
none_cut m lines s c e = cc

-- One line more.

first_of : (m : Hart) (line : List ℕ) (rest : List (List ℕ)) (s : Machine) → cut_lines m 1 (line ∷ rest) s ≡ Some (line_effect m 0 line (with_read s rest))
unfolding cut_lines
first_of m line rest s = by_left (line_effect m 0 line (with_read s rest)) (line_effect m 0 line (with_read s rest)).left refl
  where
    by_left : (c : Cut) (left : Option Mode) → c.left ≡ left → cut_after left 0 c (Some (record { text = []; machine = c.machine; left = None })) ≡ Some c
    by_left c None e = ap Some (rw (← e) (same_text c (c.text ++ []) (append-nothing c.text)))
    by_left c (Some mode) e = refl

grow : (m : Hart) (count : ℕ) (unread : List (List ℕ)) (s : Machine) (c : Cut) (line : List ℕ) (rest : List (List ℕ)) → s.unread ≡ unread → cut_lines m count unread s ≡ Some c → c.left ≡ None → c.machine.unread ≡ line ∷ rest →
    cut_lines m (suc count) unread s ≡ Some (before_cut c.text (line_effect m 0 line (with_read c.machine rest)))
grow m zero unread s c line rest is cut inside next =
    let same = none_cut m unread s c cut in
    let lines : unread ≡ line ∷ rest = sym is ∙ ap (λ (x : Cut). x.machine.unread) same ∙ next in
    subst (λ (x : Cut). cut_lines m 1 unread s ≡ Some (before_cut x.text (line_effect m 0 line (with_read x.machine rest)))) same
    (ap (λ u. cut_lines m 1 u s) lines ∙ first_of m line rest s)
grow m (suc count) [] s c line rest is cut inside next = absurd (no_cut m count s c cut)
grow m (suc count) (head ∷ tail) s c line rest is cut inside next =
    elim (first_line m count head tail s c cut) [
      | inl g ↦
          let effect = line_effect m 0 head (with_read s tail) in
          let left : g.lines.left ≡ None = ap (λ (x : Cut). x.left) g.whole ∙ inside in
          let unread : g.lines.machine.unread ≡ line ∷ rest = ap (λ (x : Cut). x.machine.unread) g.whole ∙ next in
          let more = grow m count tail effect.machine g.lines line rest (unread_after m head tail s) g.cut left unread in
          cut_more m (suc count) head tail s _ g.inside more
          ∙ ap Some (before_twice effect.text g.lines.text (line_effect m 0 line (with_read g.lines.machine rest)))
          ∙ ap (λ (x : Cut). Some (before_cut x.text (line_effect m 0 line (with_read x.machine rest)))) g.whole
      | inr l ↦
          let left = l.left in
          let same = ap (λ (x : Cut). x.left) l.whole in
          absurd (cc)
    ]

pub cuts_grow : CutsGrowByLines
cuts_grow s m count c line rest cut inside next =
    let o = is_open s m count c cut in
    let opening = session_opening s.machine m 0 o.reason in
    let left : o.lines.left ≡ None = ap (λ (x : Cut). x.left) o.whole ∙ inside in
    let unread : o.lines.machine.unread ≡ line ∷ rest = ap (λ (x : Cut). x.machine.unread) o.whole ∙ next in
    cut_with s m (suc count) o.reason _ o.there o.opens (grow m count s.machine.unread opening.machine o.lines line rest refl o.cut left unread)
    ∙ ap Some (before_twice opening.text o.lines.text (line_effect m 0 line (with_read o.lines.machine rest)))
    ∙ ap (λ (x : Cut). Some (before_cut x.text (line_effect m 0 line (with_read x.machine rest)))) o.whole

-- Cuts that are the session.

prefixed_twice : (a b : List ℕ) (d : Done) → prefixed a (prefixed b d) ≡ prefixed (a ++ b) d
prefixed_twice a b d = ap (λ text. record { text = text; next = d.next }) (sym (append_assoc a b d.text))

-- a cut that left
abbrev left_as : Cut → Mode → Done
left_as c mode = record { text = c.text; next = record { machine = c.machine; mode = mode } }

-- a cut that ends at the prompt that finds no line
abbrev ended_as : Cut → Done
ended_as c = record { text = c.text ++ (prompt_text c.machine ++ newline); next = record { machine = c.machine; mode = Over ScriptEnd } }

leaving_line : (m : Hart) (line : List ℕ) (rest : List (List ℕ)) (s : Machine) (mode : Mode) → (line_effect m 0 line (with_read s rest)).left ≡ Some mode → session_lines m (line ∷ rest) s ≡ left_as (line_effect m 0 line (with_read s rest)) mode
unfolding session_lines
leaving_line m line rest s mode left = rw left refl

leave : (m : Hart) (count : ℕ) (unread : List (List ℕ)) (s : Machine) (c : Cut) (mode : Mode) → cut_lines m count unread s ≡ Some c → c.left ≡ Some mode → session_lines m unread s ≡ left_as c mode
leave m zero unread s c mode cut left = let same = ap (λ (x : Cut). x.left) (none_cut m unread s c cut) in absurd (cc)
leave m (suc count) [] s c mode cut left = absurd (no_cut m count s c cut)
leave m (suc count) (line ∷ rest) s c mode cut left =
    elim (first_line m count line rest s c cut) [
      | inl g ↦
          let effect = line_effect m 0 line (with_read s rest) in
          let after : g.lines.left ≡ Some mode = ap (λ (x : Cut). x.left) g.whole ∙ left in
          lines_more m line rest s g.inside
          ∙ ap (prefixed effect.text) (leave m count rest effect.machine g.lines mode g.cut after)
          ∙ ap (λ (x : Cut). left_as x mode) g.whole
      | inr l ↦
          let at : (line_effect m 0 line (with_read s rest)).left ≡ Some mode = ap (λ (x : Cut). x.left) l.whole ∙ left in
          leaving_line m line rest s mode at ∙ ap (λ (x : Cut). left_as x mode) l.whole
    ]

pub cuts_leave : LeavingCutsAreSessions
cuts_leave s m count c mode cut left =
    let o = is_open s m count c cut in
    let opening = session_opening s.machine m 0 o.reason in
    let after : o.lines.left ≡ Some mode = ap (λ (x : Cut). x.left) o.whole ∙ left in
    session_with s m o.reason o.there o.opens
    ∙ ap (λ (d : Done). Some (prefixed opening.text d)) (leave m count s.machine.unread opening.machine o.lines mode o.cut after)
    ∙ ap (λ (x : Cut). Some (left_as x mode)) o.whole

no_lines : (m : Hart) (s : Machine) → session_lines m [] s ≡ ended_as (record { text = []; machine = s; left = None })
unfolding session_lines
no_lines m s = refl

end : (m : Hart) (count : ℕ) (unread : List (List ℕ)) (s : Machine) (c : Cut) → s.unread ≡ unread → cut_lines m count unread s ≡ Some c → c.left ≡ None → c.machine.unread ≡ [] → session_lines m unread s ≡ ended_as c
end m zero unread s c is cut inside none =
    let same = none_cut m unread s c cut in
    let lines : unread ≡ [] = sym is ∙ ap (λ (x : Cut). x.machine.unread) same ∙ none in
    ap (λ u. session_lines m u s) lines ∙ no_lines m s ∙ ap ended_as same
end m (suc count) [] s c is cut inside none = absurd (no_cut m count s c cut)
end m (suc count) (line ∷ rest) s c is cut inside none =
    elim (first_line m count line rest s c cut) [
      | inl g ↦
          let effect = line_effect m 0 line (with_read s rest) in
          let left : g.lines.left ≡ None = ap (λ (x : Cut). x.left) g.whole ∙ inside in
          let unread : g.lines.machine.unread ≡ [] = ap (λ (x : Cut). x.machine.unread) g.whole ∙ none in
          lines_more m line rest s g.inside
          ∙ ap (prefixed effect.text) (end m count rest effect.machine g.lines (unread_after m line rest s) g.cut left unread)
          ∙ ap (λ text. record { text = text; next = record { machine = g.lines.machine; mode = Over ScriptEnd } }) (sym (append_assoc effect.text g.lines.text (prompt_text g.lines.machine ++ newline)))
          ∙ ap ended_as g.whole
      | inr l ↦
          let left = l.left in
          let same = ap (λ (x : Cut). x.left) l.whole in
          absurd (cc)
    ]

pub cuts_end : LastCutsAreSessions
cuts_end s m count c cut inside none =
    let o = is_open s m count c cut in
    let opening = session_opening s.machine m 0 o.reason in
    let left : o.lines.left ≡ None = ap (λ (x : Cut). x.left) o.whole ∙ inside in
    let unread : o.lines.machine.unread ≡ [] = ap (λ (x : Cut). x.machine.unread) o.whole ∙ none in
    session_with s m o.reason o.there o.opens
    ∙ ap (λ (d : Done). Some (prefixed opening.text d)) (end m count s.machine.unread opening.machine o.lines refl o.cut left unread)
    ∙ ap (λ text. Some (record { text = text; next = record { machine = o.lines.machine; mode = Over ScriptEnd } })) (sym (append_assoc opening.text o.lines.text (prompt_text o.lines.machine ++ newline)))
    ∙ ap (λ (x : Cut). Some (ended_as x)) o.whole

-- How many lines a cut has read.

read_after : (m : Hart) (line : List ℕ) (rest : List (List ℕ)) (s : Machine) → (line_effect m 0 line (with_read s rest)).machine.lines_read ≡ s.lines_read + 1
unfolding line_effect
read_after m line rest s = refl

count_lines : (m : Hart) (count : ℕ) (unread : List (List ℕ)) (s : Machine) (c : Cut) → cut_lines m count unread s ≡ Some c → c.machine.lines_read ≡ s.lines_read + count
count_lines m zero unread s c cut = let same = ap (λ (x : Cut). x.machine.lines_read) (none_cut m unread s c cut) in omega arith
count_lines m (suc count) [] s c cut = absurd (no_cut m count s c cut)
count_lines m (suc count) (line ∷ rest) s c cut =
    elim (first_line m count line rest s c cut) [
      | inl g ↦
          let effect = line_effect m 0 line (with_read s rest) in
          let more = count_lines m count rest effect.machine g.lines g.cut in
          let first = read_after m line rest s in
          let same = ap (λ (x : Cut). x.machine.lines_read) g.whole in
          omega arith
      | inr l ↦
          let first = read_after m line rest s in
          let none = l.none in
          let same = ap (λ (x : Cut). x.machine.lines_read) l.whole in
          omega arith
    ]

pub cuts_count : CutsCountLines
cuts_count s m count c cut =
    let o = is_open s m count c cut in
    let lines = count_lines m count s.machine.unread (session_opening s.machine m 0 o.reason).machine o.lines o.cut in
    let same = ap (λ (x : Cut). x.machine.lines_read) o.whole in
    omega arith

-- Sessions that are cuts.

-- a session that leaves is its own cut
abbrev WholeCut : Hart → List (List ℕ) → Machine → Done → Type 0
WholeCut m lines s d = (count : ℕ) × (d.next.machine.lines_read ≡ s.lines_read + count) × (cut_lines m count lines s ≡ Some (record { text = d.text; machine = d.next.machine; left = Some d.next.mode }))

whole_lines : (m : Hart) (lines : List (List ℕ)) (s : Machine) → ending_of (session_lines m lines s).next.mode ≡ None → WholeCut m lines s (session_lines m lines s)
unfolding session_lines cut_lines line_effect
whole_lines m [] s e = absurd (cc)
whole_lines m (line ∷ rest) s e =
    by_left (λ f. whole_lines m rest (line_effect m 0 line (with_read s rest)).machine f) (line_effect m 0 line (with_read s rest)).left refl e
  where
    by_left :
        (ending_of (session_lines m rest (line_effect m 0 line (with_read s rest)).machine).next.mode ≡ None → WholeCut m rest (line_effect m 0 line (with_read s rest)).machine (session_lines m rest (line_effect m 0 line (with_read s rest)).machine)) →
        (left : Option Mode) → (line_effect m 0 line (with_read s rest)).left ≡ left →
        ending_of (after_line left (line_effect m 0 line (with_read s rest)) (session_lines m rest (line_effect m 0 line (with_read s rest)).machine)).next.mode ≡ None →
        WholeCut m (line ∷ rest) s (after_line left (line_effect m 0 line (with_read s rest)) (session_lines m rest (line_effect m 0 line (with_read s rest)).machine))
    by_left goes_on None left f =
        let after = goes_on f in
        let read = after.1 in
        let cut = after.2 in
        (suc after.0, omega arith, rw (left, cut) refl)
    by_left goes_on (Some mode) left f = (1, refl, rw left refl)

pub sessions_are_cuts : SessionsAreCuts
unfolding does cut_session session
sessions_are_cuts s m d is on = by_reason (is_hart s.machine m.0) (opening_reason s.mode s.machine m.0 0) is
  where
    by_reason : (b : Bool) (r : Option Reason) → cond b (opened_for s m r) None ≡ Some d → (count : ℕ) × (d.next.machine.lines_read ≡ s.machine.lines_read + count) × (cond b (cut_for s.machine m count r) None ≡ Some (record { text = d.text; machine = d.next.machine; left = Some d.next.mode }))
    by_reason false r f = absurd (cc)
    by_reason true None f = absurd (cc)
    by_reason true (Some reason) f =
        let same : session s.machine m reason ≡ d = cc in
        let opening = session_opening s.machine m 0 reason in
        let leaves : ending_of (session_lines m s.machine.unread opening.machine).next.mode ≡ None = ap (λ (x : Done). ending_of x.next.mode) same ∙ on in
        let whole = whole_lines m s.machine.unread opening.machine leaves in
        let cut = whole.2 in
        subst (λ (x : Done). (count : ℕ) × (x.next.machine.lines_read ≡ s.machine.lines_read + count) × (cond true (cut_for s.machine m count (Some reason)) None ≡ Some (record { text = x.text; machine = x.next.machine; left = Some x.next.mode }))) same (whole.0, whole.1, rw cut refl)
