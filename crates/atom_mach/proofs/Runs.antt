-- Runs: joined, longer by a step, and at most one by a rule.
use Rattle.std.proofs.Common.{◌≡◌, List, [], ◌∷◌, ◌++◌, ℕ, ◌&&◌, false, Option, Some, None, option_map, refl, sym, ap, ◌∙◌, append_assoc}
use Rattle.mach_base.specs.declared.event.Ending.{Ending}
use Rattle.mach_base.specs.declared.event.Ending.TheVariants.{ScriptEnd, AllHalted, StepLimit, PlanEnd}
use Rattle.atom_mach.specs.declared.step.Mode.TheVariants.{Over}
use Rattle.atom_mach.specs.declared.step.AStep.{AStep}
use Rattle.atom_mach.specs.declared.step.AStep.TheVariants.{Instr, Intr, Session, Enter, Line, End, Off}
use Rattle.atom_mach.specs.State.{State, Done, prefixed}
use Rattle.atom_mach.specs.Texts.{ending_line}
use Rattle.atom_mach.specs.Session.{is_hart}
use Rattle.atom_mach.specs.Step.{does, can_be_late}
use Rattle.atom_mach.specs.Run.{run_of, then_run, transcript, with_last_text, Follows, RunsJoin, NothingAfterTheEnd, RuledRunsAreUnique}
use Rattle.atom_mach.proofs.Booleans.{cond_false, and_false, either_none}

-- Joined.

prefixed-nothing : (o : Option Done) → option_map (prefixed []) o ≡ o
prefixed-nothing None = refl
prefixed-nothing (Some d) = refl

prefixed-twice : (a b : List ℕ) (o : Option Done) → option_map (prefixed a) (option_map (prefixed b) o) ≡ option_map (prefixed (a ++ b)) o
prefixed-twice a b None = refl
prefixed-twice a b (Some d) = let e : a ++ (b ++ d.text) ≡ (a ++ b) ++ d.text = sym (append_assoc a b d.text) in rw e refl

then_run-prefixed : (text : List ℕ) (o : Option Done) (rest : State → Option Done) → option_map (prefixed text) (then_run o rest) ≡ then_run (option_map (prefixed text) o) rest
then_run-prefixed text None rest = refl
then_run-prefixed text (Some d) rest = prefixed-twice text d.text (rest d.next)

pub runs_join : RunsJoin
unfolding run_of
runs_join s [] after = sym (prefixed-nothing (run_of s after))
runs_join s (step ∷ before) after = by_step (does s step) (λ next. runs_join next before after)
  where
    by_step : (o : Option Done) → ((next : State) → run_of next (before ++ after) ≡ then_run (run_of next before) (λ n. run_of n after)) → then_run o (λ n. run_of n (before ++ after)) ≡ then_run (then_run o (λ n. run_of n before)) (λ n. run_of n after)
    by_step None joined = refl
    by_step (Some d) joined = ap (option_map (prefixed d.text)) (joined d.next) ∙ then_run-prefixed d.text (run_of d.next before) (λ n. run_of n after)

-- The first step of a run.

-- the first step of a run, and the run after it
record Begins (s : State) (step : AStep) (steps : List AStep) (last : Done) : Type 0 where
  first : Done
  rest : Done
  done : does s step ≡ Some first
  run : run_of first.next steps ≡ Some rest
  whole : prefixed first.text rest ≡ last

begins : (s : State) (step : AStep) (steps : List AStep) (last : Done) → run_of s (step ∷ steps) ≡ Some last → Begins s step steps last
unfolding run_of
begins s step steps last run = by_step (does s step) refl run
  where
    by_rest : (d : Done) → does s step ≡ Some d → (o : Option Done) → run_of d.next steps ≡ o → option_map (prefixed d.text) o ≡ Some last → Begins s step steps last
    by_rest d e None f g = absurd (cc)
    by_rest d e (Some rest) f g = record { first = d; rest = rest; done = e; run = f; whole = cc }

    by_step : (o : Option Done) → does s step ≡ o → then_run o (λ next. run_of next steps) ≡ Some last → Begins s step steps last
    by_step None e f = absurd (cc)
    by_step (Some d) e f = by_rest d e (run_of d.next steps) refl f

-- Longer by a step.

append-nothing : (xs : List ℕ) → xs ++ [] ≡ xs
append-nothing [] = refl
append-nothing (x ∷ xs) = ap (λ ys. x ∷ ys) (append-nothing xs)

one_step : (s : State) (step : AStep) (d : Done) → does s step ≡ Some d → run_of s (step ∷ []) ≡ Some d
unfolding run_of
one_step s step d e = rw e (ap (λ text. Some (record { text = text; next = d.next })) (append-nothing d.text))

-- a run that goes on by one step
pub run_of-snoc : (s : State) (steps : List AStep) (mid : Done) (step : AStep) (d : Done) → run_of s steps ≡ Some mid → does mid.next step ≡ Some d → run_of s (steps ++ step ∷ []) ≡ Some (record { text = mid.text ++ d.text; next = d.next })
run_of-snoc s steps mid step d run done =
    runs_join s steps (step ∷ [])
    ∙ ap (λ (o : Option Done). then_run o (λ next. run_of next (step ∷ []))) run
    ∙ ap (option_map (prefixed mid.text)) (one_step mid.next step d done)

same_some : (d e : Done) → Some d ≡ Some e → d ≡ e
same_some d e same = cc

at_start : (s : State) (mid : Done) → run_of s [] ≡ Some mid → s ≡ mid.next
unfolding run_of
at_start s mid run = ap (λ (x : Done). x.next) (same_some (record { text = []; next = s }) mid run)

-- the same, by a rule
pub Follows-snoc : (rule : State → Option AStep) (s : State) (steps : List AStep) (mid : Done) (step : AStep) → run_of s steps ≡ Some mid → Follows rule s steps → rule mid.next ≡ Some step → Follows rule s (steps ++ step ∷ [])
Follows-snoc rule s [] mid step run ruled chosen = (ap rule (at_start s mid run) ∙ chosen, λ d e. tt)
Follows-snoc rule s (first ∷ steps) mid step run ruled chosen =
    let b = begins s first steps mid run in (
      ruled.0,
      λ d e.
          let same : b.first ≡ d = same_some b.first d (sym b.done ∙ e) in
          Follows-snoc rule d.next steps b.rest step (ap (λ (x : Done). run_of x.next steps) (sym same) ∙ b.run) (ruled.1 d e) (ap (λ (x : Done). rule x.next) b.whole ∙ chosen),
    )

-- Nothing after the end.

pub nothing_after : NothingAfterTheEnd
unfolding does
nothing_after s ending (Instr h) e = rw e (cond_false (is_hart s.machine h.0 && false) _ _ (and_false (is_hart s.machine h.0)))
nothing_after s ending (Intr h) e = rw e (cond_false (is_hart s.machine h.0 && false) _ _ (and_false (is_hart s.machine h.0)))
nothing_after s ending (Session m) e = rw e (either_none (is_hart s.machine m.0))
nothing_after s ending (Enter m late) e = rw e (either_none (can_be_late s m late))
nothing_after s ending Line e = rw e refl
nothing_after s ending End e = rw e refl
nothing_after s ending (Off ScriptEnd) e = rw e refl
nothing_after s ending (Off AllHalted) e = rw e refl
nothing_after s ending (Off StepLimit) e = rw e refl
nothing_after s ending (Off PlanEnd) e = refl

-- At most one run by a rule.

at_once : (s : State) (last : Done) (ending : Ending) → run_of s [] ≡ Some last → last.next.mode ≡ Over ending → s.mode ≡ Over ending
at_once s last ending run over = ap (λ (x : State). x.mode) (at_start s last run) ∙ over

no_more : (s : State) (step : AStep) (steps : List AStep) (last also : Done) (ending : Ending) → run_of s [] ≡ Some last → last.next.mode ≡ Over ending → run_of s (step ∷ steps) ≡ Some also → ⊥
no_more s step steps last also ending run over more =
    let b = begins s step steps also more in
    let none = nothing_after s ending step (at_once s last ending run over) in
    let some = b.done in
    cc

same_last : (rule : State → Option AStep) (s : State) (steps others : List AStep) (last also : Done) (ending other : Ending) → run_of s steps ≡ Some last → run_of s others ≡ Some also → Follows rule s steps → Follows rule s others → last.next.mode ≡ Over ending → also.next.mode ≡ Over other → last ≡ also
same_last rule s [] [] last also ending other run more ruled follows over ends = let both = sym run ∙ more in cc
same_last rule s [] (y ∷ ys) last also ending other run more ruled follows over ends = absurd (no_more s y ys last also ending run over more)
same_last rule s (x ∷ xs) [] last also ending other run more ruled follows over ends = absurd (no_more s x xs also last other more ends run)
same_last rule s (x ∷ xs) (y ∷ ys) last also ending other run more ruled follows over ends =
    let a = begins s x xs last run in
    let b = begins s y ys also more in
    let step : x ≡ y = same_choice (sym ruled.0 ∙ follows.0) in
    let first : a.first ≡ b.first = same_some a.first b.first (sym a.done ∙ ap (does s) step ∙ b.done) in
    let b_run : run_of a.first.next ys ≡ Some b.rest = ap (λ (d : Done). run_of d.next ys) first ∙ b.run in
    let b_done : does s y ≡ Some a.first = b.done ∙ ap Some (sym first) in
    let rest : a.rest ≡ b.rest = same_last rule a.first.next xs ys a.rest b.rest ending other a.run b_run (ruled.1 a.first a.done) (follows.1 a.first b_done) (mode_in a.first.text a.rest last a.whole ∙ over) (mode_in b.first.text b.rest also b.whole ∙ ends) in
    sym a.whole ∙ ap (λ (d : Done). prefixed d.text a.rest) first ∙ ap (prefixed b.first.text) rest ∙ b.whole
  where
    same_choice : Some x ≡ Some y → x ≡ y
    same_choice e = cc

    mode_in : (text : List ℕ) (d e : Done) → prefixed text d ≡ e → d.next.mode ≡ e.next.mode
    mode_in text d e same = ap (λ (x : Done). x.next.mode) same

text_of_run : (start : State) (steps : List AStep) (last : Done) (ending : Ending) (text : List ℕ) → run_of start steps ≡ Some last → transcript start steps None ending ≡ Some text → last.text ++ ending_line ending last.next.machine.steps ≡ text
unfolding transcript
text_of_run start steps last ending text run whole = inner (ap (λ (o : Option Done). with_last_text o None ending) (sym run) ∙ whole)
  where
    inner : Some (last.text ++ ending_line ending last.next.machine.steps) ≡ Some text → last.text ++ ending_line ending last.next.machine.steps ≡ text
    inner e = cc

pub ruled_runs_unique : RuledRunsAreUnique
ruled_runs_unique rule start ending other text also t u =
    let last : t.last ≡ u.last = same_last rule start t.steps u.steps t.last u.last ending other t.run u.run t.ruled u.ruled t.over u.over in
    let over : Over ending ≡ Over other = sym t.over ∙ ap (λ (d : Done). d.next.mode) last ∙ u.over in
    let end : ending ≡ other = inner over in (
      end,
      sym (text_of_run start t.steps t.last ending text t.run t.whole)
          ∙ ap (λ (d : Done). d.text ++ ending_line ending d.next.machine.steps) last
          ∙ ap (λ e. u.last.text ++ ending_line e u.last.next.machine.steps) end
          ∙ text_of_run start u.steps u.last other also u.run u.whole,
    )
  where
    inner : Over ending ≡ Over other → ending ≡ other
    inner e = cc
