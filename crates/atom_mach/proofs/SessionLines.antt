-- The lines of a session, one after the other.
use Rattle.std.proofs.Common.{◌≡◌, ℕ, zero, suc, ◌+◌, ◌<◌, ◌≤◌, nat_eq, List, [], ◌∷◌, ◌++◌, length, get_or, take, drop, Option, Some, None, refl, sym, ap, ◌∙◌, append_assoc, add-one, arith}
use Rattle.std.proofs.lemmas.Bool.Decides.{nat_tests}
use Rattle.std.proofs.Math.Seq.{drop-cons}
use Rattle.mach_base.specs.Texts.{newline}
use Rattle.mach_base.specs.Machine.{Machine}
use Rattle.mach_base.specs.declared.event.Hart.{Hart}
use Rattle.mach_base.specs.declared.event.Ending.TheVariants.{ScriptEnd}
use Rattle.atom_mach.specs.declared.step.Mode.{Mode}
use Rattle.atom_mach.specs.declared.step.Mode.TheVariants.{Hold, Over}
use Rattle.atom_mach.specs.State.{Done, prefixed}
use Rattle.atom_mach.specs.Session.{prompt_text, with_read, line_effect, after_line, session_lines}
use Rattle.atom_mach.specs.Step.{holds_at_end}

-- the lines from a place on: the one there, and those after it
pub lines_from : (lines : List (List ℕ)) (i : ℕ) → i < length lines → drop i lines ≡ get_or lines i [] ∷ drop (i + 1) lines
lines_from lines i lt = drop-cons lines i [] lt ∙ ap (λ n. get_or lines i [] ∷ drop n lines) (sym (add-one i))

taken : {A : Type 0} (ws more : List A) → take (length ws) (ws ++ more) ≡ ws
taken [] more = refl
taken (w ∷ ws) more = ap (λ xs. w ∷ xs) (taken ws more)

-- a vector's elements, written over by as many others, are the others
pub written_over : {A : Type 0} (n : ℕ) (ws more : List A) → length ws ≡ n → take n (ws ++ more) ≡ ws
written_over n ws more e = ap (λ k. take k (ws ++ more)) (sym e) ∙ taken ws more

-- the prompt with the line and its end, and after them the output
pub spoken : (o p q prompt line end output : List ℕ) → p ≡ o ++ (prompt ++ (line ++ end)) → q ≡ p ++ output → q ≡ o ++ (prompt ++ (line ++ (end ++ output)))
spoken o p q prompt line end output a b =
    b
    ∙ ap (λ t. t ++ output) a
    ∙ append_assoc o (prompt ++ (line ++ end)) output
    ∙ ap (λ t. o ++ t) (append_assoc prompt (line ++ end) output ∙ ap (λ t. prompt ++ t) (append_assoc line end output))

prefixed_twice : (a b : List ℕ) (d : Done) → prefixed a (prefixed b d) ≡ prefixed (a ++ b) d
prefixed_twice a b d = ap (λ text. record { text = text; next = d.next }) (sym (append_assoc a b d.text))

-- the lines of a session from its first on
pub session_lines-first : (m : Hart) (line : List ℕ) (rest : List (List ℕ)) (s : Machine) (left : Option Mode) → (line_effect m 0 line (with_read s rest)).left ≡ left → session_lines m (line ∷ rest) s ≡ after_line left (line_effect m 0 line (with_read s rest)) (session_lines m rest (line_effect m 0 line (with_read s rest)).machine)
unfolding session_lines
session_lines-first m line rest s left e = rw e refl

-- a line after which the session goes on
pub session_lines-stay : (m : Hart) (line : List ℕ) (rest : List (List ℕ)) (s t : Machine) (out now : List ℕ) →
    (line_effect m 0 line (with_read s rest)).left ≡ None → t ≡ (line_effect m 0 line (with_read s rest)).machine → now ≡ out ++ (line_effect m 0 line (with_read s rest)).text →
    prefixed now (session_lines m rest t) ≡ prefixed out (session_lines m (line ∷ rest) s)
session_lines-stay m line rest s t out now stays machine text =
    let effect = line_effect m 0 line (with_read s rest) in
    ap (λ o. prefixed o (session_lines m rest t)) text
    ∙ ap (λ (x : Machine). prefixed (out ++ effect.text) (session_lines m rest x)) machine
    ∙ sym (prefixed_twice out effect.text (session_lines m rest effect.machine))
    ∙ ap (prefixed out) (sym (session_lines-first m line rest s None stays))

-- a line that leaves
pub session_lines-leave : (m : Hart) (line : List ℕ) (rest : List (List ℕ)) (s t : Machine) (out now : List ℕ) (mode : Mode) →
    (line_effect m 0 line (with_read s rest)).left ≡ Some mode → t ≡ (line_effect m 0 line (with_read s rest)).machine → now ≡ out ++ (line_effect m 0 line (with_read s rest)).text →
    prefixed out (session_lines m (line ∷ rest) s) ≡ record { text = now; next = record { machine = t; mode = mode } }
session_lines-leave m line rest s t out now mode leaves machine text =
    let effect = line_effect m 0 line (with_read s rest) in
    ap (prefixed out) (session_lines-first m line rest s (Some mode) leaves)
    ∙ ap (λ (x : Machine). record { text = out ++ effect.text; next = record { machine = x; mode = mode } }) (sym machine)
    ∙ ap (λ o. record { text = o; next = record { machine = t; mode = mode } }) (sym text)

-- a prompt that finds no line
pub session_lines-end : (m : Hart) (s : Machine) (out now : List ℕ) → now ≡ out ++ (prompt_text s ++ newline) → prefixed out (session_lines m [] s) ≡ record { text = now; next = record { machine = s; mode = Over ScriptEnd } }
unfolding session_lines
session_lines-end m s out now e = ap (λ o. record { text = o; next = record { machine = s; mode = Over ScriptEnd } }) (sym e)

-- all lines are read where none is left
pub at_end : (m : Hart) (late : ℕ) (lines : List (List ℕ)) (i : ℕ) → i ≤ length lines → nat_eq i (length lines) ≡ holds_at_end (Hold m late) (drop i lines)
at_end m late [] zero le = refl
at_end m late [] (suc i) le = absurd (omega arith)
at_end m late (x ∷ xs) zero le = grind (arith, nat_tests)
at_end m late (x ∷ xs) (suc i) le =
    let fewer : i ≤ length xs = omega arith in
    let same : nat_eq (suc i) (length (x ∷ xs)) ≡ nat_eq i (length xs) = grind (arith, nat_tests) in
    same ∙ at_end m late xs i fewer
