-- The lines of the variables, one more at a time.
use Rattle.std.proofs.Common.{◌≡◌, ℕ, suc, ◌+◌, ◌<◌, ◌≤◌, List, [], ◌∷◌, ◌++◌, length, slice_index_or, None, Some, sym, ap, ◌∙◌, arith, inl, inr, length-append}
use Rattle.std.specs.Prelude.{slice_get}
use Rattle.std.proofs.lemmas.Option.{slice_get_within, get_or_from_slice_get, slice_get_cases}
use Rattle.kdb_env.specs.Variables.{Variables}
use Rattle.kdb_view.specs.Variables.{variable_line, first_lines, variables_text}

pub line_more : (vars : Variables) (i : ℕ) (name value out new : List ℕ) → Some (name, value) ≡ slice_get vars i → out ≡ first_lines vars i → new ≡ out ++ variable_line (name, value) → new ≡ first_lines vars (i + 1)
line_more vars i name value out new is so_far more =
    let more_lines : i + 1 ≡ suc i = omega arith in
    let here : slice_index_or vars i ([], []) ≡ (name, value) = get_or_from_slice_get vars i (name, value) ([], []) (sym is) in
    more ∙ ap (λ o. o ++ variable_line (name, value)) so_far ∙ ap (λ v. first_lines vars i ++ variable_line v) (sym here) ∙ ap (first_lines vars) (sym more_lines)

pub line_within : (vars : Variables) (i : ℕ) (name value : List ℕ) → Some (name, value) ≡ slice_get vars i → i + 1 ≤ length vars
line_within vars i name value is =
    let below : i < length vars = slice_get_within vars i (name, value) (sym is) in
    omega arith

past : (vars : Variables) (i : ℕ) → None ≡ slice_get vars i → length vars ≤ i
past vars i is =
    elim ((slice_get_cases vars i).1) [
      | inl found ↦ let found_is = found.2 in absurd (cc)
      | inr end ↦ end.0
    ]

pub all_lines : (vars : Variables) (i : ℕ) (out : List ℕ) → None ≡ slice_get vars i → i ≤ length vars → out ≡ first_lines vars i → out ≡ variables_text vars
unfolding variables_text
all_lines vars i out is within so_far =
    let end : length vars ≤ i = past vars i is in
    let same : i ≡ length vars = omega arith in
    so_far ∙ ap (first_lines vars) same

pub line_fits : (name value out new : List ℕ) → new ≡ out ++ variable_line (name, value) → length out + 1 ≤ length new
unfolding variable_line
line_fits name value out new more =
    let size : length new ≡ length out + (length name + length (61 ∷ (value ++ 10 ∷ []))) = ap length more ∙ length-append out (variable_line (name, value)) ∙ ap (λ n. length out + n) (length-append name (61 ∷ (value ++ 10 ∷ []))) in
    omega arith
