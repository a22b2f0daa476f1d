-- The lines of a macro, and what is printed before them.
use Rattle.std.proofs.Common.{◌≡◌, ℕ, ◌+◌, ◌<◌, ◌≤◌, List, [], ◌∷◌, ◌++◌, length, take, Option, None, Some, refl, sym, ap, ◌∙◌, arith, inl, inr}
use Rattle.std.specs.Prelude.{slice_get}
use Rattle.std.proofs.lemmas.List.{take_more, take_all}
use Rattle.std.proofs.lemmas.Option.{slice_get_within, get_or_from_slice_get, slice_get_cases, slice_get_past}
use Rattle.mach_base.specs.Machine.{Macro as MacroRecord}
use Rattle.kdb_macro.specs.Macros.{line_in}
use Rattle.kdb_cmd.specs.Answer.{Answer}
use Rattle.kdb_cmd.specs.MacroLines.{lines_in}

-- a line of a macro is one of its lines
pub line-in : (m : Option MacroRecord) (i : ℕ) → line_in m i ≡ slice_get (lines_in m) i
line-in None i =
    let past : 0 ≤ i = omega arith in
    sym (slice_get_past [] i past)
line-in (Some m) i = refl

pub taken_more : (lines : List (List ℕ)) (i : ℕ) (line : List ℕ) (out new : List (List ℕ)) → Some line ≡ slice_get lines i → out ≡ take i lines → new ≡ out ++ line ∷ [] → new ≡ take (i + 1) lines
taken_more lines i line out new is so_far more =
    let below : i < length lines = slice_get_within lines i line (sym is) in
    more
    ∙ ap (λ o. o ++ line ∷ []) so_far
    ∙ ap (λ x. take i lines ++ x ∷ []) (sym (get_or_from_slice_get lines i line [] (sym is)))
    ∙ sym (take_more lines i [] below)

pub taken_within : (lines : List (List ℕ)) (i : ℕ) (line : List ℕ) → Some line ≡ slice_get lines i → i + 1 ≤ length lines
taken_within lines i line is =
    let below : i < length lines = slice_get_within lines i line (sym is) in
    omega arith

pub taken_all : (lines : List (List ℕ)) (i : ℕ) (out : List (List ℕ)) → None ≡ slice_get lines i → out ≡ take i lines → out ≡ lines
taken_all lines i out is so_far =
    elim ((slice_get_cases lines i).1) [
      | inl found ↦ let found_is = found.2 in absurd (cc)
      | inr end ↦ so_far ∙ take_all i lines end.0
    ]

-- an answer after what was printed before
abbrev pub behind : List ℕ → Answer → Answer
behind out answer = record answer { output = out ++ answer.output }
