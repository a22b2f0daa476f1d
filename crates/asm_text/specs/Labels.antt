-- The labels of a source: each name with the line that gives it and the address that it means.
use Rattle.std.specs.Prelude.{ℕ, ◌+◌, ◌==◌, Bool, false, List, [], ◌∷◌, ◌++◌, map, Vec, Option, Some, None, is_some, if◌then◌else◌}
use Rattle.std.specs.Str.{bytes_eq}
use Rattle.std.specs.Global.{Global}
use Rattle.indexmap.specs.IndexMap.{IndexMap}
use Rattle.mach_base.specs.Lines.{words_of}
use Rattle.asm_text.specs.declared.labels.Given.{Given}
use Rattle.asm_text.specs.Kinds.{label_of, place_after}

-- names, each with where it is given
abbrev pub Labels : Type 0
Labels = List (List ℕ × Given)

-- where a name is given, if it is
abbrev pub given : Labels → List ℕ → Option Given
given [] name = None
given (l ∷ ls) name = if bytes_eq name l.0 then Some l.1 else given ls name

-- the labels and one more; of a name that is given already the first stays
abbrev pub with_label : Labels → List ℕ → Given → Labels
with_label labels name there = if is_some (given labels name) then labels else labels ++ (name, there) ∷ []

-- the labels and the one that a line gives, if it gives one and a segment has begun
abbrev pub with_line : Labels → ℕ → Option ℕ → Option (List ℕ) → Labels
with_line labels number None name = labels
with_line labels number (Some place) None = labels
with_line labels number (Some place) (Some name) = with_label labels name (record { line = number; address = place })

-- The labels that lines give: the first of them has this number, its place is this one, and these labels stand before it.
unfoldable pub labels_from : ℕ → Option ℕ → Labels → List (List ℕ) → Labels
labels_from number place labels [] = labels
labels_from number place labels (l ∷ ls) =
    labels_from (number + 1) (place_after place (words_of l)) (with_line labels number place (label_of (words_of l))) ls

-- the labels of the lines after a source's first
abbrev pub labels_of : List (List ℕ) → Labels
labels_of lines = labels_from 2 None [] lines

-- whether a name is given in the line of this number
abbrev pub is_given_at : Option Given → ℕ → Bool
is_given_at None number = false
is_given_at (Some there) number = there.line == number

-- the labels of a table
abbrev pub labels_in : List (Vec ℕ Global × Given) → Labels
labels_in entries = map (λ e. (e.0.items, e.1)) entries

-- the labels of a table of names, in its order
abbrev pub table_labels : {S : Type 0} → IndexMap (Vec ℕ Global) Given S → Labels
table_labels table = labels_in table.entries
