-- The lines of an image file: a directive and its numbers.
use Rattle.std.specs.Prelude.{ℕ, ◌&&◌, Bool, List, [], ◌∷◌, length, codes, Option, Some, None, Result, Ok, Err, nat_le, if◌then◌else◌}
use Rattle.std.specs.Str.{bytes_eq}
use Rattle.mach_base.specs.declared.memory_range.Kind.TheVariants.{Text, Data, Rodata}
use Rattle.mach_base.specs.declared.number.NumFault.{NumFault}
use Rattle.mach_base.specs.Number.{number_of}
use Rattle.mach_base.specs.Sequence.{◌>>=◌}
use Rattle.mach_base.specs.Lines.{is_comment}
use Rattle.img_text.specs.declared.fault.Why.{Why}
use Rattle.img_text.specs.declared.fault.Why.TheVariants.{Word, Number}
use Rattle.img_text.specs.declared.directive.Width.{Width}
use Rattle.img_text.specs.declared.directive.Width.TheVariants.{One, Four, Eight}
use Rattle.img_text.specs.declared.directive.Directive.{Directive}
use Rattle.img_text.specs.declared.directive.Directive.TheVariants.{Begin, Put, Pc, Sp}

-- the directive of a line's first word, if it is one
abbrev pub directive_of : List ℕ → Option Directive
directive_of word =
    if bytes_eq word (codes "text") then Some (Begin Text) else (
    if bytes_eq word (codes "data") then Some (Begin Data) else (
    if bytes_eq word (codes "rodata") then Some (Begin Rodata) else (
    if bytes_eq word (codes "b") then Some (Put One) else (
    if bytes_eq word (codes "w") then Some (Put Four) else (
    if bytes_eq word (codes "d") then Some (Put Eight) else (
    if bytes_eq word (codes "pc") then Some Pc else (
    if bytes_eq word (codes "sp") then Some Sp else None)))))))

-- how many bytes a value takes
abbrev pub size_of : Width → ℕ
size_of One = 1
size_of Four = 4
size_of Eight = 8

-- how many numbers a directive has at least
abbrev pub least_of : Directive → ℕ
least_of (Begin kind) = 2
least_of (Put width) = 1
least_of Pc = 2
least_of Sp = 2

-- how many it has at most
abbrev pub most_of : Directive → ℕ
most_of (Begin kind) = 2
most_of (Put width) = 8
most_of Pc = 2
most_of Sp = 2

-- the largest value of a width
abbrev pub largest_value : Width → ℕ
largest_value One = 255
largest_value Four = 4294967295
largest_value Eight = 18446744073709551615

-- the largest number that a directive may have
abbrev pub largest_of : Directive → ℕ
largest_of (Begin kind) = 18446744073709551615
largest_of (Put width) = largest_value width
largest_of Pc = 18446744073709551615
largest_of Sp = 18446744073709551615

-- the number if it is at most the largest
abbrev pub up_to : ℕ → Result ℕ NumFault → Result ℕ Why
up_to largest (Ok n) = if nat_le n largest then Ok n else Err Number
up_to largest (Err e) = Err Number

-- the number that the word writes, if it is at most the largest
abbrev pub number_up_to : ℕ → List ℕ → Result ℕ Why
number_up_to largest word = up_to largest (number_of 10 word)

-- the numbers that the words write
unfoldable pub each_number : ℕ → List (List ℕ) → Result (List ℕ) Why
each_number largest [] = Ok []
each_number largest (w ∷ ws) = do
  n ← number_up_to largest w
  ns ← each_number largest ws
  Ok (n ∷ ns)

-- whether there are as many words as the directive has numbers
abbrev pub has_count : ℕ → ℕ → List (List ℕ) → Bool
has_count least most words = nat_le least (length words) && nat_le (length words) most

-- the directive with the numbers that the words write
abbrev pub with_numbers : Option Directive → List (List ℕ) → Result (Option (Directive × List ℕ)) Why
with_numbers None words = Err Word
with_numbers (Some d) words =
    if has_count (least_of d) (most_of d) words then (each_number (largest_of d) words >>= λ ns. Ok (Some (d, ns))) else Err Word

-- The directive of a line and its numbers, by its words; none for a line that is skipped. A first word that is no
-- directive and a wrong count of words come before a bad number.
unfoldable pub line_of : List (List ℕ) → Result (Option (Directive × List ℕ)) Why
line_of [] = Ok None
line_of (w ∷ ws) = if is_comment w then Ok None else with_numbers (directive_of w) ws
