-- The code of memory, by which proofs tell its values apart: its segments and its map of bytes.
use Rattle.std.specs.Prelude.{◌≡◌, ℕ, zero, suc, List, refl}
use Rattle.std.specs.Coded.{Coded, code_by, coded×, coded_ℕ, coded_list}
use Rattle.std.specs.Ordering.{nat_cmp}
use Rattle.std.specs.FinMap as finite
use Rattle.mach_base.specs.declared.memory_range.Kind.{Kind}
use Rattle.mach_base.specs.declared.memory_range.Kind.TheVariants.{Text, Data, Rodata}
use Rattle.mach_base.specs.declared.memory_range.Segment.{Segment}
use Rattle.mach_base.specs.Machine.{Memory}

-- the number of a segment's kind
abbrev number_of_kind : Kind → ℕ
number_of_kind Text = 0
number_of_kind Data = 1
number_of_kind Rodata = 2

-- the kind of segment that a number means, Rodata from 2 on
abbrev kind_of_number : ℕ → Kind
kind_of_number zero = Text
kind_of_number (suc zero) = Data
kind_of_number (suc (suc n)) = Rodata

-- the number of a kind means that kind again
pub kind_back : (k : Kind) → kind_of_number (number_of_kind k) ≡ k
kind_back Text = refl
kind_back Data = refl
kind_back Rodata = refl

-- a kind as a number
abbrev pub kind_code : Coded Kind
kind_code = code_by ℕ coded_ℕ number_of_kind kind_of_number kind_back

-- a segment as its fields
abbrev pub segment_code : Coded Segment
segment_code = code_by (ℕ × (ℕ × Kind)) (coded× coded_ℕ (coded× coded_ℕ kind_code)) (λ s. (s.base, (s.len, s.kind))) (λ t. record { base = t.0; len = t.1.0; kind = t.1.1 }) (λ _. refl)

-- memory as the pair of its fields
abbrev pub memory_code : Coded Memory
memory_code = code_by (List Segment × finite.FinMap nat_cmp ℕ) (coded× (coded_list segment_code) (finite.code coded_ℕ coded_ℕ)) (λ m. (m.segments, m.bytes)) (λ p. record { segments = p.0; bytes = p.1 }) (λ _. refl)
