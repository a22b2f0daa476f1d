-- The causes of a whole file, in the order of their five lists.
use Rattle.std.proofs.Common.{◌≡◌, Bool, true, false, cond, ℕ, length, List, [], ◌∷◌, ◌++◌, Some, None, refl, ◌∙◌}
use Rattle.elf_img.specs.declared.fault.ElfFault.{ElfFault}
use Rattle.elf_img.specs.declared.fault.ElfFault.TheVariants.{Bad, TooLarge, OutOfMemory}
use Rattle.elf_img.specs.Causes.{Cause, first_fault, IsFirst}
use Rattle.elf_img.specs.Header.{header_causes}
use Rattle.elf_img.specs.Segments.{program_causes, segment_causes, size_causes, program_headers, loads, segments}
use Rattle.elf_img.specs.Symbols.{symbol_causes, symbols}
use Rattle.elf_img.specs.Reading.{causes}

none_before : (cs ds : List Cause) → first_fault cs ≡ None → first_fault (cs ++ ds) ≡ first_fault ds
none_before [] ds none = refl
none_before (c ∷ cs) ds none = by_test (none_before cs ds) c.0 none
  where
    by_test : (first_fault cs ≡ None → first_fault (cs ++ ds) ≡ first_fault ds) → (b : Bool) → cond b (Some c.1) (first_fault cs) ≡ None → cond b (Some c.1) (first_fault (cs ++ ds)) ≡ first_fault ds
    by_test rest true e = absurd (cc)
    by_test rest false e = rest e

some_before : (cs ds : List Cause) (f : ElfFault) → first_fault cs ≡ Some f → first_fault (cs ++ ds) ≡ Some f
some_before [] ds f some = absurd (cc)
some_before (c ∷ cs) ds f some = by_test (some_before cs ds f) c.0 some
  where
    by_test : (first_fault cs ≡ Some f → first_fault (cs ++ ds) ≡ Some f) → (b : Bool) → cond b (Some c.1) (first_fault cs) ≡ Some f → cond b (Some c.1) (first_fault (cs ++ ds)) ≡ Some f
    by_test rest true e = e
    by_test rest false e = rest e

-- a refusal by the first causes is one by all
IsFirst-front : (f : ElfFault) (cs ds : List Cause) → IsFirst f cs → IsFirst f (cs ++ ds)
IsFirst-front (Bad why) cs ds first = some_before cs ds (Bad why) first
IsFirst-front (TooLarge what size) cs ds first = some_before cs ds (TooLarge what size) first
IsFirst-front OutOfMemory cs ds first = tt

-- where none of the first causes is so, a refusal by those after them is one by all
IsFirst-back : (f : ElfFault) (cs ds : List Cause) → first_fault cs ≡ None → IsFirst f ds → IsFirst f (cs ++ ds)
IsFirst-back (Bad why) cs ds none first = none_before cs ds none ∙ first
IsFirst-back (TooLarge what size) cs ds none first = none_before cs ds none ∙ first
IsFirst-back OutOfMemory cs ds none first = tt

-- no cause of two lists is so
none_of_both : (cs ds : List Cause) → first_fault cs ≡ None → first_fault ds ≡ None → first_fault (cs ++ ds) ≡ None
none_of_both cs ds none nor = none_before cs ds none ∙ nor

-- nothing is wrong with the header, and then with the program headers, the segments, the sizes
pub record IsRightSoFar (file : List ℕ) : Type 0 where
  pub header : first_fault (header_causes file) ≡ None
  pub programs : first_fault (program_causes (length file) (program_headers file)) ≡ None

pub record HasRightSegments (file : List ℕ) : Type 0 where
  pub before : IsRightSoFar file
  pub segments : first_fault (segment_causes (segments file)) ≡ None
  pub sizes : first_fault (size_causes (loads file)) ≡ None

pub wrong_header : (file : List ℕ) (f : ElfFault) → IsFirst f (header_causes file) → IsFirst f (causes file)
unfolding causes
wrong_header file f here = IsFirst-front f (header_causes file) _ here

after_header : (file : List ℕ) (f : ElfFault) → first_fault (header_causes file) ≡ None → IsFirst f (program_causes (length file) (program_headers file) ++ (segment_causes (segments file) ++ (size_causes (loads file) ++ symbol_causes (symbols file)))) → IsFirst f (causes file)
unfolding causes
after_header file f none here = IsFirst-back f (header_causes file) _ none here

pub wrong_programs : (file : List ℕ) (f : ElfFault) → first_fault (header_causes file) ≡ None → IsFirst f (program_causes (length file) (program_headers file)) → IsFirst f (causes file)
wrong_programs file f none here =
    after_header file f none (IsFirst-front f (program_causes (length file) (program_headers file)) (segment_causes (segments file) ++ (size_causes (loads file) ++ symbol_causes (symbols file))) here)

after_programs : (file : List ℕ) (f : ElfFault) → IsRightSoFar file → IsFirst f (segment_causes (segments file) ++ (size_causes (loads file) ++ symbol_causes (symbols file))) → IsFirst f (causes file)
after_programs file f right here =
    after_header file f right.header (IsFirst-back f (program_causes (length file) (program_headers file)) (segment_causes (segments file) ++ (size_causes (loads file) ++ symbol_causes (symbols file))) right.programs here)

pub wrong_segments : (file : List ℕ) (f : ElfFault) → IsRightSoFar file → IsFirst f (segment_causes (segments file)) → IsFirst f (causes file)
wrong_segments file f right here = after_programs file f right (IsFirst-front f (segment_causes (segments file)) (size_causes (loads file) ++ symbol_causes (symbols file)) here)

pub wrong_sizes : (file : List ℕ) (f : ElfFault) → IsRightSoFar file → first_fault (segment_causes (segments file)) ≡ None → IsFirst f (size_causes (loads file)) → IsFirst f (causes file)
wrong_sizes file f right none here =
    after_programs file f right (IsFirst-back f (segment_causes (segments file)) (size_causes (loads file) ++ symbol_causes (symbols file)) none (IsFirst-front f (size_causes (loads file)) (symbol_causes (symbols file)) here))

pub wrong_symbols : (file : List ℕ) (f : ElfFault) → HasRightSegments file → IsFirst f (symbol_causes (symbols file)) → IsFirst f (causes file)
wrong_symbols file f right here =
    after_programs file f right.before (IsFirst-back f (segment_causes (segments file)) (size_causes (loads file) ++ symbol_causes (symbols file)) right.segments (IsFirst-back f (size_causes (loads file)) (symbol_causes (symbols file)) right.sizes here))

pub nothing_wrong : (file : List ℕ) → HasRightSegments file → first_fault (symbol_causes (symbols file)) ≡ None → first_fault (causes file) ≡ None
unfolding causes
nothing_wrong file right none =
    none_of_both (header_causes file) _ right.before.header (none_of_both (program_causes (length file) (program_headers file)) _ right.before.programs
    (none_of_both (segment_causes (segments file)) _ right.segments (none_of_both (size_causes (loads file)) (symbol_causes (symbols file)) right.sizes none)))
