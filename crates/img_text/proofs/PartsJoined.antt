-- The segments of an image, each with its bytes, are its parts.
use Rattle.std.proofs.Common.{◌≡◌, ℕ, zero, suc, List, [], ◌∷◌, ◌++◌, map, take, Some, refl, ap}
use Rattle.std.specs.List.{slice_get, AllByRecursion}
use Rattle.std.specs.Option.{option_map}
use Rattle.mach_base.specs.Machine.{Part}
use Rattle.mem_map.specs.Parts.{AreContents, IsWhole, segments_of, parts_of}

-- the bytes of one part more
pub bytes_more : (ps : List Part) (i : ℕ) (b : List ℕ) → option_map (λ (p : Part). p.bytes) (slice_get ps i) ≡ Some b → map (λ (p : Part). p.bytes) (take (suc i) ps) ≡ map (λ (p : Part). p.bytes) (take i ps) ++ b ∷ []
bytes_more [] i b e = absurd (cc)
bytes_more (p ∷ ps) zero b e = cc
bytes_more (p ∷ ps) (suc i) b e = ap (λ x. p.bytes ∷ x) (bytes_more ps i b e)

-- the parts' bytes are as long as their segments
pub AreContents-parts : (ps : List Part) → AllByRecursion IsWhole ps → AreContents (segments_of ps) (map (λ (p : Part). p.bytes) ps)
AreContents-parts [] h = tt
AreContents-parts (p ∷ ps) h = (h.0, AreContents-parts ps h.1)

-- segments and bytes put together again
pub parts_of-parts : (ps : List Part) → parts_of (segments_of ps) (map (λ (p : Part). p.bytes) ps) ≡ ps
parts_of-parts [] = refl
parts_of-parts (p ∷ ps) = ap (λ x. p ∷ x) (parts_of-parts ps)
