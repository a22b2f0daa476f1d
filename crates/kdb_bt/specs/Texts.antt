-- How frames are printed.
use Rattle.std.specs.Prelude.{ℕ, ◌+◌, List, [], ◌∷◌, ◌++◌, codes}
use Rattle.mach_base.specs.Machine.{Symbol}
use Rattle.mach_base.specs.Number.{dec_text}
use Rattle.mach_base.specs.Texts.{newline}
use Rattle.sym_map.specs.Texts.{place_text}

-- the line of a frame: its number and its address
unfoldable pub frame_text : List Symbol → ℕ → ℕ → List ℕ
frame_text symbols number addr = codes "#" ++ (dec_text number ++ (codes " " ++ (place_text symbols addr ++ newline)))

-- the lines of frames, of which the first has this number
unfoldable pub frames_text : List Symbol → ℕ → List ℕ → List ℕ
frames_text symbols number [] = []
frames_text symbols number (addr ∷ addrs) = frame_text symbols number addr ++ frames_text symbols (number + 1) addrs
