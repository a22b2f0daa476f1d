-- The sessions of a journal and their late harts, and the line that tells them.
use Rattle.std.specs.Prelude.{◌≡◌, ℕ, ◌+◌, List, [], ◌∷◌, ◌++◌, length, codes}
use Rattle.mach_base.specs.Number.{dec_text}
use Rattle.mach_base.specs.declared.event.Entry.{Entry}
use Rattle.mach_base.specs.declared.event.Entry.TheVariants.{Open}
use Rattle.atom_mach.specs.Texts.{ending_text, harts_in}
use Rattle.kdbsim_load.specs.declared.told.LoadTold.{LoadTold}

-- how many sessions the entry opens
abbrev pub opens : Entry → ℕ
opens (Open h late) = 1
opens other = 0

-- how many harts are late in the session that the entry opens
abbrev pub late_at : Entry → ℕ
late_at (Open h late) = length (harts_in late)
late_at other = 0

-- how many sessions the entries open
abbrev pub sessions_in : List Entry → ℕ
sessions_in [] = 0
sessions_in (e ∷ es) = opens e + sessions_in es

-- how many harts are late in all of these sessions together
abbrev pub late_in : List Entry → ℕ
late_in [] = 0
late_in (e ∷ es) = late_at e + late_in es

-- a number, and what is counted
abbrev pub counted : ℕ → List ℕ → List ℕ
counted number what = dec_text number ++ what

-- the line of the command with this number
unfoldable pub load_line : ℕ → LoadTold → List ℕ
load_line number told =
    codes "load " ++ counted number (codes ": ") ++ ending_text told.ending ++ codes " after "
    ++ counted told.steps (codes " steps, ") ++ counted told.sessions (codes " sessions, ")
    ++ counted told.entries (codes " entries, ") ++ counted told.late (codes " late\n")
