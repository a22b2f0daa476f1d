-- The text of a journal, and where a text stops being one.
use Rattle.std.specs.Prelude.{◌≡◌, ◌≢◌, ℕ, ◌+◌, ◌<◌, ◌≤◌, ◌&&◌, ◌⊎◌, Bool, true, nat_le, List, ◌++◌, length, codes}
use Rattle.std.specs.List.{AllByRecursion}
use Rattle.mach_base.specs.Number.{dec_text}
use Rattle.mach_base.specs.Texts.{newline}
use Rattle.mach_base.specs.declared.limits.TheConstants.{MOST_HARTS, MOST_STEPS, MOST_ENTRIES}
use Rattle.mach_base.specs.declared.event.Entry.{Entry}
use Rattle.mach_base.specs.declared.event.What.TheVariants.{Entries as TooManyEntries}
use Rattle.jrn_text.specs.declared.fault.JournalFault.{JournalFault}
use Rattle.jrn_text.specs.declared.fault.JournalFault.TheVariants.{Bad, TooLarge, OutOfMemory}
use Rattle.jrn_text.specs.Entries.{IsEntry, entry_line, lines_text}

-- the first line: the version, the number of harts and the limit of steps
unfoldable pub header_text : ℕ → ℕ → List ℕ
header_text harts limit = codes "kjrn 1 harts " ++ (dec_text harts ++ (codes " steps " ++ (dec_text limit ++ newline)))

-- the text of a journal
abbrev pub journal_text : ℕ → ℕ → List Entry → List ℕ
journal_text harts limit entries = header_text harts limit ++ lines_text entries

-- whether these are the numbers of a first line
abbrev pub is_header : ℕ → ℕ → Bool
is_header harts limit = (nat_le 1 harts && nat_le harts MOST_HARTS) && (nat_le 1 limit && nat_le limit MOST_STEPS)

-- these are the numbers of a first line
abbrev pub IsHeader : ℕ → ℕ → Type 0
IsHeader harts limit = is_header harts limit ≡ true

-- the numbers and the entries of a journal
abbrev pub IsJournal : ℕ → ℕ → List Entry → Type 0
IsJournal harts limit entries = IsHeader harts limit × AllByRecursion (IsEntry harts) entries

-- the text is the journal of these numbers and entries, which are no more than there may be
abbrev pub IsRead : List ℕ → ℕ → ℕ → List Entry → Type 0
IsRead text harts limit entries =
    IsJournal harts limit entries × (text ≡ journal_text harts limit entries) × (length entries ≤ MOST_ENTRIES)

-- the text begins with no first line
abbrev pub HasNoHeader : List ℕ → Type 0
HasNoHeader text = (harts limit : ℕ) (rest : List ℕ) → IsHeader harts limit → text ≢ header_text harts limit ++ rest

-- the text begins with no entry's line
abbrev pub HasNoEntry : ℕ → List ℕ → Type 0
HasNoEntry harts text = (e : Entry) (rest : List ℕ) → IsEntry harts e → text ≢ entry_line e ++ rest

-- Lines that are right up to one which is no entry's: the lines of entries, and after them a rest that isn't empty and
-- begins with no entry's line. The first line of a journal is line 1.
pub record StopsAt (harts : ℕ) (lines : List ℕ) (line : ℕ) : Type 0 where
  pub entries : List Entry
  pub rest : List ℕ
  pub all : AllByRecursion (IsEntry harts) entries
  pub lines_are : lines ≡ lines_text entries ++ rest
  pub some : 0 < length rest
  pub bad : HasNoEntry harts rest
  pub line_is : line ≡ length entries + 2

-- a text with a right first line, whose other lines are right up to this one
pub record StopsAfter (text : List ℕ) (line : ℕ) : Type 0 where
  pub harts : ℕ
  pub limit : ℕ
  pub lines : List ℕ
  pub header : IsHeader harts limit
  pub text_is : text ≡ header_text harts limit ++ lines
  pub stops : StopsAt harts lines line

-- a text that is a journal of so many entries, and they are too many
pub record HasTooMany (text : List ℕ) (size : ℕ) : Type 0 where
  pub harts : ℕ
  pub limit : ℕ
  pub entries : List Entry
  pub journal : IsJournal harts limit entries
  pub text_is : text ≡ journal_text harts limit entries
  pub size_is : size ≡ length entries
  pub many : MOST_ENTRIES < size

-- why a text isn't read as a journal; out of memory says nothing
abbrev pub Explains : List ℕ → JournalFault → Type 0
Explains text (Bad line) = ((line ≡ 1) × HasNoHeader text) ⊎ StopsAfter text line
Explains text (TooLarge what size) = (what ≡ TooManyEntries) × HasTooMany text size
Explains text OutOfMemory = Unit {0}

-- why lines aren't read as entries; out of memory says nothing
abbrev pub ExplainsLines : ℕ → List ℕ → JournalFault → Type 0
ExplainsLines harts lines (Bad line) = StopsAt harts lines line
ExplainsLines harts lines (TooLarge what size) = ⊥
ExplainsLines harts lines OutOfMemory = Unit {0}
