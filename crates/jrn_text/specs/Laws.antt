-- What a text means as a journal it means alone.
use Rattle.std.specs.Prelude.{◌≡◌, ℕ, List}
use Rattle.mach_base.specs.declared.event.Entry.{Entry}
use Rattle.jrn_text.specs.declared.fault.JournalFault.TheVariants.{Bad}
use Rattle.jrn_text.specs.Journal.{journal_text, IsJournal, Explains}

-- the text is the journal of these numbers and entries
pub record IsJournalText (text : List ℕ) (harts limit : ℕ) (entries : List Entry) : Type 0 where
  pub journal : IsJournal harts limit entries
  pub text_is : text ≡ journal_text harts limit entries

-- A text is one journal at most, and has one first faulty line at most, and none where it is a journal.
pub record TextsMeanOneThing : Type 0 where
  pub harts : (text : List ℕ) (harts limit other_harts other_limit : ℕ) (entries others : List Entry)
      → IsJournalText text harts limit entries → IsJournalText text other_harts other_limit others → harts ≡ other_harts
  pub limit : (text : List ℕ) (harts limit other_harts other_limit : ℕ) (entries others : List Entry)
      → IsJournalText text harts limit entries → IsJournalText text other_harts other_limit others → limit ≡ other_limit
  pub entries : (text : List ℕ) (harts limit other_harts other_limit : ℕ) (entries others : List Entry)
      → IsJournalText text harts limit entries → IsJournalText text other_harts other_limit others → entries ≡ others
  pub line : (text : List ℕ) (line other : ℕ) → Explains text (Bad line) → Explains text (Bad other) → line ≡ other
  pub whole : (text : List ℕ) (harts limit line : ℕ) (entries : List Entry) → IsJournalText text harts limit entries → ¬ (Explains text (Bad line))
