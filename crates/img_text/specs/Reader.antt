-- The code's state while it reads, as a draft.
use Rattle.img_text.specs.declared.reading.Reader.{Reader}
use Rattle.img_text.specs.Reading.{Draft}
use Rattle.img_text.specs.Blocks.{latest_first}

-- the draft that the code has so far
abbrev pub draft_of : Reader → Draft
draft_of reader = record { parts = latest_first reader.parts.items; pcs = reader.pcs; sps = reader.sps }
