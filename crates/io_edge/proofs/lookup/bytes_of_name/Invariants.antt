use Rattle.std.proofs.Common.{◌≡◌, drop}
use Rattle.io_edge.proofs.FirstOf.{first_of}
use Rattle.io_edge.proofs.lookup.bytes_of_name.Given as goal

-- no file before this one has the name
abbrev pub invariant-loop-file : goal.invariant-loop-file
invariant-loop-file l = first_of l.name (drop l.file-index l.files) ≡ first_of l.name l.files
