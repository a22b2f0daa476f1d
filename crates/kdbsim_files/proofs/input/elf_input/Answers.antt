use Rattle.kdbsim_files.proofs.Inputs.{loaded_so}
use Rattle.kdbsim_files.proofs.input.elf_input.Goals as goal

pub returns-clause-elf : goal.returns-clause-elf
returns-clause-elf g c =
    loaded_so (g.F.Shelf.contents c.args.shelf.now) c.args.name.now c.in_ok-bytes.bytes.items c.as_slice.result.now c.in_ok-read_elf.field-0 c.as_slice.ensures.value c.in_ok-bytes.ensures.told c.in_ok-bytes.ensures.short
    c.in_ok-read_elf.ensures.checked c.in_ok-read_elf.ensures.image c.in_ok-read_elf.ensures.map c.in_ok-read_elf.ensures.reads
