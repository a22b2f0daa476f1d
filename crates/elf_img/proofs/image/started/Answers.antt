use Rattle.std.proofs.Common.{ℕ, ◌∙◌, List, [], ap, Option, Some, None}
use Rattle.std.specs.Prelude.{replicate, slice_set}
use Rattle.img_text.specs.Image.{ImageRecord}
use Rattle.elf_img.proofs.Prefixes.{start_next}
use Rattle.elf_img.proofs.image.started.Goals as goal

pub loop-hart-preserved : goal.loop-hart-preserved
loop-hart-preserved c =
    let h = c.loop-hart.hart in
    c.set_pc.ensures ∙ (ap (λ (image : ImageRecord). record image { pcs = slice_set image.pcs h (Some c.args.entry) }) c.loop-hart.invariant
    ∙ ap (λ (pcs : List (Option ℕ)). record { parts = []; pcs = pcs; sps = replicate 16 None }) (start_next h (Some c.args.entry) None c.loop-hart-test.true))
