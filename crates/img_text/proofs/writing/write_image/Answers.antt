use Rattle.std.proofs.Common.{ap, ◌∙◌}
use Rattle.img_text.specs.Reading.{image_of}
use Rattle.img_text.proofs.RoundTrip.{image_of-image_text}
use Rattle.img_text.proofs.writing.write_image.Goals as goal

pub returns : goal.returns
returns c =
    let e = c.in_ok-text.ensures in
    ap image_of e.text ∙ image_of-image_text c.args.image.now e.rules c.requires e.pcs e.sps
