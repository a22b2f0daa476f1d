use Rattle.std.proofs.Common.{◌≡◌, ◌∙◌, subst, Err}
use Rattle.img_text.specs.Reading.{IsFault, image_of}
use Rattle.img_text.specs.declared.fault.ImageFault.TheVariants.{Bad, TooLarge}
use Rattle.kdbsim_load.proofs.Readable.{image_has_no_fault}
use Rattle.kdbsim_load.proofs.inputs.image_of_text.Goals as goal

pub unreachable-requires : goal.unreachable-requires
unreachable-requires c =
    let arm = c.in-Err-Bad in
    image_has_no_fault c.args.text.now (Bad arm.field-0-0 arm.field-0-1) c.requires (subst (λ f. IsFault f (image_of c.args.text.now)) arm.field-0-is arm.ensures)

pub unreachable-requires-in-Err-TooLarge : goal.unreachable-requires-in-Err-TooLarge
unreachable-requires-in-Err-TooLarge c =
    let arm = c.in-Err-TooLarge in
    image_has_no_fault c.args.text.now (TooLarge arm.field-0-0 arm.field-0-1) c.requires (subst (λ f. IsFault f (image_of c.args.text.now)) arm.field-0-is arm.ensures)
