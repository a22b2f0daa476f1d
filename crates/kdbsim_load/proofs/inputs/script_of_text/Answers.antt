use Rattle.std.proofs.Common.{◌≡◌, Err, subst}
use Rattle.atom_mach.specs.Script.{Answers, checked_script}
use Rattle.atom_mach.specs.declared.script.ScriptFault.TheVariants.{Bad, TooLarge}
use Rattle.kdbsim_load.proofs.Readable.{script_has_no_fault}
use Rattle.kdbsim_load.proofs.inputs.script_of_text.Goals as goal

pub unreachable-requires : goal.unreachable-requires
unreachable-requires c =
    let arm = c.in-Err-Bad in
    script_has_no_fault c.args.text.now (Bad arm.field-0-0) c.requires (subst (λ f. Answers (Err f) (checked_script c.args.text.now)) arm.field-0-is arm.ensures)

pub unreachable-requires-in-Err-TooLarge : goal.unreachable-requires-in-Err-TooLarge
unreachable-requires-in-Err-TooLarge c =
    let arm = c.in-Err-TooLarge in
    script_has_no_fault c.args.text.now (TooLarge arm.field-0-0 arm.field-0-1) c.requires (subst (λ f. Answers (Err f) (checked_script c.args.text.now)) arm.field-0-is arm.ensures)
