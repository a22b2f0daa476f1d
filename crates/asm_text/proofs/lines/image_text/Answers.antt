use Rattle.std.proofs.Common.{ℕ, List, [], ◌∷◌, ◌++◌, ap, ◌∙◌}
use Rattle.mach_base.specs.Lines.{lines_of}
use Rattle.asm_text.specs.Labels.{table_labels}
use Rattle.asm_text.specs.Reading.{image_header}
use Rattle.asm_text.proofs.Written.{whole_text}
use Rattle.asm_text.proofs.lines.image_text.Goals as goal

pub returns : goal.returns
returns c =
    let begun = c.in_ok-push_bytes.ensures.ok ∙ ap (λ (xs : List ℕ). xs ++ (image_header ++ (13 ∷ 10 ∷ []))) c.new-out.ensures.items in
    whole_text c.push_lines.new.out.items c.push_bytes.new.out.items (table_labels c.in_ok-labels.labels) (lines_of c.args.text.now) begun c.in_ok-labels.ensures c.in_ok-push_lines.ensures
