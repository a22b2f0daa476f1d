use Rattle.std.proofs.Common.{List, ℕ, ◌++◌, length, codes, ap, ◌∙◌}
use Rattle.mach_base.specs.Texts.{newline}
use Rattle.mach_base.proofs.Joins.{join3}
use Rattle.kdb_view.specs.Processors.{numbers_text, available_line}
use Rattle.kdb_view.proofs.Gathered.{all_numbers_there}
use Rattle.kdb_view.proofs.processors.push_available.Goals as goal

pub returns : goal.returns
unfolding available_line
returns c =
    join3 c.args.out.now.items c.push_bytes.new.out.items c.push_bytes-2.new.out.items c.push_newline.new.out.items
    (codes "Available cpus: ") (numbers_text c.args.gathered (length c.args.ctxs.now)) newline
    c.in_ok-push_bytes.ensures.ok
    (c.in_ok-push_bytes-2.ensures.ok ∙ ap (λ (t : List ℕ). c.push_bytes.new.out.items ++ t) (c.as_slice.ensures.value ∙ c.in_ok-numbers.ensures ∙ all_numbers_there c.args.gathered c.processor_count.result (length c.args.ctxs.now) c.processor_count.ensures.all c.processor_count.ensures.there))
    c.in_ok-push_newline.ensures.ok
