use Rattle.std.proofs.Common.{codes}
use Rattle.mach_base.specs.Number.{dec_text}
use Rattle.mach_base.specs.Texts.{newline}
use Rattle.mach_base.proofs.Joins.{join3}
use Rattle.kdb_view.specs.Processors.{current_line}
use Rattle.kdb_view.proofs.processors.push_current.Goals as goal

pub returns : goal.returns
unfolding current_line
returns c =
    join3 c.args.out.now.items c.push_bytes.new.out.items c.push_dec.new.out.items c.push_newline.new.out.items
    (codes "Currently on cpu ") (dec_text c.args.number) newline
    c.in_ok-push_bytes.ensures.ok c.in_ok-push_dec.ensures.ok c.in_ok-push_newline.ensures.ok
