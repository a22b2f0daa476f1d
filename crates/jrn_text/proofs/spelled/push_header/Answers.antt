use Rattle.std.proofs.Common.{codes}
use Rattle.mach_base.specs.Number.{dec_text}
use Rattle.mach_base.specs.Texts.{newline}
use Rattle.mach_base.proofs.Joins.{join5}
use Rattle.jrn_text.specs.Journal.{header_text}
use Rattle.jrn_text.proofs.spelled.push_header.Goals as goal

pub returns : goal.returns
unfolding header_text
returns c =
    join5 c.args.out.now.items c.push_bytes.new.out.items c.push_dec.new.out.items c.push_bytes-2.new.out.items c.push_dec-2.new.out.items c.push_newline.new.out.items
    (codes "kjrn 1 harts ") (dec_text c.args.harts) (codes " steps ") (dec_text c.args.limit) newline
    c.in_ok-push_bytes.ensures.ok (rw c.from.ensures at c.in_ok-push_dec.ensures.ok) c.in_ok-push_bytes-2.ensures.ok c.in_ok-push_dec-2.ensures.ok c.in_ok-push_newline.ensures.ok
