use Rattle.std.proofs.Common.{sym, ap, ◌∙◌, Ok}
use Rattle.mach_base.specs.Lines.{words_of}
use Rattle.img_text.proofs.Steps.{counted}
use Rattle.img_text.proofs.reading.read_line.Goals as goal

pub apply-requires-clause-some : goal.apply-requires-clause-some
apply-requires-clause-some c =
    let read = sym c.line_of.ensures ∙ (c.in_ok-directive.was ∙ ap (λ o. Ok o) c.in-Some.is) in
    rw c.as_slice.ensures (counted (words_of c.args.line.now) c.in-Some.directive c.in-Some.values read).0
