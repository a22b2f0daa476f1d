use Rattle.std.proofs.Common.{sym, subst, ◌∙◌}
use Rattle.std.specs.Iterator.{YieldsFirst}
use Rattle.std.proofs.lemmas.List.{nil_from_length}
use Rattle.mach_base.proofs.Packing.{first_of, none_left, less_left}
use Rattle.mach_base.proofs.packed.PackedIterIterator.next.Goals as goal

pub returns-in_err-first-clause-steps : goal.returns-in_err-first-clause-steps
returns-in_err-first-clause-steps c =
    let none = sym c.self.view_is ∙ none_left c.self.inside.bytes.now (nil_from_length c.self.inside.bytes.now c.in_err-first.ensures.cases) in
    subst (λ r. YieldsFirst (λ s. s) c.args.self.now r c.args.self.now) (sym c.from_residual.ensures) (none, none)

pub returns-clause-steps : goal.returns-clause-steps
returns-clause-steps c =
    sym c.self.view_is ∙ first_of c.self.inside.bytes.now c.in_ok-first.first.now c.in_ok-first.rest.now c.first_entry-entry.result.0 c.first_entry-entry.result.1.now c.in_ok-first.ensures.cases.0 c.first_entry-entry.ensures.entry c.first_entry-entry.ensures.rest

pub returns-clause-goes : goal.returns-clause-goes
returns-clause-goes c =
    let less = less_left _ _ _ (returns-clause-steps c) in
    record {
      on = λ _. (tt, tt, less);
      keeps = tt;
      rests = λ _. tt;
    }
