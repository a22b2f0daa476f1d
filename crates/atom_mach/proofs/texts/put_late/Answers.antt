use Rattle.std.proofs.Common.{◌≡◌, ◌==◌, codes, [], ◌++◌, false, sym, ap, ◌∙◌, arith}
use Rattle.std.proofs.lemmas.Bool.Decides.{nat_tests}
use Rattle.mach_base.specs.Texts.{newline}
use Rattle.mach_base.proofs.Joins.{join3}
use Rattle.atom_mach.specs.Texts.{numbers_text, harts_in, late_text}
use Rattle.atom_mach.proofs.Booleans.{cond_false}
use Rattle.atom_mach.proofs.texts.put_late.Goals as goal

pub returns-then-late-ne0-clause-text : goal.returns-then-late-ne0-clause-text
unfolding late_text
returns-then-late-ne0-clause-text c =
    let late = c.args.late in
    let start = codes "Timed out waiting for secondary CPUs: " in
    let numbers = numbers_text (harts_in late) in
    let some : (late == 0) ≡ false = grind (arith, nat_tests) in
    join3 c.args.out.now.items c.put_bytes.new.out.items c.put_numbers.new.out.items c.put_bytes-then-late-ne0.new.out.items start numbers newline
    c.put_bytes.ensures.text c.put_numbers.ensures.text c.put_bytes-then-late-ne0.ensures.text
    ∙ ap (λ t. c.args.out.now.items ++ t) (sym (cond_false (late == 0) [] (start ++ (numbers ++ newline)) some))
