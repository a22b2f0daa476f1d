use Rattle.std.proofs.Common.{◌≡◌, ◌<◌, ◌++◌, Some, ap, sym, ◌∙◌, refl, arith}
use Rattle.std.specs.Option.{option_to_list}
use Rattle.atom_mach.specs.declared.step.Mode.{Mode}
use Rattle.atom_mach.specs.declared.step.Mode.TheVariants.{Free}
use Rattle.atom_mach.specs.declared.step.AStep.TheVariants.{Instr}
use Rattle.atom_mach.specs.State.{hart_count}
use Rattle.atom_mach.specs.Traps.{console_text}
use Rattle.atom_mach.specs.Modes.{mode_after}
use Rattle.atom_mach.specs.Core.{state_of}
use Rattle.atom_mach.specs.NextWord.{IsNext}
use Rattle.atom_mach.proofs.Allowed.{alone_of}
use Rattle.atom_mach.proofs.LessWork.{less-Instr}
use Rattle.atom_mach.proofs.NextWord.{turned}
use Rattle.atom_mach.proofs.machine.Core.go_on.Goals as goal

stays_free : (mode : Mode) → mode ≡ Free → mode_after mode 0 ≡ mode
stays_free mode e = rw e refl

pub returns-clause-step : goal.returns-clause-step
returns-clause-step c =
    let s = state_of c.args.self.now in
    let did = c.in-Some-execute_word.ensures in
    let next : IsNext s c.in-Some.word = c.in-Some.ensures in
    let some : 0 < hart_count s.machine = omega (arith, c.requires.one_hart, c.args.self.now.contexts.ok.0) in
    let text : c.push_console.new.out.items ≡ console_text s.machine 0 = c.in_ok-push_console.ensures ∙ ap (λ o. o ++ option_to_list c.in-Some-execute_word.byte) c.requires.empty ∙ did.console in
    let made = turned s (state_of c.execute_word.new.self) c.in-Some.word next some did.right did.machine (did.mode ∙ sym (stays_free s.mode next.mode)) in
    (Instr (record { 0 = 0 }), made.0, made.1 ∙ ap (λ bytes. Some (record { text = bytes; next = state_of c.execute_word.new.self })) (sym text))

pub returns-clause-less : goal.returns-clause-less
unfolding returns-clause-step
returns-clause-less c told = less-Instr (state_of c.args.self.now) _ (alone_of c.args.self.now.contexts.len c.args.self.now.mode c.requires.one_hart c.args.self.now.fits) (returns-clause-step c).2
