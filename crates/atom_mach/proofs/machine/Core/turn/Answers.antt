use Rattle.std.proofs.Common.{arith}
use Rattle.mach_base.specs.declared.event.Ending.TheVariants.{AllHalted, StepLimit}
use Rattle.atom_mach.specs.declared.step.AStep.TheVariants.{Instr, Intr, Session, Off}
use Rattle.atom_mach.specs.Core.{state_of}
use Rattle.atom_mach.proofs.Moved.{still, then-made, not_on}
use Rattle.atom_mach.proofs.Allowed.{alone_of}
use Rattle.atom_mach.proofs.FirstSteps.{some_allowed, first_allowed-Intr, first_allowed-Session, first_allowed-Instr, first_allowed-AllHalted, first_allowed-StepLimit}
use Rattle.atom_mach.proofs.LessWork.{less-Intr, less-Session, less-Instr, less-AllHalted, less-StepLimit}
use Rattle.atom_mach.proofs.machine.Core.turn.Goals as goal

pub returns-then-branch-2-clause-step : goal.returns-then-branch-2-clause-step
returns-then-branch-2-clause-step c =
    let s = state_of c.args.self.now in
    let on = not_on s _ _ _ c.in_ok-go_on.ensures.step c.if-branch.false in
    let done = then-made s _ (Intr (record { 0 = 0 })) _ _ _ on c.in_ok-try_step.ensures.step c.if-branch-2.true in
    (Intr (record { 0 = 0 }), first_allowed-Intr s _ done, done)

pub returns-then-branch-3-clause-step : goal.returns-then-branch-3-clause-step
returns-then-branch-3-clause-step c =
    let s = state_of c.args.self.now in
    let on = not_on s _ _ _ c.in_ok-go_on.ensures.step c.if-branch.false in
    let a = still s _ (Intr (record { 0 = 0 })) _ _ _ on c.in_ok-try_step.ensures.step c.if-branch-2.false in
    let done = then-made s _ (Session (record { 0 = 0 })) _ _ _ a.1 c.in_ok-try_step-2.ensures.step c.if-branch-3.true in
    (Session (record { 0 = 0 }), first_allowed-Session s _ a.0 done, done)

pub returns-then-branch-4-clause-step : goal.returns-then-branch-4-clause-step
returns-then-branch-4-clause-step c =
    let s = state_of c.args.self.now in
    let on = not_on s _ _ _ c.in_ok-go_on.ensures.step c.if-branch.false in
    let a = still s _ (Intr (record { 0 = 0 })) _ _ _ on c.in_ok-try_step.ensures.step c.if-branch-2.false in
    let b = still s _ (Session (record { 0 = 0 })) _ _ _ a.1 c.in_ok-try_step-2.ensures.step c.if-branch-3.false in
    let done = then-made s _ (Instr (record { 0 = 0 })) _ _ _ b.1 c.in_ok-try_step-3.ensures.step c.if-branch-4.true in
    (Instr (record { 0 = 0 }), first_allowed-Instr s _ a.0 b.0 done, done)

pub returns-then-branch-5-clause-step : goal.returns-then-branch-5-clause-step
returns-then-branch-5-clause-step c =
    let s = state_of c.args.self.now in
    let on = not_on s _ _ _ c.in_ok-go_on.ensures.step c.if-branch.false in
    let a = still s _ (Intr (record { 0 = 0 })) _ _ _ on c.in_ok-try_step.ensures.step c.if-branch-2.false in
    let b = still s _ (Session (record { 0 = 0 })) _ _ _ a.1 c.in_ok-try_step-2.ensures.step c.if-branch-3.false in
    let d = still s _ (Instr (record { 0 = 0 })) _ _ _ b.1 c.in_ok-try_step-3.ensures.step c.if-branch-4.false in
    let done = then-made s _ (Off AllHalted) _ _ _ d.1 c.in_ok-try_step-4.ensures.step c.if-branch-5.true in
    (Off AllHalted, first_allowed-AllHalted s _ a.0 b.0 d.0 done, done)

pub returns-then-branch-6-clause-step : goal.returns-then-branch-6-clause-step
returns-then-branch-6-clause-step c =
    let s = state_of c.args.self.now in
    let on = not_on s _ _ _ c.in_ok-go_on.ensures.step c.if-branch.false in
    let a = still s _ (Intr (record { 0 = 0 })) _ _ _ on c.in_ok-try_step.ensures.step c.if-branch-2.false in
    let b = still s _ (Session (record { 0 = 0 })) _ _ _ a.1 c.in_ok-try_step-2.ensures.step c.if-branch-3.false in
    let d = still s _ (Instr (record { 0 = 0 })) _ _ _ b.1 c.in_ok-try_step-3.ensures.step c.if-branch-4.false in
    let e = still s _ (Off AllHalted) _ _ _ d.1 c.in_ok-try_step-4.ensures.step c.if-branch-5.false in
    let done = then-made s _ (Off StepLimit) _ _ _ e.1 c.in_ok-try_step-5.ensures.step c.if-branch-6.true in
    (Off StepLimit, first_allowed-StepLimit s _ a.0 b.0 d.0 e.0 done, done)

pub returns-then-branch-2-clause-less : goal.returns-then-branch-2-clause-less
unfolding returns-then-branch-2-clause-step
returns-then-branch-2-clause-less c = less-Intr (state_of c.args.self.now) _ (returns-then-branch-2-clause-step c).2

pub returns-then-branch-3-clause-less : goal.returns-then-branch-3-clause-less
unfolding returns-then-branch-3-clause-step
returns-then-branch-3-clause-less c = less-Session (state_of c.args.self.now) _ c.requires.running (returns-then-branch-3-clause-step c).2

pub returns-then-branch-4-clause-less : goal.returns-then-branch-4-clause-less
unfolding returns-then-branch-4-clause-step
returns-then-branch-4-clause-less c = less-Instr (state_of c.args.self.now) _ (alone_of c.args.self.now.contexts.len c.args.self.now.mode c.requires.one_hart c.args.self.now.fits) (returns-then-branch-4-clause-step c).2

pub returns-then-branch-5-clause-less : goal.returns-then-branch-5-clause-less
unfolding returns-then-branch-5-clause-step
returns-then-branch-5-clause-less c = less-AllHalted (state_of c.args.self.now) _ (returns-then-branch-5-clause-step c).2

pub returns-then-branch-6-clause-less : goal.returns-then-branch-6-clause-less
unfolding returns-then-branch-6-clause-step
returns-then-branch-6-clause-less c = less-StepLimit (state_of c.args.self.now) _ (returns-then-branch-6-clause-step c).2

pub unreachable-requires : goal.unreachable-requires
unreachable-requires c =
    let start = c.args.self.now in
    let s = state_of start in
    let on = not_on s _ _ _ c.in_ok-go_on.ensures.step c.if-branch.false in
    let a = still s _ (Intr (record { 0 = 0 })) _ _ _ on c.in_ok-try_step.ensures.step c.if-branch-2.false in
    let b = still s _ (Session (record { 0 = 0 })) _ _ _ a.1 c.in_ok-try_step-2.ensures.step c.if-branch-3.false in
    let d = still s _ (Instr (record { 0 = 0 })) _ _ _ b.1 c.in_ok-try_step-3.ensures.step c.if-branch-4.false in
    let e = still s _ (Off AllHalted) _ _ _ d.1 c.in_ok-try_step-4.ensures.step c.if-branch-5.false in
    let f = still s _ (Off StepLimit) _ _ _ e.1 c.in_ok-try_step-5.ensures.step c.if-branch-6.false in
    some_allowed s (omega (arith, start.contexts.ok.0, c.requires.one_hart)) (alone_of start.contexts.len start.mode c.requires.one_hart start.fits) c.requires.running a.0 b.0 d.0 e.0 f.0
