use Rattle.std.proofs.Common.{◌≡◌, ◌≢◌, ◌<◌, ◌||◌, ◌++◌, true, false, Bool, Some, None, length, sym, ap, ◌∙◌, refl, rules}
use Rattle.std.specs.Option.{option_to_list}
use Rattle.mach_base.specs.declared.event.Hart.{Hart}
use Rattle.atom_mach.specs.declared.step.AStep.TheVariants.{Instr}
use Rattle.atom_mach.specs.State.{State}
use Rattle.atom_mach.specs.Traps.{executed, console_text}
use Rattle.atom_mach.specs.Modes.{mode_after}
use Rattle.atom_mach.specs.Session.{is_hart}
use Rattle.atom_mach.specs.Step.{does, may_run, may_pass}
use Rattle.atom_mach.specs.Core.{machine_of, state_of}
use Rattle.atom_mach.proofs.Steps.{may_run-right, may_run-mode, does-Instr, does-Instr-not, same_done}
use Rattle.atom_mach.proofs.Allowed.{does-Instr-no_hart}
use Rattle.atom_mach.proofs.machine.Core.instruction.Goals as goal

either_left : (a b : Bool) → a ≡ true → (a || b) ≡ true
either_left a b e = rw e refl

either_right : (a b : Bool) → a ≡ false → b ≡ true → (a || b) ≡ true
either_right a b e f = rw (e, f) refl

allowed : (s : State) (h : Hart) → is_hart s.machine h.0 ≡ true → (may_run s h.0 || may_pass s h.0) ≡ true → does s (Instr h) ≢ None
allowed s h there e none =
    let lt : h.0 < length s.machine.seen.harts = search rules in
    let some = does-Instr s h lt e in
    cc

pub returns-then-not-has-clause-step : goal.returns-then-not-has-clause-step
returns-then-not-has-clause-step c = (does-Instr-no_hart (state_of c.args.self.now) c.args.hart (sym c.has.ensures ∙ c.if-not-has.true), refl, c.requires)

pub execute-byte-requires-clause-right : goal.execute-byte-requires-clause-right
execute-byte-requires-clause-right c = may_run-right (state_of c.args.self.now) c.args.hart.0 (sym c.may_run.ensures ∙ c.if-may_run.true)

pub returns-in-Err-clause-step : goal.returns-in-Err-clause-step
returns-in-Err-clause-step c =
    let s = state_of c.args.self.now in
    let runs : may_run s c.args.hart.0 ≡ true = sym c.may_run.ensures ∙ c.if-may_run.true in
    allowed s c.args.hart (sym c.has.ensures ∙ c.if-not-has.false) (either_left (may_run s c.args.hart.0) (may_pass s c.args.hart.0) runs)

pub returns-in-Ok-clause-step : goal.returns-in-Ok-clause-step
returns-in-Ok-clause-step c =
    let core = c.args.self.now in
    let h = c.args.hart in
    let runs : may_run (state_of core) h.0 ≡ true = sym c.may_run.ensures ∙ c.if-may_run.true in
    let mode = may_run-mode core.contexts.len (state_of core) h.0 core.fits runs in
    let there : is_hart (machine_of core) h.0 ≡ true = sym c.has.ensures ∙ c.if-not-has.false in
    let lt : h.0 < length core.contexts.items = search rules in
    let text : c.push_console.new.out.items ≡ console_text (machine_of core) h.0 = c.in-Ok.ensures ∙ ap (λ o. o ++ option_to_list c.execute-byte.result) c.requires ∙ c.execute-byte.ensures.console in
    does-Instr (state_of core) h lt (either_left (may_run (state_of core) h.0) (may_pass (state_of core) h.0) runs)
    ∙ ap Some (same_done (console_text (machine_of core) h.0) c.push_console.new.out.items (executed (machine_of core) h.0) (machine_of c.execute-byte.new.self) (mode_after core.mode h.0) c.execute-byte.new.self.mode text c.execute-byte.ensures.machine (c.execute-byte.ensures.mode ∙ sym mode))

pub returns-in-Err-push_console-clause-step : goal.returns-in-Err-push_console-clause-step
returns-in-Err-push_console-clause-step c =
    let s = state_of c.args.self.now in
    let runs : may_run s c.args.hart.0 ≡ false = sym c.may_run.ensures ∙ c.if-may_run.false in
    let owed : may_pass s c.args.hart.0 ≡ true = sym c.may_pass.ensures ∙ c.if-may_pass.true in
    allowed s c.args.hart (sym c.has.ensures ∙ c.if-not-has.false) (either_right (may_run s c.args.hart.0) (may_pass s c.args.hart.0) runs owed)

pub returns-in-Ok-push_console-clause-step : goal.returns-in-Ok-push_console-clause-step
returns-in-Ok-push_console-clause-step c =
    let core = c.args.self.now in
    let h = c.args.hart in
    let runs : may_run (state_of core) h.0 ≡ false = sym c.may_run.ensures ∙ c.if-may_run.false in
    let owed : may_pass (state_of core) h.0 ≡ true = sym c.may_pass.ensures ∙ c.if-may_pass.true in
    let there : is_hart (machine_of core) h.0 ≡ true = sym c.has.ensures ∙ c.if-not-has.false in
    let lt : h.0 < length core.contexts.items = search rules in
    let text : c.push_console-then-may_pass.new.out.items ≡ console_text (machine_of core) h.0 = c.in-Ok-push_console.ensures ∙ ap (λ o. o ++ option_to_list c.execute-byte-then-may_pass.result) c.requires ∙ c.execute-byte-then-may_pass.ensures.console in
    does-Instr (state_of core) h lt (either_right (may_run (state_of core) h.0) (may_pass (state_of core) h.0) runs owed)
    ∙ ap Some (same_done (console_text (machine_of core) h.0) c.push_console-then-may_pass.new.out.items (executed (machine_of core) h.0) (machine_of c.execute-byte-then-may_pass.new.self) (mode_after core.mode h.0) c.execute-byte-then-may_pass.new.self.mode text c.execute-byte-then-may_pass.ensures.machine (c.execute-byte-then-may_pass.ensures.mode ∙ c.mode_after_pass.ensures.mode))

pub returns-clause-step : goal.returns-clause-step
returns-clause-step c = (does-Instr-not (state_of c.args.self.now) c.args.hart (sym c.may_run.ensures ∙ c.if-may_run.false) (sym c.may_pass.ensures ∙ c.if-may_pass.false), refl, c.requires)
