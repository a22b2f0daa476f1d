use Rattle.std.proofs.Common.{◌≡◌, ◌∙◌, ℕ, List, sym, ap, subst}
use Rattle.img_text.specs.Reading.{image_of}
use Rattle.atom_mach.specs.Script.{checked_script}
use Rattle.bus_core.specs.declared.outer.Core.{Core}
use Rattle.bus_core.specs.Core.{ComesFrom}
use Rattle.kdbsim_runs.specs.Lockstep.{IsTicked}
use Rattle.gen_load.specs.Input.{Generated, generated}
use Rattle.kdbsim_load.specs.declared.told.TheConstants.{ROUNDS}
use Rattle.kdbsim_load.specs.Load.{AreNumbers, IsEnding, start_with}
use Rattle.kdbsim_load.proofs.Numbers.{image_is, script_is}
use Rattle.kdbsim_load.proofs.run.run_load.Goals as goal

pub image_of_text-requires : goal.image_of_text-requires
image_of_text-requires c =
    c.as_bytes.ensures ∙ ap (λ (g : Generated). g.image) (c.input.view_is ∙ c.in_ok-input.ensures.input) ∙ image_is c.args.number

pub script_of_text-requires : goal.script_of_text-requires
script_of_text-requires c =
    c.as_bytes-2.ensures ∙ ap (λ (g : Generated). g.script) (c.input.view_is ∙ c.in_ok-input.ensures.input) ∙ script_is c.args.number

pub returns : goal.returns
returns c =
    let input = generated c.args.number in
    let told = c.told_of.result in
    let start = start_with c.in_ok-image.image c.in_ok-script.script in
    let image_now : c.as_bytes.result.now ≡ input.image = c.as_bytes.ensures ∙ ap (λ (g : Generated). g.image) (c.input.view_is ∙ c.in_ok-input.ensures.input) in
    let script_now : c.as_bytes-2.result.now ≡ input.script = c.as_bytes-2.ensures ∙ ap (λ (g : Generated). g.script) (c.input.view_is ∙ c.in_ok-input.ensures.input) in
    let plan_now : c.as_slice.result.now ≡ input.plan = c.as_slice.ensures.value ∙ ap (λ (g : Generated). g.plan) (c.input.view_is ∙ c.in_ok-input.ensures.input) in
    let ticked : IsTicked start ROUNDS input.plan c.in_ok-bus.bus = subst (λ (p : List ℕ). IsTicked start ROUNDS p c.in_ok-bus.bus) plan_now c.in_ok-bus.ensures in
    record {
      image = c.in_ok-image.image;
      means = ap image_of (sym image_now) ∙ c.in_ok-image.ensures;
      lines = c.in_ok-script.script;
      right = ap checked_script (sym script_now) ∙ c.in_ok-script.ensures;
      bus = c.in_ok-bus.bus;
      ticked = ticked;
      numbers = subst (λ (core : Core). AreNumbers core told) c.core.ensures c.told_of.ensures.numbers;
      ending = subst (λ (core : Core). IsEnding start core told) c.core.ensures (c.told_of.ensures.ending start (subst (λ (core : Core). ComesFrom start core) (sym c.core.ensures) ticked.origin));
    }
