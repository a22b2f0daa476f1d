use Rattle.std.proofs.Common.{◌≡◌, ℕ, length, sym, subst, arith}
use Rattle.mach_base.specs.declared.event.Entry.{Entry}
use Rattle.plant_mach.specs.Order.{IsSeated}
use Rattle.bus_core.specs.Inner.{machine_of}
use Rattle.bus_core.proofs.Packable.{HasRange, range_of, packable}
use Rattle.bus_core.proofs.inner.Inner.keeps_packable.Goals as goal

pub returns-in-PlantStep : goal.returns-in-PlantStep
returns-in-PlantStep c =
    let core = c.args.self.now in
    let count : core.contexts.len ≡ length core.contexts.items = omega (arith, core.contexts.ok.0) in
    packable (machine_of core) c.args.entry
    (record { harts = omega (arith, core.few_harts, core.contexts.ok.0); seated = subst (λ (n : ℕ). IsSeated n core.session) count core.seated; planted = c.keeps_words.ensures.places; places = c.keeps_limits.ensures })
    (subst (λ (e : Entry). HasRange e) (sym c.in-PlantStep.is) c.fits.ensures) c.requires.legal

pub returns-in_default : goal.returns-in_default
returns-in_default c =
    let core = c.args.self.now in
    let count : core.contexts.len ≡ length core.contexts.items = omega (arith, core.contexts.ok.0) in
    packable (machine_of core) c.args.entry
    (record { harts = omega (arith, core.few_harts, core.contexts.ok.0); seated = subst (λ (n : ℕ). IsSeated n core.session) count core.seated; planted = c.keeps_words.ensures.places; places = c.keeps_limits.ensures })
    (range_of c.args.entry c.in_default.not-PlantStep) c.requires.legal
