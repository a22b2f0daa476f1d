use Rattle.std.proofs.Common.{refl}
use Rattle.mach_base.specs.declared.event.Entry.TheVariants.{Intr, Send, Take, Pull, PlantStep, PullStep, Plant, Close, Off}
use Rattle.plant_mach.specs.Entries.{effect}
use Rattle.bus_core.specs.Inner.{machine_of}
use Rattle.bus_core.proofs.Done.{silent_as, off_text}
use Rattle.bus_core.proofs.inner.Inner.make_quiet.Goals as goal

pub returns-in-Intr : goal.returns-in-Intr
unfolding effect
returns-in-Intr c = record { done = silent_as (machine_of c.args.self.now) c.args.entry (Intr c.in-Intr.hart) c.args.out.now.items (machine_of c.make_interrupt.new.self) c.in-Intr.is refl c.make_interrupt.ensures.next; capacity = refl }

pub returns-in-Send : goal.returns-in-Send
unfolding effect
returns-in-Send c = record { done = silent_as (machine_of c.args.self.now) c.args.entry (Send c.in-Send.hart) c.args.out.now.items (machine_of c.make_send.new.self) c.in-Send.is refl c.make_send.ensures.next; capacity = refl }

pub returns-in-Take : goal.returns-in-Take
unfolding effect
returns-in-Take c = record { done = silent_as (machine_of c.args.self.now) c.args.entry (Take c.in-Take.hart) c.args.out.now.items (machine_of c.make_take.new.self) c.in-Take.is refl c.make_take.ensures.next; capacity = refl }

pub returns-in-Pull : goal.returns-in-Pull
unfolding effect
returns-in-Pull c = record { done = silent_as (machine_of c.args.self.now) c.args.entry (Pull c.in-Pull.place) c.args.out.now.items (machine_of c.make_pull.new.self) c.in-Pull.is refl c.make_pull.ensures.next; capacity = refl }

pub returns-in-PlantStep : goal.returns-in-PlantStep
unfolding effect
returns-in-PlantStep c = record { done = silent_as (machine_of c.args.self.now) c.args.entry (PlantStep c.in-PlantStep.addr) c.args.out.now.items (machine_of c.make_plant_step.new.self) c.in-PlantStep.is refl c.make_plant_step.ensures.next; capacity = refl }

pub returns-in-PullStep : goal.returns-in-PullStep
unfolding effect
returns-in-PullStep c = record { done = silent_as (machine_of c.args.self.now) c.args.entry PullStep c.args.out.now.items (machine_of c.make_pull_step.new.self) c.in-PullStep.is refl c.make_pull_step.ensures.next; capacity = refl }

pub returns-in-Plant : goal.returns-in-Plant
unfolding effect
returns-in-Plant c = record { done = silent_as (machine_of c.args.self.now) c.args.entry (Plant c.in-Plant.place) c.args.out.now.items (machine_of c.make_plant.new.self) c.in-Plant.is refl c.make_plant.ensures.next; capacity = refl }

pub returns-in-Close : goal.returns-in-Close
unfolding effect
returns-in-Close c = record { done = silent_as (machine_of c.args.self.now) c.args.entry (Close c.in-Close.hart) c.args.out.now.items (machine_of c.make_close.new.self) c.in-Close.is refl c.make_close.ensures.next; capacity = refl }

pub returns-in-Off : goal.returns-in-Off
returns-in-Off c = record { done = silent_as (machine_of c.args.self.now) c.args.entry (Off c.in-Off.ending) c.args.out.now.items (machine_of c.make_end.new.self) c.in-Off.is (off_text (machine_of c.args.self.now) c.args.entry c.in-Off.ending c.in-Off.is c.requires.quiet) c.make_end.ensures.next; capacity = refl }
