-- The ticks that are left while a plan is gone through.
use Rattle.std.specs.Prelude.{List, ◌++◌, drop}
use Rattle.mach_base.specs.declared.event.Hart.{Hart}
use Rattle.plan_text.specs.declared.ticks.Ticks.{Ticks}
use Rattle.plan_text.specs.Ticks.{repeated, ticks_of}

-- those of the run that is gone through, for this time and for the times after it, and those of the runs after it
abbrev pub left_in : Ticks → List Hart
left_in t = drop t.done t.harts.now ++ (repeated t.times t.harts.now ++ ticks_of t.runs.now)
