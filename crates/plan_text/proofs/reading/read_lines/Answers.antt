use Rattle.std.proofs.Common.{◌≡◌, ℕ, List, ◌∷◌, Option, Result, Ok, arith, subst}
use Rattle.std.specs.Prelude.{MatchResult}
use Rattle.std.proofs.lemmas.Result.{err_from_is_err_and}
use Rattle.mach_base.specs.Lines.{lines_of, words_of}
use Rattle.mach_base.specs.LineByLine.{each_line}
use Rattle.mach_base.proofs.LineByLine.{prepended, lines_begin, lines_more, lines_bad, lines_end}
use Rattle.plan_text.specs.declared.fault.PlanFault.{PlanFault}
use Rattle.plan_text.specs.declared.fault.PlanFault.TheVariants.{Bad, TooLarge, OutOfMemory}
use Rattle.plan_text.specs.Ticks.{Run}
use Rattle.plan_text.specs.Reading.{IsFault, line_of, read_lines}
use Rattle.plan_text.proofs.Grammar.{line_for}
use Rattle.plan_text.proofs.reading.read_lines.Goals as goal

-- what a line gave, told by the call that read it
abbrev TellsLine : Result (Option Run) PlanFault → Result (Option Run) PlanFault → Type 0
TellsLine result line = MatchResult result (λ run. line ≡ Ok run) (λ fault. IsFault fault line)

-- a line that is bad, or at which memory ran out
faulty : (n number : ℕ) (front : List Run) (fault : PlanFault) (lines : List (List ℕ)) (line : List ℕ) (ls : List (List ℕ)) (whole : Result (List Run) PlanFault) → lines ≡ line ∷ ls → IsFault fault (line_of number n (words_of line)) → whole ≡ prepended front (each_line (line_for n) number lines) → IsFault fault whole
faulty n number front (Bad at) lines line ls whole split read told = lines_bad (line_for n) number front (Bad at) lines line ls whole split read told
faulty n number front (TooLarge what size) lines line ls whole split read told = lines_bad (line_for n) number front (TooLarge what size) lines line ls whole split read told
faulty n number front OutOfMemory lines line ls whole split read told = tt

pub returns-in_err-found : goal.returns-in_err-found
returns-in_err-found c =
    let p = err_from_is_err_and c.from_residual.result c.from_residual.ensures.1 in
    let line = line_of c.loop-line.number c.args.harts (words_of c.in-Some.line.now) in
    let bad = subst (λ r. TellsLine r line) c.in_err-found.was c.line_of.ensures in
    rw (p.1, p.2) (faulty c.args.harts c.loop-line.number c.loop-line.runs.items c.in_err-found.field-0.0 (lines_of c.loop-line.left.now) c.in-Some.line.now (lines_of c.in-Some.rest.now) _ c.in-Some.ensures.line bad c.loop-line.invariant.told)

pub loop-line-init : goal.loop-line-init
loop-line-init c = record { told = rw c.new-runs.ensures.items (lines_begin (read_lines 2 c.args.harts (lines_of c.args.text.now))); in_range = omega arith }

pub loop-line-preserved : goal.loop-line-preserved
loop-line-preserved c =
    let line = line_of c.loop-line.number c.args.harts (words_of c.in-Some.line.now) in
    let right = subst (λ r. TellsLine r line) c.in_ok-found.was c.line_of.ensures in
    record {
      told = rw c.in_ok-keep.ensures (lines_more (line_for c.args.harts) c.loop-line.number c.loop-line.runs.items c.in_ok-found.found (lines_of c.loop-line.left.now) c.in-Some.line.now (lines_of c.in-Some.rest.now) _ c.in-Some.ensures.line right c.loop-line.invariant.told);
      in_range = omega (arith, c.in-Some.ensures.shorter, c.loop-line.invariant.in_range);
    }

pub returns : goal.returns
returns c = lines_end (line_for c.args.harts) c.loop-line.number c.loop-line.runs.items (lines_of c.loop-line.left.now) _ c.in_default.ensures.line c.loop-line.invariant.told
