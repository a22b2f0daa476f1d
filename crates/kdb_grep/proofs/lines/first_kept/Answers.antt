use Rattle.std.proofs.Common.{◌≡◌, ℕ, Bool, true, false, cond, List, [], ◌++◌, take, drop, sym, ap, ◌∙◌}
use Rattle.kdb_grep.specs.Filter.{Pattern, matches, filtered, pattern_of}
use Rattle.kdb_grep.specs.Ends.{EndsLine}
use Rattle.kdb_grep.proofs.Kept.{filtered-first}
use Rattle.kdb_grep.proofs.lines.first_kept.Goals as goal

-- the first line is kept as the test of it says
first_told : (p : Pattern) (text line : List ℕ) (at end : ℕ) (kept test : Bool) → line ≡ take at text → kept ≡ matches p line → kept ≡ test → EndsLine text at end
    → filtered p text ≡ cond test (take end text) [] ++ filtered p (drop end text)
first_told p text line at end kept test cut is told ends =
    filtered-first p text at end test ends (ap (matches p) (sym cut) ∙ sym is ∙ told)

pub returns-then-keep-clause-kept : goal.returns-then-keep-clause-kept
returns-then-keep-clause-kept c =
    let first = c.first_line-line in
    first_told (pattern_of c.args.pattern.now) c.args.text.now _ first.result.0 first.result.1 _ true c.split_at.ensures.front c.keep.ensures c.if-keep.true first.ensures.end

pub returns-else-keep-clause-kept : goal.returns-else-keep-clause-kept
returns-else-keep-clause-kept c =
    let first = c.first_line-line in
    first_told (pattern_of c.args.pattern.now) c.args.text.now _ first.result.0 first.result.1 _ false c.split_at.ensures.front c.keep.ensures c.if-keep.false first.ensures.end
