use Rattle.std.proofs.Common.{◌≡◌, ◌++◌, ◌∷◌, [], ◌+◌, length, sym, ap, subst, ◌∙◌, append-nil, arith}
use Rattle.std.specs.Prelude.{MatchOption}
use Rattle.std.specs.List.{AllByRecursion}
use Rattle.mach_base.proofs.Packing.{unpacked_length}
use Rattle.jrn_text.specs.Entries.{IsEntry, entry_line, lines_text}
use Rattle.jrn_text.specs.Journal.{HasNoEntry}
use Rattle.jrn_text.proofs.Lines.{all_none, from_none, all-snoc, line_on, shorter, some_left, none_left}
use Rattle.jrn_text.proofs.journal.read_entries.Goals as goal

pub loop-rest-init : goal.loop-rest-init
loop-rest-init c =
    let none = c.in_ok-entries.ensures.0 in
    record {
      all = all_none c.args.harts c.in_ok-entries.entries.entries none;
      from = from_none c.args.text.now c.in_ok-entries.entries.entries none;
    }

pub overflow_add-result : goal.overflow_add-result
overflow_add-result c =
    omega (arith, c.len.ensures, c.entries.invariant.1, unpacked_length c.entries.inside.bytes.items, ap (λ v. length v.entries) c.entries.view_is)

pub returns-in_default : goal.returns-in_default
returns-in_default c =
    record {
      entries = c.loop-rest.entries.entries;
      rest = c.loop-rest.rest.now;
      all = c.loop-rest.invariant.all;
      lines_are = c.loop-rest.invariant.from;
      some = some_left c.loop-rest.rest.now (sym c.is_empty.ensures ∙ c.loop-rest-test.true);
      bad = subst (λ r. MatchOption r (HasNoEntry c.args.harts c.loop-rest.rest.now) (λ read. IsEntry c.args.harts read.entry × (c.loop-rest.rest.now ≡ entry_line read.entry ++ read.rest.now))) c.in_default.is c.in_ok-read.ensures;
      line_is = ap (λ n. n + 2) c.len.ensures;
    }

pub loop-rest-smaller : goal.loop-rest-smaller
loop-rest-smaller c =
    let found = subst (λ r. MatchOption r (HasNoEntry c.args.harts c.loop-rest.rest.now) (λ read. IsEntry c.args.harts read.entry × (c.loop-rest.rest.now ≡ entry_line read.entry ++ read.rest.now))) c.in-Some.is c.in_ok-read.ensures in
    shorter c.loop-rest.rest.now c.in-Some.read.rest.now c.in-Some.read.entry found.1

pub loop-rest-preserved : goal.loop-rest-preserved
loop-rest-preserved c =
    let es = c.loop-rest.entries.entries in
    let e = c.in-Some.read.entry in
    let more = c.in_ok-try_push.ensures.ok in
    let found = subst (λ r. MatchOption r (HasNoEntry c.args.harts c.loop-rest.rest.now) (λ read. IsEntry c.args.harts read.entry × (c.loop-rest.rest.now ≡ entry_line read.entry ++ read.rest.now))) c.in-Some.is c.in_ok-read.ensures in
    record {
      all = subst (AllByRecursion (IsEntry c.args.harts)) (sym more) (all-snoc c.args.harts es e c.loop-rest.invariant.all found.0);
      from = line_on c.args.text.now c.loop-rest.rest.now c.in-Some.read.rest.now es e c.loop-rest.invariant.from found.1 ∙ ap (λ l. lines_text l ++ c.in-Some.read.rest.now) (sym more);
    }

pub returns : goal.returns
returns c =
    let lines = lines_text c.loop-rest.entries.entries in
    let none = none_left c.loop-rest.rest.now (sym c.is_empty.ensures ∙ c.loop-rest-test.false) in
    (c.loop-rest.invariant.all, c.loop-rest.invariant.from ∙ ap (λ t. lines ++ t) none ∙ append-nil lines)
