use Rattle.std.proofs.Common.{◌≡◌, ◌+◌, ◌≤◌, ◌++◌, [], ◌∷◌, length, ◌∙◌, ap, sym, subst, arith, rules}
use Rattle.board_turn.proofs.Seating.{length_snoc}
use Rattle.run_join.specs.Passes.{AllBegin, AllRan, Begins, HasRun}
use Rattle.run_join.proofs.Handing.{all_begin_snoc, all_ran_length, all_ran_snoc}
use Rattle.run_join.proofs.workers.+workers.Goals as goal

pub join-last-requires-after_bounds : goal.join-last-requires-after_bounds
join-last-requires-after_bounds g t c κs within =
    let table = c.args.board.now.table.shared.table_id in
    let xs = c.pop.new.self.items in
    let last = c.in-Some.last in
    let items : c.args.passes.items ≡ xs ++ last ∷ [] = c.in-Some.ensures.items in
    let b = all_begin_snoc table c.args.harts c.args.limit xs last (subst (AllBegin table c.args.harts c.args.limit) items c.requires) in
    let rest : AllBegin table c.args.harts c.args.limit xs = b.0 in
    let own : Begins table c.args.harts c.args.limit last = b.1 in
    let fewer : length c.args.passes.items ≡ length xs + 1 = ap length items ∙ length_snoc xs last in
    search rules

pub unreachable-requires : goal.unreachable-requires
unreachable-requires g t c =
    let table = c.args.board.now.table.shared.table_id in
    let xs = c.pop.new.self.items in
    let ys = c.join-last.result.1 in
    let items : c.args.passes.items ≡ xs ++ c.in-Some.last ∷ [] = c.in-Some.ensures.items in
    let ran : AllRan table xs ys.items = search rules in
    let room : c.pop.new.self.cap ≤ ys.cap = search rules in
    let same = all_ran_length table xs ys.items ran in
    let fewer : length c.args.passes.items ≡ length xs + 1 = ap length items ∙ length_snoc xs c.in-Some.last in
    let full : ys.cap ≤ ys.len = c.in-Err.ensures.full in
    omega (arith, same, fewer, room, full, c.args.passes.ok.0, c.args.passes.ok.1, c.pop.ensures.capacity, ys.ok.0)

pub returns-clause-ran : goal.returns-clause-ran
returns-clause-ran g t c =
    let table = c.args.board.now.table.shared.table_id in
    let xs = c.pop.new.self.items in
    let last = c.in-Some.last in
    let ys = c.join-last.result.1.items in
    let own = c.join-last.result.0 in
    let items : c.args.passes.items ≡ xs ++ last ∷ [] = c.in-Some.ensures.items in
    let pushed : c.push.new.self.items ≡ ys ++ own ∷ [] = c.in-Ok.ensures.items in
    let ran : AllRan table xs ys = search rules in
    let here : HasRun table last own = search rules in
    subst (λ us. AllRan table us c.push.new.self.items) (sym items) (subst (AllRan table (xs ++ last ∷ [])) (sym pushed) (all_ran_snoc table xs ys last own ran here))
