use Rattle.std.proofs.Common.{◌≡◌, refl, arith}
use Rattle.std.proofs.lemmas.Nat.{pow_pos}
use Rattle.bus_calls.proofs.Ranges.{in_range, opens}
use Rattle.bus_calls.proofs.Seen.{start_running, start_harts}
use Rattle.bus_calls.proofs.bus.CoreBus.start.Goals as goal

pub invariant_of-result : goal.invariant_of-result
invariant_of-result c =
    let core = c.in_ok-core.ensures in
    let room = c.room_for-room.ensures in
    record {
      running = ∣ start_running c.starts_have_room.ensures _ c.args.image.now c.args.names c.args.script c.args.harts c.args.limit c.len.result _ _ c.len.ensures.lines core.machine room.journal room.text core.journal_room core.text_room ∣₁;
      few_sends = omega arith;
      stood_mask = pow_pos _;
      stood_lines = omega arith;
    }

pub returns-clause-opening : goal.returns-clause-opening
returns-clause-opening c =
    let core = c.in_ok-core.ensures in
    let bounds = c.keeps_bounds.ensures in
    opens _ c.args.image.now c.args.names c.args.script c.args.harts c.args.limit core.machine core.lost refl refl refl (in_range _ bounds.some_harts bounds.few_harts bounds.lines bounds.seated)

pub returns-clause-harts : goal.returns-clause-harts
returns-clause-harts c = start_harts _ c.args.image.now c.args.names c.args.script c.args.harts c.args.limit c.in_ok-core.ensures.machine
