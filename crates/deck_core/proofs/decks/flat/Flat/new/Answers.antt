use Rattle.std.proofs.Common.{Some, ap, sym, subst, arith}
use Rattle.deck_core.specs.contract.Told.{Told}
use Rattle.deck_core.specs.Invariant.{Sound}
use Rattle.deck_core.proofs.SeatSteps.{opening_seats}
use Rattle.deck_core.proofs.Opening.{opening_is_sound}
use Rattle.deck_core.proofs.decks.flat.Flat.new.Goals as goal

pub invariant_of-result-2 : goal.invariant_of-result-2
invariant_of-result-2 g c =
    let b : Told = g.B.Bus.told c.args.bus in
    record {
      selected_is_one = omega (arith, c.requires.bus.fits.some_harts);
      few = c.requires.bus.fits.few_harts;
      sound = ∣ subst Sound (sym (opening_seats c.args.limit b)) (opening_is_sound c.args.limit b c.requires.rounds c.requires.bus) ∣₁;
    }

pub returns-clause-whole : goal.returns-clause-whole
returns-clause-whole g c = ap Some (opening_seats c.args.limit (g.B.Bus.told c.args.bus))
