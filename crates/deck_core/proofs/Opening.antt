-- The opening configuration is sound.
use Rattle.std.proofs.Common.{suc, false, refl, sym, ◌∙◌, ap, arith}
use Rattle.std.proofs.lemmas.Bool.{ne_eqb, both_ways}
use Rattle.mach_base.specs.Masks.{has_bit}
use Rattle.deck_core.specs.Invariant.{session_fits}
use Rattle.deck_core.specs.laws.Facts.{OpeningIsSound}
use Rattle.deck_core.specs.declared.plain.phase.Phase.TheVariants as phase
use Rattle.mach_base.proofs.Bits.{has_bit-zero}
use Rattle.deck_core.proofs.TurnWords.{mask_of-small, holder_of-small}

pub opening_is_sound : OpeningIsSound
opening_is_sound limit b l o = record {
  limit = l;
  told = o.fits;
  mask = mask_of-small 0 (omega arith) ∙ sym o.mask;
  turn = λ k. record { holder = sym (ne_eqb _ _ (λ e. omega (arith, e, holder_of-small 0 (omega arith)))); seen = tt };
  master = omega arith;
  harts = λ k. record {
    own_word = refl;
    finished = λ e. absurd (both_ways false refl e);
    masters = sym (ne_eqb 0 (suc k) (λ e. omega arith));
    old_number = tt;
  };
  marks = λ k. record {
    gathered = λ e. absurd (both_ways false refl e);
    masked = λ e. absurd (both_ways (has_bit b.mask k) (ap (λ m. has_bit m k) o.mask ∙ has_bit-zero k) e);
  };
  lead = record {
    range = tt;
    low = omega arith;
    parity = refl;
    mask = λ e. o.mask;
    trap = λ e. absurd (both_ways false refl e);
    lines = omega arith;
    sends = omega (arith, o.sends);
    working = λ w. record {
      session = ap (λ x. session_fits 0 phase.Run b.faults x) o.session;
      planted = o.planted ∙ sym o.enabled;
      step = o.step;
      read = λ e. absurd (both_ways false refl e);
    };
  };
}
