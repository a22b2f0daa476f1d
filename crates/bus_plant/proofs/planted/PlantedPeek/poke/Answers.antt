use Rattle.std.proofs.Common.{◌≡◌, ◌<◌, ◌%◌, ◌-◌, true, false, List, ◌∷◌, length, Option, Some, None, is_some, refl, sym, ap, ◌∙◌, rules}
use Rattle.std.proofs.lemmas.Bool.{false≢true}
use Rattle.std.proofs.lemmas.List.{length-map}
use Rattle.mach_base.specs.Bytes.{is_mapped}
use Rattle.mach_base.specs.Machine.{byte_at}
use Rattle.bus_plant.specs.Planted.{has_address}
use Rattle.bus_plant.specs.Saved.{addresses, after_poke}
use Rattle.bus_plant.specs.declared.saved.Saved.{Saved}
use Rattle.bus_plant.proofs.Bytes.{unmapped, mapped, beside-kept, beside-memory, poked-kept, poked-memory, addresses-poke, address_of-poke}
use Rattle.bus_plant.proofs.WithWords.{has_address-saved}
use Rattle.bus_plant.proofs.planted.PlantedPeek.poke.Goals as goal

pub returns-in_default-clause-mapped : goal.returns-in_default-clause-mapped
returns-in_default-clause-mapped c =
    let words : List (Option Saved) = c.self.inside.step ∷ c.self.inside.places in
    let none : byte_at c.self.inside.raw.memory c.args.addr ≡ None = sym c.peek.ensures.value ∙ c.in_default.is in
    rw (← c.self.view_is) (λ t. absurd (false≢true t), λ ne. absurd (ne (unmapped c.self.inside.raw.memory words c.args.addr c.self.invariant.kept.text none)))

pub invariant_of-self : goal.invariant_of-self
invariant_of-self c =
    let words : List (Option Saved) = c.self.inside.step ∷ c.self.inside.places in
    let small : c.args.byte < 256 = search rules in
    let there : is_mapped c.self.inside.raw.memory c.args.addr ≡ true = ap is_some (sym c.peek.ensures.value ∙ c.in-Some.is) in
    let other : has_address (addresses words) (c.args.addr - c.args.addr % 4) ≡ false = has_address-saved words (c.args.addr - c.args.addr % 4) (sym c.saved_at.ensures ∙ c.in-None.is) in
    record {
      count = c.self.invariant.count;
      kept = beside-kept c.self.inside.raw.memory c.put_byte.new.map.memory words c.args.addr c.args.byte small there other c.self.invariant.kept c.put_byte.ensures.memory;
    }

pub returns-in-None-clause-mapped : goal.returns-in-None-clause-mapped
returns-in-None-clause-mapped c =
    let words : List (Option Saved) = c.self.inside.step ∷ c.self.inside.places in
    rw (← c.self.view_is) (λ _. mapped c.self.inside.raw.memory words c.args.addr c.in-Some.field-0 c.self.invariant.kept.text (sym c.peek.ensures.value ∙ c.in-Some.is), λ _. refl)

pub returns-in-None-clause-written : goal.returns-in-None-clause-written
returns-in-None-clause-written c =
    let words : List (Option Saved) = c.self.inside.step ∷ c.self.inside.places in
    let small : c.args.byte < 256 = search rules in
    let there : is_mapped c.self.inside.raw.memory c.args.addr ≡ true = ap is_some (sym c.peek.ensures.value ∙ c.in-Some.is) in
    let other : has_address (addresses words) (c.args.addr - c.args.addr % 4) ≡ false = has_address-saved words (c.args.addr - c.args.addr % 4) (sym c.saved_at.ensures ∙ c.in-None.is) in
    rw (← c.self.view_is) (beside-memory c.self.inside.raw.memory c.put_byte.new.map.memory words c.args.addr c.args.byte small there other c.self.invariant.kept c.put_byte.ensures.memory)

pub invariant_of-self-in-Some-saved_at : goal.invariant_of-self-in-Some-saved_at
invariant_of-self-in-Some-saved_at c =
    let words : List (Option Saved) = c.self.inside.step ∷ c.self.inside.places in
    let small : c.args.byte < 256 = search rules in
    record {
      count = ap length c.poke_places.ensures ∙ length-map c.self.inside.places (after_poke c.args.addr c.args.byte) ∙ c.self.invariant.count;
      kept = rw (c.poke_saved.ensures, c.poke_places.ensures) (poked-kept c.self.inside.raw.memory words c.args.addr c.args.byte small c.self.invariant.kept);
    }

pub returns-in-Some-saved_at-clause-mapped : goal.returns-in-Some-saved_at-clause-mapped
returns-in-Some-saved_at-clause-mapped c =
    let words : List (Option Saved) = c.self.inside.step ∷ c.self.inside.places in
    rw (← c.self.view_is) (λ _. mapped c.self.inside.raw.memory words c.args.addr c.in-Some.field-0 c.self.invariant.kept.text (sym c.peek.ensures.value ∙ c.in-Some.is), λ _. refl)

pub returns-in-Some-saved_at-clause-written : goal.returns-in-Some-saved_at-clause-written
returns-in-Some-saved_at-clause-written c =
    let words : List (Option Saved) = c.self.inside.step ∷ c.self.inside.places in
    let small : c.args.byte < 256 = search rules in
    let kept = c.self.invariant.kept in
    rw (← c.self.view_is, c.poke_saved.ensures, c.poke_places.ensures) (poked-memory c.self.inside.raw.memory words c.args.addr c.args.byte c.in-Some-saved_at.field-0 small kept.text kept.distinct (sym c.saved_at.ensures ∙ c.in-Some-saved_at.is))

pub returns-in-Some-saved_at-clause-rest : goal.returns-in-Some-saved_at-clause-rest
returns-in-Some-saved_at-clause-rest c =
    let places = addresses-poke c.self.inside.places c.args.addr c.args.byte in
    let step = address_of-poke c.self.inside.step c.args.addr c.args.byte in
    rw (← c.self.view_is, c.poke_saved.ensures, c.poke_places.ensures) (λ k. (places k, step k))
