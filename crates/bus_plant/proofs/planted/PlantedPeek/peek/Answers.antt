use Rattle.std.proofs.Common.{◌≡◌, ◌%◌, ◌-◌, List, ◌∷◌, Option, Some, None, sym, ap, ◌∙◌}
use Rattle.mach_base.specs.Machine.{byte_at}
use Rattle.bus_plant.specs.Saved.{byte_seen, saved_word}
use Rattle.bus_plant.specs.declared.saved.Saved.{Saved}
use Rattle.bus_plant.proofs.Bytes.{byte_at-with_words, unmapped}
use Rattle.bus_plant.proofs.planted.PlantedPeek.peek.Goals as goal

pub returns-in-None-clause-value : goal.returns-in-None-clause-value
returns-in-None-clause-value c =
    let words : List (Option Saved) = c.self.inside.step ∷ c.self.inside.places in
    let none : byte_at c.self.inside.raw.memory c.args.addr ≡ None = sym c.peek.ensures.value ∙ c.in-None.is in
    rw (← c.self.view_is) (sym (unmapped c.self.inside.raw.memory words c.args.addr c.self.invariant.kept.text none))

pub returns-in-Some-clause-value : goal.returns-in-Some-clause-value
returns-in-Some-clause-value c =
    let words : List (Option Saved) = c.self.inside.step ∷ c.self.inside.places in
    let some : byte_at c.self.inside.raw.memory c.args.addr ≡ Some c.in-Some.raw = sym c.peek.ensures.value ∙ c.in-Some.is in
    let seen : byte_seen (saved_word words (c.args.addr - c.args.addr % 4)) c.args.addr (Some c.in-Some.raw) ≡ Some c.seen_byte.result = sym (c.seen_byte.ensures ∙ ap (λ o. byte_seen o c.args.addr (Some c.in-Some.raw)) c.saved_at-saved.ensures) in
    rw (← c.self.view_is) (sym (byte_at-with_words c.self.inside.raw.memory words c.args.addr c.self.invariant.kept.text ∙ ap (byte_seen (saved_word words (c.args.addr - c.args.addr % 4)) c.args.addr) some ∙ seen))
