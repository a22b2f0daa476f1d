-- What a core has come to is the record of a run.
use Rattle.std.proofs.Common.{◌≡◌, ℕ, ◌&&◌, ◌++◌, ◌≤◌, true, false, List, Some, None, nat_le, sym, ap, ◌∙◌, subst, refl}
use Rattle.std.proofs.lemmas.Bool.{leb-true}
use Rattle.mach_base.specs.declared.event.Ending.{Ending}
use Rattle.mach_base.specs.declared.event.Entry.{Entry}
use Rattle.plant_mach.specs.Machine.{PlantedMachine, planted_start}
use Rattle.plant_mach.specs.Entries.{Made, made_by}
use Rattle.plant_mach.specs.Laws.{NeverLegal}
use Rattle.atom_mach.specs.Texts.{ending_line}
use Rattle.bus_core.specs.declared.outer.Core.{Core}
use Rattle.bus_core.specs.Core.{machine_of, entries_of, text_of, ComesFrom, IsRunOf}
use Rattle.bus_core.specs.Origin.{Origin, start_of}
use Rattle.kdbsim_runs.specs.Record.{IsRecord, ending_in, ending_or}
use Rattle.kdbsim_runs.proofs.Endings.{ending_of_list}

no_ending_yet : (o : Origin) → (start_of o).ending ≡ None
unfolding planted_start
no_ending_yet o = refl

-- the ending that stands is the one among the entries
pub standing : NeverLegal → (o : Origin) (c : Core) → ComesFrom o c → c.lost ≡ false → (machine_of c).ending ≡ ending_in (entries_of c)
standing never o c from kept =
    ap (λ (d : Made). d.next.ending) (sym (from.now kept)) ∙ ending_of_list never (start_of o) (entries_of c) from.last (no_ending_yet o) from.legal

pub recorded : NeverLegal → (o : Origin) (c : Core) (ending : Ending) (text : List ℕ) → ComesFrom o c → IsRunOf o c → c.lost ≡ false → ending ≡ ending_or (machine_of c).ending
    → text ≡ text_of c ++ ending_line ending (machine_of c).machine.steps → IsRecord o (entries_of c) ending text
recorded never o c ending text from run kept ended grown = record {
  last = record { text = text_of c; next = machine_of c };
  legal = from.legal ∙ ap Some (from.now kept);
  run = run.run kept;
  ended = ended ∙ ap ending_or (standing never o c from kept);
  transcript = run.transcript kept ending ∙ ap Some (sym grown);
}
