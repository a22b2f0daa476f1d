-- A bus goes on after an entry: its session is as it was, and there is room for what is left.
use Rattle.std.proofs.Common.{◌≡◌, ℕ, suc, ◌+◌, ◌-◌, ◌*◌, ◌<◌, ◌≤◌, ◌&&◌, ◌||◌, Bool, true, false, cond, length, Option, Some, None, is_some, is_none, refl, sym, ap, subst, ◌∙◌, arith}
use Rattle.std.proofs.Math.Logic.{∥∥₁_map, ∥∥₁_elim, ∥∥₁_prop}
use Rattle.std.proofs.lemmas.Bool.{false≢true}
use Rattle.std.proofs.lemmas.Nat.{mul-le}
use Rattle.std.specs.Coded.{le_prop}
use Rattle.mach_base.specs.Packed.{entry_bytes}
use Rattle.mach_base.proofs.Packing.{entry_bytes_few}
use Rattle.mach_base.specs.declared.limits.TheConstants.{MOST_HARTS, MOST_LINES}
use Rattle.mach_base.specs.declared.event.Ending.{Ending}
use Rattle.mach_base.specs.declared.event.Entry.{Entry}
use Rattle.mach_base.specs.declared.event.Entry.TheVariants.{Step, Intr, Send, Take, Open, Pull, Line, Plant, PlantStep, PullStep, Close, Off}
use Rattle.deck_core.specs.contract.Allowed.{in_session, is_pass}
use Rattle.atom_mach.specs.State.{hart_count}
use Rattle.atom_mach.specs.declared.texts.TheConstants.{BANNER_BYTES}
use Rattle.plant_mach.specs.Machine.{PlantedMachine}
use Rattle.plant_mach.specs.Entries.{Made, may, effect, makes}
use Rattle.plant_mach.specs.Order.{IsOrderly}
use Rattle.plant_told.specs.Told.{Counted}
use Rattle.plant_told.specs.Laws.{IsAwake, EntriesLeaveAwake}
use Rattle.plant_room.specs.Room.{most_sends, bytes_left, text_left, sends_after, stepped_after, counted_after}
use Rattle.plant_room.specs.Laws.{IsWithinCounts, IsBounded, is_end, is_line, EntriesLeaveRoom}
use Rattle.bus_core.specs.Inner.{is_legal, is_quiet}
use Rattle.bus_core.specs.declared.outer.Core.{Core}
use Rattle.bus_core.specs.Core.{machine_of, journal_room, text_room, Applied}
use Rattle.bus_calls.specs.declared.bus.CoreBus.{CoreBus}
use Rattle.bus_calls.specs.declared.bus.TheConstants.{MOST_SENDS}
use Rattle.bus_calls.specs.Running.{counted_with, IsRunning, KeepsRunning}
use Rattle.bus_calls.specs.Bus.{counted_of, is_over}
use Rattle.bus_calls.proofs.Facts.{here_of, none_ending, order_of}

-- There is room for any entry.

pub journal_enough : EntriesLeaveRoom → (b : CoreBus) (e : Entry) → is_over b ≡ false → length (entry_bytes e) ≤ journal_room b.core
journal_enough law b e going =
    ∥∥₁_elim b.running le_prop (λ keeps.
    let runs = keeps (here_of b going) (none_ending b going) in
    omega (arith, runs.journal, law.last_entry (counted_of b), entry_bytes_few e))

pub text_enough : EntriesLeaveRoom → (b : CoreBus) → is_over b ≡ false → BANNER_BYTES ≤ text_room b.core
text_enough law b going =
    ∥∥₁_elim b.running le_prop (λ keeps.
    let runs = keeps (here_of b going) (none_ending b going) in
    omega (arith, runs.text, law.last_text (counted_of b)))

-- The machine after an entry.

both : (a b : Bool) → a ≡ true → b ≡ true → (a && b) ≡ true
both a b p q = rw (p, q) refl

made_effect : (p : PlantedMachine) (e : Entry) (d : Made) → p.ending ≡ None → may p e ≡ true → makes p e ≡ Some d → d ≡ effect p e
unfolding makes
made_effect p e d none legal made = let is : makes p e ≡ Some (effect p e) = ap (λ b. cond b (Some (effect p e)) None) (both (is_none p.ending) (may p e) (ap is_none none) legal) in cc

pub applied_next : (a b : Core) (e : Entry) → (machine_of a).ending ≡ None → may (machine_of a) e ≡ true → Applied a e b → machine_of b ≡ (effect (machine_of a) e).next
applied_next a b e none legal did = did.machine ∙ ap (λ (d : Made). d.next) (made_effect (machine_of a) e did.made none legal did.legal)

-- the counted machine after it
pub counted_next : (a : CoreBus) (b : Core) (e : Entry) (sends : ℕ) (stepped : Bool) → is_over a ≡ false → may (machine_of a.core) e ≡ true → Applied a.core e b → sends ≡ sends_after e a.sends → stepped ≡ stepped_after e a.stepped → counted_with b sends stepped a.released ≡ counted_after (counted_of a) e
counted_next a b e sends stepped going legal did more planted =
    ap (λ (p : PlantedMachine). record { machine = p; sends = sends; stepped = stepped; released = a.released }) (applied_next a.core b e (none_ending a going) legal did)
    ∙ ap (λ n. record { machine = (effect (machine_of a.core) e).next; sends = n; stepped = stepped; released = a.released }) more
    ∙ ap (λ x. record { machine = (effect (machine_of a.core) e).next; sends = sends_after e a.sends; stepped = x; released = a.released }) planted

-- the run has ended after an entry that ends it
end_ends : (p : PlantedMachine) (e : Entry) → is_end e ≡ true → is_some (effect p e).next.ending ≡ true
unfolding effect
end_ends p (Step h) is = absurd (false≢true is)
end_ends p (Intr h) is = absurd (false≢true is)
end_ends p (Send h) is = absurd (false≢true is)
end_ends p (Take h) is = absurd (false≢true is)
end_ends p (Open m late) is = absurd (false≢true is)
end_ends p (Pull i) is = absurd (false≢true is)
end_ends p (Line h) is = absurd (false≢true is)
end_ends p (Plant i) is = absurd (false≢true is)
end_ends p (PlantStep addr) is = absurd (false≢true is)
end_ends p PullStep is = absurd (false≢true is)
end_ends p (Close h) is = absurd (false≢true is)
end_ends p (Off ending) is = refl

-- The bus after an entry, whose text has room for what is left.
running_on : EntriesLeaveRoom → EntriesLeaveAwake → (a : CoreBus) (b : Core) (e : Entry) (sends : ℕ) (stepped : Bool) → is_over a ≡ false → may (machine_of a.core) e ≡ true → IsWithinCounts e (counted_of a) → Applied a.core e b →
    sends ≡ sends_after e a.sends → stepped ≡ stepped_after e a.stepped → IsBounded (machine_of a.core) → journal_room a.core ≤ journal_room b + length (entry_bytes e) →
    (IsRunning a.core a.sends a.stepped a.released → is_end e ≡ false → text_left (counted_after (counted_of a) e) ≤ text_room b) →
    IsRunning a.core a.sends a.stepped a.released → (f : Bool) → is_end e ≡ f → KeepsRunning b sends stepped a.released
running_on room awakes a b e sends stepped going legal counts did more planted bounded journal text runs true ends here none =
    absurd (false≢true (sym (ap is_some none) ∙ ap (λ (p : PlantedMachine). is_some p.ending) (applied_next a.core b e (none_ending a going) legal did) ∙ end_ends (machine_of a.core) e ends))
running_on room awakes a b e sends stepped going legal counts did more planted bounded journal text runs false ends here none =
    let next = counted_next a b e sends stepped going legal did more planted in
    let bytes = room.bytes (counted_of a) e bounded legal counts ends in
    record {
      held = runs.held;
      awake = subst (λ (p : PlantedMachine). IsAwake p.session p.machine) (sym did.machine) (awakes (machine_of a.core) e did.made bounded.order runs.awake did.legal);
      journal = subst (λ c. bytes_left c ≤ journal_room b) (sym next) (omega (arith, bytes, runs.journal, journal));
      text = subst (λ c. text_left c ≤ text_room b) (sym next) (text runs ends);
    }

pub keeps_running : EntriesLeaveRoom → EntriesLeaveAwake → (a : CoreBus) (b : Core) (e : Entry) (sends : ℕ) (stepped : Bool) → is_over a ≡ false → may (machine_of a.core) e ≡ true → IsWithinCounts e (counted_of a) → Applied a.core e b →
    sends ≡ sends_after e a.sends → stepped ≡ stepped_after e a.stepped → ∥ IsBounded (machine_of a.core) ∥₁ → journal_room a.core ≤ journal_room b + length (entry_bytes e) →
    (IsBounded (machine_of a.core) → IsRunning a.core a.sends a.stepped a.released → is_end e ≡ false → text_left (counted_after (counted_of a) e) ≤ text_room b) → ∥ KeepsRunning b sends stepped a.released ∥₁
keeps_running room awakes a b e sends stepped going legal counts did more planted bounded journal text =
    ∥∥₁_elim bounded ∥∥₁_prop (λ bound. ∥∥₁_map a.running (λ keeps.
    running_on room awakes a b e sends stepped going legal counts did more planted bound journal (text bound) (keeps (here_of a going) (none_ending a going)) (is_end e) refl))

-- text after an entry that prints no prompt
pub quiet_text : EntriesLeaveRoom → (a : CoreBus) (b : Core) (e : Entry) → may (machine_of a.core) e ≡ true → is_line e ≡ false → text_room a.core ≤ text_room b + length (effect (machine_of a.core) e).text → IsBounded (machine_of a.core) → IsRunning a.core a.sends a.stepped a.released → is_end e ≡ false → text_left (counted_after (counted_of a) e) ≤ text_room b
quiet_text room a b e legal other text bounded runs ends = let prints = room.text (counted_of a) e bounded legal ends other in omega (arith, prints, runs.text, text)

-- Calls that were sent.

pub sends_most : (harts lines sends : ℕ) → harts ≤ MOST_HARTS → lines ≤ MOST_LINES → sends < (harts - 1) * suc lines → suc sends ≤ MOST_SENDS
sends_most harts lines sends few short lt = let most = mul-le (harts - 1) (suc lines) 15 4097 (omega arith) (omega arith) in omega (arith, most, lt)

pub sends_kept : (e : Entry) (c : Counted) → hart_count c.machine.machine ≤ MOST_HARTS → c.machine.machine.lines_read + length c.machine.machine.unread ≤ MOST_LINES → IsWithinCounts e c → c.sends ≤ MOST_SENDS → sends_after e c.sends ≤ MOST_SENDS
sends_kept (Step h) c few short counts most = most
sends_kept (Intr h) c few short counts most = most
sends_kept (Send k) c few short counts most = sends_most (hart_count c.machine.machine) (c.machine.machine.lines_read + length c.machine.machine.unread) c.sends few short counts
sends_kept (Take h) c few short counts most = most
sends_kept (Open m late) c few short counts most = most
sends_kept (Pull i) c few short counts most = most
sends_kept (Line h) c few short counts most = most
sends_kept (Plant i) c few short counts most = most
sends_kept (PlantStep addr) c few short counts most = most
sends_kept PullStep c few short counts most = most
sends_kept (Close h) c few short counts most = most
sends_kept (Off ending) c few short counts most = most

-- What entries need.

pub legal_of : (b : CoreBus) (e : Entry) → is_over b ≡ false → may (machine_of b.core) e ≡ true → is_legal (machine_of b.core) e ≡ true
legal_of b e going legal = both (is_none (machine_of b.core).ending) (may (machine_of b.core) e) (ap is_none (none_ending b going)) legal

pub bounded_of : (p : PlantedMachine) → ∥ IsOrderly p ∥₁ → hart_count p.machine ≤ MOST_HARTS → (in_session (λ s. is_pass s.stage) p.session ≡ true → p.machine.steps < p.machine.limit + p.machine.lines_read) → ∥ IsBounded p ∥₁
bounded_of p order few pass = ∥∥₁_map order (λ o. record { order = o; harts = omega arith; steps = pass })

-- an entry that prints no prompt is no line
pub quiet_line : (e : Entry) → is_quiet e ≡ true → is_line e ≡ false
quiet_line (Step h) quiet = refl
quiet_line (Intr h) quiet = refl
quiet_line (Send k) quiet = refl
quiet_line (Take h) quiet = refl
quiet_line (Open m late) quiet = refl
quiet_line (Pull i) quiet = refl
quiet_line (Line h) quiet = absurd (false≢true quiet)
quiet_line (Plant i) quiet = refl
quiet_line (PlantStep addr) quiet = refl
quiet_line PullStep quiet = refl
quiet_line (Close h) quiet = refl
quiet_line (Off ending) quiet = refl

-- one that does is a line, or the script's end
pub spoken_counts : (e : Entry) (c : Counted) → is_quiet e ≡ false → IsWithinCounts e c
spoken_counts (Step h) c spoken = tt
spoken_counts (Intr h) c spoken = tt
spoken_counts (Send k) c spoken = absurd (false≢true (sym spoken))
spoken_counts (Take h) c spoken = tt
spoken_counts (Open m late) c spoken = tt
spoken_counts (Pull i) c spoken = tt
spoken_counts (Line h) c spoken = tt
spoken_counts (Plant i) c spoken = tt
spoken_counts (PlantStep addr) c spoken = absurd (false≢true (sym spoken))
spoken_counts PullStep c spoken = tt
spoken_counts (Close h) c spoken = tt
spoken_counts (Off ending) c spoken = tt

pub spoken_sends : (e : Entry) (sends : ℕ) → is_quiet e ≡ false → sends_after e sends ≡ sends
spoken_sends (Send k) sends spoken = absurd (false≢true (sym spoken))
spoken_sends (Step h) sends spoken = refl
spoken_sends (Intr h) sends spoken = refl
spoken_sends (Take h) sends spoken = refl
spoken_sends (Open m late) sends spoken = refl
spoken_sends (Pull i) sends spoken = refl
spoken_sends (Line h) sends spoken = refl
spoken_sends (Plant i) sends spoken = refl
spoken_sends (PlantStep addr) sends spoken = refl
spoken_sends PullStep sends spoken = refl
spoken_sends (Close h) sends spoken = refl
spoken_sends (Off ending) sends spoken = refl

-- text after one that does: room was made for it
pub spoken_text : EntriesLeaveRoom → (a : CoreBus) (b : Core) (e : Entry) (room : ℕ) → may (machine_of a.core) e ≡ true → is_quiet e ≡ false →
    room ≡ (machine_of a.core).machine.limit + (machine_of a.core).machine.lines_read + 1 - (machine_of a.core).machine.steps + 240 * (length (machine_of a.core).machine.unread + 2) → room ≤ text_room b → is_end e ≡ false → text_left (counted_after (counted_of a) e) ≤ text_room b
spoken_text law a b (Line h) room legal spoken is enough ends = let text = law.line (counted_of a) h legal in omega (arith, text, is, enough)
spoken_text law a b (Off ending) room legal spoken is enough ends = absurd (false≢true (sym ends))
spoken_text law a b (Step h) room legal spoken is enough ends = absurd (false≢true (sym spoken))
spoken_text law a b (Intr h) room legal spoken is enough ends = absurd (false≢true (sym spoken))
spoken_text law a b (Send k) room legal spoken is enough ends = absurd (false≢true (sym spoken))
spoken_text law a b (Take h) room legal spoken is enough ends = absurd (false≢true (sym spoken))
spoken_text law a b (Open m late) room legal spoken is enough ends = absurd (false≢true (sym spoken))
spoken_text law a b (Pull i) room legal spoken is enough ends = absurd (false≢true (sym spoken))
spoken_text law a b (Plant i) room legal spoken is enough ends = absurd (false≢true (sym spoken))
spoken_text law a b (PlantStep addr) room legal spoken is enough ends = absurd (false≢true (sym spoken))
spoken_text law a b PullStep room legal spoken is enough ends = absurd (false≢true (sym spoken))
spoken_text law a b (Close h) room legal spoken is enough ends = absurd (false≢true (sym spoken))
