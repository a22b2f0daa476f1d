-- The entries of a legal list may stand in a journal: their harts, places and addresses are there.
use Rattle.std.proofs.Common.{◌≡◌, ℕ, ◌+◌, ◌<◌, ◌≤◌, ◌^◌, ◌&&◌, Bool, true, false, List, [], ◌∷◌, length, Option, Some, None, is_none, nat_le, nat_lt, refl, sym, ap, ◌∙◌, subst, arith, rules, if◌then◌else◌}
use Rattle.std.specs.List.{AllByRecursion}
use Rattle.std.proofs.lemmas.Bool.{false≢true, ltb-true, lt-ltb, le-leb}
use Rattle.std.proofs.Math.Logic.{∥∥₁_elim}
use Rattle.std.proofs.Math.Bool.{Bool-set}
use Rattle.mach_base.specs.declared.memory_range.Segment.{Segment}
use Rattle.mach_base.specs.Machine.{HasBounds, AreSegments, holds, segment_at, is_text_segment, is_text_word}
use Rattle.mach_base.specs.declared.limits.TheConstants.{PLACES, MOST_HARTS, MOST_STEPS}
use Rattle.mach_base.specs.declared.event.Entry.{Entry}
use Rattle.mach_base.specs.declared.event.Entry.TheVariants.{Step, Intr, Send, Take, Open, Pull, Line, Plant, PlantStep, PullStep, Close, Off}
use Rattle.mach_base.specs.declared.event.Ending.TheVariants.{ScriptEnd, AllHalted, StepLimit, PlanEnd}
use Rattle.img_text.specs.Image.{IsImage}
use Rattle.mem_map.specs.Parts.{segments_of}
use Rattle.atom_mach.specs.State.{hart_count, start_state}
use Rattle.atom_mach.proofs.Booleans.{and_true}
use Rattle.plant_mach.specs.Machine.{PlantedMachine, planted_start}
use Rattle.plant_mach.specs.Entries.{Made, makes, may, effect, made_by}
use Rattle.plant_mach.specs.Order.{IsOrderly, IsSeated}
use Rattle.deck_core.specs.declared.plain.notes.Sitting.{Sitting}
use Rattle.deck_core.specs.contract.Allowed.{in_session, is_of, is_lines, is_leaving}
use Rattle.mach_base.specs.declared.event.Hart.{Hart}
use Rattle.plant_mach.specs.Laws.{EntriesKeep, EntriesKeepOrder, StartsAreOrderly}
use Rattle.jrn_text.specs.Entries.{is_entry, IsEntry}
use Rattle.jrn_text.specs.Journal.{IsHeader}
use Rattle.bus_core.specs.declared.outer.Core.{Core}
use Rattle.bus_core.specs.Core.{entries_of}
use Rattle.kdbsim_runs.specs.Record.{IsOfHarts}
use Rattle.bus_core.specs.Origin.{Origin, start_of}
use Rattle.bus_core.proofs.Steps.{step_facts, interrupt_facts, send_there, take_there}
use Rattle.bus_core.proofs.Sessions.{open_facts}
use Rattle.bus_core.proofs.Planting.{pull_facts, plant_facts, enabled_there, step_place_facts}
use Rattle.atom_mach.proofs.Masks.{all_there}
use Rattle.kdbsim_runs.proofs.Endings.{split}

-- an address of text is below 2^63
held_below : (s : Segment) (addr : ℕ) (rest : Option Segment) (b : Bool) → HasBounds s → holds s addr ≡ b → is_text_segment (if b then Some s else rest) ≡ true → (is_text_segment rest ≡ true → addr < 2 ^ 63) → addr < 2 ^ 63
held_below s addr rest true bounds there text below =
    let under : addr < s.base + s.len = ltb-true addr (s.base + s.len) (and_true (nat_le s.base addr) (nat_lt addr (s.base + s.len)) there).1 in
    let most : s.base + s.len ≤ 2 ^ 63 = bounds.3 in
    omega arith
held_below s addr rest false bounds there text below = below text

text_below : (segments : List Segment) (addr : ℕ) → AllByRecursion HasBounds segments → is_text_segment (segment_at segments addr) ≡ true → addr < 2 ^ 63
text_below [] addr bounds is = absurd (false≢true is)
text_below (s ∷ rest) addr bounds is = held_below s addr (segment_at rest addr) (holds s addr) bounds.0 refl is (λ text. text_below rest addr bounds.1 text)

word_below : (p : PlantedMachine) (addr : ℕ) → AreSegments p.machine.seen.memory.segments → is_text_word p.machine.seen.memory addr ≡ true → addr < 2 ^ 64
word_below p addr segments is =
    let below = text_below p.machine.seen.memory.segments addr segments.bounds (and_true _ _ is).1 in
    omega arith

-- the master of a session is there
master_there : (session : Option Sitting) (harts h : ℕ) (test : Sitting → Bool) → IsSeated harts session → in_session (λ s. is_of h s && test s) session ≡ true → h < harts
master_there None harts h test seated e = absurd (false≢true e)
master_there (Some s) harts h test seated e =
    let mine = (and_true (is_of h s) (test s) e).0 in
    let same : s.master.0 ≡ h = search rules in
    rw (← same) seated.master

line_is : (p : PlantedMachine) (h : Hart) → IsSeated (hart_count p.machine) p.session → may p (Line h) ≡ true → h.0 < hart_count p.machine
unfolding may
line_is p h seated e = master_there p.session (hart_count p.machine) h.0 (λ s. is_lines s.stage) seated (and_true (in_session (λ s. is_of h.0 s && is_lines s.stage) p.session) _ e).0

close_is : (p : PlantedMachine) (h : Hart) → IsSeated (hart_count p.machine) p.session → may p (Close h) ≡ true → h.0 < hart_count p.machine
unfolding may
close_is p h seated e = master_there p.session (hart_count p.machine) h.0 (λ s. is_leaving s.stage) seated (and_true (in_session (λ s. is_of h.0 s && is_leaving s.stage) p.session) _ e).0

no_plan_end : (p : PlantedMachine) → may p (Off PlanEnd) ≡ true → ⊥
unfolding may
no_plan_end p e = false≢true e

both : (a b : Bool) → a ≡ true → b ≡ true → (a && b) ≡ true
both true b x y = y
both false b x y = absurd (false≢true x)

may_be_entry : (p : PlantedMachine) (e : Entry) → IsOrderly p → AreSegments p.machine.seen.memory.segments → may p e ≡ true → is_entry (hart_count p.machine) e ≡ true
may_be_entry p (Step h) order segments legal = lt-ltb h.0 (hart_count p.machine) (step_facts p h legal).there
may_be_entry p (Intr h) order segments legal = lt-ltb h.0 (hart_count p.machine) (interrupt_facts p h legal).there
may_be_entry p (Send h) order segments legal = lt-ltb h.0 (hart_count p.machine) (send_there p h legal)
may_be_entry p (Take h) order segments legal = lt-ltb h.0 (hart_count p.machine) (take_there p h legal)
may_be_entry p (Open h late) order segments legal =
    let sitting = (open_facts p h late legal).sitting in
    both (nat_lt h.0 (hart_count p.machine)) (nat_lt late (2 ^ hart_count p.machine)) (lt-ltb h.0 (hart_count p.machine) sitting.master) (lt-ltb late (2 ^ hart_count p.machine) sitting.late_ones)
may_be_entry p (Pull i) order segments legal =
    let there = (pull_facts p i legal).there in
    let count : length p.places ≡ PLACES = order.words.places in
    lt-ltb i PLACES (omega arith)
may_be_entry p (Line h) order segments legal = lt-ltb h.0 (hart_count p.machine) (line_is p h order.seated legal)
may_be_entry p (Plant i) order segments legal =
    let there = enabled_there p i (plant_facts p i legal).enabled in
    let count : length p.machine.seen.places ≡ PLACES = order.limits.places in
    lt-ltb i PLACES (omega arith)
may_be_entry p (PlantStep a) order segments legal = lt-ltb a (2 ^ 64) (word_below p a segments (step_place_facts p a order legal).text)
may_be_entry p PullStep order segments legal = refl
may_be_entry p (Close h) order segments legal = lt-ltb h.0 (hart_count p.machine) (close_is p h order.seated legal)
may_be_entry p (Off ScriptEnd) order segments legal = refl
may_be_entry p (Off AllHalted) order segments legal = refl
may_be_entry p (Off StepLimit) order segments legal = refl
may_be_entry p (Off PlanEnd) order segments legal = absurd (no_plan_end p legal)

none_some : {A : Type 0} (x : A) → None ≡ Some x → ⊥
none_some x e = cc

legal_then : (b : Bool) (made d : Made) → (if b then Some made else None) ≡ Some d → b ≡ true
legal_then true made d is = refl
legal_then false made d is = absurd (none_some d is)

is_legal : (p : PlantedMachine) (e : Entry) (d : Made) → makes p e ≡ Some d → may p e ≡ true
unfolding makes
is_legal p e d is = (and_true (is_none p.ending) (may p e) (legal_then (is_none p.ending && may p e) (effect p e) d is)).1

all_entries : EntriesKeep → EntriesKeepOrder → (p : PlantedMachine) (harts : ℕ) (es : List Entry) (d : Made) → hart_count p.machine ≡ harts → IsOrderly p → AreSegments p.machine.seen.memory.segments → made_by p es ≡ Some d → AllByRecursion (IsEntry harts) es
all_entries keeps orders p harts [] d count order segments made = tt
all_entries keeps orders p harts (e ∷ es) d count order segments made =
    let s = split p e es d made in
    let kept = keeps p e s.first s.made in (
      subst (λ n. is_entry n e ≡ true) count (may_be_entry p e order segments (is_legal p e s.first s.made)),
      all_entries keeps orders s.first.next harts es s.rest (kept.harts ∙ count) (orders p e s.first order s.made) (subst AreSegments (sym kept.segments) segments) s.others,
    )

start_segments : (o : Origin) → AreSegments (segments_of o.image.parts) → AreSegments (start_of o).machine.seen.memory.segments
unfolding planted_start start_state
start_segments o h = h

start_harts : (o : Origin) → hart_count (start_of o).machine ≡ o.harts
unfolding planted_start start_state
start_harts o = all_there o.image o.harts

-- the entries of a legal journal, of so many harts
pub journal_entries : EntriesKeep → EntriesKeepOrder → StartsAreOrderly → (o : Origin) (es : List Entry) (d : Made) → IsImage o.image → made_by (start_of o) es ≡ Some d → AllByRecursion (IsEntry o.harts) es
journal_entries keeps orders starts o es d image made =
    all_entries keeps orders (start_of o) o.harts es d (start_harts o) (starts o.image o.symbols o.lines o.harts o.limit image) (start_segments o image.segments) made

-- that a list's entries may stand in a journal is a fact
all_prop : (harts : ℕ) (es : List Entry) → IsProp (AllByRecursion (IsEntry harts) es)
all_prop harts [] = hlevel
all_prop harts (e ∷ es) = let rest = all_prop harts es in hlevel (Bool-set, rest)

in_journal : EntriesKeep → EntriesKeepOrder → StartsAreOrderly → (harts : ℕ) (c : Core) → IsOfHarts harts c → AllByRecursion (IsEntry harts) (entries_of c)
in_journal keeps orders starts harts c h =
    subst (λ n. AllByRecursion (IsEntry n) (entries_of c)) h.1 (journal_entries keeps orders starts h.0 (entries_of c) h.2.last h.2.image h.2.legal)

pub all_in_journal : EntriesKeep → EntriesKeepOrder → StartsAreOrderly → (harts : ℕ) (c : Core) → ∥ IsOfHarts harts c ∥₁ → AllByRecursion (IsEntry harts) (entries_of c)
all_in_journal keeps orders starts harts c h = ∥∥₁_elim h (all_prop harts (entries_of c)) (in_journal keeps orders starts harts c)

pub header : (harts limit : ℕ) → 1 ≤ harts → harts ≤ MOST_HARTS → 1 ≤ limit → limit ≤ MOST_STEPS → IsHeader harts limit
header harts limit some few low high =
    both (nat_le 1 harts && nat_le harts MOST_HARTS) (nat_le 1 limit && nat_le limit MOST_STEPS)
    (both (nat_le 1 harts) (nat_le harts MOST_HARTS) (le-leb 1 harts some) (le-leb harts MOST_HARTS few))
    (both (nat_le 1 limit) (nat_le limit MOST_STEPS) (le-leb 1 limit low) (le-leb limit MOST_STEPS high))
