-- Breakpoints stay apart and in text, and as many places as there were.
use Rattle.std.proofs.Common.{◌≡◌, ℕ, zero, suc, ◌%◌, eqb, ◌||◌, Bool, true, false, not, cond, List, [], ◌∷◌, length, codes, nat_lt, Option, Some, None, is_none, Result, Ok, Err, refl, sym, ap, ◌∙◌, inl, inr}
use Rattle.std.specs.Prelude.{IfOk, unwrap_or, slice_set, ◌⊎◌}
use Rattle.std.specs.List.{list_any}
use Rattle.std.specs.Str.{bytes_eq}
use Rattle.std.proofs.lemmas.Bool.{eq-eqb, false≢true}
use Rattle.std.proofs.lemmas.List.{length-set}
use Rattle.mach_base.specs.declared.limits.TheConstants.{PLACES}
use Rattle.mach_base.specs.declared.number.NumFault.{NumFault}
use Rattle.mach_base.specs.Machine.{Place, Memory, LineState, is_text_word}
use Rattle.mach_base.specs.Number.{number_of}
use Rattle.kdb_bp.specs.declared.bp_fault.BpFault.{BpFault}
use Rattle.kdb_bp.specs.declared.bp_fault.BpFault.TheVariants.{BadAddr, NotText, Duplicate}
use Rattle.kdb_bp.specs.Breaks.{is_at, place_at, first_empty, empty_or_fault, added, with_place}
use Rattle.kdb_view.specs.declared.breakpoints.BreakpointAnswer.{BreakpointAnswer}
use Rattle.kdb_table.specs.declared.commands.BreakpointChange.{BreakpointChange}
use Rattle.kdb_table.specs.declared.commands.BreakpointChange.TheVariants.{Clear, Disable, Enable}
use Rattle.kdb_table.specs.declared.diagnostics.Diagnostic.{Diagnostic}
use Rattle.kdb_table.specs.declared.diagnostics.Diagnostic.TheVariants as diagnostic
use Rattle.kdb_view.specs.Breakpoints.{Places, bp_answer, new_place_or_diagnostic, changed, changed_at, changed_first, all_changed, change_or_diagnostic, number_changed, change_answer}
use Rattle.kdb_cmd.specs.Limits.{AreBreakpoints}

-- what stands in a list of places once one of them is another
set-cases : (places : Places) (n : ℕ) (x : Option Place) (i : ℕ) (p : Place) → place_at (slice_set places n x) i ≡ Some p → ((i ≡ n) × (x ≡ Some p)) ⊎ (place_at places i ≡ Some p)
set-cases [] n x i p is = absurd (cc)
set-cases (y ∷ ys) zero x zero p is = inl (refl, is)
set-cases (y ∷ ys) zero x (suc i) p is = inr is
set-cases (y ∷ ys) (suc n) x zero p is = inr is
set-cases (y ∷ ys) (suc n) x (suc i) p is =
    elim (set-cases ys n x i p is) [
      | inl here ↦ inl (ap suc here.0, here.1)
      | inr there ↦ inr there
    ]

-- each address in the new places stands at the same number in the old ones
pub record AreAmong (old : Places) (new : Places) : Type 0 where
  pub many : length new ≡ length old
  pub there : (i : ℕ) (p : Place) → place_at new i ≡ Some p → (q : Place) × (place_at old i ≡ Some q) × (q.addr ≡ p.addr)

AreAmong-same : (places : Places) → AreAmong places places
AreAmong-same places = record { many = refl; there = λ i p is. (p, is, refl) }

AreAmong-then : (a b c : Places) → AreAmong a b → AreAmong b c → AreAmong a c
AreAmong-then a b c first rest = record {
  many = rest.many ∙ first.many;
  there = λ i p is.
      let later = rest.there i p is in
      let earlier = first.there i later.0 later.1 in
      (earlier.0, earlier.1, earlier.2 ∙ later.2);
}

pub AreAmong-sound : (m : Memory) (old new : Places) → AreAmong old new → AreBreakpoints m old → AreBreakpoints m new
AreAmong-sound m old new among sound = record {
  apart = λ i j p q at_i at_j same.
      let one = among.there i p at_i in
      let other = among.there j q at_j in
      sound.apart i j one.0 other.0 one.1 other.1 (one.2 ∙ same ∙ sym other.2);
  text = λ i p is.
      let one = among.there i p is in
      ap (λ (a : ℕ). is_text_word m a) (sym one.2) ∙ sound.text i one.0 one.1;
}

-- a place that is set to one of the same address, or emptied
changed-address : (change : BreakpointChange) (o : Option Place) (p : Place) → changed change o ≡ Some p → (q : Place) × (o ≡ Some q) × (q.addr ≡ p.addr)
changed-address Clear o p is = absurd (cc)
changed-address Disable None p is = absurd (cc)
changed-address Disable (Some q) p is = (q, refl, cc)
changed-address Enable None p is = absurd (cc)
changed-address Enable (Some q) p is = (q, refl, cc)

set-among : (change : BreakpointChange) (places : Places) (n : ℕ) → AreAmong places (slice_set places n (changed change (place_at places n)))
set-among change places n = record {
  many = length-set places n (changed change (place_at places n));
  there = λ i p is.
      elim (set-cases places n (changed change (place_at places n)) i p is) [
        | inl here ↦
            let old = changed-address change (place_at places n) p here.1 in
            (old.0, ap (λ (k : ℕ). place_at places k) here.0 ∙ old.1, old.2)
        | inr there ↦ (p, there, refl)
      ];
}

changed_at-among : (change : BreakpointChange) (places : Places) (n : ℕ) → AreAmong places (unwrap_or (changed_at change places n) places)
changed_at-among change places n =
    elim (is_none (place_at places n)) as (λ b. AreAmong places (unwrap_or (cond b None (Some (slice_set places n (changed change (place_at places n))))) places)) [
      | true ↦ AreAmong-same places
      | false ↦ set-among change places n
    ]

changed_first-among : (change : BreakpointChange) (places : Places) (n : ℕ) → AreAmong places (changed_first change places n)
changed_first-among change places zero = AreAmong-same places
changed_first-among change places (suc n) =
    AreAmong-then places (changed_first change places n) _ (changed_first-among change places n) (changed_at-among change (changed_first change places n) n)

-- a refusal says nothing
abbrev Among : Places → Result BreakpointAnswer Diagnostic → Type 0
Among places r = IfOk r (λ answer. AreAmong places answer.breaks)

changed_or-among : (places : Places) (change : BreakpointChange) (n : ℕ) → Among places (change_or_diagnostic change n (changed_at change places n))
changed_or-among places change n =
    elim (is_none (place_at places n)) as (λ b. Among places (change_or_diagnostic change n (cond b None (Some (slice_set places n (changed change (place_at places n))))))) [
      | true ↦ tt
      | false ↦ set-among change places n
    ]

either-among : (places : Places) (test : Bool) (r other : Result BreakpointAnswer Diagnostic) → Among places r → Among places other → Among places (cond test r other)
either-among places true r other p q = p
either-among places false r other p q = q

number_changed-among : (places : Places) (change : BreakpointChange) (r : Result ℕ NumFault) → Among places (number_changed places change r)
number_changed-among places change (Ok n) =
    either-among places (nat_lt n PLACES) (change_or_diagnostic change n (changed_at change places n)) (Err (diagnostic.NoBreakpoint n)) (changed_or-among places change n) tt
number_changed-among places change (Err why) = tt

pub change_answer-among : (places : Places) (change : BreakpointChange) (word : List ℕ) → Among places (change_answer places change word)
unfolding change_answer
change_answer-among places change word =
    either-among places (bytes_eq word (codes "*")) (Ok (all_changed places change)) (number_changed places change (number_of 10 word)) (changed_first-among change places PLACES) (number_changed-among places change (number_of 10 word))

or-none : (a b : Bool) → a ≡ true → (a || b) ≡ false → ⊥
or-none true b is never = false≢true (sym never)
or-none false b is never = false≢true is

or-rest : (a b : Bool) → (a || b) ≡ false → b ≡ false
or-rest true b none = absurd (cc)
or-rest false b none = none

-- no place has an address that none was found at
none_at : (addr : ℕ) (places : Places) (i : ℕ) (p : Place) → list_any (is_at addr) places ≡ false → place_at places i ≡ Some p → p.addr ≡ addr → ⊥
none_at addr [] i p none is same = absurd (cc)
none_at addr (y ∷ ys) zero p none is same =
    let here : is_at addr y ≡ true = ap (is_at addr) is ∙ eq-eqb p.addr addr same in
    or-none (is_at addr y) (list_any (is_at addr) ys) here none
none_at addr (y ∷ ys) (suc i) p none is same = none_at addr ys i p (or-rest (is_at addr y) (list_any (is_at addr) ys) none) is same

-- a new breakpoint is in text, and no other has its address
pub record IsNew (m : Memory) (places : Places) (addr : ℕ) : Type 0 where
  pub text : is_text_word m addr ≡ true
  pub none : list_any (is_at addr) places ≡ false

new-if : (aligned text there : Bool) (found : Result ℕ BpFault) (a b c : BpFault) (n : ℕ) → cond (not aligned) (Err a) (cond (not text) (Err b) (cond there (Err c) found)) ≡ Ok n → (text ≡ true) × (there ≡ false)
new-if false text there found a b c n is = absurd (cc)
new-if true false there found a b c n is = absurd (cc)
new-if true true true found a b c n is = absurd (cc)
new-if true true false found a b c n is = (refl, refl)

added-new : (m : Memory) (places : Places) (addr n : ℕ) → added m places addr ≡ Ok n → IsNew m places addr
unfolding added
added-new m places addr n is =
    let both = new-if (eqb (addr % 4) 0) (is_text_word m addr) (list_any (is_at addr) places) (empty_or_fault (first_empty places)) BadAddr NotText Duplicate n is in
    record { text = both.0; none = both.1 }

address-of : (addr : ℕ) (p : Place) → Some (record { addr = addr; enabled = true }) ≡ Some p → p.addr ≡ addr
address-of addr p is = cc

both-apart : (m : Memory) (places : Places) (n addr i j : ℕ) (p q : Place) → IsNew m places addr → AreBreakpoints m places → ((i ≡ n) × (Some (record { addr = addr; enabled = true }) ≡ Some p)) ⊎ (place_at places i ≡ Some p) → ((j ≡ n) × (Some (record { addr = addr; enabled = true }) ≡ Some q)) ⊎ (place_at places j ≡ Some q) → p.addr ≡ q.addr → i ≡ j
both-apart m places n addr i j p q new sound (inl one) (inl other) same = one.0 ∙ sym other.0
both-apart m places n addr i j p q new sound (inl one) (inr other) same = absurd (none_at addr places j q new.none other (sym same ∙ address-of addr p one.1))
both-apart m places n addr i j p q new sound (inr one) (inl other) same = absurd (none_at addr places i p new.none one (same ∙ address-of addr q other.1))
both-apart m places n addr i j p q new sound (inr one) (inr other) same = sound.apart i j p q one other same

with_place-sound : (m : Memory) (places : Places) (n addr : ℕ) → IsNew m places addr → AreBreakpoints m places → AreBreakpoints m (with_place places n addr)
with_place-sound m places n addr new sound = record {
  apart = λ i j p q at_i at_j same.
      both-apart m places n addr i j p q new sound (set-cases places n (Some (record { addr = addr; enabled = true })) i p at_i) (set-cases places n (Some (record { addr = addr; enabled = true })) j q at_j) same;
  text = λ i p is.
      elim (set-cases places n (Some (record { addr = addr; enabled = true })) i p is) [
        | inl here ↦ ap (λ (a : ℕ). is_text_word m a) (address-of addr p here.1) ∙ new.text
        | inr there ↦ sound.text i p there
      ];
}

-- as many places as before, and breakpoints that are apart and in text if they were
pub record StaySound (m : Memory) (old : Places) (new : Places) : Type 0 where
  pub many : length new ≡ length old
  pub sound : AreBreakpoints m old → AreBreakpoints m new

new_place_or_diagnostic-sound : (s : LineState) (addr : ℕ) (r : Result ℕ BpFault) → added s.memory s.places addr ≡ r → IfOk (new_place_or_diagnostic s addr r) (λ answer. StaySound s.memory s.places answer.breaks)
new_place_or_diagnostic-sound s addr (Ok n) is = record {
  many = length-set s.places n _;
  sound = with_place-sound s.memory s.places n addr (added-new s.memory s.places addr n is);
}
new_place_or_diagnostic-sound s addr (Err why) is = tt

pub bp_answer-sound : (s : LineState) (addr : ℕ) → IfOk (bp_answer s addr) (λ answer. StaySound s.memory s.places answer.breaks)
unfolding bp_answer
bp_answer-sound s addr = new_place_or_diagnostic-sound s addr (added s.memory s.places addr) refl
