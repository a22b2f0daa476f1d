-- What is packed is unpacked again.
use Rattle.std.proofs.Common.{◌≡◌, ℕ, zero, suc, ◌+◌, ◌*◌, ◌/◌, ◌%◌, ◌^◌, ◌<◌, ◌≤◌, Bool, true, false, cond, List, [], ◌∷◌, ◌++◌, length, take, drop, refl, sym, ap, ◌∙◌, append_assoc, append-nil, arith, nat_lt, subst, ◌==◌}
use Rattle.std.proofs.lemmas.Bool.{lt-ltb, le-ltb}
use Rattle.std.proofs.lemmas.List.{length-append, length-drop}
use Rattle.std.proofs.Math.Seq.{take-append_seam, drop-append_seam}
use Rattle.std.specs.List.{AllByRecursion}
use Rattle.std.specs.Int.{to_le_bytes, from_le_bytes, w64}
use Rattle.std.proofs.lemmas.Nat.{from_le_bytes-to_le_bytes_8}
use Rattle.mach_base.specs.declared.event.Ending.TheVariants.{ScriptEnd, AllHalted, StepLimit, PlanEnd}
use Rattle.mach_base.specs.declared.event.Entry.{Entry}
use Rattle.mach_base.specs.declared.event.Entry.TheVariants.{Step, Intr, Send, Take, Open, Pull, Line, Plant, PlantStep, PullStep, Close, Off}
use Rattle.mach_base.specs.Packed.{hart, entry_bytes, IsPackable, packed_bytes, short_entry, first_byte, first_number, first_entry, unpacked_in, unpacked, ArePacked}

-- an entry of one byte by its kind
short_first : (kind h : ℕ) (bs : List ℕ) → kind < 6 → h < 32 → first_entry (kind * 32 + h) bs ≡ (short_entry kind h, bs)
unfolding first_entry
short_first kind h bs few small =
    let low : nat_lt (kind * 32 + h) 0xc0 ≡ true = lt-ltb _ _ (omega arith) in
    let quotient : (kind * 32 + h) / 32 ≡ kind = omega arith in
    let rest : (kind * 32 + h) % 32 ≡ h = omega arith in
    rw (low, quotient, rest) refl

-- a number of 8 bytes
number_first : (n : ℕ) (bs : List ℕ) → n < 2 ^ 64 → first_number (to_le_bytes w64 n ++ bs) ≡ (n, bs)
number_first n bs small =
    let bytes = to_le_bytes w64 n in
    let long : nat_lt (length (bytes ++ bs)) 8 ≡ false = le-ltb _ _ (omega (arith, length-append bytes bs)) in
    let front : take 8 (bytes ++ bs) ≡ bytes = take-append_seam bytes bs in
    let back : drop 8 (bytes ++ bs) ≡ bs = drop-append_seam bytes bs in
    ap (λ t. cond {A = ℕ × List ℕ} t (0, []) (from_le_bytes w64 (take 8 (bytes ++ bs)), drop 8 (bytes ++ bs))) long ∙ (λ i. (from_le_bytes w64 (front i), back i)) ∙ ap (λ v. (v, bs)) (from_le_bytes-to_le_bytes_8 n small)

-- the entry that the bytes begin with, and what follows it, make the rest
step_on : (n b : ℕ) (bs : List ℕ) (e : Entry) (rest : List ℕ) → first_entry b bs ≡ (e, rest) → unpacked_in (suc n) (b ∷ bs) ≡ e ∷ unpacked_in n rest
step_on n b bs e rest is = ap (λ p. p.0 ∷ unpacked_in n p.1) is

open_first : (h late : ℕ) (bs : List ℕ) → late < 2 ^ 64 → first_entry 0xc0 (h ∷ (to_le_bytes w64 late ++ bs)) ≡ (Open (hart h) late, bs)
unfolding first_entry
open_first h late bs small = ap (λ p. (Open (hart h) p.0, p.1)) (number_first late bs small)

plant_first : (addr : ℕ) (bs : List ℕ) → addr < 2 ^ 64 → first_entry 0xc3 (to_le_bytes w64 addr ++ bs) ≡ (PlantStep addr, bs)
unfolding first_entry
plant_first addr bs small = ap (λ p. (PlantStep p.0, p.1)) (number_first addr bs small)

-- the bytes begin with this entry
pub unpacked_first : (n : ℕ) (e : Entry) (bs : List ℕ) → IsPackable e → unpacked_in (suc n) (entry_bytes e ++ bs) ≡ e ∷ unpacked_in n bs
unfolding entry_bytes first_entry
unpacked_first n (Step h) bs fits = step_on n (0 * 32 + h.0) bs (Step h) bs (short_first 0 h.0 bs (omega arith) fits)
unpacked_first n (Intr h) bs fits = step_on n (1 * 32 + h.0) bs (Intr h) bs (short_first 1 h.0 bs (omega arith) fits)
unpacked_first n (Send h) bs fits = step_on n (2 * 32 + h.0) bs (Send h) bs (short_first 2 h.0 bs (omega arith) fits)
unpacked_first n (Take h) bs fits = step_on n (3 * 32 + h.0) bs (Take h) bs (short_first 3 h.0 bs (omega arith) fits)
unpacked_first n (Open h late) bs fits = step_on n 0xc0 (h.0 ∷ (to_le_bytes w64 late ++ bs)) (Open h late) bs (open_first h.0 late bs fits.1)
unpacked_first n (Pull i) bs fits = refl
unpacked_first n (Line h) bs fits = step_on n (4 * 32 + h.0) bs (Line h) bs (short_first 4 h.0 bs (omega arith) fits)
unpacked_first n (Plant i) bs fits = refl
unpacked_first n (PlantStep addr) bs fits = step_on n 0xc3 (to_le_bytes w64 addr ++ bs) (PlantStep addr) bs (plant_first addr bs fits)
unpacked_first n PullStep bs fits = refl
unpacked_first n (Close h) bs fits = step_on n (5 * 32 + h.0) bs (Close h) bs (short_first 5 h.0 bs (omega arith) fits)
unpacked_first n (Off ScriptEnd) bs fits = refl
unpacked_first n (Off AllHalted) bs fits = refl
unpacked_first n (Off StepLimit) bs fits = refl
unpacked_first n (Off PlanEnd) bs fits = absurd (fits refl)

-- each entry has a byte
pub entry_bytes_some : (e : Entry) → IsPackable e → 1 ≤ length (entry_bytes e)
unfolding entry_bytes
entry_bytes_some (Step h) fits = omega arith
entry_bytes_some (Intr h) fits = omega arith
entry_bytes_some (Send h) fits = omega arith
entry_bytes_some (Take h) fits = omega arith
entry_bytes_some (Open h late) fits = omega arith
entry_bytes_some (Pull i) fits = omega arith
entry_bytes_some (Line h) fits = omega arith
entry_bytes_some (Plant i) fits = omega arith
entry_bytes_some (PlantStep addr) fits = omega arith
entry_bytes_some PullStep fits = omega arith
entry_bytes_some (Close h) fits = omega arith
entry_bytes_some (Off ScriptEnd) fits = omega arith
entry_bytes_some (Off AllHalted) fits = omega arith
entry_bytes_some (Off StepLimit) fits = omega arith
entry_bytes_some (Off PlanEnd) fits = absurd (fits refl)

-- each entry has at most ten
pub entry_bytes_few : (e : Entry) → length (entry_bytes e) ≤ 10
unfolding entry_bytes
entry_bytes_few (Step h) = omega arith
entry_bytes_few (Intr h) = omega arith
entry_bytes_few (Send h) = omega arith
entry_bytes_few (Take h) = omega arith
entry_bytes_few (Open h late) = omega arith
entry_bytes_few (Pull i) = omega arith
entry_bytes_few (Line h) = omega arith
entry_bytes_few (Plant i) = omega arith
entry_bytes_few (PlantStep addr) = omega arith
entry_bytes_few PullStep = omega arith
entry_bytes_few (Close h) = omega arith
entry_bytes_few (Off ScriptEnd) = omega arith
entry_bytes_few (Off AllHalted) = omega arith
entry_bytes_few (Off StepLimit) = omega arith
entry_bytes_few (Off PlanEnd) = omega arith

-- what is packed is unpacked again
unpacked_all : (n : ℕ) (es : List Entry) → AllByRecursion IsPackable es → length (packed_bytes es) ≤ n → unpacked_in n (packed_bytes es) ≡ es
unpacked_all zero [] all room = refl
unpacked_all (suc n) [] all room = refl
unpacked_all zero (e ∷ es) all room =
    absurd (omega (arith, entry_bytes_some e all.0, length-append (entry_bytes e) (packed_bytes es)))
unpacked_all (suc n) (e ∷ es) all room =
    unpacked_first n e (packed_bytes es) all.0 ∙ ap (λ r. e ∷ r) (unpacked_all n es all.1 (omega (arith, entry_bytes_some e all.0, length-append (entry_bytes e) (packed_bytes es), room)))

pub unpacked_packed : (es : List Entry) → AllByRecursion IsPackable es → unpacked (packed_bytes es) ≡ es
unfolding unpacked
unpacked_packed es all = unpacked_all (length (packed_bytes es)) es all (omega arith)

-- one entry more
pub packed_snoc : (es : List Entry) (e : Entry) → packed_bytes (es ++ e ∷ []) ≡ packed_bytes es ++ entry_bytes e
packed_snoc [] e = append-nil (entry_bytes e)
packed_snoc (x ∷ xs) e = ap (λ r. entry_bytes x ++ r) (packed_snoc xs e) ∙ sym (append_assoc (entry_bytes x) (packed_bytes xs) (entry_bytes e))

pub all_snoc : (es : List Entry) (e : Entry) → AllByRecursion IsPackable es → IsPackable e → AllByRecursion IsPackable (es ++ e ∷ [])
all_snoc [] e all fits = (fits, tt)
all_snoc (x ∷ xs) e all fits = (all.0, all_snoc xs e all.1 fits)

-- the bytes with those of one entry more
pub unpacked_push : (bs cs : List ℕ) (e : Entry) → ArePacked bs → IsPackable e → cs ≡ bs ++ entry_bytes e → unpacked cs ≡ unpacked bs ++ e ∷ []
unpacked_push bs cs e packed fits is =
    ap unpacked (is ∙ ap (λ x. x ++ entry_bytes e) (sym packed.bytes) ∙ sym (packed_snoc (unpacked bs) e)) ∙ unpacked_packed (unpacked bs ++ e ∷ []) (all_snoc (unpacked bs) e packed.packable fits)

pub packed_push : (bs cs : List ℕ) (e : Entry) → ArePacked bs → IsPackable e → cs ≡ bs ++ entry_bytes e → ArePacked cs
packed_push bs cs e packed fits is =
    let es = unpacked_push bs cs e packed fits is in
    record {
      packable = subst (AllByRecursion IsPackable) (sym es) (all_snoc (unpacked bs) e packed.packable fits);
      bytes = ap packed_bytes es ∙ packed_snoc (unpacked bs) e ∙ ap (λ x. x ++ entry_bytes e) packed.bytes ∙ sym is;
    }

-- there is an entry for each byte at most
unpacked_few : (n : ℕ) (bs : List ℕ) → length (unpacked_in n bs) ≤ n
unpacked_few zero bs = omega arith
unpacked_few (suc n) [] = omega arith
unpacked_few (suc n) (b ∷ bs) = omega (arith, unpacked_few n (first_entry b bs).1)

pub unpacked_length : (bs : List ℕ) → length (unpacked bs) ≤ length bs
unfolding unpacked
unpacked_length bs = unpacked_few (length bs) bs

-- what follows an entry is no longer than what follows its first byte
shorter_cond : {A : Type 0} (t : Bool) (p q : A × List ℕ) (n : ℕ) → length p.1 ≤ n → length q.1 ≤ n → length (cond {A = A × List ℕ} t p q).1 ≤ n
shorter_cond true p q n h k = h
shorter_cond false p q n h k = k

number_shorter : (bs : List ℕ) → length (first_number bs).1 ≤ length bs
number_shorter bs =
    shorter_cond (nat_lt (length bs) 8) (0, []) (from_le_bytes w64 (take 8 bs), drop 8 bs) (length bs) (omega arith) (omega (arith, length-drop 8 bs))

byte_shorter : (bs : List ℕ) → length (first_byte bs).1 ≤ length bs
byte_shorter [] = omega arith
byte_shorter (b ∷ bs) = omega arith

entry_shorter : (b : ℕ) (bs : List ℕ) → length (first_entry b bs).1 ≤ length bs
unfolding first_entry
entry_shorter b bs =
    let n = length bs in
    let one : length (first_byte bs).1 ≤ n = byte_shorter bs in
    let all : length bs ≤ n = omega arith in
    let many : length (first_number (first_byte bs).1).1 ≤ n = omega (arith, number_shorter (first_byte bs).1, one) in
    shorter_cond (nat_lt b 0xc0) _ _ n all
    (shorter_cond (b == 0xc0) _ _ n many
    (shorter_cond (b == 0xc1) _ _ n one
    (shorter_cond (b == 0xc2) _ _ n one
    (shorter_cond (b == 0xc3) _ _ n (number_shorter bs) all))))

-- more room for entries than bytes changes nothing
same_room : (n m : ℕ) (bs : List ℕ) → length bs ≤ n → length bs ≤ m → unpacked_in n bs ≡ unpacked_in m bs
same_room zero zero bs room more = refl
same_room zero (suc m) [] room more = refl
same_room zero (suc m) (b ∷ bs) room more = absurd (omega arith)
same_room (suc n) zero [] room more = refl
same_room (suc n) zero (b ∷ bs) room more = absurd (omega arith)
same_room (suc n) (suc m) [] room more = refl
same_room (suc n) (suc m) (b ∷ bs) room more =
    let less = entry_shorter b bs in
    ap (λ r. (first_entry b bs).0 ∷ r) (same_room n m (first_entry b bs).1 (omega (arith, room, less)) (omega (arith, more, less)))

-- the first entry, and those of the bytes that follow it
pub unpacked_cons : (b : ℕ) (bs : List ℕ) → unpacked (b ∷ bs) ≡ (first_entry b bs).0 ∷ unpacked (first_entry b bs).1
unfolding unpacked
unpacked_cons b bs =
    ap (λ r. (first_entry b bs).0 ∷ r) (same_room (length bs) (length (first_entry b bs).1) (first_entry b bs).1 (entry_shorter b bs) (omega arith))

pub unpacked_nil : unpacked [] ≡ []
unfolding unpacked
unpacked_nil = refl

pub packed_nil : ArePacked []
unfolding unpacked
packed_nil = record { packable = tt; bytes = refl }

-- one entry more is counted
pub pushed_count : (bs cs : List ℕ) (e : Entry) (count : ℕ) → ArePacked bs → IsPackable e → cs ≡ bs ++ entry_bytes e → count ≡ length (unpacked bs) → count + 1 ≡ length (unpacked cs)
pushed_count bs cs e count packed fits is counted =
    let grown : length (unpacked cs) ≡ length (unpacked bs ++ e ∷ []) = ap length (unpacked_push bs cs e packed fits is) in
    let sum : length (unpacked bs ++ e ∷ []) ≡ length (unpacked bs) + 1 = length-append (unpacked bs) (e ∷ []) in
    omega (arith, grown, sum, counted)

-- the bytes grow by those of the entry
pub pushed_length : (bs cs : List ℕ) (e : Entry) → cs ≡ bs ++ entry_bytes e → length cs ≡ length bs + length (entry_bytes e)
pushed_length bs cs e is = ap length is ∙ length-append bs (entry_bytes e)

-- the first entry and the rest, where there are bytes
pub first_of : (bs : List ℕ) (b : ℕ) (rest : List ℕ) (e : Entry) (more : List ℕ) → bs ≡ b ∷ rest → e ≡ (first_entry b rest).0 → more ≡ (first_entry b rest).1 → unpacked bs ≡ e ∷ unpacked more
first_of bs b rest e more is first after =
    ap unpacked is ∙ unpacked_cons b rest ∙ ap (λ x. x ∷ unpacked (first_entry b rest).1) (sym first) ∙ ap (λ x. e ∷ unpacked x) (sym after)

pub none_left : (bs : List ℕ) → bs ≡ [] → unpacked bs ≡ []
none_left bs is = ap unpacked is ∙ unpacked_nil

pub packed_empty : (bs : List ℕ) → bs ≡ [] → ArePacked bs
packed_empty bs is = subst ArePacked (sym is) packed_nil

pub less_left : (s t : List Entry) (x : Entry) → s ≡ x ∷ t → length t < length s
less_left s t x is = omega (arith, ap length is)
