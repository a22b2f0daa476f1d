-- A write to an array is a change of the function that reads it.
use Rattle.std.proofs.Common.{◌≡◌, ℕ, ◌<◌, ◌≤◌, List, length, get_or, set, replicate, sym, ◌∙◌, ap, subst, inl, inr}
use Rattle.std.proofs.Math.Path.{fun_ext}
use Rattle.std.proofs.lemmas.Bool.{cases_eq, cases_lt}
use Rattle.std.proofs.lemmas.List.{get_or-set_same, get_or-set_other, get_or-replicate, get_or_past, length-replicate}
use Rattle.deck_core.specs.contract.Told.{Told}
use Rattle.deck_core.specs.ticks.Configuration.{put, opening}
use Rattle.deck_core.specs.decks.Seats.{configuration_of}
use Rattle.deck_core.specs.ticks.Tick.{enters, writes, goes, gives}
use Rattle.deck_core.specs.declared.plain.phase.Phase.{Phase}
use Rattle.deck_core.specs.declared.plain.phase.Phase.TheVariants.{Run}
use Rattle.deck_core.specs.declared.plain.phase.Place.{Place}
use Rattle.deck_core.specs.declared.plain.phase.Place.TheVariants.{Peek}
use Rattle.deck_core.specs.declared.decks.seats.Seats.{Seats}
use Rattle.deck_core.proofs.Frame.{put_same, put_other}

-- a list read with a default
abbrev pub read : {A : Type 0} → List A → A → ℕ → A
read xs d k = get_or xs k d

pub read-set : {A : Type 0} (xs : List A) (i : ℕ) (v d : A) → i < length xs → read (set xs i v) d ≡ put (read xs d) i v
read-set xs i v d lt = fun_ext (λ k.
    elim (cases_eq k i) [
      | inl e ↦ subst (λ j. get_or (set xs i v) j d ≡ put (read xs d) i v j) (sym e) (get_or-set_same xs i v d lt ∙ sym (put_same (read xs d) i v))
      | inr ne ↦ get_or-set_other xs i k v d ne ∙ sym (put_other (read xs d) i v k ne)
    ])

pub enters_seats : (limit : ℕ) (seats : Seats) (told : Told) (h : ℕ) (p : Phase) → h < length seats.phases → record (configuration_of limit seats told) { phase = read (set seats.phases h p) Run } ≡ enters h p (configuration_of limit seats told)
enters_seats limit seats told h p lt = ap (λ f. record (configuration_of limit seats told) { phase = f }) (read-set seats.phases h p Run lt)

pub writes_seats : (limit : ℕ) (seats : Seats) (told : Told) (h w : ℕ) (p : Phase) → h < length seats.words.x → h < length seats.phases → record (configuration_of limit seats told) { own = read (set seats.words.x h w) 0; phase = read (set seats.phases h p) Run } ≡ writes h w p (configuration_of limit seats told)
writes_seats limit seats told h w p lt lt2 =
    ap (λ f. record (configuration_of limit seats told) { own = f; phase = read (set seats.phases h p) Run }) (read-set seats.words.x h w 0 lt)
    ∙ ap (λ f. record (configuration_of limit seats told) { own = put (read seats.words.x 0) h w; phase = f }) (read-set seats.phases h p Run lt2)

pub goes_seats : (limit : ℕ) (seats : Seats) (told : Told) (h : ℕ) (at : Place) → h < length seats.places → record (configuration_of limit seats told) { place = read (set seats.places h at) Peek } ≡ goes h at (configuration_of limit seats told)
goes_seats limit seats told h at lt = ap (λ f. record (configuration_of limit seats told) { place = f }) (read-set seats.places h at Peek lt)

pub gives_seats : (limit : ℕ) (seats : Seats) (told after : Told) (h mask : ℕ) (p : Phase) → mask ≡ after.mask → h < length seats.phases → h < length seats.places → record (configuration_of limit seats after) { turn = mask; phase = read (set seats.phases h p) Run; place = read (set seats.places h Peek) Peek } ≡ gives h p after (configuration_of limit seats told)
gives_seats limit seats told after h mask p e lt lt2 =
    ap (λ m. record (configuration_of limit seats after) { turn = m; phase = read (set seats.phases h p) Run; place = read (set seats.places h Peek) Peek }) e
    ∙ (ap (λ f. record (configuration_of limit seats after) { turn = after.mask; phase = f; place = read (set seats.places h Peek) Peek }) (read-set seats.phases h p Run lt)
    ∙ ap (λ f. record (configuration_of limit seats after) { turn = after.mask; phase = put (read seats.phases Run) h p; place = f }) (read-set seats.places h Peek Peek lt2))

-- a list of one value, read with that value as the default
read-same : {A : Type 0} (n : ℕ) (v : A) (k : ℕ) → get_or (replicate n v) k v ≡ v
read-same n v k =
    elim (cases_lt k n) [
      | inl lt ↦ get_or-replicate n k v v lt
      | inr le ↦ get_or_past (replicate n v) k v (subst (λ m. m ≤ k) (sym (length-replicate n v)) le)
    ]

-- the seats before the first tick
pub opening_seats : (limit : ℕ) (told : Told) → record (opening limit told) { own = read (replicate 32 0) 0; phase = read (replicate 32 Run) Run; place = read (replicate 32 Peek) Peek } ≡ opening limit told
opening_seats limit told =
    let f : read (replicate 32 0) 0 ≡ (λ k. 0) = fun_ext (read-same 32 0) in
    let g : read (replicate 32 Run) Run ≡ (λ k. Run) = fun_ext (read-same 32 Run) in
    let h : read (replicate 32 Peek) Peek ≡ (λ k. Peek) = fun_ext (read-same 32 Peek) in
    ap (λ x. record (opening limit told) { own = x; phase = read (replicate 32 Run) Run; place = read (replicate 32 Peek) Peek }) f
    ∙ (ap (λ x. record (opening limit told) { phase = x; place = read (replicate 32 Peek) Peek }) g
    ∙ ap (λ x. record (opening limit told) { place = x }) h)
