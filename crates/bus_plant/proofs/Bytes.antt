-- Single bytes of words, and of memory with words in it.
use Rattle.std.proofs.Common.{◌≡◌, ◌≢◌, ℕ, zero, suc, ◌+◌, ◌-◌, ◌*◌, ◌/◌, ◌%◌, ◌^◌, ◌<◌, ◌≤◌, eqb, ltb, leb, Bool, true, false, cond, ◌&&◌, ◌⊎◌, inl, inr, List, [], ◌∷◌, length, get_or, set, map, slice_set, Option, Some, None, is_some, refl, sym, ap, ◌∙◌, arith}
use Rattle.std.specs.Int.{w32, to_le_bytes, from_le_bytes}
use Rattle.std.specs.Ordering.{eq_by_cmp, nat_cmp}
use Rattle.std.specs.Cmp.{nat_cmp_total, unsigned_tied}
use Rattle.std.specs.FinMap.{insert, get-insert}
use Rattle.std.proofs.lemmas.Bool.{false≢true, eqb-true, eq-eqb, ne_eqb, le-leb, lt-ltb, lt-leb, le-ltb, leb-true, ltb-true, and_parts, cases_lt, cases_eq, cases_Bool}
use Rattle.std.proofs.lemmas.List.{get_or-set_same, get_or-set_other, length-set}
use Rattle.std.proofs.lemmas.Nat.{le_bytes_4}
use Rattle.mach_base.specs.Bytes.{all_bytes, byte_of, is_mapped, with_value}
use Rattle.mach_base.specs.Machine.{Memory, byte_at}
use Rattle.mem_map.specs.Access.{access_fault, after_store}
use Rattle.mem_map.specs.declared.rights.Access.TheVariants.{Fetch}
use Rattle.mem_map.specs.Laws.{AreApart}
use Rattle.mem_map.proofs.Stores.{byte_at-after_store, segments-after_store}
use Rattle.mem_map.proofs.Twice.{same_memory, stores_commute, is_within, same_bytes, byte_at-apart}
use Rattle.bus_plant.specs.Planted.{has_address, AreText, AreDistinct}
use Rattle.bus_plant.specs.Saved.{address_of, addresses, byte_seen, with_byte, with_words, saved_word, after_poke, HoldEbreaks, IsKept}
use Rattle.bus_plant.specs.declared.saved.Saved.{Saved}
use Rattle.bus_plant.proofs.WithWords.{AllApart, aligned, mapped-text, or_false, other_address, text-saved, text-after_write, words-after_store, apart-byte}
use Rattle.bus_plant.proofs.Slots.{ebreaks-after_store}

-- the byte of a word, by its list of bytes
pub get_or-to_le_bytes : (n k : ℕ) → k < 4 → get_or (to_le_bytes w32 n) k 0 ≡ byte_of n k
get_or-to_le_bytes n zero h = let e : n % 256 ≡ n / 1 % 256 = omega arith in e
get_or-to_le_bytes n (suc zero) h = refl
get_or-to_le_bytes n (suc (suc zero)) h = refl
get_or-to_le_bytes n (suc (suc (suc zero))) h = refl
get_or-to_le_bytes n (suc (suc (suc (suc k)))) h = absurd (omega arith)

small_byte : (n k : ℕ) → byte_of n k < 256
small_byte n k = omega arith

small_bytes : (n i : ℕ) → get_or (to_le_bytes w32 n) i 0 < 256
small_bytes n zero = omega arith
small_bytes n (suc zero) = omega arith
small_bytes n (suc (suc zero)) = omega arith
small_bytes n (suc (suc (suc zero))) = omega arith
small_bytes n (suc (suc (suc (suc i)))) = omega arith

small_after_set : (n place byte : ℕ) → byte < 256 → place < 4 → (i : ℕ) → get_or (set (to_le_bytes w32 n) place byte) i 0 < 256
small_after_set n place byte b h i =
    elim (cases_eq i place) as (λ _. get_or (set (to_le_bytes w32 n) place byte) i 0 < 256) [
      | inl e ↦ rw (e, get_or-set_same (to_le_bytes w32 n) place byte 0 h) b
      | inr ne ↦ rw (get_or-set_other (to_le_bytes w32 n) place i byte 0 ne) (small_bytes n i)
    ]

-- a byte of a word in which one byte was changed
byte_of-with_byte : (word place byte k : ℕ) → byte < 256 → place < 4 → k < 4 → byte_of (with_byte word place byte) k ≡ get_or (set (to_le_bytes w32 word) place byte) k 0
byte_of-with_byte word place byte k b h l =
    let bytes : List ℕ = set (to_le_bytes w32 word) place byte in
    sym (get_or-to_le_bytes (from_le_bytes w32 bytes) k l)
    ∙ ap (λ bs. get_or bs k 0) (le_bytes_4 bytes (from_le_bytes w32 bytes) (length-set (to_le_bytes w32 word) place byte) (small_after_set word place byte b h) refl)

byte_of-changed : (word place byte : ℕ) → byte < 256 → place < 4 → byte_of (with_byte word place byte) place ≡ byte
byte_of-changed word place byte b h = byte_of-with_byte word place byte place b h h ∙ get_or-set_same (to_le_bytes w32 word) place byte 0 h

byte_of-kept : (word place byte k : ℕ) → byte < 256 → place < 4 → k < 4 → k ≢ place → byte_of (with_byte word place byte) k ≡ byte_of word k
byte_of-kept word place byte k b h l ne =
    byte_of-with_byte word place byte k b h l
    ∙ get_or-set_other (to_le_bytes w32 word) place k byte 0 ne
    ∙ get_or-to_le_bytes word k l

small_word : (bs : List ℕ) → ((i : ℕ) → get_or bs i 0 < 256) → from_le_bytes w32 bs < 2 ^ 32
small_word bs small = omega (arith, small 0, small 1, small 2, small 3)

small-with_byte : (word place byte : ℕ) → byte < 256 → place < 4 → with_byte word place byte < 2 ^ 32
small-with_byte word place byte b h = small_word (set (to_le_bytes w32 word) place byte) (small_after_set word place byte b h)

-- four bytes that were read make a word, and the word is there
pub word_there : (m : Memory) (addr a b c d word : ℕ) → byte_at m addr ≡ Some a → byte_at m (addr + 1) ≡ Some b → byte_at m (addr + 2) ≡ Some c → byte_at m (addr + 3) ≡ Some d → a < 256 → b < 256 → c < 256 → d < 256 → word ≡ from_le_bytes w32 (a ∷ b ∷ c ∷ d ∷ []) → after_store m addr 4 word ≡ m
word_there m addr a b c d word ea eb ec ed ha hb hc hd e = same_bytes m addr 4 word at
  where
    at : (k : ℕ) → k < 4 → byte_at m (addr + k) ≡ Some (byte_of word k)
    at zero h = let zero_more : addr + 0 ≡ addr = omega arith in let low : a ≡ byte_of word 0 = omega (arith, e) in ap (byte_at m) zero_more ∙ ea ∙ ap Some low
    at (suc zero) h = let low : b ≡ byte_of word 1 = omega (arith, e) in eb ∙ ap Some low
    at (suc (suc zero)) h = let low : c ≡ byte_of word 2 = omega (arith, e) in ec ∙ ap Some low
    at (suc (suc (suc zero))) h = let low : d ≡ byte_of word 3 = omega (arith, e) in ed ∙ ap Some low
    at (suc (suc (suc (suc k)))) h = absurd (omega arith)

-- memory after one byte is written
abbrev pub after_byte : Memory → ℕ → ℕ → Memory
after_byte m addr byte = record m { bytes = insert m.bytes addr byte }

byte_at-after_byte : (m : Memory) (addr byte at : ℕ) → byte_at (after_byte m addr byte) at ≡ cond (eqb at addr) (Some byte) (byte_at m at)
byte_at-after_byte m addr byte at = get-insert nat_cmp_total m.bytes addr byte at ∙ ap (λ t. cond t (Some byte) (byte_at m at)) (unsigned_tied at addr)

-- it is a store of one byte
pub after_byte-store : (m : Memory) (addr byte : ℕ) → byte < 256 → after_byte m addr byte ≡ after_store m addr 1 byte
unfolding after_store
after_byte-store m addr byte b =
    let low : byte ≡ byte / 1 % 256 = omega arith in
    let here : addr ≡ addr + 0 = omega arith in
    ap (λ v. after_byte m addr v) low ∙ ap (λ a. after_byte m a (byte / 1 % 256)) here

-- a word that is written byte by byte
pub after_store-none : (m : Memory) (addr word : ℕ) → after_store m addr 0 word ≡ m
unfolding after_store
after_store-none m addr word = refl

pub mapped-next : (m n : Memory) (addr k word : ℕ) → access_fault m Fetch addr 4 ≡ None → k < 4 → n ≡ after_store m addr k word → is_mapped n (addr + k) ≡ true
mapped-next m n addr k word e h is =
    ap (λ x. is_mapped x (addr + k)) is
    ∙ ap is_some (byte_at-apart m addr k word (addr + k) (λ j l same. absurd (omega arith)))
    ∙ mapped-text m addr k e h

pub after_store-more : (m n after : Memory) (addr k word byte : ℕ) → n ≡ after_store m addr k word → after ≡ after_byte n (addr + k) byte → byte ≡ byte_of word k → after ≡ after_store m addr (k + 1) word
unfolding after_store
after_store-more m n after addr k word byte is written e =
    let more : k + 1 ≡ suc k = omega arith in
    written ∙ ap (λ x. after_byte x (addr + k) byte) is ∙ ap (λ b. after_byte (with_value m addr k word) (addr + k) b) e ∙ ap (λ i. with_value m addr i word) (sym more)

-- a byte written into a word
after_byte-word : (m : Memory) (addr word place byte : ℕ) → byte < 256 → place < 4 → after_byte (after_store m addr 4 word) (addr + place) byte ≡ after_store m addr 4 (with_byte word place byte)
after_byte-word m addr word place byte b h =
    same_memory (after_byte (after_store m addr 4 word) (addr + place) byte) (after_store m addr 4 (with_byte word place byte))
    (segments-after_store m addr 4 word ∙ sym (segments-after_store m addr 4 (with_byte word place byte)))
    (λ at.
    byte_at-after_byte (after_store m addr 4 word) (addr + place) byte at
    ∙ ap (λ o. cond (eqb at (addr + place)) (Some byte) o) (byte_at-after_store m addr 4 word at)
    ∙ by_place at (cases_eq at (addr + place)) (cases_Bool (is_within addr 4 at))
    ∙ sym (byte_at-after_store m addr 4 (with_byte word place byte) at))
  where
    by_place : (at : ℕ) → (at ≡ addr + place) ⊎ (at ≡ addr + place → ⊥) → (is_within addr 4 at ≡ true) ⊎ (is_within addr 4 at ≡ false) → cond (eqb at (addr + place)) (Some byte) (cond (is_within addr 4 at) (Some (byte_of word (at - addr))) (byte_at m at)) ≡ cond (is_within addr 4 at) (Some (byte_of (with_byte word place byte) (at - addr))) (byte_at m at)
    by_place at (inl e) w =
        let inside : is_within addr 4 at ≡ true = ap (λ t. t && ltb at (addr + 4)) (le-leb addr at (omega arith)) ∙ lt-ltb at (addr + 4) (omega arith) in
        let back : at - addr ≡ place = omega arith in
        ap (λ t. cond t (Some byte) (cond (is_within addr 4 at) (Some (byte_of word (at - addr))) (byte_at m at))) (eq-eqb at (addr + place) e)
        ∙ ap Some (sym (byte_of-changed word place byte b h))
        ∙ ap (λ k. Some (byte_of (with_byte word place byte) k)) (sym back)
        ∙ ap (λ t. cond t (Some (byte_of (with_byte word place byte) (at - addr))) (byte_at m at)) (sym inside)
    by_place at (inr ne) (inl e) =
        let parts = and_parts (leb addr at) (ltb at (addr + 4)) e in
        let low : addr ≤ at = leb-true addr at parts.0 in
        let high : at < addr + 4 = ltb-true at (addr + 4) parts.1 in
        ap (λ t. cond t (Some byte) (cond (is_within addr 4 at) (Some (byte_of word (at - addr))) (byte_at m at))) (ne_eqb at (addr + place) ne)
        ∙ ap (λ v. cond (is_within addr 4 at) (Some v) (byte_at m at)) (sym (byte_of-kept word place byte (at - addr) b h (omega arith) (λ same. ne (omega arith))))
    by_place at (inr ne) (inr e) =
        ap (λ t. cond t (Some byte) (cond (is_within addr 4 at) (Some (byte_of word (at - addr))) (byte_at m at))) (ne_eqb at (addr + place) ne)
        ∙ ap (λ t. cond t (Some (byte_of word (at - addr))) (byte_at m at)) e
        ∙ ap (λ t. cond t (Some (byte_of (with_byte word place byte) (at - addr))) (byte_at m at)) (sym e)

seen_cond : (b : Bool) (word at : ℕ) (other : Option ℕ) (below : Option ℕ) → cond b (Some (byte_of word (at % 4))) (byte_seen other at below) ≡ byte_seen (cond b (Some word) other) at below
seen_cond true word at other below = refl
seen_cond false word at other below = refl

-- an address is within a word where its word's address is that of the word
within_word : (addr at : ℕ) → addr % 4 ≡ 0 → is_within addr 4 at ≡ eqb addr (at - at % 4)
within_word addr at p =
    elim (cases_eq addr (at - at % 4)) as (λ _. is_within addr 4 at ≡ eqb addr (at - at % 4)) [
      | inl e ↦ (ap (λ t. t && ltb at (addr + 4)) (le-leb addr at (omega arith)) ∙ lt-ltb at (addr + 4) (omega arith)) ∙ sym (eq-eqb addr (at - at % 4) e)
      | inr ne ↦ elim (cases_lt at addr) as (λ _. is_within addr 4 at ≡ eqb addr (at - at % 4)) [
        | inl lt ↦ ap (λ t. t && ltb at (addr + 4)) (lt-leb addr at lt) ∙ sym (ne_eqb addr (at - at % 4) ne)
        | inr ge ↦ ap (λ t. t && ltb at (addr + 4)) (le-leb addr at ge) ∙ le-ltb at (addr + 4) (past ge ne) ∙ sym (ne_eqb addr (at - at % 4) ne)
      ]
    ]
  where
    past : addr ≤ at → addr ≢ at - at % 4 → addr + 4 ≤ at
    past ge ne = elim (cases_lt at (addr + 4)) as (λ _. addr + 4 ≤ at) [ inl lt ↦ absurd (ne (omega arith)) | inr le ↦ le ]

pub byte_at-with_words : (m : Memory) (ws : List (Option Saved)) (at : ℕ) → AreText m (addresses ws) → byte_at (with_words m ws) at ≡ byte_seen (saved_word ws (at - at % 4)) at (byte_at m at)
byte_at-with_words m [] at t = refl
byte_at-with_words m (None ∷ ws) at t = byte_at-with_words m ws at t
byte_at-with_words m (Some s ∷ ws) at t =
    byte_at-after_store (with_words m ws) s.addr 4 s.word at
    ∙ ap (λ o. cond (is_within s.addr 4 at) (Some (byte_of s.word (at - s.addr))) o) (byte_at-with_words m ws at t.1)
    ∙ ap (λ b. cond b (Some (byte_of s.word (at - s.addr))) (byte_seen (saved_word ws (at - at % 4)) at (byte_at m at))) (within_word s.addr at (aligned m s.addr t.0))
    ∙ place (cases_eq s.addr (at - at % 4))
    ∙ seen_cond (eqb s.addr (at - at % 4)) s.word at (saved_word ws (at - at % 4)) (byte_at m at)
  where
    place : (s.addr ≡ at - at % 4) ⊎ (s.addr ≡ at - at % 4 → ⊥) → cond (eqb s.addr (at - at % 4)) (Some (byte_of s.word (at - s.addr))) (byte_seen (saved_word ws (at - at % 4)) at (byte_at m at)) ≡ cond (eqb s.addr (at - at % 4)) (Some (byte_of s.word (at % 4))) (byte_seen (saved_word ws (at - at % 4)) at (byte_at m at))
    place (inl e) = let back : at - s.addr ≡ at % 4 = omega arith in ap (λ k. cond (eqb s.addr (at - at % 4)) (Some (byte_of s.word k)) (byte_seen (saved_word ws (at - at % 4)) at (byte_at m at))) back
    place (inr ne) =
        ap (λ b. cond b (Some (byte_of s.word (at - s.addr))) (byte_seen (saved_word ws (at - at % 4)) at (byte_at m at))) (ne_eqb s.addr (at - at % 4) ne)
        ∙ ap (λ b. cond b (Some (byte_of s.word (at % 4))) (byte_seen (saved_word ws (at - at % 4)) at (byte_at m at))) (sym (ne_eqb s.addr (at - at % 4) ne))

-- the words after a byte is written into one of them
poke_other : (ws : List (Option Saved)) (addr byte : ℕ) → has_address (addresses ws) (addr - addr % 4) ≡ false → map (after_poke addr byte) ws ≡ ws
poke_other [] addr byte e = refl
poke_other (None ∷ ws) addr byte e = ap (λ rest. None ∷ rest) (poke_other ws addr byte e)
poke_other (Some s ∷ ws) addr byte e =
    let parts = or_false (eqb s.addr (addr - addr % 4)) (has_address (addresses ws) (addr - addr % 4)) e in
    ap (λ b. cond b (Some (record s { word = with_byte s.word (addr % 4) byte })) (Some s) ∷ map (after_poke addr byte) ws) parts.0
    ∙ ap (λ rest. Some s ∷ rest) (poke_other ws addr byte parts.1)

pub address_of-poke : (w : Option Saved) (addr byte : ℕ) → address_of (after_poke addr byte w) ≡ address_of w
address_of-poke None addr byte = refl
address_of-poke (Some s) addr byte = by_address (eqb s.addr (addr - addr % 4))
  where
    by_address : (b : Bool) → address_of (cond b (Some (record s { word = with_byte s.word (addr % 4) byte })) (Some s)) ≡ Some s.addr
    by_address true = refl
    by_address false = refl

pub addresses-poke : (ws : List (Option Saved)) (addr byte : ℕ) → addresses (map (after_poke addr byte) ws) ≡ addresses ws
addresses-poke [] addr byte = refl
addresses-poke (w ∷ ws) addr byte =
    ap (λ xs. address_of (after_poke addr byte w) ∷ xs) (addresses-poke ws addr byte) ∙ ap (λ a. a ∷ addresses ws) (address_of-poke w addr byte)

ebreaks-poke : (m : Memory) (ws : List (Option Saved)) (addr byte : ℕ) → byte < 256 → HoldEbreaks m ws → HoldEbreaks m (map (after_poke addr byte) ws)
ebreaks-poke m [] addr byte b h = h
ebreaks-poke m (None ∷ ws) addr byte b h = ebreaks-poke m ws addr byte b h
ebreaks-poke m (Some s ∷ ws) addr byte b h = by_address (eqb s.addr (addr - addr % 4)) (ebreaks-poke m ws addr byte b h.2)
  where
    by_address : (t : Bool) → HoldEbreaks m (map (after_poke addr byte) ws) → HoldEbreaks m (cond t (Some (record s { word = with_byte s.word (addr % 4) byte })) (Some s) ∷ map (after_poke addr byte) ws)
    by_address true rest = (h.0, small-with_byte s.word (addr % 4) byte b (omega arith), rest)
    by_address false rest = (h.0, h.1, rest)

pub poked-kept : (m : Memory) (ws : List (Option Saved)) (addr byte : ℕ) → byte < 256 → IsKept m ws → IsKept m (map (after_poke addr byte) ws)
poked-kept m ws addr byte b kept = record {
  text = rw (addresses-poke ws addr byte) kept.text;
  distinct = rw (addresses-poke ws addr byte) kept.distinct;
  ebreaks = ebreaks-poke m ws addr byte b kept.ebreaks;
}

-- memory with the words after a byte is written into one of them
pub poked-memory : (m : Memory) (ws : List (Option Saved)) (addr byte word : ℕ) → byte < 256 → AreText m (addresses ws) → AreDistinct (addresses ws) → saved_word ws (addr - addr % 4) ≡ Some word → with_words m (map (after_poke addr byte) ws) ≡ after_byte (with_words m ws) addr byte
poked-memory m [] addr byte word b t d e = absurd (cc)
poked-memory m (None ∷ ws) addr byte word b t d e = poked-memory m ws addr byte word b t d e
poked-memory m (Some s ∷ ws) addr byte word b t d e = by_address (cases_Bool (eqb s.addr (addr - addr % 4))) (λ found. poked-memory m ws addr byte word b t.1 d.1 found)
  where
    head : (v : Bool) → eqb s.addr (addr - addr % 4) ≡ v → with_words m (map (after_poke addr byte) (Some s ∷ ws)) ≡ with_words m (cond v (Some (record s { word = with_byte s.word (addr % 4) byte })) (Some s) ∷ map (after_poke addr byte) ws)
    head v h = ap (λ v. with_words m (cond v (Some (record s { word = with_byte s.word (addr % 4) byte })) (Some s) ∷ map (after_poke addr byte) ws)) h

    outside : s.addr % 4 ≡ 0 → s.addr ≢ addr - addr % 4 → AreApart addr 1 s.addr 4
    outside p ne k j h l same = ne (omega arith)

    by_address : (eqb s.addr (addr - addr % 4) ≡ true) ⊎ (eqb s.addr (addr - addr % 4) ≡ false) → (saved_word ws (addr - addr % 4) ≡ Some word → with_words m (map (after_poke addr byte) ws) ≡ after_byte (with_words m ws) addr byte) → with_words m (map (after_poke addr byte) (Some s ∷ ws)) ≡ after_byte (after_store (with_words m ws) s.addr 4 s.word) addr byte
    by_address (inl here) further =
        let same : s.addr ≡ addr - addr % 4 = eqb-true s.addr (addr - addr % 4) here in
        let rest : has_address (addresses ws) (addr - addr % 4) ≡ false = rw (← same) d.0 in
        let whole : s.addr + addr % 4 ≡ addr = omega arith in
        head true here
        ∙ ap (λ xs. after_store (with_words m xs) s.addr 4 (with_byte s.word (addr % 4) byte)) (poke_other ws addr byte rest)
        ∙ sym (after_byte-word (with_words m ws) s.addr s.word (addr % 4) byte b (omega arith))
        ∙ ap (λ a. after_byte (after_store (with_words m ws) s.addr 4 s.word) a byte) whole
    by_address (inr other) further =
        let found : saved_word ws (addr - addr % 4) ≡ Some word = sym (ap (λ v. cond v (Some s.word) (saved_word ws (addr - addr % 4))) other) ∙ e in
        head false other
        ∙ ap (λ x. after_store x s.addr 4 s.word) (further found ∙ after_byte-store (with_words m ws) addr byte b)
        ∙ stores_commute (with_words m ws) addr 1 byte s.addr 4 s.word (outside (aligned m s.addr t.0) (other_address s.addr (addr - addr % 4) other))
        ∙ sym (after_byte-store (after_store (with_words m ws) s.addr 4 s.word) addr byte b)

-- nothing is mapped where nothing is mapped in memory without the words
pub unmapped : (m : Memory) (ws : List (Option Saved)) (at : ℕ) → AreText m (addresses ws) → byte_at m at ≡ None → byte_at (with_words m ws) at ≡ None
unmapped m ws at t none = byte_at-with_words m ws at t ∙ by_word (saved_word ws (at - at % 4)) refl
  where
    by_word : (o : Option ℕ) → saved_word ws (at - at % 4) ≡ o → byte_seen (saved_word ws (at - at % 4)) at (byte_at m at) ≡ None
    by_word None e = ap (λ o. byte_seen o at (byte_at m at)) e ∙ none
    by_word (Some word) e =
        let whole : at - at % 4 + at % 4 ≡ at = omega arith in
        let there : is_mapped m at ≡ true = sym (ap (is_mapped m) whole) ∙ mapped-text m (at - at % 4) (at % 4) (text-saved m ws (at - at % 4) word t e) (omega arith) in
        let nothing : is_some (byte_at m at) ≡ false = ap is_some none in
        absurd (false≢true (sym nothing ∙ there))

-- a byte is mapped where it is in memory without the words
pub mapped : (m : Memory) (ws : List (Option Saved)) (at byte : ℕ) → AreText m (addresses ws) → byte_at m at ≡ Some byte → byte_at (with_words m ws) at ≢ None
mapped m ws at byte t some none = by_word (saved_word ws (at - at % 4)) (sym (byte_at-with_words m ws at t ∙ ap (byte_seen (saved_word ws (at - at % 4)) at) some) ∙ none)
  where
    by_word : (o : Option ℕ) → byte_seen o at (Some byte) ≡ None → ⊥
    by_word None e = cc
    by_word (Some word) e = cc

-- a byte that is written beside the words
module _ (m n : Memory) (ws : List (Option Saved)) (addr byte : ℕ) (small : byte < 256) (there : is_mapped m addr ≡ true) (other : has_address (addresses ws) (addr - addr % 4) ≡ false) (kept : IsKept m ws) (written : n ≡ after_byte m addr byte) where
  stored_there : n ≡ after_store m addr 1 byte
  stored_there = written ∙ after_byte-store m addr byte small

  apart_there : AllApart addr 1 (addresses ws)
  apart_there = apart-byte m (addresses ws) addr kept.text other

  one_mapped : all_bytes (is_mapped m) addr 1 ≡ true
  one_mapped = let here : addr + 0 ≡ addr = omega arith in ap (is_mapped m) here ∙ there

  pub beside-kept : IsKept n ws
  beside-kept = rw stored_there (record {
    text = text-after_write m (addresses ws) addr 1 byte one_mapped kept.text;
    distinct = kept.distinct;
    ebreaks = ebreaks-after_store m ws addr 1 byte apart_there kept.ebreaks;
  })

  pub beside-memory : with_words n ws ≡ after_byte (with_words m ws) addr byte
  beside-memory =
      ap (λ x. with_words x ws) stored_there
      ∙ words-after_store m ws addr 1 byte apart_there
      ∙ sym (after_byte-store (with_words m ws) addr byte small)
