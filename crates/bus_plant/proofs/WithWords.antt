-- Memory with words of text in it: what accesses see, and what writes do to it.
use Rattle.std.proofs.Common.{◌≡◌, ◌≢◌, ℕ, zero, suc, ◌+◌, ◌-◌, ◌*◌, ◌%◌, ◌^◌, ◌<◌, eqb, Bool, true, false, cond, ◌||◌, ◌&&◌, inl, inr, List, [], ◌∷◌, Option, Some, None, Ok, Err, is_ok, Result, refl, sym, ap, ◌∙◌, lit<, arith}
use Rattle.std.proofs.lemmas.Bool.{eqb-true, eq-eqb, ne_eqb, false≢true, cases_Bool}
use Rattle.mach_base.specs.Bytes.{all_bytes, is_mapped, number_in}
use Rattle.mach_base.specs.Machine.{Memory, byte_at, is_text_word, is_text_segment, segment_at}
use Rattle.mach_base.specs.declared.event.Fault.{Fault}
use Rattle.mem_map.specs.Access.{access_fault, after_store, fetch_result, store_fault, unless_fault}
use Rattle.mem_map.specs.Laws.{AreApart}
use Rattle.mem_map.specs.declared.rights.Access.{Access}
use Rattle.mem_map.specs.declared.rights.Access.TheVariants.{Fetch, Load, Store}
use Rattle.mem_map.proofs.Stores.{passes, all_bytes-at, write_keeps, segments-after_store, number_in-after_store}
use Rattle.mem_map.proofs.Twice.{stores_commute, last_remains, text_apart, number_in-apart}
use Rattle.rv_table.specs.Rows.{ebreak_word}
use Rattle.bus_plant.specs.Planted.{with_ebreaks, has_address, AreText, AreDistinct}
use Rattle.bus_plant.specs.Saved.{address_of, addresses, with_words, saved_word, HoldEbreaks}
use Rattle.bus_plant.specs.declared.saved.Saved.{Saved}

-- the words are apart from an access
abbrev pub AllApart : ℕ → ℕ → List (Option ℕ) → Type 0
AllApart at size [] = Unit {0}
AllApart at size (None ∷ rest) = AllApart at size rest
AllApart at size (Some addr ∷ rest) = AreApart addr 4 at size × AllApart at size rest

-- the segments
pub segments-with_words : (m : Memory) (ws : List (Option Saved)) → (with_words m ws).segments ≡ m.segments
segments-with_words m [] = refl
segments-with_words m (None ∷ ws) = segments-with_words m ws
segments-with_words m (Some s ∷ ws) = segments-after_store (with_words m ws) s.addr 4 s.word ∙ segments-with_words m ws

-- the words of text are the same
pub is_text-with_words : (m : Memory) (ws : List (Option Saved)) (addr : ℕ) → is_text_word m addr ≡ is_text_word (with_words m ws) addr
is_text-with_words m ws addr = ap (λ ss. eqb (addr % 4) 0 && is_text_segment (segment_at ss addr)) (sym (segments-with_words m ws))

-- each access faults as before
pub faults-with_words : (m : Memory) (ws : List (Option Saved)) → AreText m (addresses ws) → (access : Access) (at size : ℕ) → access_fault (with_words m ws) access at size ≡ access_fault m access at size
faults-with_words m [] t access at size = refl
faults-with_words m (None ∷ ws) t access at size = faults-with_words m ws t access at size
faults-with_words m (Some s ∷ ws) t access at size =
    write_keeps (with_words m ws) s.addr 4 s.word (passes (with_words m ws) Fetch s.addr 4 (faults-with_words m ws t.1 Fetch s.addr 4 ∙ t.0)).mapped access at size
    ∙ faults-with_words m ws t.1 access at size

-- words of text stay words of text where all accesses fault as before
pub text-same : (m n : Memory) (xs : List (Option ℕ)) → ((access : Access) (at size : ℕ) → access_fault n access at size ≡ access_fault m access at size) → AreText m xs → AreText n xs
text-same m n [] same t = t
text-same m n (None ∷ xs) same t = text-same m n xs same t
text-same m n (Some a ∷ xs) same t = (same Fetch a 4 ∙ t.0, text-same m n xs same t.1)

pub text-after_write : (m : Memory) (xs : List (Option ℕ)) (at size value : ℕ) → all_bytes (is_mapped m) at size ≡ true → AreText m xs → AreText (after_store m at size value) xs
text-after_write m xs at size value e t = text-same m (after_store m at size value) xs (write_keeps m at size value e) t

pub text-after_store : (m : Memory) (xs : List (Option ℕ)) (addr word : ℕ) → access_fault m Fetch addr 4 ≡ None → AreText m xs → AreText (after_store m addr 4 word) xs
text-after_store m xs addr word e t = text-after_write m xs addr 4 word (passes m Fetch addr 4 e).mapped t

pub text-with_words : (m : Memory) (ws : List (Option Saved)) (xs : List (Option ℕ)) → AreText m (addresses ws) → AreText m xs → AreText (with_words m ws) xs
text-with_words m ws xs t u = text-same m (with_words m ws) xs (faults-with_words m ws t) u

-- a write apart from the words
pub words-after_store : (m : Memory) (ws : List (Option Saved)) (at size value : ℕ) → AllApart at size (addresses ws) → with_words (after_store m at size value) ws ≡ after_store (with_words m ws) at size value
words-after_store m [] at size value apart = refl
words-after_store m (None ∷ ws) at size value apart = words-after_store m ws at size value apart
words-after_store m (Some s ∷ ws) at size value apart =
    ap (λ x. after_store x s.addr 4 s.word) (words-after_store m ws at size value apart.1)
    ∙ stores_commute (with_words m ws) at size value s.addr 4 s.word (λ k j h l e. apart.0 j k l h (sym e))

-- a number apart from the words
pub number_in-with_words : (m : Memory) (ws : List (Option Saved)) (at size : ℕ) → AllApart at size (addresses ws) → number_in (with_words m ws) at size ≡ number_in m at size
number_in-with_words m [] at size apart = refl
number_in-with_words m (None ∷ ws) at size apart = number_in-with_words m ws at size apart
number_in-with_words m (Some s ∷ ws) at size apart = number_in-apart (with_words m ws) s.addr 4 s.word at size apart.0 ∙ number_in-with_words m ws at size apart.1

-- what is loaded or stored without fault is apart from words of text
pub apart-rights : (m : Memory) (xs : List (Option ℕ)) (access : Access) (at size : ℕ) → access ≢ Fetch → access_fault m access at size ≡ None → AreText m xs → AllApart at size xs
apart-rights m [] access at size ne e t = tt
apart-rights m (None ∷ xs) access at size ne e t = apart-rights m xs access at size ne e t
apart-rights m (Some a ∷ xs) access at size ne e t = (text_apart m access a 4 at size ne t.0 e, apart-rights m xs access at size ne e t.1)

pub load≢fetch : Load ≢ Fetch
load≢fetch e = cc

pub store≢fetch : Store ≢ Fetch
store≢fetch e = cc

-- where a fetch doesn't fault the address is a multiple of 4
pub aligned : (m : Memory) (addr : ℕ) → access_fault m Fetch addr 4 ≡ None → addr % 4 ≡ 0
aligned m addr e = eqb-true (addr % 4) 0 (passes m Fetch addr 4 e).aligned

-- each byte of a word of text is mapped
pub mapped-text : (m : Memory) (addr k : ℕ) → access_fault m Fetch addr 4 ≡ None → k < 4 → is_mapped m (addr + k) ≡ true
mapped-text m addr k e h = all_bytes-at (is_mapped m) addr 4 k (passes m Fetch addr 4 e).mapped h

pub mapped-first : (m : Memory) (addr : ℕ) → access_fault m Fetch addr 4 ≡ None → is_mapped m addr ≡ true
mapped-first m addr e =
    let none : addr + 0 ≡ addr = omega arith in
    sym (ap (is_mapped m) none) ∙ mapped-text m addr 0 e (lit< tt)

-- different words share no byte
pub words_apart : (a b : ℕ) → a % 4 ≡ 0 → b % 4 ≡ 0 → a ≢ b → AreApart a 4 b 4
words_apart a b p q ne k j h l e = ne (omega arith)

pub or_false : (a b : Bool) → (a || b) ≡ false → (a ≡ false) × (b ≡ false)
or_false true b e = absurd (false≢true (sym e))
or_false false b e = (refl, e)

pub other_address : (a b : ℕ) → eqb a b ≡ false → a ≢ b
other_address a b e same = false≢true (sym e ∙ eq-eqb a b same)

-- a word at another address
pub apart-addresses : (m : Memory) (xs : List (Option ℕ)) (at : ℕ) → at % 4 ≡ 0 → AreText m xs → has_address xs at ≡ false → AllApart at 4 xs
apart-addresses m [] at p t e = tt
apart-addresses m (None ∷ xs) at p t e = apart-addresses m xs at p t e
apart-addresses m (Some a ∷ xs) at p t e =
    let parts = or_false (eqb a at) (has_address xs at) e in
    (words_apart a at (aligned m a t.0) p (other_address a at parts.0), apart-addresses m xs at p t.1 parts.1)

-- a byte of no word
pub apart-byte : (m : Memory) (xs : List (Option ℕ)) (at : ℕ) → AreText m xs → has_address xs (at - at % 4) ≡ false → AllApart at 1 xs
apart-byte m [] at t e = tt
apart-byte m (None ∷ xs) at t e = apart-byte m xs at t e
apart-byte m (Some a ∷ xs) at t e =
    let parts = or_false (eqb a (at - at % 4)) (has_address xs (at - at % 4)) e in
    (outside (aligned m a t.0) (other_address a (at - at % 4) parts.0), apart-byte m xs at t.1 parts.1)
  where
    outside : a % 4 ≡ 0 → a ≢ at - at % 4 → AreApart a 4 at 1
    outside p ne k j h l same = ne (omega arith)

-- where a fetch faults, and what it gives where it doesn't
pub fetch_result-Some : (m : Memory) (at : ℕ) (fault : Fault) → access_fault m Fetch at 4 ≡ Some fault → fetch_result m at ≡ Err fault
unfolding fetch_result
fetch_result-Some m at fault e = ap (λ o. unless_fault o (number_in m at 4)) e

pub fetch_result-None : (m : Memory) (at : ℕ) → access_fault m Fetch at 4 ≡ None → fetch_result m at ≡ Ok (number_in m at 4)
unfolding fetch_result
fetch_result-None m at e = ap (λ o. unless_fault o (number_in m at 4)) e

-- a fetch from another word
pub fetch-elsewhere : (m : Memory) (ws : List (Option Saved)) (at : ℕ) → AreText m (addresses ws) → has_address (addresses ws) at ≡ false → fetch_result (with_words m ws) at ≡ fetch_result m at
fetch-elsewhere m ws at t other = by_fault (access_fault m Fetch at 4) refl
  where
    by_fault : (o : Option Fault) → access_fault m Fetch at 4 ≡ o → fetch_result (with_words m ws) at ≡ fetch_result m at
    by_fault (Some fault) e = fetch_result-Some (with_words m ws) at fault (faults-with_words m ws t Fetch at 4 ∙ e) ∙ sym (fetch_result-Some m at fault e)
    by_fault None e =
        fetch_result-None (with_words m ws) at (faults-with_words m ws t Fetch at 4 ∙ e)
        ∙ ap Ok (number_in-with_words m ws at 4 (apart-addresses m (addresses ws) at (aligned m at e) t other))
        ∙ sym (fetch_result-None m at e)

-- the number of a word that is there
pub number_in-saved : (m : Memory) (ws : List (Option Saved)) (at word : ℕ) → AreText m (addresses ws) → at % 4 ≡ 0 → saved_word ws at ≡ Some word → number_in (with_words m ws) at 4 ≡ word % 256 ^ 4
number_in-saved m [] at word t p e = absurd (cc)
number_in-saved m (None ∷ ws) at word t p e = number_in-saved m ws at word t p e
number_in-saved m (Some s ∷ ws) at word t p e = by_address (eqb s.addr at) refl e (λ f. number_in-saved m ws at word t.1 p f)
  where
    by_address : (b : Bool) → eqb s.addr at ≡ b → cond b (Some s.word) (saved_word ws at) ≡ Some word → (saved_word ws at ≡ Some word → number_in (with_words m ws) at 4 ≡ word % 256 ^ 4) → number_in (after_store (with_words m ws) s.addr 4 s.word) at 4 ≡ word % 256 ^ 4
    by_address true here f rest =
        let same : s.addr ≡ at = eqb-true s.addr at here in
        let word_is : s.word ≡ word = cc in
        ap (λ a. number_in (after_store (with_words m ws) s.addr 4 s.word) a 4) (sym same)
        ∙ number_in-after_store (with_words m ws) s.addr 4 s.word 4 (omega arith)
        ∙ ap (λ w. w % 256 ^ 4) word_is
    by_address false other f rest =
        number_in-apart (with_words m ws) s.addr 4 s.word at 4 (words_apart s.addr at (aligned m s.addr t.0) p (other_address s.addr at other))
        ∙ rest f

-- the words' addresses are those of text
pub text-saved : (m : Memory) (ws : List (Option Saved)) (at word : ℕ) → AreText m (addresses ws) → saved_word ws at ≡ Some word → access_fault m Fetch at 4 ≡ None
text-saved m [] at word t e = absurd (cc)
text-saved m (None ∷ ws) at word t e = text-saved m ws at word t e
text-saved m (Some s ∷ ws) at word t e = by_address (eqb s.addr at) refl e (λ f. text-saved m ws at word t.1 f)
  where
    by_address : (b : Bool) → eqb s.addr at ≡ b → cond b (Some s.word) (saved_word ws at) ≡ Some word → (saved_word ws at ≡ Some word → access_fault m Fetch at 4 ≡ None) → access_fault m Fetch at 4 ≡ None
    by_address true here f rest = ap (λ a. access_fault m Fetch a 4) (sym (eqb-true s.addr at here)) ∙ t.0
    by_address false other f rest = rest f

pub small-saved : (m : Memory) (ws : List (Option Saved)) (at word : ℕ) → HoldEbreaks m ws → saved_word ws at ≡ Some word → word < 2 ^ 32
small-saved m [] at word t e = absurd (cc)
small-saved m (None ∷ ws) at word t e = small-saved m ws at word t e
small-saved m (Some s ∷ ws) at word t e = by_address (eqb s.addr at) e (λ f. small-saved m ws at word t.2 f)
  where
    by_address : (b : Bool) → cond b (Some s.word) (saved_word ws at) ≡ Some word → (saved_word ws at ≡ Some word → word < 2 ^ 32) → word < 2 ^ 32
    by_address true f rest = let same : s.word ≡ word = cc in rw (← same) t.1
    by_address false f rest = rest f

pub has_address-saved : (ws : List (Option Saved)) (at : ℕ) → saved_word ws at ≡ None → has_address (addresses ws) at ≡ false
has_address-saved [] at e = refl
has_address-saved (None ∷ ws) at e = has_address-saved ws at e
has_address-saved (Some s ∷ ws) at e = by_address (eqb s.addr at) e (λ f. has_address-saved ws at f)
  where
    by_address : (b : Bool) → cond b (Some s.word) (saved_word ws at) ≡ None → (saved_word ws at ≡ None → has_address (addresses ws) at ≡ false) → (b || has_address (addresses ws) at) ≡ false
    by_address true f rest = absurd (cc)
    by_address false f rest = rest f

-- a fetch of a word that is there
pub fetch-there : (m : Memory) (ws : List (Option Saved)) (at word : ℕ) → AreText m (addresses ws) → word < 2 ^ 32 → saved_word ws at ≡ Some word → fetch_result (with_words m ws) at ≡ Ok word
fetch-there m ws at word t small e =
    let text : access_fault m Fetch at 4 ≡ None = text-saved m ws at word t e in
    let whole : word % 256 ^ 4 ≡ word = omega arith in
    fetch_result-None (with_words m ws) at (faults-with_words m ws t Fetch at 4 ∙ text)
    ∙ ap Ok (number_in-saved m ws at word t (aligned m at text) e ∙ whole)

-- a fetch that gives a word doesn't fault
pub faultless : (m : Memory) (addr : ℕ) → is_ok (fetch_result m addr) ≡ true → access_fault m Fetch addr 4 ≡ None
unfolding fetch_result
faultless m addr e = by_fault (access_fault m Fetch addr 4) e
  where
    by_fault : (o : Option Fault) → is_ok (unless_fault o (number_in m addr 4)) ≡ true → o ≡ None
    by_fault None f = refl
    by_fault (Some fault) f = absurd (false≢true f)
