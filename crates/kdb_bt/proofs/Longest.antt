-- The frames of a hart are the longest chain.
use Rattle.std.proofs.Common.{◌≡◌, ◌≢◌, ℕ, zero, suc, ◌<◌, ◌≤◌, ◌==◌, Bool, true, false, cond, nat_lt, List, [], ◌∷◌, ◌++◌, length, map, Option, Some, None, slice_index, refl, sym, ap, subst, ◌∙◌, arith, rules, inl, inr}
use Rattle.std.specs.Prelude.{◌⊎◌}
use Rattle.std.proofs.lemmas.Bool.{false≢true, ltb-true}
use Rattle.std.proofs.lemmas.Bool.Decides.{nat_tests}
use Rattle.std.proofs.lemmas.List.{append-nil}
use Rattle.mach_base.specs.Machine.{Memory, Context}
use Rattle.kdb_bt.specs.declared.frame.Frame.{Frame}
use Rattle.kdb_bt.specs.Frames.{frame_at, from_frame, return_addresses}
use Rattle.kdb_bt.specs.Chains.{HasFrame, IsChain, AreFrames, FramesAreTheLongestChain, FramesAreUnique}

abbrev returned : Frame → ℕ
returned frame = frame.return_address

-- the frames from a frame pointer on, at most so many
abbrev from : ℕ → Option Frame → (ℕ → List Frame) → List Frame
from pointer None rest = []
from pointer (Some frame) rest =
    cond (frame.return_address == 0) [] (frame ∷ cond (nat_lt pointer frame.caller) (rest frame.caller) [])

abbrev chain_of : Memory → ℕ → ℕ → List Frame
chain_of m zero pointer = []
chain_of m (suc n) pointer = from pointer (frame_at m pointer) (λ caller. chain_of m n caller)

-- their return addresses

addresses_from : (pointer : ℕ) (o : Option Frame) (frames : ℕ → List Frame) (addresses : ℕ → List ℕ) → ((caller : ℕ) → map returned (frames caller) ≡ addresses caller) → map returned (from pointer o frames) ≡ from_frame pointer o addresses
addresses_from pointer None frames addresses h = refl
addresses_from pointer (Some f) frames addresses h = by_tests (f.return_address == 0) (nat_lt pointer f.caller)
  where
    by_tests : (zero_is above : Bool) → map returned (cond zero_is [] (f ∷ cond above (frames f.caller) [])) ≡ cond zero_is [] (f.return_address ∷ cond above (addresses f.caller) [])
    by_tests true above = refl
    by_tests false true = ap (λ (xs : List ℕ). f.return_address ∷ xs) (h f.caller)
    by_tests false false = refl

addresses_of : (m : Memory) (n pointer : ℕ) → map returned (chain_of m n pointer) ≡ return_addresses m n pointer
unfolding return_addresses
addresses_of m zero pointer = refl
addresses_of m (suc n) pointer = addresses_from pointer (frame_at m pointer) (λ caller. chain_of m n caller) (λ caller. return_addresses m n caller) (λ caller. addresses_of m n caller)

-- how many they are

few_from : (pointer n : ℕ) (o : Option Frame) (frames : ℕ → List Frame) → ((caller : ℕ) → length (frames caller) ≤ n) → length (from pointer o frames) ≤ suc n
few_from pointer n None frames h = omega arith
few_from pointer n (Some f) frames h = by_tests (f.return_address == 0) (nat_lt pointer f.caller)
  where
    by_tests : (zero_is above : Bool) → length (cond zero_is [] (f ∷ cond above (frames f.caller) [])) ≤ suc n
    by_tests true above = omega arith
    by_tests false true = let few = h f.caller in omega arith
    by_tests false false = omega arith

few_of : (m : Memory) (n pointer : ℕ) → length (chain_of m n pointer) ≤ n
few_of m zero pointer = omega arith
few_of m (suc n) pointer = few_from pointer n (frame_at m pointer) (λ caller. chain_of m n caller) (λ caller. few_of m n caller)

-- they are a chain

one_more : (m : Memory) (pointer : ℕ) (f : Frame) (frames : List Frame) → HasFrame m pointer f → pointer < f.caller → IsChain m f.caller frames → IsChain m pointer (f ∷ frames)
one_more m pointer f [] has above chain = has
one_more m pointer f (next ∷ rest) has above chain = (has, above, chain)

not_zero : (n : ℕ) → (n == 0) ≡ false → n ≢ 0
not_zero n e = λ h. false≢true (sym (rw h at e))

chain_from : (m : Memory) (pointer : ℕ) (o : Option Frame) (frames : ℕ → List Frame) → frame_at m pointer ≡ o → ((caller : ℕ) → IsChain m caller (frames caller)) → IsChain m pointer (from pointer o frames)
chain_from m pointer None frames is h = tt
chain_from m pointer (Some f) frames is h = by_tests (f.return_address == 0) (nat_lt pointer f.caller) refl refl
  where
    by_tests : (zero_is above : Bool) → (f.return_address == 0) ≡ zero_is → nat_lt pointer f.caller ≡ above → IsChain m pointer (cond zero_is [] (f ∷ cond above (frames f.caller) []))
    by_tests true above z b = tt
    by_tests false true z b = one_more m pointer f (frames f.caller) (record { stands = is; returns = not_zero f.return_address z }) (ltb-true pointer f.caller b) (h f.caller)
    by_tests false false z b = record { stands = is; returns = not_zero f.return_address z }

chain_is : (m : Memory) (n pointer : ℕ) → IsChain m pointer (chain_of m n pointer)
chain_is m zero pointer = tt
chain_is m (suc n) pointer = chain_from m pointer (frame_at m pointer) (λ caller. chain_of m n caller) refl (λ caller. chain_is m n caller)

-- and none goes on from them

first_of_chain : (m : Memory) (pointer : ℕ) (f : Frame) (rest : List Frame) → IsChain m pointer (f ∷ rest) → HasFrame m pointer f
first_of_chain m pointer f [] chain = chain
first_of_chain m pointer f (next ∷ rest) chain = chain.0

rest_of_chain : (m : Memory) (pointer : ℕ) (f : Frame) (rest : List Frame) → IsChain m pointer (f ∷ rest) → IsChain m f.caller rest
rest_of_chain m pointer f [] chain = tt
rest_of_chain m pointer f (next ∷ rest) chain = chain.2

none_at : (m : Memory) (pointer : ℕ) (more : List Frame) → frame_at m pointer ≡ None → IsChain m pointer more → more ≡ []
none_at m pointer [] is chain = refl
none_at m pointer (f ∷ rest) is chain =
    let has = first_of_chain m pointer f rest chain in
    let both : ◌≡◌ {A = Option Frame} None (Some f) = sym is ∙ has.stands in
    absurd (cc)

none_returns : (m : Memory) (pointer : ℕ) (f : Frame) (more : List Frame) → frame_at m pointer ≡ Some f → f.return_address ≡ 0 → IsChain m pointer more → more ≡ []
none_returns m pointer f [] is z chain = refl
none_returns m pointer f (g ∷ rest) is z chain =
    let has = first_of_chain m pointer g rest chain in
    let same : f ≡ g = cc in
    absurd (has.returns (ap returned (sym same) ∙ z))

none_above : (m : Memory) (pointer : ℕ) (f : Frame) (more : List Frame) → nat_lt pointer f.caller ≡ false → IsChain m pointer (f ∷ more) → more ≡ []
none_above m pointer f [] b chain = refl
none_above m pointer f (next ∷ rest) b chain =
    let above : pointer < f.caller = chain.1 in
    absurd (grind (arith, nat_tests))

longest_from : (m : Memory) (pointer n : ℕ) (o : Option Frame) (frames : ℕ → List Frame) (more : List Frame) → frame_at m pointer ≡ o → ((caller : ℕ) → IsChain m caller (frames caller ++ more) → length (frames caller ++ more) ≤ n → more ≡ []) → IsChain m pointer (from pointer o frames ++ more) → length (from pointer o frames ++ more) ≤ suc n → more ≡ []
longest_from m pointer n None frames more is h chain few = none_at m pointer more is chain
longest_from m pointer n (Some f) frames more is h chain few = by_tests (f.return_address == 0) (nat_lt pointer f.caller) refl refl chain few
  where
    is_zero : (k : ℕ) → (k == 0) ≡ true → k ≡ 0
    is_zero k e = search rules

    by_tests : (zero_is above : Bool) → (f.return_address == 0) ≡ zero_is → nat_lt pointer f.caller ≡ above → IsChain m pointer (cond zero_is [] (f ∷ cond above (frames f.caller) []) ++ more) → length (cond zero_is [] (f ∷ cond above (frames f.caller) []) ++ more) ≤ suc n → more ≡ []
    by_tests true above z b chain few = none_returns m pointer f more is (is_zero f.return_address z) chain
    by_tests false true z b chain few =
        let fewer : length (frames f.caller ++ more) ≤ n = omega arith in
        h f.caller (rest_of_chain m pointer f (frames f.caller ++ more) chain) fewer
    by_tests false false z b chain few = none_above m pointer f more b chain

longest_is : (m : Memory) (n pointer : ℕ) (more : List Frame) → IsChain m pointer (chain_of m n pointer ++ more) → length (chain_of m n pointer ++ more) ≤ n → more ≡ []
longest_is m zero pointer [] chain few = refl
longest_is m zero pointer (f ∷ rest) chain few = absurd (omega arith)
longest_is m (suc n) pointer more chain few = longest_from m pointer n (frame_at m pointer) (λ caller. chain_of m n caller) more refl (λ caller. λ goes_on. λ fewer. longest_is m n caller more goes_on fewer) chain few

pub frames_are_the_longest : FramesAreTheLongestChain
frames_are_the_longest m c =
    let start = slice_index c.registers 8 in
    record {
      frames = chain_of m 63 start;
      whole = ap (λ (xs : List ℕ). c.pc ∷ xs) (sym (addresses_of m 63 start));
      chain = chain_is m 63 start;
      few = few_of m 63 start;
      longest = λ more. λ chain. λ few. longest_is m 63 start more chain few;
    }

-- Of two chains from one frame pointer on, one goes on from the other.

abbrev GoesOn : List Frame → List Frame → Type 0
GoesOn short long = (more : List Frame) × (long ≡ short ++ more)

both_more : (f g : Frame) (xs ys : List Frame) → f ≡ g → GoesOn xs ys ⊎ GoesOn ys xs → GoesOn (f ∷ xs) (g ∷ ys) ⊎ GoesOn (g ∷ ys) (f ∷ xs)
both_more f g xs ys same (inl longer) = inl (longer.0, rw same (ap (λ (zs : List Frame). g ∷ zs) longer.1))
both_more f g xs ys same (inr longer) = inr (longer.0, rw same (ap (λ (zs : List Frame). g ∷ zs) longer.1))

goes_on : (m : Memory) (pointer : ℕ) (xs ys : List Frame) → IsChain m pointer xs → IsChain m pointer ys → GoesOn xs ys ⊎ GoesOn ys xs
goes_on m pointer [] ys one other = inl (ys, refl)
goes_on m pointer (f ∷ xs) [] one other = inr (f ∷ xs, refl)
goes_on m pointer (f ∷ xs) (g ∷ ys) one other =
    let a = first_of_chain m pointer f xs one in
    let b = first_of_chain m pointer g ys other in
    let both : ◌≡◌ {A = Option Frame} (Some f) (Some g) = sym a.stands ∙ b.stands in
    let same : f ≡ g = cc in
    both_more f g xs ys same (goes_on m f.caller xs ys (rest_of_chain m pointer f xs one) (subst (λ (h : Frame). IsChain m h.caller ys) (sym same) (rest_of_chain m pointer g ys other)))

ends_there : (m : Memory) (c : Context) (short long : List Frame) → IsChain m (slice_index c.registers 8) long → length long ≤ 63 → ((more : List Frame) → IsChain m (slice_index c.registers 8) (short ++ more) → length (short ++ more) ≤ 63 → more ≡ []) → GoesOn short long → long ≡ short
ends_there m c short long chain few longest longer =
    let none : longer.0 ≡ [] = longest longer.0 (subst (IsChain m (slice_index c.registers 8)) longer.1 chain) (subst (λ (xs : List Frame). length xs ≤ 63) longer.1 few) in
    longer.1 ∙ ap (λ (more : List Frame). short ++ more) none ∙ append-nil short

same_frames : (m : Memory) (c : Context) (one other : List ℕ) (a : AreFrames m c one) (b : AreFrames m c other) → GoesOn a.frames b.frames ⊎ GoesOn b.frames a.frames → a.frames ≡ b.frames
same_frames m c one other a b (inl longer) = sym (ends_there m c a.frames b.frames b.chain b.few a.longest longer)
same_frames m c one other a b (inr longer) = ends_there m c b.frames a.frames a.chain a.few b.longest longer

pub frames_are_unique : FramesAreUnique
frames_are_unique m c one other a b =
    a.whole
    ∙ ap (λ (frames : List Frame). c.pc ∷ map returned frames) (same_frames m c one other a b (goes_on m (slice_index c.registers 8) a.frames b.frames a.chain b.chain))
    ∙ sym b.whole
