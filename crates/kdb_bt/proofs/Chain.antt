-- The lines of the frames, one after the other.
use Rattle.std.proofs.Common.{◌≡◌, ℕ, suc, ◌+◌, ◌-◌, ◌<◌, ◌≤◌, nat_lt, true, false, List, [], ◌∷◌, ◌++◌, Some, None, refl, sym, ap, ◌∙◌, append_assoc, arith}
use Rattle.std.proofs.lemmas.List.{append-nil}
use Rattle.std.proofs.lemmas.Bool.{ne_eqb}
use Rattle.std.proofs.lemmas.Bool.Decides.{nat_tests}
use Rattle.mach_base.specs.Machine.{Memory, Symbol}
use Rattle.kdb_bt.specs.declared.frame.Frame.{Frame}
use Rattle.kdb_bt.specs.Frames.{frame_at, from_frame, return_addresses}
use Rattle.kdb_bt.specs.Texts.{frame_text, frames_text}

-- what is printed from a frame of this number on
abbrev pub rest_text : Memory → List Symbol → ℕ → ℕ → List ℕ
rest_text m symbols number pointer = frames_text symbols number (return_addresses m (64 - number) pointer)

one_of : (m : Memory) (number pointer : ℕ) → number < 64 → return_addresses m (64 - number) pointer ≡ from_frame pointer (frame_at m pointer) (λ caller. return_addresses m (64 - (number + 1)) caller)
unfolding return_addresses
one_of m number pointer few =
    let more : 64 - number ≡ suc (64 - (number + 1)) = omega arith in
    rw more refl

-- the chain ends: no frame, or a return address of 0
pub ends_without_frame : (m : Memory) (symbols : List Symbol) (number pointer : ℕ) (out whole : List ℕ) → number < 64 → frame_at m pointer ≡ None → whole ≡ out ++ rest_text m symbols number pointer → out ≡ whole
unfolding frames_text
ends_without_frame m symbols number pointer out whole few none told =
    sym (told ∙ ap (λ addrs. out ++ frames_text symbols number addrs) (one_of m number pointer few ∙ ap (λ f. from_frame pointer f (λ caller. return_addresses m (64 - (number + 1)) caller)) none) ∙ append-nil out)

from_zero : (pointer : ℕ) (frame : Frame) (rest : ℕ → List ℕ) → frame.return_address ≡ 0 → from_frame pointer (Some frame) rest ≡ []
from_zero pointer frame rest h = rw h refl

pub ends_at_zero : (m : Memory) (symbols : List Symbol) (number pointer : ℕ) (frame : Frame) (out whole : List ℕ) → number < 64 → Some frame ≡ frame_at m pointer → frame.return_address ≡ 0 → whole ≡ out ++ rest_text m symbols number pointer → out ≡ whole
unfolding frames_text
ends_at_zero m symbols number pointer frame out whole few is none told =
    sym (told ∙ ap (λ addrs. out ++ frames_text symbols number addrs) (one_of m number pointer few ∙ ap (λ f. from_frame pointer f (λ caller. return_addresses m (64 - (number + 1)) caller)) (sym is) ∙ from_zero pointer frame (λ caller. return_addresses m (64 - (number + 1)) caller) none) ∙ append-nil out)

-- a frame is printed, and the caller's frame pointer isn't above
from_last : (pointer : ℕ) (frame : Frame) (rest : ℕ → List ℕ) → (frame.return_address ≡ 0 → ⊥) → frame.caller ≤ pointer → from_frame pointer (Some frame) rest ≡ frame.return_address ∷ []
from_last pointer frame rest some last =
    let no : nat_lt pointer frame.caller ≡ false = grind (arith, nat_tests) in
    rw (ne_eqb frame.return_address 0 some, no) refl

pub ends_below : (m : Memory) (symbols : List Symbol) (number pointer : ℕ) (frame : Frame) (out new whole : List ℕ) → number < 64 → Some frame ≡ frame_at m pointer → (frame.return_address ≡ 0 → ⊥) → frame.caller ≤ pointer → new ≡ out ++ frame_text symbols number frame.return_address → whole ≡ out ++ rest_text m symbols number pointer → new ≡ whole
unfolding frames_text
ends_below m symbols number pointer frame out new whole few is some last put told =
    sym (told ∙ ap (λ addrs. out ++ frames_text symbols number addrs) (one_of m number pointer few ∙ ap (λ f. from_frame pointer f (λ caller. return_addresses m (64 - (number + 1)) caller)) (sym is) ∙ from_last pointer frame (λ caller. return_addresses m (64 - (number + 1)) caller) some last) ∙ ap (λ t. out ++ t) (append-nil (frame_text symbols number frame.return_address)) ∙ sym put)

-- a frame is printed, and the chain goes on
from_next : (pointer : ℕ) (frame : Frame) (rest : ℕ → List ℕ) → (frame.return_address ≡ 0 → ⊥) → pointer < frame.caller → from_frame pointer (Some frame) rest ≡ frame.return_address ∷ rest frame.caller
from_next pointer frame rest some more =
    let yes : nat_lt pointer frame.caller ≡ true = grind (arith, nat_tests) in
    rw (ne_eqb frame.return_address 0 some, yes) refl

pub goes_on : (m : Memory) (symbols : List Symbol) (number pointer : ℕ) (frame : Frame) (out new whole : List ℕ) → number < 64 → Some frame ≡ frame_at m pointer → (frame.return_address ≡ 0 → ⊥) → pointer < frame.caller → new ≡ out ++ frame_text symbols number frame.return_address → whole ≡ out ++ rest_text m symbols number pointer → whole ≡ new ++ rest_text m symbols (number + 1) frame.caller
unfolding frames_text
goes_on m symbols number pointer frame out new whole few is some more put told =
    told ∙ ap (λ addrs. out ++ frames_text symbols number addrs) (one_of m number pointer few ∙ ap (λ f. from_frame pointer f (λ caller. return_addresses m (64 - (number + 1)) caller)) (sym is) ∙ from_next pointer frame (λ caller. return_addresses m (64 - (number + 1)) caller) some more) ∙ sym (append_assoc out (frame_text symbols number frame.return_address) (rest_text m symbols (number + 1) frame.caller)) ∙ ap (λ t. t ++ rest_text m symbols (number + 1) frame.caller) (sym put)

-- 64 frames are printed
pub ends_at_limit : (m : Memory) (symbols : List Symbol) (number pointer : ℕ) (out whole : List ℕ) → 64 ≤ number → whole ≡ out ++ rest_text m symbols number pointer → out ≡ whole
unfolding frames_text return_addresses
ends_at_limit m symbols number pointer out whole all told =
    let none : 64 - number ≡ 0 = omega arith in
    sym (told ∙ ap (λ n. out ++ frames_text symbols number (return_addresses m n pointer)) none ∙ append-nil out)
