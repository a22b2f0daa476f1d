-- How the room that is left falls, as sums of plain numbers: t steps, m calls, p pending ones, u lines, s entries of the
-- session, w planted step words.
use Rattle.std.proofs.Common.{ℕ, suc, ◌+◌, ◌*◌, ◌≤◌, arith}

-- an entry that takes no step
pub entry_falls : (n t m p u s w m1 p1 s1 w1 : ℕ) → n ≤ 10 → suc (2 * m1 + p1 + 52 * u + s1 + w1) ≤ 2 * m + p + 52 * u + s + w → n + (t + 10 * (2 * m1 + p1 + 52 * u + s1 + w1)) ≤ t + 10 * (2 * m + p + 52 * u + s + w)
entry_falls n t m p u s w m1 p1 s1 w1 few less = omega arith

-- a step or an interrupt
pub step_falls : (n t t1 m p u s w s1 : ℕ) → n ≤ 1 → suc t1 ≤ t → s1 ≤ s → n + (t1 + 10 * (2 * m + p + 52 * u + s1 + w)) ≤ t + 10 * (2 * m + p + 52 * u + s + w)
step_falls n t t1 m p u s w s1 few less fewer = omega arith

-- a line
pub line_falls : (n t t1 m p u s w s1 : ℕ) → n ≤ 1 → t1 ≤ suc t → 1 ≤ s → s1 ≤ 37 → n + (t1 + 10 * (2 * m + p + 52 * u + s1 + w)) ≤ t + 10 * (2 * m + p + 52 * suc u + s + w)
line_falls n t t1 m p u s w s1 few more some most = omega arith

-- text: a step with its byte; an opening with its banner
pub step_prints : (n t t1 u o o1 : ℕ) → n ≤ 1 → suc t1 ≤ t → o1 ≤ o → n + (t1 + 240 * suc (u + o1)) ≤ t + 240 * suc (u + o)
step_prints n t t1 u o o1 few less fewer = omega arith

pub opening_prints : (n t u : ℕ) → n ≤ 240 → n + (t + 240 * suc (u + 0)) ≤ t + 240 * suc (u + 1)
opening_prints n t u few = omega arith
