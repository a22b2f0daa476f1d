-- Lists of passes: one more at the end, and what the workers make of all.
use Rattle.std.proofs.Common.{◌≡◌, ℕ, suc, ◌+◌, ◌++◌, true, false, List, [], ◌∷◌, Option, length, refl, sym, ◌∙◌, ap, ap₂, subst, arith}
use Rattle.atomic_table.specs.Seated.{TableId}
use Rattle.deck_core.specs.ticks.NextPhase.{is_transaction}
use Rattle.deck_core.specs.ticks.Phases.{holds, is_finished}
use Rattle.board_turn.specs.declared.board.Pass.{Pass}
use Rattle.board_turn.specs.Ready.{AllDone, AreAll, IsDone, IsFresh, IsReady, first_start, start_of}
use Rattle.board_turn.specs.Shown.{standing_of}
use Rattle.board_turn.specs.declared.view.Standing.{Standing}
use Rattle.board_turn.proofs.Readies.{done_phase}
use Rattle.board_turn.proofs.Seating.{length_snoc}
use Rattle.run_join.specs.Passes.{AllBegin, AllRan, AreFresh, Begins, HasRun, OthersFresh}

-- a finished hart holds nothing
pub finished_holds : {B : Type 0} (table : TableId) (pass : Pass B) → IsReady table pass → is_finished pass.stand.phase ≡ true → holds pass.stand.place ≡ false
finished_holds table pass r f = ap holds (r.outside (ap is_transaction (done_phase pass.stand.phase f)))

module _ {B : Type 0} (table : TableId) where
  -- the last of some passes
  pub all_begin_snoc : (harts rounds : ℕ) (xs : List (Pass B)) (x : Pass B) → AllBegin table harts rounds (xs ++ x ∷ []) → AllBegin table harts rounds xs × Begins table harts rounds x
  all_begin_snoc harts rounds [] x b = (tt, b.0)
  all_begin_snoc harts rounds (y ∷ ys) x b = let r = all_begin_snoc harts rounds ys x b.1 in ((b.0, r.0), r.1)

  pub all_ran_snoc : (xs ys : List (Pass B)) (x y : Pass B) → AllRan table xs ys → HasRun table x y → AllRan table (xs ++ x ∷ []) (ys ++ y ∷ [])
  all_ran_snoc [] [] x y a r = (r, tt)
  all_ran_snoc (u ∷ us) (v ∷ vs) x y a r = (a.0, all_ran_snoc us vs x y a.1 r)
  all_ran_snoc [] (v ∷ vs) x y a r = absurd a
  all_ran_snoc (u ∷ us) [] x y a r = absurd a

  pub all_ran_length : (xs ys : List (Pass B)) → AllRan table xs ys → length ys ≡ length xs
  all_ran_length [] [] a = refl
  all_ran_length (u ∷ us) (v ∷ vs) a = ap suc (all_ran_length us vs a.1)
  all_ran_length [] (v ∷ vs) a = absurd a
  all_ran_length (u ∷ us) [] a = absurd a

  pub others_snoc : (start : Option B) (harts rounds h : ℕ) (xs : List (Pass B)) (x : Pass B) → OthersFresh table start harts rounds h xs
      → IsFresh table start (h + length xs) harts rounds 0 x → OthersFresh table start harts rounds h (xs ++ x ∷ [])
  others_snoc start harts rounds h [] x o f = (subst (λ n. IsFresh table start n harts rounds 0 x) (omega arith) f, tt)
  others_snoc start harts rounds h (y ∷ ys) x o f =
      (o.0, others_snoc start harts rounds (h + 1) ys x o.1 (subst (λ n. IsFresh table start n harts rounds 0 x) (omega arith) f))

  -- the pass of the next hart, by what hart 0's pass knows
  next_fresh : (start start2 : Option B) (h h2 harts harts2 rounds rounds2 : ℕ) (x : Pass B) → IsFresh table start h harts rounds 0 x
      → start ≡ start2 → h ≡ h2 → harts ≡ harts2 → rounds ≡ rounds2 → IsFresh table start2 h2 harts2 rounds2 0 x
  next_fresh start start2 h h2 harts harts2 rounds rounds2 x f s e a b = record {
    ready = f.ready;
    of_start = f.of_start ∙ s;
    stand = f.stand ∙ (ap (λ n. standing_of n harts rounds 0) e ∙ ap₂ (λ n m. standing_of h2 n m 0) a b);
  }

  -- one pass more is made
  pub passes_grow : (start : Option B) (harts rounds n : ℕ) (xs ys : List (Pass B)) (first first2 next : Pass B)
      → n ≡ length xs + 1 → IsFresh table start 0 harts rounds n first → OthersFresh table start harts rounds 1 xs
      → first2.stand ≡ record (first.stand) { made = first.stand.made + 1 } → IsReady table first2 → start_of first2 ≡ start_of first
      → IsFresh table (start_of first) first.stand.made first.stand.harts first.stand.limit 0 next → ys ≡ xs ++ next ∷ []
      → (n + 1 ≡ length ys + 1) × IsFresh table start 0 harts rounds (n + 1) first2 × OthersFresh table start harts rounds 1 ys
  passes_grow start harts rounds n xs ys first first2 next e f o stand ready same fresh grown =
      let size : length ys ≡ length xs + 1 = ap length grown ∙ length_snoc xs next in
      let number : first.stand.made ≡ 1 + length xs = ap (λ (s : Standing). s.made) f.stand ∙ omega (arith, e) in
      let there = next_fresh (start_of first) start first.stand.made (1 + length xs) first.stand.harts harts first.stand.limit rounds next fresh f.of_start number (ap (λ (s : Standing). s.harts) f.stand) (ap (λ (s : Standing). s.limit) f.stand) in (
        omega (arith, e, size),
        (record {
          ready = ready;
          of_start = same ∙ f.of_start;
          stand = stand ∙ ap (λ (s : Standing). record s { made = s.made + 1 }) f.stand;
        }),
        subst (OthersFresh table start harts rounds 1) (sym grown) (others_snoc start harts rounds 1 xs next o there),
      )

  -- a fresh pass begins
  pub fresh_begins : (start : Option B) (h harts rounds made : ℕ) (x : Pass B) → IsFresh table start h harts rounds made x → Begins table harts rounds x
  fresh_begins start h harts rounds made x f = record {
    ready = f.ready;
    of_start = refl;
    stand = f.stand ∙ sym (ap₂ (λ a b. standing_of a harts rounds b) (ap (λ (s : Standing). s.hart.0) f.stand) (ap (λ (s : Standing). s.made) f.stand));
  }

  others_begin : (start : Option B) (harts rounds h : ℕ) (xs : List (Pass B)) → OthersFresh table start harts rounds h xs → AllBegin table harts rounds xs
  others_begin start harts rounds h [] o = tt
  others_begin start harts rounds h (x ∷ xs) o = (fresh_begins start h harts rounds 0 x o.0, others_begin start harts rounds (h + 1) xs o.1)

  pub fresh_begin : (start : Option B) (harts rounds : ℕ) (xs : List (Pass B)) → AreFresh table start harts rounds xs → AllBegin table harts rounds xs
  fresh_begin start harts rounds [] a = absurd a
  fresh_begin start harts rounds (x ∷ xs) a = (fresh_begins start 0 harts rounds harts x a.1, others_begin start harts rounds 1 xs a.2)

  -- the pass that came back for a fresh one
  done_of : (start : Option B) (h harts rounds made : ℕ) (x y : Pass B) → IsFresh table start h harts rounds made x → HasRun table x y → IsDone table start h y
  done_of start h harts rounds made x y f r = record {
    ready = r.done.ready;
    of_start = r.done.of_start ∙ f.of_start;
    hart = r.done.hart ∙ ap (λ (s : Standing). s.hart.0) f.stand;
    finished = r.done.finished;
  }

  others_done : (start : Option B) (harts rounds h : ℕ) (xs ys : List (Pass B)) → OthersFresh table start harts rounds h xs → AllRan table xs ys → AllDone table start h ys
  others_done start harts rounds h [] [] o a = tt
  others_done start harts rounds h (x ∷ xs) (y ∷ ys) o a = (done_of start h harts rounds 0 x y o.0 a.0, others_done start harts rounds (h + 1) xs ys o.1 a.1)
  others_done start harts rounds h [] (y ∷ ys) o a = absurd a
  others_done start harts rounds h (x ∷ xs) [] o a = absurd a

  -- the passes that came back for all of a board: they are all that were made, in order, and of its start
  pub fresh_done : (start : Option B) (harts rounds : ℕ) (xs ys : List (Pass B)) → AreFresh table start harts rounds xs → AllRan table xs ys → AreAll table ys × (first_start ys ≡ start)
  fresh_done start harts rounds [] ys f a = absurd f
  fresh_done start harts rounds (x ∷ xs) [] f a = absurd a
  fresh_done start harts rounds (x ∷ xs) (y ∷ ys) f a =
      let d : IsDone table start 0 y = done_of start 0 harts rounds harts x y f.1 a.0 in
      let same : start_of y ≡ start = d.of_start in
      let made : y.stand.made ≡ harts = a.0.made ∙ ap (λ (s : Standing). s.made) f.1.stand in (
        (
          made ∙ (f.0 ∙ ap (λ n. n + 1) (sym (all_ran_length xs ys a.1))),
          subst (λ s. AllDone table s 0 (y ∷ ys)) (sym same) (d, others_done start harts rounds 1 xs ys f.2 a.1),
        ),
        same,
      )
