-- The words of a line, read one by one.
use Rattle.std.proofs.Common.{◌≡◌, ℕ, List, [], ◌∷◌, ◌++◌, Option, Some, None, refl, sym, ap, ◌∙◌, append_assoc}
use Rattle.std.proofs.lemmas.List.{append-nil}
use Rattle.std.specs.Option.{option_map}
use Rattle.mach_base.specs.declared.event.Hart.{Hart}
use Rattle.plan_text.specs.Ticks.{Run}
use Rattle.plan_text.specs.Reading.{ended, fronted, hart_of, of_harts, onto, run_from, run_of, some_harts}

-- before the first word
pub words_begin : (n : ℕ) (words : List (List ℕ)) → run_of n words ≡ some_harts (fronted [] (run_from n words))
words_begin n words = same (run_from n words)
  where
    same : (run : Option Run) → some_harts run ≡ some_harts (fronted [] run)
    same None = refl
    same (Some run) = refl

-- a hart more
pub words_more : (n : ℕ) (front : List Hart) (hart : Hart) (words : List (List ℕ)) (word : List ℕ) (ws : List (List ℕ)) (whole : Option Run) → words ≡ word ∷ ws → hart_of n word ≡ Some hart → whole ≡ some_harts (fronted front (run_from n words)) → whole ≡ some_harts (fronted (front ++ hart ∷ []) (run_from n ws))
unfolding run_from
words_more n front hart words word ws whole split read told = told ∙ (rw (split, read) (step (run_from n ws)))
  where
    step : (run : Option Run) → some_harts (fronted front (option_map (onto hart) run)) ≡ some_harts (fronted (front ++ hart ∷ []) run)
    step None = refl
    step (Some run) = ap (λ hs. of_harts hs run.times) (sym (append_assoc front (hart ∷ []) run.harts))

-- a word that is no hart's
pub words_ended : (n : ℕ) (front : List Hart) (words : List (List ℕ)) (word : List ℕ) (ws : List (List ℕ)) (whole : Option Run) → words ≡ word ∷ ws → hart_of n word ≡ None → whole ≡ some_harts (fronted front (run_from n words)) → whole ≡ some_harts (fronted front (ended word ws))
unfolding run_from
words_ended n front words word ws whole split read told = told ∙ (rw (split, read) refl)

-- no word is left
pub words_end : (n : ℕ) (front : List Hart) (words : List (List ℕ)) (whole : Option Run) → words ≡ [] → whole ≡ some_harts (fronted front (run_from n words)) → whole ≡ of_harts front 1
unfolding run_from
words_end n front words whole none told = told ∙ (rw none (ap (λ hs. of_harts hs 1) (append-nil front)))
