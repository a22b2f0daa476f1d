-- What tests of the open session tell, and the line that it reads.
use Rattle.std.proofs.Common.{◌≡◌, ℕ, ◌<◌, ◌&&◌, Bool, true, List, [], ◌∷◌, Option, Some, None, refl, ap, subst, ◌∙◌}
use Rattle.std.proofs.lemmas.Bool.{false≢true, eqb-true}
use Rattle.deck_core.specs.declared.plain.notes.Sitting.{Sitting}
use Rattle.deck_core.specs.declared.plain.notes.Stage.{Stage}
use Rattle.deck_core.specs.declared.plain.notes.Stage.TheVariants as stage
use Rattle.deck_core.specs.contract.Allowed.{in_session, is_of, is_lines, is_pass, is_leaving}
use Rattle.atom_mach.specs.Session.{with_read, line_effect}
use Rattle.atom_mach.proofs.Booleans.{and_true}
use Rattle.plant_mach.specs.Machine.{PlantedMachine}
use Rattle.plant_mach.specs.Entries.{has_line, line_made, read_in}
use Rattle.plant_mach.specs.Order.{IsSeated}

-- the session that passes a test
pub record IsOpen (test : Sitting → Bool) (session : Option Sitting) : Type 0 where
  pub sitting : Sitting
  pub is : session ≡ Some sitting
  pub passes : test sitting ≡ true

pub in_session-open : (test : Sitting → Bool) (session : Option Sitting) → in_session test session ≡ true → IsOpen test session
in_session-open test None e = absurd (false≢true e)
in_session-open test (Some s) e = record { sitting = s; is = refl; passes = e }

-- the master of a session is there
pub master_there : (session : Option Sitting) (harts h : ℕ) (test : Sitting → Bool) → IsSeated harts session → in_session (λ s. is_of h s && test s) session ≡ true → h < harts
master_there None harts h test seated e = absurd (false≢true e)
master_there (Some s) harts h test seated e = subst (λ n. n < harts) (eqb-true s.master.0 h (and_true (is_of h s) (test s) e).0) seated.master

pub is_lines-Lines : (s : Stage) → is_lines s ≡ true → s ≡ stage.Lines
is_lines-Lines stage.Lines e = refl
is_lines-Lines (stage.Pass again) e = absurd (false≢true e)
is_lines-Lines stage.Back e = absurd (false≢true e)
is_lines-Lines stage.Leaving e = absurd (false≢true e)

pub is_leaving-Leaving : (s : Stage) → is_leaving s ≡ true → s ≡ stage.Leaving
is_leaving-Leaving stage.Lines e = absurd (false≢true e)
is_leaving-Leaving (stage.Pass again) e = absurd (false≢true e)
is_leaving-Leaving stage.Back e = absurd (false≢true e)
is_leaving-Leaving stage.Leaving e = refl

pub record IsPassing (s : Stage) : Type 0 where
  pub again : Bool
  pub is : s ≡ stage.Pass again

pub is_pass-Pass : (s : Stage) → is_pass s ≡ true → IsPassing s
is_pass-Pass stage.Lines e = absurd (false≢true e)
is_pass-Pass (stage.Pass again) e = record { again = again; is = refl }
is_pass-Pass stage.Back e = absurd (false≢true e)
is_pass-Pass stage.Leaving e = absurd (false≢true e)

-- the line that an entry reads, in the session that reads it
pub record IsLineRead (p : PlantedMachine) : Type 0 where
  pub sitting : Sitting
  pub line : List ℕ
  pub rest : List (List ℕ)
  pub is : p.session ≡ Some sitting
  pub lines : sitting.stage ≡ stage.Lines
  pub unread : p.machine.unread ≡ line ∷ rest
  pub made : read_in p.session p.machine.unread p ≡ line_made p sitting (line_effect sitting.master sitting.late line (with_read p.machine rest))

pub reads_line : (p : PlantedMachine) (h : ℕ) → in_session (λ s. is_of h s && is_lines s.stage) p.session ≡ true → has_line p.machine.unread ≡ true → IsLineRead p
reads_line p h reads there =
    let found = in_session-open (λ s. is_of h s && is_lines s.stage) p.session reads in
    by_unread found.sitting found.is (is_lines-Lines found.sitting.stage (and_true (is_of h found.sitting) _ found.passes).1) p.machine.unread refl there
  where
    by_unread : (s : Sitting) → p.session ≡ Some s → s.stage ≡ stage.Lines → (unread : List (List ℕ)) → p.machine.unread ≡ unread → has_line unread ≡ true → IsLineRead p
    by_unread s is lines [] unread f = absurd (false≢true f)
    by_unread s is lines (line ∷ rest) unread f = record {
      sitting = s;
      line = line;
      rest = rest;
      is = is;
      lines = lines;
      unread = unread;
      made = ap (λ session. read_in session p.machine.unread p) is ∙ ap (λ u. read_in (Some s) u p) unread;
    }
