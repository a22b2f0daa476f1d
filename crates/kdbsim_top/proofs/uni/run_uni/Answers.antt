use Rattle.std.proofs.Common.{◌≡◌, ◌++◌, ◌∷◌, [], List, ℕ, Some, refl, sym, ap, ◌∙◌, subst}
use Rattle.atom_mach.specs.State.{State, Done, hart_count, start_state}
use Rattle.atom_mach.specs.Run.{run_of, first_allowed}
use Rattle.atom_mach.proofs.Runs.{run_of-snoc, Follows-snoc}
use Rattle.kdbsim_top.specs.Runs.{uni_limit}
use Rattle.kdbsim_top.proofs.RunSteps.{whole_run, ending_of-Some}
use Rattle.kdbsim_top.proofs.uni.run_uni.Goals as goal

pub returns-in-Some : goal.returns-in-Some
returns-in-Some c =
    let start = start_state c.args.image.now [] c.args.script 1 uni_limit in
    let last : Done = record { text = c.loop-ending.transcript.items; next = c.loop-ending.atom } in
    record {
      steps = c.loop-ending.invariant.ran.0;
      last = last;
      run = c.loop-ending.invariant.ran.1;
      ruled = c.loop-ending.invariant.ran.2;
      over = ending_of-Some c.loop-ending.atom.mode c.in-Some.ending (sym c.over.ensures ∙ c.in-Some.is);
      whole = whole_run start c.loop-ending.invariant.ran.0 last c.in-Some.ending c.push_ending_line.new.out.items c.loop-ending.invariant.ran.1 (rw c.steps.ensures at c.in_ok-push_ending_line.ensures.ok);
    }

pub loop-ending-preserved : goal.loop-ending-preserved
loop-ending-preserved c =
    let steps = c.loop-ending.invariant.ran.0 in
    let turn = c.in_ok-text.ensures.step in
    let start = start_state c.args.image.now [] c.args.script 1 uni_limit in
    let mid : Done = record { text = c.loop-ending.transcript.items; next = c.loop-ending.atom } in
    let d : Done = record { text = c.in_ok-text.text; next = c.turn.new.self } in
    let run = run_of-snoc start steps mid turn.0 d c.loop-ending.invariant.ran.1 turn.2 in
    let ruled = Follows-snoc first_allowed start steps mid turn.0 c.loop-ending.invariant.ran.1 c.loop-ending.invariant.ran.2 turn.1 in
    let grown : c.extend_from_slice.new.self.items ≡ c.loop-ending.transcript.items ++ c.as_bytes.result.now = c.in_ok-extend_from_slice.ensures.items in
    let printed : c.extend_from_slice.new.self.items ≡ c.loop-ending.transcript.items ++ c.in_ok-text.text = grown ∙ ap (λ x. c.loop-ending.transcript.items ++ x) c.as_bytes.ensures in
    record {
      ran = (steps ++ turn.0 ∷ [], subst (λ (xs : List ℕ). run_of start (steps ++ turn.0 ∷ []) ≡ Some (record { text = xs; next = c.turn.new.self })) (sym printed) run, ruled);
      one_hart = c.in_ok-text.ensures.harts ∙ c.loop-ending.invariant.one_hart;
    }

pub loop-ending-init : goal.loop-ending-init
unfolding start_state run_of
loop-ending-init c =
    let is = c.in_ok-atom.ensures.state ∙ ap (λ names. start_state c.args.image.now names c.args.script 1 uni_limit) c.empty-names.ensures in
    record {
      ran = ([], ap (λ (s : State). Some (record { text = []; next = s })) (sym is) ∙ ap (λ text. Some (record { text = text; next = c.in_ok-atom.atom })) (sym c.new-transcript.ensures.items), tt);
      one_hart = ap (λ (s : State). hart_count s.machine) c.in_ok-atom.ensures.state ∙ refl;
    }
