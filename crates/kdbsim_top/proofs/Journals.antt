-- A legal journal has no bad step, and a journal has one at most.
use Rattle.std.proofs.Common.{◌≡◌, ℕ, suc, inl, inr, List, [], ◌∷◌, ◌++◌, length, Some, None, refl, sym, ap, ◌∙◌, subst}
use Rattle.mach_base.specs.declared.event.Entry.{Entry}
use Rattle.io_edge.specs.Edge.{FileMap}
use Rattle.plant_mach.specs.Machine.{PlantedMachine}
use Rattle.plant_mach.specs.Entries.{Made, makes, made_by}
use Rattle.bus_core.specs.Origin.{Origin, start_of}
use Rattle.kdbsim_runs.specs.Replay.{IsBadStep}
use Rattle.kdbsim_runs.proofs.Endings.{split}
use Rattle.program_words.specs.Words.{Text}
use Rattle.program_words.specs.Commands.{Command, uni, replay, run, lockstep, asm, elf, load}
use Rattle.kdbsim_files.specs.declared.status.Status.{Status}
use Rattle.kdbsim_files.specs.declared.status.Status.TheVariants.{BadStep}
use Rattle.kdbsim_files.specs.Files.{Recording, image_file, map_file, script_file, journal_file}
use Rattle.kdbsim_files.specs.Laws.{FilesMeanOneThing}
use Rattle.kdbsim_top.specs.Runs.{Outcome, IsIllegal, IsIllegalAt, IsJournaled, inputs_of}
use Rattle.kdbsim_builds.specs.Stored.{Product}
use Rattle.kdbsim_top.specs.Causes.{Outside, Explains, IsMade, IsPublished}
use Rattle.kdbsim_top.proofs.Exclusion.{refusal_in, told_reading_file}

-- ---- lists of entries

none_some : {A : Type 0} (x : A) → None ≡ Some x → ⊥
none_some x e = cc

some_is : {A : Type 0} (x y : A) → Some x ≡ Some y → x ≡ y
some_is x y e = cc

nothing_made : (p : PlantedMachine) (d : Made) → made_by p [] ≡ Some d → d.next ≡ p
unfolding made_by
nothing_made p d made = sym (ap (λ (x : Made). x.next) (some_is (record { text = []; next = p }) d made))

-- an entry that isn't legal here isn't the first of a legal list
not_first : (p : PlantedMachine) (e : Entry) (es : List Entry) (d : Made) → makes p e ≡ None → made_by p (e ∷ es) ≡ Some d → ⊥
not_first p e es d wrong made = let s = split p e es d made in none_some s.first (sym wrong ∙ s.made)

bad_not_legal : (p : PlantedMachine) (before : List Entry) (e : Entry) (after : List Entry) (last d : Made) → made_by p before ≡ Some last → makes last.next e ≡ None → made_by p (before ++ e ∷ after) ≡ Some d → ⊥
bad_not_legal p [] e after last d legal wrong made = not_first p e after d (ap (λ q. makes q e) (sym (nothing_made p last legal)) ∙ wrong) made
bad_not_legal p (x ∷ xs) e after last d legal wrong made =
    let a = split p x xs last legal in
    let b = split p x (xs ++ e ∷ after) d made in
    let same : b.first ≡ a.first = some_is b.first a.first (sym b.made ∙ a.made) in
    bad_not_legal a.first.next xs e after a.rest b.rest a.others (ap (λ q. makes q e) (sym a.last) ∙ wrong) (ap (λ (f : Made). made_by f.next (xs ++ e ∷ after)) (sym same) ∙ b.others)

abbrev head_or : Entry → List Entry → Entry
head_or e [] = e
head_or e (x ∷ xs) = x

abbrev tail : List Entry → List Entry
tail [] = []
tail (x ∷ xs) = xs

same_place : (p : PlantedMachine) (b1 b2 : List Entry) (e1 e2 : Entry) (a1 a2 : List Entry) (d1 d2 : Made) → b1 ++ e1 ∷ a1 ≡ b2 ++ e2 ∷ a2
    → made_by p b1 ≡ Some d1 → makes d1.next e1 ≡ None → made_by p b2 ≡ Some d2 → makes d2.next e2 ≡ None → length b1 ≡ length b2
same_place p [] [] e1 e2 a1 a2 d1 d2 is l1 w1 l2 w2 = refl
same_place p [] (y ∷ ys) e1 e2 a1 a2 d1 d2 is l1 w1 l2 w2 =
    let same : e1 ≡ y = ap (head_or e1) is in
    absurd (not_first p y ys d2 (ap (λ x. makes p x) (sym same) ∙ (ap (λ q. makes q e1) (sym (nothing_made p d1 l1)) ∙ w1)) l2)
same_place p (x ∷ xs) [] e1 e2 a1 a2 d1 d2 is l1 w1 l2 w2 =
    let same : x ≡ e2 = ap (head_or x) is in
    absurd (not_first p x xs d1 (ap (λ z. makes p z) same ∙ (ap (λ q. makes q e2) (sym (nothing_made p d2 l2)) ∙ w2)) l1)
same_place p (x ∷ xs) (y ∷ ys) e1 e2 a1 a2 d1 d2 is l1 w1 l2 w2 =
    let same : x ≡ y = ap (head_or x) is in
    let a = split p x xs d1 l1 in
    let b = split p y ys d2 l2 in
    let first : b.first ≡ a.first = some_is b.first a.first (sym b.made ∙ ap (λ z. makes p z) (sym same) ∙ a.made) in
    ap suc (same_place a.first.next xs ys e1 e2 a1 a2 a.rest b.rest (ap tail is) a.others (ap (λ q. makes q e1) (sym a.last) ∙ w1)
    (ap (λ (f : Made). made_by f.next ys) (sym first) ∙ b.others) (ap (λ q. makes q e2) (sym b.last) ∙ w2))

one_place : (start : Origin) (entries : List Entry) (index other : ℕ) → IsBadStep start entries index → IsBadStep start entries other → index ≡ other
one_place start entries index other a b =
    a.place ∙ same_place (start_of start) a.before b.before a.entry b.entry a.after b.after a.last b.last (sym a.split ∙ b.split) a.legal a.wrong b.legal b.wrong ∙ sym b.place

no_place : (start : Origin) (entries : List Entry) (index : ℕ) (last : Made) → IsBadStep start entries index → made_by (start_of start) entries ≡ Some last → ⊥
no_place start entries index last bad legal = bad_not_legal (start_of start) bad.before bad.entry bad.after bad.last last bad.legal bad.wrong (ap (made_by (start_of start)) (sym bad.split) ∙ legal)

-- ---- what the files say

same_origin : (a b : Origin) → a.image ≡ b.image → a.symbols ≡ b.symbols → a.lines ≡ b.lines → a.harts ≡ b.harts → a.limit ≡ b.limit → a ≡ b
same_origin a b image symbols lines harts limit =
    ap (λ x. record { image = x; symbols = a.symbols; lines = a.lines; harts = a.harts; limit = a.limit }) image
    ∙ ap (λ x. record { image = b.image; symbols = x; lines = a.lines; harts = a.harts; limit = a.limit }) symbols
    ∙ ap (λ x. record { image = b.image; symbols = b.symbols; lines = x; harts = a.harts; limit = a.limit }) lines
    ∙ ap (λ x. record { image = b.image; symbols = b.symbols; lines = b.lines; harts = x; limit = a.limit }) harts
    ∙ ap (λ x. record { image = b.image; symbols = b.symbols; lines = b.lines; harts = b.harts; limit = x }) limit

module _ (law : FilesMeanOneThing) (files : FileMap) (image map script journal : Text) (s t : Origin) (es fs : List Entry) (a : IsJournaled (Some files) image map script journal s es) (b : IsJournaled (Some files) image map script journal t fs) where
  abbrev one : Recording
  one = record { harts = s.harts; limit = s.limit; entries = es }

  abbrev two : Recording
  two = record { harts = t.harts; limit = t.limit; entries = fs }

  recordings : one ≡ two
  recordings = law.value files journal_file journal one two a.read_journal b.read_journal

  starts : s ≡ t
  starts =
      same_origin s t (law.value files image_file image s.image t.image a.inputs.read_image b.inputs.read_image) (law.value files map_file map s.symbols t.symbols a.inputs.read_map b.inputs.read_map)
      (law.value files script_file script s.lines t.lines a.inputs.read_script b.inputs.read_script) (ap (λ (r : Recording). r.harts) recordings) (ap (λ (r : Recording). r.limit) recordings)

  entries_same : es ≡ fs
  entries_same = ap (λ (r : Recording). r.entries) recordings

  moved : (index : ℕ) → IsBadStep t fs index → IsBadStep s es index
  moved index bad = subst (λ (x : Origin). IsBadStep x es index) (sym starts) (subst (λ xs. IsBadStep t xs index) (sym entries_same) bad)

-- ---- the answers

abbrev bad_index : Status → ℕ
bad_index (BadStep index) = index
bad_index other = 0

abbrev IsBad : Status → Type 0
IsBad (BadStep index) = Unit {0}
IsBad other = ⊥

not_published : (o : Outside) (out : Outcome) (index : ℕ) → IsPublished o out (BadStep index) → ⊥
not_published o out index (inl h) = subst IsBad h.0 tt
not_published o out index (inr (inl h)) = subst IsBad h.0 tt
not_published o out index (inr (inr h)) = subst IsBad h.0 tt

not_made : (o : Outside) (products : List Product) (index : ℕ) → IsMade o products (BadStep index) → ⊥
not_made o products index (inl h, quiet) = subst IsBad h.0 tt
not_made o products index (inr (inl h), quiet) = subst IsBad h.0 tt
not_made o products index (inr (inr h), quiet) = subst IsBad h.0 tt

illegal_of : (o : Outside) (command : Command) (index : ℕ) → Explains o command (BadStep index) → IsIllegal o.files_before command index
illegal_of o command index (inl h) = absurd (not_published o h.0 index h.2)
illegal_of o command index (inr (inl h)) = absurd (not_made o h.0 index h.2)
illegal_of o command index (inr (inr (inl h))) = subst (IsIllegal o.files_before command) (sym (ap bad_index h.1)) h.2
illegal_of o command index (inr (inr (inr h))) = absurd (refusal_in o.files_before (inputs_of command) o.shelf_before o.shelf_after (BadStep index) tt (told_reading_file o.files_before (inputs_of command) o.shelf_before o.shelf_after (BadStep index) tt h.0))

told_illegal : (o : Outside) (command : Command) (files : FileMap) (index : ℕ) → o.files_before ≡ Some files → Explains o command (BadStep index) → IsIllegal (Some files) command index
told_illegal o command files index told h = subst (λ f. IsIllegal f command index) told (illegal_of o command index h)

pub legal_journals : FilesMeanOneThing → (o : Outside) (image map script journal : Text) (files : FileMap) (start : Origin) (entries : List Entry) (last : Made) (index : ℕ) → o.files_before ≡ Some files
    → IsJournaled (Some files) image map script journal start entries → made_by (start_of start) entries ≡ Some last → Explains o (replay image map script journal) (BadStep index) → ⊥
legal_journals law o image map script journal files start entries last index told inputs legal h =
    let bad : IsIllegalAt (Some files) image map script journal index = told_illegal o (replay image map script journal) files index told h in
    no_place start entries index last (moved law files image map script journal start bad.start entries bad.entries inputs bad.inputs index bad.bad) legal

two_bad : FilesMeanOneThing → (files : FileMap) (command : Command) (index other : ℕ) → IsIllegal (Some files) command index → IsIllegal (Some files) command other → index ≡ other
two_bad law files (uni image script) index other a b = absurd a
two_bad law files (run image map script journal options) index other a b = absurd a
two_bad law files (lockstep image map script plan journal options) index other a b = absurd a
two_bad law files (asm source image) index other a b = absurd a
two_bad law files (elf executable image map) index other a b = absurd a
two_bad law files (load number) index other a b = absurd a
two_bad law files (replay image map script journal) index other a b =
    one_place a.start a.entries index other a.bad (moved law files image map script journal a.start b.start a.entries b.entries a.inputs b.inputs other b.bad)

pub one_bad_step : FilesMeanOneThing → (o : Outside) (command : Command) (files : FileMap) (index other : ℕ) → o.files_before ≡ Some files → Explains o command (BadStep index) → Explains o command (BadStep other) → index ≡ other
one_bad_step law o command files index other told a b = two_bad law files command index other (told_illegal o command files index told a) (told_illegal o command files other told b)
