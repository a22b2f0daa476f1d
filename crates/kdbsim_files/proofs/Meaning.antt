-- What bytes mean as a file they mean alone, and they are refused in one way at most.
use Rattle.std.proofs.Common.{◌≡◌, ℕ, ◌<◌, ◌≤◌, inl, inr, List, [], ◌∷◌, length, Option, Some, None, Result, Ok, Err, sym, ap, ◌∙◌, subst, arith}
use Rattle.io_edge.specs.Edge.{FileMap}
use Rattle.jrn_text.specs.Laws.{TextsMeanOneThing, IsJournalText}
use Rattle.jrn_text.specs.Journal as journals
use Rattle.jrn_text.specs.declared.fault.JournalFault.{JournalFault}
use Rattle.jrn_text.specs.declared.fault.JournalFault.TheVariants as journal_faults
use Rattle.kdbsim_files.specs.declared.status.Status.{Status}
use Rattle.kdbsim_files.specs.Faults.{status_of_image, status_of_map, status_of_script, status_of_plan, status_of_journal, status_of_source, status_of_elf}
use Rattle.kdbsim_files.specs.Files.{Kind, image_file, map_file, script_file, plan_file, journal_file, source_file, elf_file, Recording, Executable, IsExecutable, Value, Means, RefusesText, Refuses, IsShort, IsTooLong, HasFile, IsRefused, FailsAtFile, file_of, size_limit}
use Rattle.kdbsim_files.specs.Laws.{IsRefusal, RefusalsAreOne}

abbrev ok_or : {A E : Type 0} → A → Result A E → A
ok_or d (Ok a) = a
ok_or d (Err e) = d

same_value : {A E : Type 0} (r : Result A E) (v w : A) → r ≡ Ok v → r ≡ Ok w → v ≡ w
same_value r v w a b = ap (ok_or v) (sym a ∙ b)

abbrev err_or : {A E : Type 0} → E → Result A E → E
err_or d (Ok a) = d
err_or d (Err e) = e

same_fault : {A E : Type 0} (r : Result A E) (f g : E) → r ≡ Err f → r ≡ Err g → f ≡ g
same_fault r f g a b = ap (err_or f) (sym a ∙ b)

abbrev is_ok : {A E : Type 0} → Result A E → Type 0
is_ok (Ok a) = Unit {0}
is_ok (Err e) = ⊥

not_fault : {A E : Type 0} (r : Result A E) (v : A) (f : E) → r ≡ Ok v → r ≡ Err f → ⊥
not_fault r v f a b = subst is_ok (sym a ∙ b) tt

abbrev some_or : {A : Type 0} → A → Option A → A
some_or d (Some a) = a
some_or d None = d

same_some : {A : Type 0} (o : Option A) (v w : A) → o ≡ Some v → o ≡ Some w → v ≡ w
same_some o v w a b = ap (some_or v) (sym a ∙ b)

none_not_some : {A : Type 0} (o : Option A) (v : A) → o ≡ None → o ≡ Some v → ⊥
none_not_some None v a b = absurd (cc)
none_not_some (Some w) v a b = absurd (cc)

same_executable : (bytes : List ℕ) (v w : Executable) → IsExecutable bytes v → IsExecutable bytes w → v ≡ w
same_executable bytes v w a b =
    ap (λ i. record { image = i; symbols = v.symbols }) (a.image_is ∙ sym b.image_is)
    ∙ ap (λ ss. record { image = w.image; symbols = ss }) (a.symbols_are ∙ sym b.symbols_are)

same_recording : (v w : Recording) → v.harts ≡ w.harts → v.limit ≡ w.limit → v.entries ≡ w.entries → v ≡ w
same_recording v w harts limit entries =
    ap (λ h. record { harts = h; limit = v.limit; entries = v.entries }) harts
    ∙ ap (λ l. record { harts = w.harts; limit = l; entries = v.entries }) limit
    ∙ ap (λ es. record { harts = w.harts; limit = w.limit; entries = es }) entries

journal_text_of : (bytes : List ℕ) (v : Recording) → Means journal_file bytes v → IsJournalText bytes v.harts v.limit v.entries
journal_text_of bytes v h = record { journal = h.0; text_is = h.1 }

same_journal : TextsMeanOneThing → (bytes : List ℕ) (v w : Recording) → Means journal_file bytes v → Means journal_file bytes w → v ≡ w
same_journal law bytes v w a b =
    let ta = journal_text_of bytes v a in
    let tb = journal_text_of bytes w b in
    same_recording v w
    (law.harts bytes v.harts v.limit w.harts w.limit v.entries w.entries ta tb)
    (law.limit bytes v.harts v.limit w.harts w.limit v.entries w.entries ta tb)
    (law.entries bytes v.harts v.limit w.harts w.limit v.entries w.entries ta tb)

means_one : TextsMeanOneThing → (kind : Kind) (bytes : List ℕ) (v w : Value kind) → Means kind bytes v → Means kind bytes w → v ≡ w
means_one law image_file bytes v w a b = same_value _ v w a b
means_one law map_file bytes v w a b = same_value _ v w a b
means_one law script_file bytes v w a b = same_value _ v w a b
means_one law (plan_file harts) bytes v w a b = same_value _ v w a b
means_one law journal_file bytes v w a b = same_journal law bytes v w a b
means_one law source_file bytes v w a b = same_value _ v w a b
means_one law elf_file bytes v w a b = same_executable bytes v w a b

too_many_text : (bytes : List ℕ) (size : ℕ) (h : journals.HasTooMany bytes size) → IsJournalText bytes h.harts h.limit h.entries
too_many_text bytes size h = record { journal = h.journal; text_is = h.text_is }

no_journal_fault : TextsMeanOneThing → (bytes : List ℕ) (v : Recording) (fault : JournalFault) → IsRefusal (status_of_journal fault) → Means journal_file bytes v → journals.Explains bytes fault → ⊥
no_journal_fault law bytes v (journal_faults.Bad line) is a h = law.whole bytes v.harts v.limit line v.entries (journal_text_of bytes v a) h
no_journal_fault law bytes v (journal_faults.TooLarge what size) is a h =
    let few : length v.entries ≤ _ = a.2 in
    let many = h.1.many in
    let size_is = h.1.size_is in
    let same = law.entries bytes v.harts v.limit h.1.harts h.1.limit v.entries h.1.entries (journal_text_of bytes v a) (too_many_text bytes size h.1) in
    let lengths : length v.entries ≡ length h.1.entries = ap length same in
    omega arith
no_journal_fault law bytes v journal_faults.OutOfMemory is a h = is

not_refused : TextsMeanOneThing → (kind : Kind) (bytes : List ℕ) (v : Value kind) (status : Status) → IsRefusal status → Means kind bytes v → RefusesText kind bytes status → ⊥
not_refused law image_file bytes v status is a h = not_fault _ v h.0 a h.1
not_refused law map_file bytes v status is a h = not_fault _ v h.0 a h.1
not_refused law script_file bytes v status is a h = not_fault _ v h.0 a h.1
not_refused law (plan_file harts) bytes v status is a h = not_fault _ v h.0 a h.1
not_refused law journal_file bytes v status is a h = no_journal_fault law bytes v h.0 (subst IsRefusal h.2 is) a h.1
not_refused law source_file bytes v status is a h = not_fault _ v h.0 a h.1
not_refused law elf_file bytes v status is a h = none_not_some _ h.0 a.right h.1

same_journal_fault : TextsMeanOneThing → (bytes : List ℕ) (f g : JournalFault) → IsRefusal (status_of_journal f) → IsRefusal (status_of_journal g) → journals.Explains bytes f → journals.Explains bytes g → f ≡ g
same_journal_fault law bytes (journal_faults.Bad line) (journal_faults.Bad other) is it a b = ap (λ l. journal_faults.Bad l) (law.line bytes line other a b)
same_journal_fault law bytes (journal_faults.Bad line) (journal_faults.TooLarge what size) is it a b =
    absurd (law.whole bytes b.1.harts b.1.limit line b.1.entries (too_many_text bytes size b.1) a)
same_journal_fault law bytes (journal_faults.Bad line) journal_faults.OutOfMemory is it a b = absurd it
same_journal_fault law bytes (journal_faults.TooLarge what size) (journal_faults.Bad line) is it a b =
    absurd (law.whole bytes a.1.harts a.1.limit line a.1.entries (too_many_text bytes size a.1) b)
same_journal_fault law bytes (journal_faults.TooLarge what size) (journal_faults.TooLarge kind other) is it a b =
    let same = law.entries bytes a.1.harts a.1.limit b.1.harts b.1.limit a.1.entries b.1.entries (too_many_text bytes size a.1) (too_many_text bytes other b.1) in
    let sizes : size ≡ other = a.1.size_is ∙ ap length same ∙ sym b.1.size_is in
    let whats : what ≡ kind = a.0 ∙ sym b.0 in
    ap (λ w. journal_faults.TooLarge w size) whats ∙ ap (λ n. journal_faults.TooLarge kind n) sizes
same_journal_fault law bytes (journal_faults.TooLarge what size) journal_faults.OutOfMemory is it a b = absurd it
same_journal_fault law bytes journal_faults.OutOfMemory g is it a b = absurd is

same_text_refusal : TextsMeanOneThing → (kind : Kind) (bytes : List ℕ) (s t : Status) → IsRefusal s → IsRefusal t → RefusesText kind bytes s → RefusesText kind bytes t → s ≡ t
same_text_refusal law image_file bytes s t is it a b = a.2 ∙ ap status_of_image (same_fault _ a.0 b.0 a.1 b.1) ∙ sym b.2
same_text_refusal law map_file bytes s t is it a b = a.2 ∙ ap status_of_map (same_fault _ a.0 b.0 a.1 b.1) ∙ sym b.2
same_text_refusal law script_file bytes s t is it a b = a.2 ∙ ap status_of_script (same_fault _ a.0 b.0 a.1 b.1) ∙ sym b.2
same_text_refusal law (plan_file harts) bytes s t is it a b = a.2 ∙ ap status_of_plan (same_fault _ a.0 b.0 a.1 b.1) ∙ sym b.2
same_text_refusal law journal_file bytes s t is it a b =
    a.2 ∙ ap status_of_journal (same_journal_fault law bytes a.0 b.0 (subst IsRefusal a.2 is) (subst IsRefusal b.2 it) a.1 b.1) ∙ sym b.2
same_text_refusal law source_file bytes s t is it a b = a.2 ∙ ap status_of_source (same_fault _ a.0 b.0 a.1 b.1) ∙ sym b.2
same_text_refusal law elf_file bytes s t is it a b = a.2 ∙ ap status_of_elf (same_some _ a.0 b.0 a.1 b.1) ∙ sym b.2

not_long : (kind : Kind) (bytes : List ℕ) (s : Status) → IsShort kind bytes → IsTooLong (file_of kind) bytes s → ⊥
not_long kind bytes s short long = let more : size_limit (file_of kind) < length bytes = long.1 in let less : length bytes ≤ size_limit (file_of kind) = short in omega arith

same_refusal : TextsMeanOneThing → (kind : Kind) (bytes : List ℕ) (s t : Status) → IsRefusal s → IsRefusal t → Refuses kind bytes s → Refuses kind bytes t → s ≡ t
same_refusal law kind bytes s t is it (inl a) (inl b) = a.0 ∙ sym b.0
same_refusal law kind bytes s t is it (inl a) (inr b) = absurd (not_long kind bytes s b.0 a)
same_refusal law kind bytes s t is it (inr a) (inl b) = absurd (not_long kind bytes t a.0 b)
same_refusal law kind bytes s t is it (inr a) (inr b) = same_text_refusal law kind bytes s t is it a.1 b.1

right_not_refused : TextsMeanOneThing → (kind : Kind) (bytes : List ℕ) (v : Value kind) (s : Status) → IsRefusal s → IsShort kind bytes → Means kind bytes v → Refuses kind bytes s → ⊥
right_not_refused law kind bytes v s is short means (inl a) = not_long kind bytes s short a
right_not_refused law kind bytes v s is short means (inr b) = not_refused law kind bytes v s is means b.1

-- of files that the shelf tells

pub one_value : TextsMeanOneThing → (files : FileMap) (kind : Kind) (name : List ℕ) (v w : Value kind) → HasFile (Some files) kind name v → HasFile (Some files) kind name w → v ≡ w
one_value law files kind name v w a b = means_one law kind a.bytes v w a.means (subst (λ bytes. Means kind bytes w) (b.told ∙ sym a.told) b.means)

pub not_both : TextsMeanOneThing → (files : FileMap) (kind : Kind) (name : List ℕ) (v : Value kind) (s : Status) → IsRefusal s → HasFile (Some files) kind name v → IsRefused (Some files) kind name s → ⊥
not_both law files kind name v s is a b = right_not_refused law kind a.bytes v s is a.short a.means (subst (λ bytes. Refuses kind bytes s) (b.told ∙ sym a.told) b.refused)

one_refusal : TextsMeanOneThing → (files : FileMap) (kind : Kind) (name : List ℕ) (s t : Status) → IsRefusal s → IsRefusal t → IsRefused (Some files) kind name s → IsRefused (Some files) kind name t → s ≡ t
one_refusal law files kind name s t is it a b = same_refusal law kind a.bytes s t is it a.refused (subst (λ bytes. Refuses kind bytes t) (b.told ∙ sym a.told) b.refused)

-- a refusal is no failure of the shelf and no lack of memory
pub refused_by : (files : Option FileMap) (kind : Kind) (name : List ℕ) (before after : ℕ) (s : Status) → IsRefusal s → FailsAtFile files kind name before after s → IsRefused files kind name s
refused_by files kind name before after s is (inl h) = absurd (subst IsRefusal h.0 is)
refused_by files kind name before after s is (inr (inl h)) = h
refused_by files kind name before after s is (inr (inr h)) = absurd (subst IsRefusal h is)

pub one_failure : TextsMeanOneThing → RefusalsAreOne
one_failure law files [] before after s t is it hs ht = absurd hs
one_failure law files (input ∷ inputs) before after s t is it (inl a) (inl b) =
    one_refusal law files input.kind input.name s t is it (refused_by (Some files) input.kind input.name before after s is a) (refused_by (Some files) input.kind input.name before after t it b)
one_failure law files (input ∷ inputs) before after s t is it (inl a) (inr b) =
    absurd (not_both law files input.kind input.name b.0 s is b.1 (refused_by (Some files) input.kind input.name before after s is a))
one_failure law files (input ∷ inputs) before after s t is it (inr a) (inl b) =
    absurd (not_both law files input.kind input.name a.0 t it a.1 (refused_by (Some files) input.kind input.name before after t it b))
one_failure law files (input ∷ inputs) before after s t is it (inr a) (inr b) = one_failure law files inputs before after s t is it a.2 b.2
