-- Why the files of a command aren't there to be used.
use Rattle.std.proofs.Common.{◌≡◌, ℕ, ◌<◌, ◌≤◌, ◌⊎◌, inl, inr, List, [], ◌∷◌, ◌++◌, Option, Some, None, refl, sym, ap, ◌∙◌, subst, arith}
use Rattle.io_edge.specs.Edge.{FileMap}
use Rattle.kdbsim_files.specs.declared.status.Status.{Status}
use Rattle.kdbsim_files.specs.declared.status.Status.TheVariants.{OutOfMemory}
use Rattle.mach_base.specs.Machine.{Symbol}
use Rattle.img_text.specs.Image.{ImageRecord}
use Rattle.program_words.specs.Words.{Text}
use Rattle.kdbsim_files.specs.Files.{Kind, image_file, map_file, script_file, Value, Input, HasFile, FailsAtFile, FailsAt}
use Rattle.kdbsim_top.specs.Runs.{HasStart, start_inputs}
use Rattle.kdbsim_files.proofs.Inputs.{FailsAtFile-from}

le_trans : {a b c : ℕ} → a ≤ b → b ≤ c → a ≤ c
le_trans x y = omega (arith, x, y)

-- what fails among the first files fails among all
pub fails_more : (files : Option FileMap) (inputs more : List Input) (before after : ℕ) (status : Status) → FailsAt files inputs before after status → FailsAt files (inputs ++ more) before after status
fails_more files [] more before after status h = absurd h
fails_more files (input ∷ inputs) more before after status (inl h) = inl h
fails_more files (input ∷ inputs) more before after status (inr h) = inr (h.0, h.1, fails_more files inputs more before after status h.2)

-- a count that rose later rose from the start on
pub fails_from : (files : Option FileMap) (inputs : List Input) (before between after : ℕ) (status : Status) → before ≤ between → FailsAt files inputs between after status → FailsAt files inputs before after status
fails_from files [] before between after status le h = absurd h
fails_from files (input ∷ inputs) before between after status le (inl h) = inl (FailsAtFile-from files input.kind input.name before between after status le h)
fails_from files (input ∷ inputs) before between after status le (inr h) = inr (h.0, h.1, fails_from files inputs before between after status le h.2)

-- the first file fails, or one of the others after it was read
pub fails_first : (files : Option FileMap) (kind : Kind) (name : List ℕ) (inputs : List Input) (before between after : ℕ) (status : Status) → before ≤ between → FailsAtFile files kind name between after status → FailsAt files (record { kind = kind; name = name } ∷ inputs) before after status
fails_first files kind name inputs before between after status le h = inl (FailsAtFile-from files kind name before between after status le h)

pub fails_after : (files : Option FileMap) (kind : Kind) (name : List ℕ) (inputs : List Input) (before after : ℕ) (status : Status) (value : Value kind) → HasFile files kind name value → FailsAt files inputs before after status → FailsAt files (record { kind = kind; name = name } ∷ inputs) before after status
fails_after files kind name inputs before after status value read h = inr (value, read, h)

-- the script fails, after the image and the map were read
pub third_fails : (f0 f1 f2 : Option FileMap) (image map script : Text) (value : ImageRecord) (symbols : List Symbol) (n0 n1 n2 n3 : ℕ) (status : Status) → f1 ≡ f0 → f2 ≡ f1 → n0 ≤ n1 → n1 ≤ n2
    → HasFile f0 image_file image value → HasFile f1 map_file map symbols → FailsAtFile f2 script_file script n2 n3 status → FailsAt f0 (start_inputs image map script []) n0 n3 status
third_fails f0 f1 f2 image map script value symbols n0 n1 n2 n3 status s1 s2 le1 le2 has_image has_map fails =
    let map_here : HasFile f0 map_file map symbols = subst (λ f. HasFile f map_file map symbols) s1 has_map in
    let fails_here : FailsAtFile f0 script_file script n2 n3 status = subst (λ f. FailsAtFile f script_file script n2 n3 status) (s2 ∙ s1) fails in
    inr (value, has_image, inr (symbols, map_here, inl (FailsAtFile-from f0 script_file script n0 n2 n3 status (le_trans le1 le2) fails_here)))

-- a fourth file fails, after the start was read
pub fourth_fails : (f0 f1 : Option FileMap) (image map script : Text) (value : ImageRecord) (symbols : List Symbol) (lines : List (List ℕ)) (kind : Kind) (name : Text) (n0 n1 n2 : ℕ) (status : Status) → f1 ≡ f0 → n0 ≤ n1
    → HasStart f0 image map script value symbols lines → FailsAtFile f1 kind name n1 n2 status → FailsAt f0 (start_inputs image map script (record { kind = kind; name = name } ∷ [])) n0 n2 status
fourth_fails f0 f1 image map script value symbols lines kind name n0 n1 n2 status same le start fails =
    let fails_here : FailsAtFile f0 kind name n1 n2 status = subst (λ f. FailsAtFile f kind name n1 n2 status) same fails in
    inr (value, start.read_image, inr (symbols, start.read_map, inr (lines, start.read_script, inl (FailsAtFile-from f0 kind name n0 n1 n2 status le fails_here))))

-- a file of the start fails
pub start_fails : (files : Option FileMap) (image map script : Text) (more : List Input) (before after : ℕ) (status : Status) → FailsAt files (start_inputs image map script []) before after status → FailsAt files (start_inputs image map script more) before after status
start_fails files image map script more before after status h = fails_more files (start_inputs image map script []) more before after status h
