-- The generated texts are those of an image and of a script, by computing both readings.
use Rattle.std.proofs.Common.{◌≡◌, List, ℕ, Bool, true, false, Result, Ok, Err, refl, sym, ap, ◌∙◌}
use Rattle.std.proofs.lemmas.Bool.{false≢true}
use Rattle.mach_base.specs.Lines.{lines_of, words_of}
use Rattle.img_text.specs.declared.fault.ImageFault.{ImageFault}
use Rattle.img_text.specs.Directives.{each_number, line_of}
use Rattle.img_text.specs.Reading.{applied, read_line, read_lines, whole_image, image_of_lines, image_of}
use Rattle.atom_mach.specs.declared.script.ScriptFault.{ScriptFault}
use Rattle.atom_mach.specs.Script.{checked_script}
use Rattle.gen_load.specs.Input.{image_text, goes, script_text}

abbrev is_read : {A E : Type 0} → Result A E → Bool
is_read (Ok x) = true
is_read (Err e) = false

image_is_read : is_read (image_of image_text) ≡ true
unfolding image_text image_of_lines read_lines read_line line_of each_number applied whole_image lines_of words_of
image_is_read = refl

script_is_read : is_read (checked_script script_text) ≡ true
unfolding script_text goes checked_script lines_of
script_is_read = refl

pub image_has_no_fault : (text : List ℕ) (fault : ImageFault) → text ≡ image_text → image_of text ≡ Err fault → ⊥
image_has_no_fault text fault is read = false≢true (sym (ap is_read read) ∙ ap (λ t. is_read (image_of t)) is ∙ image_is_read)

pub script_has_no_fault : (text : List ℕ) (fault : ScriptFault) → text ≡ script_text → checked_script text ≡ Err fault → ⊥
script_has_no_fault text fault is read = false≢true (sym (ap is_read read) ∙ ap (λ t. is_read (checked_script t)) is ∙ script_is_read)
