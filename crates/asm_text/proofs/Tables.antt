-- The table of labels, and the labels that it has.
use Rattle.std.proofs.Common.{◌≡◌, ℕ, ◌+◌, Bool, true, false, cond, List, [], ◌∷◌, ◌++◌, Option, Some, None, Vec, Global, refl, sym, ap, ◌∙◌}
use Rattle.std.specs.Prelude.{is_some}
use Rattle.std.specs.Map.{lookup}
use Rattle.std.specs.Str.{bytes_eq}
use Rattle.indexmap.specs.IndexMap.{insert_entry}
use Rattle.mach_base.specs.Lines.{words_of}
use Rattle.asm_text.specs.declared.labels.Given.{Given}
use Rattle.asm_text.specs.Kinds.{label_of, place_after}
use Rattle.asm_text.specs.Labels.{Labels, given, with_label, with_line, labels_from, labels_in}

-- found by its name
pub given-labels_in : (es : List (Vec ℕ Global × Given)) (name : List ℕ) → lookup (λ (k : Vec ℕ Global). bytes_eq name k.items) es ≡ given (labels_in es) name
given-labels_in [] name = refl
given-labels_in (e ∷ es) name = by (bytes_eq name e.0.items) (given-labels_in es name)
  where
    by : (t : Bool) → lookup (λ (k : Vec ℕ Global). bytes_eq name k.items) es ≡ given (labels_in es) name → cond t (Some e.1) (lookup (λ (k : Vec ℕ Global). bytes_eq name k.items) es) ≡ cond t (Some e.1) (given (labels_in es) name)
    by true rest = refl
    by false rest = rest

-- a new name goes last
pub labels_in-insert_entry : (es : List (Vec ℕ Global × Given)) (k : Vec ℕ Global) (there : Given) → given (labels_in es) k.items ≡ None → labels_in (insert_entry (λ x y. bytes_eq x.items y.items) es k there) ≡ labels_in es ++ (k.items, there) ∷ []
labels_in-insert_entry [] k there none = refl
labels_in-insert_entry (e ∷ es) k there none = by (bytes_eq k.items e.0.items) none (labels_in-insert_entry es k there)
  where
    by : (t : Bool) → cond t (Some e.1) (given (labels_in es) k.items) ≡ None → (given (labels_in es) k.items ≡ None → labels_in (insert_entry (λ x y. bytes_eq x.items y.items) es k there) ≡ labels_in es ++ (k.items, there) ∷ []) → labels_in (cond t ((e.0, there) ∷ es) (e ∷ insert_entry (λ x y. bytes_eq x.items y.items) es k there)) ≡ (e.0.items, e.1) ∷ (labels_in es ++ (k.items, there) ∷ [])
    by true is rest = absurd (cc)
    by false is rest = ap (λ (ls : Labels). (e.0.items, e.1) ∷ ls) (rest is)

-- a name that is given already
pub with_label-old : (labels : Labels) (name : List ℕ) (there : Given) → is_some (given labels name) ≡ true → labels ≡ with_label labels name there
with_label-old labels name there some = rw some refl

pub with_label-new : (labels : Labels) (name : List ℕ) (there : Given) → is_some (given labels name) ≡ false → labels ++ (name, there) ∷ [] ≡ with_label labels name there
with_label-new labels name there none = rw none refl

pub none_given : (o : Option Given) → is_some o ≡ false → o ≡ None
none_given None e = refl
none_given (Some g) e = absurd (cc)

-- a line more
pub labels_more : (number : ℕ) (place : Option ℕ) (labels next : Labels) (lines : List (List ℕ)) (line : List ℕ) (ls : List (List ℕ)) (whole : Labels) → lines ≡ line ∷ ls → next ≡ with_line labels number place (label_of (words_of line)) → labels_from number place labels lines ≡ whole → labels_from (number + 1) (place_after place (words_of line)) next ls ≡ whole
unfolding labels_from
labels_more number place labels next lines line ls whole split is told = rw is (sym (ap (labels_from number place labels) split) ∙ told)

-- no line is left
pub labels_end : (number : ℕ) (place : Option ℕ) (labels : Labels) (lines : List (List ℕ)) (whole : Labels) → lines ≡ [] → labels_from number place labels lines ≡ whole → labels ≡ whole
unfolding labels_from
labels_end number place labels lines whole none told = sym (ap (labels_from number place labels) none) ∙ told
