-- The lines of the usages, one more at a time.
use Rattle.std.proofs.Common.{◌≡◌, ℕ, zero, suc, ◌+◌, ◌<◌, List, [], ◌∷◌, ◌++◌, length, get_or, take, refl, sym, ap, ◌∙◌, append_assoc, arith}
use Rattle.std.proofs.lemmas.List.{append-nil}
use Rattle.kdb_table.specs.declared.commands.Entry.{Entry}
use Rattle.kdb_table.specs.Help.{usage_line, usages_text}

usages_text-take : (entries : List Entry) (i : ℕ) (d : Entry) → i < length entries → usages_text (take (i + 1) entries) ≡ usages_text (take i entries) ++ usage_line (get_or entries i d)
usages_text-take [] i d below = absurd (omega arith)
usages_text-take (e ∷ es) zero d below = append-nil (usage_line e)
usages_text-take (e ∷ es) (suc i) d below =
    let more : suc i + 1 ≡ suc (i + 1) = omega arith in
    let inside : i < length es = omega arith in
    ap (λ (n : ℕ). usages_text (take n (e ∷ es))) more
    ∙ ap (λ (r : List ℕ). usage_line e ++ r) (usages_text-take es i d inside)
    ∙ sym (append_assoc (usage_line e) (usages_text (take i es)) (usage_line (get_or es i d)))

pub usages_more : (entries : List Entry) (i : ℕ) (d : Entry) (out new : List ℕ) → i < length entries → out ≡ usages_text (take i entries) → new ≡ out ++ usage_line (get_or entries i d) → new ≡ usages_text (take (i + 1) entries)
usages_more entries i d out new below so_far more =
    more ∙ ap (λ (o : List ℕ). o ++ usage_line (get_or entries i d)) so_far ∙ sym (usages_text-take entries i d below)
