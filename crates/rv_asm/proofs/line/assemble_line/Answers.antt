use Rattle.std.proofs.Common.{◌≡◌, ℕ, ◌^◌, ◌<◌, List, Option, Some, None, sym, ap, ◌∙◌}
use Rattle.std.proofs.lemmas.Bool.{false≢true}
use Rattle.rv_asm.specs.Meant.{word_meant}
use Rattle.rv_asm.specs.Spelling.{insn_text}
use Rattle.rv_asm.proofs.Inverse.{word_meant-insn_text}
use Rattle.rv_asm.proofs.line.assemble_line.Goals as goal

-- the line of a word means it
found : (line : List ℕ) (o : Option ℕ) (word : ℕ) → o ≡ word_meant line → word < 2 ^ 32 → line ≡ insn_text word → o ≡ Some word
found line o word is small e = is ∙ ap word_meant e ∙ word_meant-insn_text word small

same : (o : Option ℕ) (a b : ℕ) → o ≡ Some a → o ≡ Some b → a ≡ b
same o a b e f = let both = sym e ∙ f in cc

other : (o : Option ℕ) (a : ℕ) → o ≡ None → o ≡ Some a → ⊥
other o a e f = let both = sym e ∙ f in absurd (cc)

pub returns-in_err-word-clause-read : goal.returns-in_err-word-clause-read
returns-in_err-word-clause-read c = λ word small e.
    absurd (other c.word_meant.result word c.in_err-word.was (found c.args.line.now c.word_meant.result word c.word_meant.ensures small e))

pub returns-then-is_spelling-clause-read : goal.returns-then-is_spelling-clause-read
returns-then-is_spelling-clause-read c = λ word small e.
    ap (λ w. Some w) (same c.word_meant.result c.in_ok-word.word word c.in_ok-word.was (found c.args.line.now c.word_meant.result word c.word_meant.ensures small e))

pub returns-else-is_spelling-clause-read : goal.returns-else-is_spelling-clause-read
returns-else-is_spelling-clause-read c = λ word small e.
    let it = same c.word_meant.result c.in_ok-word.word word c.in_ok-word.was (found c.args.line.now c.word_meant.result word c.word_meant.ensures small e) in
    absurd (false≢true (sym c.if-is_spelling.false ∙ c.is_spelling.ensures.1 (e ∙ ap insn_text (sym it))))
