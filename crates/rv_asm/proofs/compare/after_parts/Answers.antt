use Rattle.std.proofs.Common.{◌≡◌, ℕ, ◌+◌, ◌<◌, ◌++◌, List, length, drop, get_or, sym, ap, ◌∙◌, add-one, drop-cons}
use Rattle.rv_decode.specs.Fields.{Fields}
use Rattle.rv_decode.specs.Instruction.{fields_of}
use Rattle.rv_asm.specs.declared.parts.Part.{Part}
use Rattle.rv_asm.specs.Spelling.{part_text, parts_text}
use Rattle.rv_asm.proofs.Rest.{none_after, some_after}
use Rattle.rv_asm.proofs.compare.after_parts.Goals as goal

-- the text of the parts that are left begins with the next one's
next : (f : Fields) (parts : List Part) (i : ℕ) (d : Part) → i < length parts → parts_text f (drop i parts) ≡ part_text f (get_or parts i d) ++ parts_text f (drop (i + 1) parts)
next f parts i d lt = rw add-one (ap (parts_text f) (drop-cons parts i d lt))

pub returns-in-None : goal.returns-in-None
returns-in-None c =
    let f = fields_of c.args.insn in
    let parts = c.args.parts.now in
    let i = c.loop-part.part-index in
    sym c.loop-part.invariant ∙ none_after _ _ (parts_text f (drop (i + 1) parts)) c.loop-part.rest.now (next f parts i _ c.loop-part-test.true) c.in-None.ensures

pub loop-part-preserved : goal.loop-part-preserved
loop-part-preserved c =
    let f = fields_of c.args.insn in
    let parts = c.args.parts.now in
    let i = c.loop-part.part-index in
    sym (some_after _ _ (parts_text f (drop (i + 1) parts)) c.loop-part.rest.now c.in-Some.more.now (next f parts i _ c.loop-part-test.true) c.in-Some.ensures) ∙ c.loop-part.invariant
