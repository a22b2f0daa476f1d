use Rattle.std.proofs.Common.{ap, sym, ◌∙◌, arith, Some}
use Rattle.std.specs.Option.{option_map}
use Rattle.rv_decode.specs.Encoding.{encoded}
use Rattle.rv_decode.specs.Fields.{fields_in, decoded}
use Rattle.rv_decode.proofs.Reading.{encoded-decoded, form-row_of}
use Rattle.rv_decode.proofs.decoder.decode.Goals as goal

pub returns-in_default-clause-value : goal.returns-in_default-clause-value
unfolding decoded
returns-in_default-clause-value c = ap (option_map (λ r. fields_in r.form r.op c.args.word)) c.in_default.ensures

pub read-requires : goal.read-requires
read-requires c = form-row_of c.args.word c.in-Some.row (sym c.in-Some.ensures)

pub returns-clause-value : goal.returns-clause-value
unfolding decoded
returns-clause-value c =
    ap Some c.read.ensures ∙ ap (option_map (λ r. fields_in r.form r.op c.args.word)) c.in-Some.ensures

pub returns-clause-encodes : goal.returns-clause-encodes
returns-clause-encodes c =
    ap encoded c.read.ensures ∙ encoded-decoded c.args.word c.in-Some.row (omega arith) (sym c.in-Some.ensures)
