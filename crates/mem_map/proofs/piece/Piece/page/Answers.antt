use Rattle.std.proofs.Common.{◌≡◌, ◌-◌, drop, length, min, take, ap, ◌∙◌, arith}
use Rattle.std.proofs.lemmas.List.{length-drop, take_all}
use Rattle.mem_map.proofs.Built.{take-least}
use Rattle.mem_map.proofs.piece.Piece.page.Goals as goal

pub returns : goal.returns
returns c =
    let rest = drop c.args.place c.deref.result.now in
    let all : take (length c.deref.result.now - c.args.place) rest ≡ rest = take_all _ rest (omega (arith, length-drop c.args.place c.deref.result.now)) in
    let size : c.min.result ≡ min (length rest) 4096 = omega (arith, c.min.ensures, length-drop c.args.place c.deref.result.now) in
    rw (← c.self.view_is) (ap (take c.min.result) all ∙ ap (λ n. take n rest) size ∙ take-least rest 4096 ∙ ap (λ l. take 4096 (drop c.args.place l)) c.deref.ensures.value)
