use Rattle.std.proofs.Common.{◌==◌, sym, ap, ◌∙◌, length, arith}
use Rattle.std.proofs.lemmas.Slice.Eq.{bytes_eq-Decides}
use Rattle.rt_script.proofs.Splits.{pieces_fit}
use Rattle.rt_script.proofs.reading.read_script.Goals as goal

pub read_lines-requires : goal.read_lines-requires
read_lines-requires c =
    let spelled = (bytes_eq-Decides c.in-Some.header.now c.as_slice.result.now).0 (sym c.if-eq.ensures) in
    let fit = pieces_fit (λ b. b == 10) c.args.text.now c.in-Some.header.now c.next.new.self (sym c.new-lines.ensures ∙ c.in-Some.ensures) in
    omega (arith, fit, ap length spelled, ap length c.as_slice.ensures)
