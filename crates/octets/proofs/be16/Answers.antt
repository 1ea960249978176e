use mathlib.Core.Path.{◌≡◌, sym, ◌∙◌}
use native.Mathlib.Omega.{arith}
use Rattle.octets.specs.Octets.{be}
use Rattle.octets.proofs.Part.{row, row_part}
use Rattle.octets.proofs.be16.Goals as goal

pub returns : goal.returns
unfolding be row
returns c =
    let s = c.args.s.now in
    let at = c.args.at in
    let e : c.run_at.result ≡ row s at 2 = c.run_at.ensures ∙ sym (row_part s at 2 (omega arith)) in
    rw (← row_part s at 2 (omega arith)) (omega (arith, rw e at c.from_be_bytes.ensures))
