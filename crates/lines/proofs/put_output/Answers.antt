use native.Mathlib.Omega.{arith}
use borrow.Author.Rules.{rules}
use Rattle.text.proofs.Texts.{sized, then, loose}
use Rattle.lines.proofs.Items.{output_none, output_some}
use Rattle.lines.proofs.put_output.Goals as goal

pub returns-then-is_empty : goal.returns-then-is_empty
returns-then-is_empty c =
    let w = c.args.written.now in
    loose (then (sized c.put_octet-next.ensures) (sized c.put_octet.ensures)) _ (omega arith) (output_none w (search rules))

pub returns : goal.returns
returns c =
    let w = c.args.written.now in
    loose (then (sized c.put_octet-next.ensures) (sized c.put_hexes.ensures)) _ (omega arith) (output_some w (search rules))
