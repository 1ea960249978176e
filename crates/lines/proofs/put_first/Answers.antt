use mathlib.Core.Path.{◌≡◌, sym, ap, ◌∙◌}
use native.Mathlib.Omega.{arith}
use borrow.Author.Rules.{rules}
use Rattle.std.specs.Prelude.{Some, None, Ok}
use Rattle.text.proofs.Texts.{sized, then, loose}
use Rattle.lines.specs.Lines.{first_text}
use Rattle.lines.proofs.put_first.Goals as goal

pub returns-in-Ok-Some : goal.returns-in-Ok-Some
unfolding first_text
returns-in-Ok-Some c =
    let at : c.args.first ≡ Ok (Some c.in-Ok-Some.i) = c.in-Ok-Some.is ∙ ap Ok (rw c.in-Ok-Some.is at c.in-Ok-Some.field-0-is) in
    loose c.put_accepted.ensures 88 (omega arith) (sym (ap first_text at))

pub returns-in-Ok-None : goal.returns-in-Ok-None
unfolding first_text
returns-in-Ok-None c =
    let nothing : c.args.first ≡ Ok None = search rules in
    loose (sized c.put_word.ensures) 88 (omega arith) (sym (ap first_text nothing))

pub returns-in-Err : goal.returns-in-Err
unfolding first_text
returns-in-Err c =
    loose (then c.put_refusal-none.ensures (sized c.put_word-in-Err.ensures)) 88 (omega arith) (sym (ap first_text c.in-Err.is))
