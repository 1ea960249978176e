use Rattle.text.proofs.Texts.{sized, then}
use Rattle.lines.specs.Lines.{accepted_text}
use Rattle.lines.proofs.put_accepted.Goals as goal

pub returns : goal.returns
unfolding accepted_text
returns c = then (sized c.put_word-next.ensures) c.put_spaced.ensures
