use Rattle.text.proofs.Texts.{then}
use Rattle.lines.specs.Lines.{refusal_text}
use Rattle.lines.proofs.put_refusal.Goals as goal

pub returns : goal.returns
unfolding refusal_text
returns c =
    then (then (then c.put_decimal-place.ensures c.put_spaced-first.ensures) c.put_spaced-second.ensures) c.put_spaced.ensures
