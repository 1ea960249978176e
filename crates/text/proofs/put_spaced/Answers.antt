use Rattle.text.proofs.Texts.{sized, then}
use Rattle.text.proofs.put_spaced.Goals as goal

pub returns : goal.returns
returns c = then (sized c.put_octet-next.ensures) c.put_decimal.ensures
