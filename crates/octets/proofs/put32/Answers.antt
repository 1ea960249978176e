use mathlib.Core.Path.{refl, ◌∙◌}
use native.Mathlib.Omega.{arith}
use Rattle.octets.proofs.Halves.{octets_four}
use Rattle.octets.proofs.Put.{same}
use Rattle.octets.proofs.put32.Goals as goal

pub returns : goal.returns
returns c = same c.put_run.ensures refl (c.to_be_bytes.ensures ∙ octets_four c.args.v _ _ _ _ (omega arith) (omega arith) (omega arith) (omega arith)) refl
