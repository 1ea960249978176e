use mathlib.Core.Path.{refl, sym}
use Rattle.octets.proofs.Halves.{octets_one}
use Rattle.octets.proofs.Put.{same}
use Rattle.octets.proofs.put8.Goals as goal

pub returns : goal.returns
returns c = same c.put_run.ensures refl (sym (octets_one c.args.v)) refl
