use mathlib.Core.Path.{sym}
use native.Mathlib.Omega.{arith}
use Rattle.octets.proofs.Halves.{single}
use Rattle.octets.proofs.octet.Goals as goal

pub returns : goal.returns
returns c = let a = c.args in sym (single a.s.now a.at (omega arith))
