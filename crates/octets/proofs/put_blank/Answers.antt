use mathlib.Core.Path.{refl, ap, ◌∙◌}
use native.Mathlib.Omega.{arith}
use Rattle.octets.specs.Blank.{blank}
use Rattle.octets.proofs.Blank.{length_blank}
use Rattle.octets.proofs.Part.{length_part}
use Rattle.octets.proofs.Splice.{splice_back}
use Rattle.octets.proofs.put_blank.Goals as goal

pub returns : goal.returns
returns c =
    let a = c.args in
    let k = a.k in
    let n = length_part a.out.now a.at k (omega arith) in
    record {
      size = length_blank k;
      next = refl;
      room = omega arith;
      left = splice_back _ _ _ _ _ (c.fill.ensures.after (λ y h. h) ∙ ap blank (omega (arith, n))) (omega (arith, length_blank k));
    }
