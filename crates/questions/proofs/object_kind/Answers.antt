use mathlib.Core.Path.{sym, ap, ◌∙◌}
use native.Mathlib.Omega.{arith}
use borrow.Author.Tests.{eq-eqb}
use lib.Seq.{take_all}
use Rattle.octets.specs.Octets.{be}
use Rattle.reference.specs.Questions.{kind_numbered, kind_of}
use Rattle.reference.proofs.Asked.{kind_other}
use Rattle.questions.proofs.object_kind.Goals as goal

pub returns-then-type_id-eq4 : goal.returns-then-type_id-eq4
unfolding kind_of
returns-then-type_id-eq4 c =
    rw (eq-eqb _ _ c.if-type_id-eq4.true) (c.kind_numbered.ensures ∙ ap kind_numbered (c.be32.ensures ∙ ap be (take_all 4 _ (omega arith))))

pub returns : goal.returns
returns c = sym (kind_other _ c.if-type_id-eq4.false)
