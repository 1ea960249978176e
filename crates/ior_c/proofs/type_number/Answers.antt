use mathlib.Core.Path.{sym, ◌∙◌}
use Rattle.ior_c.proofs.Answers.{type_four, type_other}
use Rattle.ior_c.proofs.type_number.Goals as goal

pub returns-then-type_id-eq4 : goal.returns-then-type_id-eq4
returns-then-type_id-eq4 c = c.be32.ensures ∙ sym (type_four _ c.if-type_id-eq4.true)

pub returns : goal.returns
returns c = sym (type_other _ c.if-type_id-eq4.false)
