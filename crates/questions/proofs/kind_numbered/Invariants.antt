use mathlib.Core.Path.{◌≡◌}
use lib.ListN.{drop}
use Rattle.reference.specs.Questions.{kinds, kind_among, kind_numbered}
use Rattle.questions.proofs.kind_numbered.Given as goal

-- `questions::kind_numbered` meets its contract. The invariant: among the rows that are left the number has the same kind as among all five. Assumes nothing.
abbrev pub invariant-loop-row : goal.invariant-loop-row
invariant-loop-row l = kind_among (drop l.row-index kinds) l.n ≡ kind_numbered l.n
