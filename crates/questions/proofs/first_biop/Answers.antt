use mathlib.Core.Path.{sym, ap, ◌∙◌}
use mathlib.Core.List.{List}
use native.Mathlib.Omega.{arith}
use lib.ListN.{take}
use Rattle.std.proofs.Common.{rules, tests, Ok}
use Rattle.std.proofs.lemmas.Iterator.{YieldsList-from_slice}
use Rattle.std.proofs.lemmas.Iterator.Search.{position_from_yields_List}
use Rattle.std.proofs.lemmas.Iterator.Adapters.{position_from-zero}
use Rattle.reference.specs.declared.Profile.{Profile as Entry}
use Rattle.questions.proofs.Cases.{first_over, first_within, biop, first_is}
use Rattle.questions.proofs.first_biop.Goals as goal

pub returns-then-used-gt-PROFILES : goal.returns-then-used-gt-PROFILES
returns-then-used-gt-PROFILES c = search (first_over, rules)

pub returns : goal.returns
returns c =
    let t = c.args.t in
    let l : List Entry = take t.profiles_used t.profiles in
    let r = position_from_yields_List {all = l} biop _ _ c.position-first.result c.position-first.ensures.ran (YieldsList-from_slice l (cc)) (λ x b q k. search (rules, tests)) in
    ap Ok (r ∙ position_from-zero biop l ∙ first_is l 0) ∙ sym (first_within t (omega arith))
