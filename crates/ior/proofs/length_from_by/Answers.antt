use borrow.Author.Rules.{rules}
use Rattle.ior.proofs.Guarded.{sound_fits, sound_measured, unsound_measured}
use Rattle.ior.proofs.length_from_by.Goals as goal

pub returns-in_err-total : goal.returns-in_err-total
returns-in_err-total c = search (unsound_measured, c.in_err-total.was, rules)

pub with_gap-requires : goal.with_gap-requires
with_gap-requires c = search (sound_fits, c.in_ok-total.was, rules)

pub returns : goal.returns
returns c = search (sound_measured, c.in_ok-total.was, rules)
