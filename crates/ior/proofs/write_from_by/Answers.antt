use borrow.Author.Rules.{rules}
use Rattle.ior.proofs.Guarded.{sound_writes, unsound_writes}
use Rattle.ior.proofs.write_from_by.Goals as goal

pub returns-in_err-total : goal.returns-in_err-total
returns-in_err-total c = search (unsound_writes, c.in_err-total.was, rules)

pub returns : goal.returns
returns c = search (sound_writes, c.in_ok-total.was, rules)
