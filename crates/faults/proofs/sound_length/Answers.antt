use borrow.Author.Rules.{rules}
use Rattle.faults.proofs.Judging.{may_refuse}
use Rattle.faults.proofs.sound_length.Goals as goal

pub refusal_of-requires : goal.refusal_of-requires
refusal_of-requires c = search (may_refuse, rules)
