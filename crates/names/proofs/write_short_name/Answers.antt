use native.Mathlib.Omega.{arith}
use borrow.Author.Rules.{rules}
use Rattle.octets.proofs.Put.{then, kept}
use Rattle.reference.proofs.Checks.{test_le}
use Rattle.names.proofs.Cases.{passing_all, refused_writes, accepted_writes}
use Rattle.names.proofs.write_short_name.Goals as goal

-- What the check passed is what the two runs require; together they are the image.
pub write_run-next-requires : goal.write_run-next-requires
write_run-next-requires c =
    let p = passing_all _ _ _ _ c.check_short_name.ensures c.in_ok-check_short_name.was in
    record { inside = test_le _ _ _ p.id; short = p.id_short; room = omega (arith, p.room) }

pub write_run-end-requires : goal.write_run-end-requires
write_run-end-requires c =
    let p = passing_all _ _ _ _ c.check_short_name.ensures c.in_ok-check_short_name.was in
    let w = c.write_run-next.ensures in
    record { inside = test_le _ _ _ p.kind; short = p.kind_short; room = omega (arith, p.room, w, kept w) }

pub returns-in_err-check_short_name : goal.returns-in_err-check_short_name
returns-in_err-check_short_name c = search (refused_writes, c.in_err-check_short_name.was, rules)

pub returns : goal.returns
returns c = accepted_writes _ _ _ _ c.check_short_name.ensures c.in_ok-check_short_name.was (then c.write_run-next.ensures c.write_run-end.ensures)
