use borrow.Author.Rules.{rules}
use Rattle.read_biop.proofs.Rest.{taps_inside, no_taps_lem, no_extras_lem, filed_in, filed_out}
use Rattle.read_biop.proofs.read_biop_rest.Goals as goal
use Rattle.read_biop.proofs.read_biop_rest.Goals.{then-i-lt-PROFILES, else-i-lt-PROFILES}

pub read_extras-requires : goal.read_extras-requires
read_extras-requires c = search (taps_inside, c.in_ok-mid.was, rules)

pub returns-in_err-mid : goal.returns-in_err-mid
returns-in_err-mid c = search (no_taps_lem, c.in_err-mid.was, rules)

pub returns-in_err-read_extras : goal.returns-in_err-read_extras
returns-in_err-read_extras c = search (no_extras_lem, c.in_ok-mid.was, c.in_err-read_extras.was, rules)

pub returns : goal.returns
returns c =
    elim c.if-i-lt-PROFILES.branch [
      | then-i-lt-PROFILES w ↦ search (filed_in, c.in_ok-mid.was, c.in_ok-read_extras.was)
      | else-i-lt-PROFILES w ↦ search (filed_out, c.in_ok-mid.was, c.in_ok-read_extras.was)
    ]
