use borrow.Author.Rules.{rules}
use Rattle.read_lite.proofs.Rest.{context_inside, no_names_lem, no_context, no_extras_lem, filed_in, filed_out}
use Rattle.read_lite.proofs.read_lite_rest.Goals as goal
use Rattle.read_lite.proofs.read_lite_rest.Goals.{then-i-lt-PROFILES, else-i-lt-PROFILES}

pub read_extras-requires : goal.read_extras-requires
read_extras-requires c = search (context_inside, c.in_ok-context.was, rules)

pub returns-in_err-mid : goal.returns-in_err-mid
returns-in_err-mid c = λ a s. search (no_names_lem, c.in_err-mid.was, rules)

pub returns-in_err-context : goal.returns-in_err-context
returns-in_err-context c = λ a s. search (no_context, c.in_ok-mid.was, c.in_err-context.was, rules)

pub returns-in_err-read_extras : goal.returns-in_err-read_extras
returns-in_err-read_extras c = λ a s. search (no_extras_lem, c.in_ok-mid.was, c.in_ok-context.was, c.in_err-read_extras.was, rules)

pub returns : goal.returns
returns c =
    λ a s.
    elim c.if-i-lt-PROFILES.branch [
      | then-i-lt-PROFILES w ↦ search (filed_in, c.in_ok-mid.was, c.in_ok-context.was, c.in_ok-read_extras.was, rules)
      | else-i-lt-PROFILES w ↦ search (filed_out, c.in_ok-mid.was, c.in_ok-context.was, c.in_ok-read_extras.was, rules)
    ]
