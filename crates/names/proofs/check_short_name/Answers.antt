use borrow.Author.Rules.{rules}
use Rattle.names.proofs.Cases.{source_over, id_over, kind_over, room_short, id_long, kind_last}
use Rattle.names.proofs.check_short_name.Goals as goal

pub returns-then-n-gt-MOST : goal.returns-then-n-gt-MOST
returns-then-n-gt-MOST c = search source_over

pub returns-in_err-check_view : goal.returns-in_err-check_view
returns-in_err-check_view c = search (id_over, c.in_err-check_view.was, rules)

pub returns-in_err-check_view-2 : goal.returns-in_err-check_view-2
returns-in_err-check_view-2 c = search (kind_over, c.in_ok-check_view.was, c.in_err-check_view-2.was, rules)

pub returns-then-m-size : goal.returns-then-m-size
returns-then-m-size c = search (room_short, c.in_ok-check_view.was, c.in_ok-check_view-2.was, rules)

pub returns-in_err-check_length : goal.returns-in_err-check_length
returns-in_err-check_length c =
    search (id_long, c.in_ok-check_view.was, c.in_ok-check_view-2.was, c.in_err-check_length.was, rules)

pub returns : goal.returns
returns c = search (kind_last, c.in_ok-check_view.was, c.in_ok-check_view-2.was, c.in_ok-check_length.was, rules)
