use Rattle.text.proofs.Texts.{sized, then}
use Rattle.rows.specs.Rows.{where_text}
use Rattle.rows.proofs.put_where.Goals as goal

pub returns : goal.returns
unfolding where_text
returns c =
    then (then (then (sized c.put_octet-place.ensures) c.put_place-word.ensures) (sized c.put_word-offset.ensures)) c.put_decimal.ensures
