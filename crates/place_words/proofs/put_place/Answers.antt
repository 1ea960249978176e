use mathlib.Core.Path.{◌≡◌, sym, ap}
use mathlib.Core.List.{[], map}
use native.Mathlib.Omega.{arith}
use lib.ListN.{length, get_or-eq_default}
use Rattle.octets.proofs.Put.{none}
use Rattle.text.proofs.Texts.{sized, loose}
use Rattle.text.specs.Text.{ascii}
use Rattle.place_words.specs.Words.{place_words, place_text}
use Rattle.place_words.proofs.Table.{lent_at, text_short}
use Rattle.place_words.proofs.put_place.Goals as goal

-- `place_words::put_place` meets its contract. The code's words are 01's: it is computed. Assumes nothing.
pub returns-then-i-ge44 : goal.returns-then-i-ge44
returns-then-i-ge44 c =
    loose (sized (none _ c.args.at (omega (arith, c.requires)))) 27 (omega arith) (sym (get_or-eq_default (map ascii place_words) [] c.if-i-ge44.true))

pub put_word-requires : goal.put_word-requires
put_word-requires c =
    let words : c.as_bytes-words.result.now ≡ place_text c.args.place = rw lent_at at c.as_bytes-words.ensures.value in
    omega (arith, ap length words, text_short c.args.place)

pub returns : goal.returns
returns c =
    let words : c.as_bytes-words.result.now ≡ place_text c.args.place = rw lent_at at c.as_bytes-words.ensures.value in
    loose (sized c.put_word.ensures) 27 (omega (arith, ap length words, text_short c.args.place)) words
