use Prim.Native.Nat.{◌+◌, ◌≤◌}
use mathlib.Core.Path.{◌≡◌}
use borrow.Author.Rules.{rules}
use Rattle.std.specs.Prelude.{Err}
use Rattle.reference.specs.declared.Refusal.{Refusal}
use Rattle.reference.specs.Refusals.{shifted}
use Rattle.reading.proofs.Filing.{no_header, few, data_inside, next_fits, data_small, offset_small, was_ok, was_no, no_body, one_more, all_read}
use Rattle.reading.proofs.read_profiles.Goals as goal

pub returns-in_err-tag : goal.returns-in_err-tag
returns-in_err-tag c = search (no_header, c.in_err-tag.was, rules)

pub overflow_add-next : goal.overflow_add-next
overflow_add-next c = search (next_fits, c.in_ok-tag.was)

pub slice_bounds-read_body-end : goal.slice_bounds-read_body-end
slice_bounds-read_body-end c = search (data_inside, c.in_ok-tag.was)

pub read_body-stored-requires : goal.read_body-stored-requires
read_body-stored-requires c = search (few, data_small, c.in_ok-tag.was)

pub map_err-requires : goal.map_err-requires
map_err-requires c =
    let small : (x : Refusal) → c.read_body-stored.result ≡ Err x → x.offset ≤ 65535 = λ x q. search (offset_small, q, c.in_ok-tag.was) in
    λ x q. let h = small x q in search (h, rules)

pub returns-in_err-used : goal.returns-in_err-used
returns-in_err-used c =
    let (x, q, h) = was_no _ c.read_body-stored.result c.map_err.ensures.cases c.in_err-used.was in
    let e : c.in_err-used.field-0.0 ≡ shifted (c.loop-i.cur + 8) x = search (h, rules) in
    search (no_body, e, q, c.in_ok-tag.was, rules)

pub loop-i-preserved : goal.loop-i-preserved
loop-i-preserved c = let q = was_ok _ c.read_body-stored.result c.map_err.ensures.cases c.in_ok-used.was in search (one_more, q, c.in_ok-tag.was)

pub returns : goal.returns
returns c = search all_read
