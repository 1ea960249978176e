use mathlib.Core.Path.{sym, ap, ◌∙◌}
use mathlib.Core.Bool.{Bool}
use mathlib.Core.List.{append-nil}
use native.Mathlib.Omega.{arith}
use Rattle.text.proofs.Texts.{sized, then, loose}
use Rattle.rows.specs.Rows.{refused_text}
use Rattle.rows.proofs.put_refused.Goals as goal

pub returns-then-is_where : goal.returns-then-is_where
unfolding refused_text
returns-then-is_where c =
    let a = c.args in
    loose (then (then (sized c.put_word-next.ensures) c.put_spaced-end.ensures) c.put_where.ensures) 76 (omega arith)
    (sym (ap (λ (b : Bool). refused_text b a.start a.why) c.if-is_where.true))

pub returns : goal.returns
unfolding refused_text
returns c =
    let a = c.args in
    loose (then (sized c.put_word-next.ensures) c.put_spaced-end.ensures) 76 (omega arith)
    (sym (append-nil _) ∙ sym (ap (λ (b : Bool). refused_text b a.start a.why) c.if-is_where.false))
