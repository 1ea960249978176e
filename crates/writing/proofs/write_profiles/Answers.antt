use mathlib.Core.Path.{sym, ap, ◌∙◌, subst}
use Prim.Native.Nat.{◌+◌, ◌<◌}
use native.Mathlib.Omega.{arith}
use lib.ListN.{length}
use Rattle.reference.specs.Layout.{layout_profile}
use Rattle.reference.specs.Used.{owned_of}
use Rattle.reference.specs.Today.{profile_of}
use Rattle.reference.specs.Writer.{own_size}
use Rattle.reference.proofs.Agreeing.{agreeing}
use Rattle.table.specs.declared.Counts.{Counts}
use Rattle.table.specs.Flat.{tables_from}
use Rattle.table.proofs.Entries.{profiles_used_lem}
use Rattle.survey.specs.ByTable.{used_in}
use Rattle.write_parts.proofs.Left.{Left, begin, turn, fits, room}
use Rattle.write_bodies.specs.Own.{OwnSound}
use Rattle.writing.specs.Own.{after_of, Placed}
use Rattle.writing.proofs.Walked.{left_at, Walked, walk_placed, walk_on_lem, walk_open}
use Rattle.writing.proofs.write_profiles.Goals as goal

pub loop-i-init : goal.loop-i-init
loop-i-init c =
    let (taps, (names, extras)) = c.default-first.ensures in (
      omega arith,
      c.number_at-used.ensures.0 ∙ sym (profiles_used_lem c.args.t.now),
      record { taps = taps; names = names; extras = extras },
      begin (λ j. left_at c.args.t.now 0 (record { taps = taps j; names = names j; extras = extras j })) (omega arith) c.requires.counted_and_sound.1,
    )

pub counts_at-count-requires : goal.counts_at-count-requires
counts_at-count-requires c =
    let p = agreeing (tables_from c.args.t.now) c.requires.counted_and_sound.0 in
    omega (arith, c.loop-i.invariant.1, p.profiles)

-- the profile of a turn, whose entries lie within the tables, and those after it
pub write_profile-pos-requires : goal.write_profile-pos-requires
write_profile-pos-requires c =
    let t = c.args.t.now in
    let l = c.loop-i in
    let p = agreeing (tables_from t) c.requires.counted_and_sound.0 in
    let h : l.i < (tables_from t).profiles_used = omega (arith, l.invariant.1) in
    let o = walk_open t p l.i l.first l.invariant.2 h in
    let n = c.counts_at-count.ensures in
    record {
      i_lt_size = omega (arith, l.invariant.1, p.profiles);
      count_value = (n, subst (Placed l.first) (sym n) (walk_placed t p l.i l.first l.invariant.2 h));
      own_sound = fits o l.invariant.3;
      first_in_bounds = room o l.invariant.3 c.requires.t_in_bounds;
    }

pub after-first-requires : goal.after-first-requires
after-first-requires c =
    let t = c.args.t.now in
    let l = c.loop-i in
    let p = agreeing (tables_from t) c.requires.counted_and_sound.0 in
    subst (Placed l.first) (sym c.counts_at-count.ensures) (walk_placed t p l.i l.first l.invariant.2 (omega (arith, l.invariant.1)))

pub loop-i-preserved : goal.loop-i-preserved
loop-i-preserved c =
    let a = c.args in
    let t = a.t.now in
    let s = a.src.now in
    let l = c.loop-i in
    let p = agreeing (tables_from t) c.requires.counted_and_sound.0 in
    let h : l.i < (tables_from t).profiles_used = omega (arith, l.invariant.1) in
    let e = sym (c.after-first.ensures ∙ ap (after_of l.first) c.counts_at-count.ensures) in
    let w = c.write_profile-pos in (
      omega arith,
      l.invariant.1,
      subst (Walked t (l.i + 1)) e (walk_on_lem t p l.i l.first l.invariant.2 h),
      subst (λ (q : Counts). Left (profile_of s) layout_profile own_size (OwnSound (length s)) a.out.now a.at (owned_of (used_in t)) (left_at t (l.i + 1) q) w.new.out w.result) e
          (turn (walk_open t p l.i l.first l.invariant.2 h) l.invariant.3 w.ensures),
    )
