use mathlib.Core.Path.{refl, sym, ap, ◌∙◌, subst}
use Prim.Native.Nat.{◌+◌}
use native.Mathlib.Omega.{arith}
use lib.ListN.{length}
use Rattle.octets.specs.Octets.{octets}
use Rattle.octets.specs.Put.{Put}
use Rattle.octets.proofs.Put.{then, same, kept}
use Rattle.reference.specs.declared.View.{View}
use Rattle.reference.specs.Layout.{gap_length, layout_of}
use Rattle.reference.specs.Contents.{shown}
use Rattle.reference.specs.Today.{profile_of}
use Rattle.reference.specs.Writer.{size_of, image_of}
use Rattle.reference.proofs.Formed.{passing}
use Rattle.table.specs.Flat.{tables_from}
use Rattle.table.proofs.Entries.{type_id_entry}
use Rattle.write_parts.specs.Sound.{gapped, Within}
use Rattle.write_parts.proofs.Laid.{last, onto_gap}
use Rattle.writing.proofs.Answers.{counts_written}
use Rattle.writing.proofs.Walked.{meanings_count}
use Rattle.writing.proofs.Checked.{used_sound, type_within, whole_room}
use Rattle.writing.proofs.write_image.Goals as goal

pub write_type_id-a-requires : goal.write_type_id-a-requires
write_type_id-a-requires c =
    let a = c.args in
    let t = tables_from a.t.now in
    let p = passing a.rule t (length a.src.now) (length a.out.now) c.requires in
    let e = c.view_at-type_id.ensures ∙ sym (type_id_entry a.t.now) in
    record {
      within = subst (Within (length a.src.now)) (sym e) (type_within a.rule t _ (length a.out.now) p);
      type_id_in_bounds = omega (arith, ap (λ (x : View). x.len + gap_length a.rule x.len) e, whole_room a.rule t (length a.src.now) (length a.out.now) p);
    }

pub put32-b-requires : goal.put32-b-requires
put32-b-requires c =
    let a = c.args in
    let t = tables_from a.t.now in
    let p = passing a.rule t (length a.src.now) (length a.out.now) c.requires in
    let e = c.view_at-type_id.ensures ∙ sym (type_id_entry a.t.now) in
    let w = c.write_type_id-a.ensures in
    omega (arith, ap (λ (x : View). x.len + gap_length a.rule x.len) e, whole_room a.rule t (length a.src.now) (length a.out.now) p, w, kept w)

pub write_profiles-requires : goal.write_profiles-requires
write_profiles-requires c =
    let a = c.args in
    let t = tables_from a.t.now in
    let p = passing a.rule t (length a.src.now) (length a.out.now) c.requires in
    let e = c.view_at-type_id.ensures ∙ sym (type_id_entry a.t.now) in
    let w = c.write_type_id-a.ensures in
    let v = c.put32-b.ensures in
    record {
      counted_and_sound = (counts_written a.rule t (length a.src.now) (length a.out.now) c.requires, used_sound a.rule a.src.now t (length a.out.now) p);
      t_in_bounds =
          omega (arith, ap (λ (x : View). x.len + gap_length a.rule x.len) e, whole_room a.rule t (length a.src.now) (length a.out.now) p, kept v ∙ kept w, v, w);
    }

-- the view that was read is the type id's; the count and the profiles follow it
pub returns : goal.returns
unfolding size_of image_of layout_of
returns c =
    let a = c.args in
    let t = tables_from a.t.now in
    let s = a.src.now in
    let p = passing a.rule t (length s) (length a.out.now) c.requires in
    let e = c.view_at-type_id.ensures ∙ sym (type_id_entry a.t.now) in
    let head =
    subst (λ (x : View). Put a.out.now 0 (4 + x.len + gap_length a.rule x.len) (gapped a.rule (shown s x)) c.write_type_id-a.new.out c.write_type_id-a.result) e
    c.write_type_id-a.ensures in
    let count = same c.put32-b.ensures refl (ap (octets 4) (sym (meanings_count a.t.now p.counts (profile_of s)))) refl in
    same (onto_gap a.rule (shown s t.type_id) head (then count (last c.write_profiles.ensures))) (omega arith) refl refl
