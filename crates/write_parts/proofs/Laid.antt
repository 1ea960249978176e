-- How runs that were put become the fields of a layout: behind their length, behind a header, and a header put after its data. Assumes nothing.
use mathlib.Core.Path.{◌≡◌, refl, sym, ap, ◌∙◌, subst}
use Prim.Native.Nat.{ℕ, ◌+◌, ◌-◌, ◌≤◌}
use native.Mathlib.Omega.{arith}
use mathlib.Core.List.{List, [], ◌++◌, append_assoc, append-nil}
use lib.ListN.{length, length-append}
use Rattle.octets.specs.Octets.{octets, splice}
use Rattle.octets.specs.Put.{Put}
use Rattle.octets.proofs.Splice.{splice_splice, splice_comm}
use Rattle.octets.proofs.Part.{length_part}
use Rattle.octets.proofs.Put.{kept, none, then, same}
use Rattle.octets.specs.Blank.{blank}
use Rattle.reference.specs.declared.TypeIdRule.{TypeIdRule}
use Rattle.reference.specs.declared.View.{View}
use Rattle.reference.specs.Layout.{gap_length, gap, tagged}
use Rattle.reference.specs.Contents.{shown}
use Rattle.write_parts.specs.Sound.{prefixed, gapped, Within}

-- the last field of a layout
pub last : {d xs e : List ℕ} {at n r : ℕ} → Put d at n xs e r → Put d at n (xs ++ []) e r
last {xs = xs} p = same p refl (sym (append-nil xs)) refl

-- two fields that were put at once, and what follows
pub two : (xs ys : List ℕ) {d e zs f : List ℕ} {at m r n s : ℕ} → Put d at m (xs ++ ys) e r → Put e r n zs f s → Put d at (m + n) (xs ++ (ys ++ zs)) f s
two xs ys {zs = zs} p q = same (then p q) refl (append_assoc xs ys zs) refl

-- what is put into the gap before it
pub before : {d xs e ys f : List ℕ} {at k n r s : ℕ} → Put d (at + k) n xs e r → Put e at k ys f s → Put d at (k + n) (ys ++ xs) f r
before {d} {xs} {e} {ys} {f} {at} {k} {n} {r} {s} p q =
    let a : length xs ≡ n = p.size in
    let b : length ys ≡ k = q.size in
    let pn : r ≡ at + k + n = p.next in
    let pr : at + k + n ≤ length d = p.room in
    let g : at + k ≡ at + length ys = omega arith in
    record {
      size = simp length-append (omega arith);
      next = omega arith;
      room = omega arith;
      left =
          q.left
          ∙ ap (λ (x : List ℕ). splice x at ys) p.left
          ∙ sym (splice_comm at d ys (at + k) xs (omega arith) (omega arith))
          ∙ ap (λ (x : ℕ). splice (splice d at ys) x xs) g
          ∙ splice_splice d at ys xs (omega arith);
    }

-- a view's octets behind their length, of w octets
pub behind : (w : ℕ) (s : List ℕ) (v : View) → Within (length s) v → {d e f : List ℕ} {at r q : ℕ}
    → Put d at w (octets w v.len) e r → Put e r v.len (shown s v) f q → Put d at (w + v.len) (prefixed w (shown s v)) f q
behind w s v h p q = then (same p refl (ap (octets w) (sym (length_part s v.at v.len h))) refl) (last q)

-- and what follows them
pub onto : (w : ℕ) (l : List ℕ) {d e zs f : List ℕ} {at m r n s : ℕ} → Put d at m (prefixed w l) e r → Put e r n zs f s → Put d at (m + n) (octets w (length l) ++ (l ++ zs)) f s
onto w l {zs = zs} p q =
    same (then p q) refl
    (append_assoc (octets w (length l)) (l ++ []) zs ∙ ap (λ (x : List ℕ). octets w (length l) ++ (x ++ zs)) (append-nil l)) refl

-- a type id's octets behind their length, and then the rule's gap
pub with_gap : (rule : TypeIdRule) (s : List ℕ) (v : View) → Within (length s) v → {d e f : List ℕ} {at k r q : ℕ} → k ≡ gap_length rule v.len
    → Put d at (4 + v.len) (prefixed 4 (shown s v)) e r → Put e r k (blank k) f q → Put d at (4 + v.len + gap_length rule v.len) (gapped rule (shown s v)) f q
with_gap rule s v h g p q =
    let n : gap_length rule v.len ≡ gap_length rule (length (shown s v)) = ap (gap_length rule) (sym (length_part s v.at v.len h)) in
    onto 4 (shown s v) p (last (same q g (ap blank (g ∙ n)) refl))

-- where there is none, the type id's octets are all
pub without_gap : (rule : TypeIdRule) (s : List ℕ) (v : View) → Within (length s) v → {d e : List ℕ} {at k r : ℕ} → k ≡ gap_length rule v.len → k ≡ 0
    → Put d at (4 + v.len) (prefixed 4 (shown s v)) e r → Put d at (4 + v.len + gap_length rule v.len) (gapped rule (shown s v)) e r
without_gap rule s v h {e = e} {r = r} g z p =
    with_gap rule s v h g p (subst (λ (i : ℕ). Put e r i (blank i) e r) (sym z) (none e r (omega (arith, p.next, p.room, kept p))))

pub onto_gap : (rule : TypeIdRule) (l : List ℕ) {d e zs f : List ℕ} {at m r n s : ℕ} → Put d at m (gapped rule l) e r → Put e r n zs f s
    → Put d at (m + n) (octets 4 (length l) ++ (l ++ (gap rule (length l) ++ zs))) f s
onto_gap rule l {zs = zs} p q =
    let a = octets 4 (length l) in
    let g = gap rule (length l) in
    same (then p q) refl
    (append_assoc a (l ++ (g ++ [])) zs ∙ ap (λ (x : List ℕ). a ++ x) (append_assoc l (g ++ []) zs) ∙ ap (λ (x : List ℕ). a ++ (l ++ (x ++ zs))) (append-nil g)) refl

-- ---- a component or a profile, whose length has w octets

tagging : (w tag n : ℕ) (l : List ℕ) → length l ≡ n → (octets 4 tag ++ octets w n) ++ l ≡ tagged w tag l
tagging w tag n l h =
    append_assoc (octets 4 tag) (octets w n) l
    ∙ ap (λ (x : ℕ). octets 4 tag ++ (octets w x ++ l)) (sym h)
    ∙ ap (λ (x : List ℕ). octets 4 tag ++ (octets w (length l) ++ x)) (sym (append-nil l))

-- its header, then its data
pub headed : (w tag : ℕ) {d e l f : List ℕ} {at r n s : ℕ} → Put d at (4 + w) (octets 4 tag ++ octets w n) e r → Put e r n l f s → Put d at (4 + w + n) (tagged w tag l) f s
headed w tag {l = l} {n = n} p q = same (then p q) refl (tagging w tag n l q.size) refl

-- its data, then its header, which tells how far the data went
pub header_after : (w tag : ℕ) {d l e f : List ℕ} {at n r s : ℕ} → Put d (at + (4 + w)) n l e r
    → Put e at (4 + w) (octets 4 tag ++ octets w (r - (at + (4 + w)))) f s → Put d at (4 + w + n) (tagged w tag l) f r
header_after w tag {l = l} {at = at} {n = n} {r = r} p q =
    let next : r ≡ at + (4 + w) + n = p.next in
    let size : length l ≡ n = p.size in
    same (before p q) refl (tagging w tag (r - (at + (4 + w))) l (omega arith)) refl
