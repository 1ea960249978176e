-- The contract of each exported function, under its name; of the four on references over the rule for type ids and the way an address is written, both of
-- which the functions without `_by` leave out (`Today`). s are octets, t a table, v a name's views, k and p the arrays of a kind and of a tap's numbers, a an
-- answer's array and d an output, all as the call found them; r is the result, and b, e and f are what the call left in the answer (or in k or p), in the
-- table (or in v) and in the output. `Tells` and `Gives` say that wrong lengths, or a table that is not exact, give 255 and change nothing. Assumes nothing.
use Rattle.std.specs.Prelude.{ℕ, ◌≡◌, ◌≢◌, List, [], ◌∷◌, eqb, length}
use Rattle.reference.specs.declared.TypeIdRule.{TypeIdRule}
use Rattle.reference.specs.declared.TypeIdRule.TheVariants.{Multiple, Gap}
use Rattle.reference.specs.declared.AddressWay.{AddressWay}
use Rattle.reference.specs.declared.AddressWay.TheVariants.{Constants}
use Rattle.reference.specs.Reader.{read_leading, read_whole, answered}
use Rattle.reference.specs.Steps.{seen, pick}
use Rattle.reference.specs.Writer.{measured, written, leaves}
use Rattle.reference.specs.Questions.{kind_of, tap_numbers_of, first_biop, dvb_address}
use Rattle.reference.specs.Names.{read_short_name, short_at, short_written, short_leaves}
use Rattle.table.specs.Flat.{tables_from, name_from, table_size}
use Rattle.reading.specs.Into.{table_left}
use Rattle.ior_c.specs.Said.{number_of, numbers_of, Tells, Gives, sized, askable, tap_asked, kind_number, type_number, tap_result, tap_pair, first_said, name_said, name_left, truth}

-- ---- references

-- ior_read(s, table, answer)
abbrev pub IorRead : TypeIdRule → (s t a : List ℕ) (r : ℕ) (b e : List ℕ) → Type 0
IorRead rule s t a r b e =
    Gives (sized table_size (length t) (length a)) (answered rule (read_leading rule s)).answer (table_left rule (read_leading rule s) t) a t r b e

-- ior_read_whole(s, table, answer)
abbrev pub IorReadWhole : TypeIdRule → (s t a : List ℕ) (r : ℕ) (b e : List ℕ) → Type 0
IorReadWhole rule s t a r b e =
    Gives (sized table_size (length t) (length a)) (answered rule (read_whole rule s)).answer (table_left rule (read_whole rule s) t) a t r b e

-- ior_length(table, s, answer)
abbrev pub IorLength : TypeIdRule → (t s a : List ℕ) (r : ℕ) (b : List ℕ) → Type 0
IorLength rule t s a r b = Tells (askable t (length a)) (number_of (measured rule (tables_from t) s)) (numbers_of (measured rule (tables_from t) s)) a r b

-- ior_write(table, s, out, answer)
abbrev pub IorWrite : TypeIdRule → AddressWay → (t s d a : List ℕ) (r : ℕ) (b f : List ℕ) → Type 0
IorWrite rule way t s d a r b f = Gives (askable t (length a)) (written rule (tables_from t) s d) (leaves rule way (tables_from t) s d) a d r b f

-- ---- references, by the number k of a rule and the number w of a way

abbrev pub rule_number : TypeIdRule → ℕ
rule_number Multiple = 1
rule_number Gap = 2

abbrev pub way_number : AddressWay → ℕ
way_number Constants = 1

-- where k numbers a choice x, the call is the one under x; a number of none asks nothing, and then U holds
pub record By {A : Type 0} (number : A → ℕ) (k : ℕ) (P : A → Type 0) (U : Type 0) : Type 0 where
  pub named : (x : A) → k ≡ number x → P x
  pub other : ((x : A) → k ≢ number x) → U

-- 255, and nothing is changed: the answer a, and a second array, which held d
abbrev pub Unasked : (a d : List ℕ) (r : ℕ) (b e : List ℕ) → Type 0
Unasked a d r b e = (r ≡ 255) × (b ≡ a) × (e ≡ d)

-- ior_read_by(rule, s, table, answer)
abbrev pub IorReadBy : ℕ → (s t a : List ℕ) (r : ℕ) (b e : List ℕ) → Type 0
IorReadBy k s t a r b e = By rule_number k (λ rule. IorRead rule s t a r b e) (Unasked a t r b e)

-- ior_read_whole_by(rule, s, table, answer)
abbrev pub IorReadWholeBy : ℕ → (s t a : List ℕ) (r : ℕ) (b e : List ℕ) → Type 0
IorReadWholeBy k s t a r b e = By rule_number k (λ rule. IorReadWhole rule s t a r b e) (Unasked a t r b e)

-- ior_length_by(rule, table, s, answer)
abbrev pub IorLengthBy : ℕ → (t s a : List ℕ) (r : ℕ) (b : List ℕ) → Type 0
IorLengthBy k t s a r b = By rule_number k (λ rule. IorLength rule t s a r b) ((r ≡ 255) × (b ≡ a))

-- ior_write_by(rule, way, table, s, out, answer)
abbrev pub IorWriteBy : (k w : ℕ) (t s d a : List ℕ) (r : ℕ) (b f : List ℕ) → Type 0
IorWriteBy k w t s d a r b f = By rule_number k (λ rule. By way_number w (λ way. IorWrite rule way t s d a r b f) (Unasked a d r b f)) (Unasked a d r b f)

-- ---- questions

-- ior_kind(type_id, kind)
abbrev pub IorKind : (i k : List ℕ) (r : ℕ) (b : List ℕ) → Type 0
IorKind i k r b = Tells (eqb (length k) 1) (kind_number (kind_of i)) (type_number i ∷ []) k r b

-- ior_tap(use, selector, pair)
abbrev pub IorTap : (uses : ℕ) (s p : List ℕ) (r : ℕ) (b : List ℕ) → Type 0
IorTap uses s p r b = Tells (tap_asked uses (length p)) (tap_result (tap_numbers_of uses s)) (tap_pair (tap_numbers_of uses s)) p r b

-- ior_first_biop(table, answer)
abbrev pub IorFirstBiop : (t a : List ℕ) (r : ℕ) (b : List ℕ) → Type 0
IorFirstBiop t a r b = Tells (askable t (length a)) (number_of (first_said (first_biop (tables_from t)))) (numbers_of (first_said (first_biop (tables_from t)))) a r b

-- ior_dvb_address(address)
abbrev pub IorDvbAddress : (l : List ℕ) (r : ℕ) → Type 0
IorDvbAddress l r = r ≡ pick (eqb (length l) 20) (truth (dvb_address l)) 255

-- ---- the name with lengths of one octet

-- ior_name_read(s, name, answer)
abbrev pub IorNameRead : (s v a : List ℕ) (r : ℕ) (b e : List ℕ) → Type 0
IorNameRead s v a r b e = Gives (sized 4 (length v) (length a)) (name_said (seen short_at (read_short_name s))) (name_left (seen short_at (read_short_name s))) a v r b e

-- ior_name_write(name, s, out, answer)
abbrev pub IorNameWrite : (v s d a : List ℕ) (r : ℕ) (b f : List ℕ) → Type 0
IorNameWrite v s d a r b f = Gives (sized 4 (length v) (length a)) (short_written (name_from v 0) s d) (short_leaves (name_from v 0) s d) a d r b f
