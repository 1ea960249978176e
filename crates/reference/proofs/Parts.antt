-- Each part of a reference is read right. Assumes nothing.
use Prim.Native.Nat.{ℕ, ◌+◌, ◌-◌, ◌<◌, ◌≤◌, ◌^◌}
use mathlib.Core.Path.{◌≡◌, refl, sym, ap, ◌∙◌, subst}
use mathlib.Core.Bool.{not}
use mathlib.Core.List.{List, [], ◌∷◌, ◌++◌, append-nil, append_assoc, map}
use mathlib.Core.Logic.{◌≢◌}
use native.Mathlib.Omega.{arith}
use lib.ListN.{length, length-append}
use lib.Dec.{T, eqb, eqb→eq, eqb_refl, le→leb, lit<, T_not}
use Rattle.octets.specs.Octets.{Octets, Each, be, octets, joined}
use Rattle.reference.specs.declared.TypeIdRule.{TypeIdRule}
use Rattle.reference.specs.Meaning.{Tap, Location, Extra, Biop, Address, Name, Service, Lite, Profile, biop, lite, opaque, Reference}
use Rattle.reference.specs.Layout.{layout_tap, GoodTap, layout_location, GoodLocation, layout_binder, GoodBinder, layout_extra, GoodExtra, layout_biop, GoodBiop, layout_address, GoodAddress, layout_named, GoodNamed, layout_name, GoodName, layout_service, GoodService, layout_lite, GoodLite, tag_of, data_of, layout_profile, GoodData, GoodProfile, Allowed, allowed, gap_length, gap, layout_of, WellFormed, tagged, tag_biop, tag_lite, tag_location, tag_binder, tag_service}
use Rattle.reference.specs.Places.{place_reference_fixed, place_profile_count, place_profile_header, place_biop_fixed, place_location_header, place_location_fixed, place_location_leftover, place_binder_header, place_tap_count, place_tap_fixed, place_binder_leftover, place_biop_extra, place_biop_leftover, place_lite_fixed, place_service_header, place_address_length, place_address, place_name_count, place_id_length, place_kind_length, place_context_length, place_service_leftover, place_lite_extra, place_lite_leftover, place_biop_order, place_location_tag, place_binder_tag, place_lite_order, place_service_tag, place_type_id_length, place_biop_components, place_lite_components, place_address_size, place_gap_value, place_gap}
use Rattle.reference.specs.Steps.{Reader, done, need, number, checked, ending, many, after}
use Rattle.reference.specs.Reader.{read_count, read_run, read_named, component, read_fixed, read_extra, read_tap, read_location, read_object_location, read_binder, read_biop, read_address, read_name, read_context, read_service, read_lite, read_body, read_profile, read_gap, read_reference}
use Rattle.reference.specs.Heads.{ServiceHead, read_service_head}
use Rattle.octets.proofs.Inverse.{length_octets}
use Rattle.reference.proofs.Gaps.{test_allowed, allowed_test, gap_small, gap_written}
use Rattle.reference.proofs.Laws.{Reads, Fills, reads_done, reads_need, reads_more, reads_number, reads_checked, reads_run, reads_equal, reads_atleast, reads_within, reads_inside, fills_ending, reads_after, reads_many, fills_after, fills_as, fills_last, fills_choose, fills_rest, fills_same, reads_good, reads_laid, reads_lay, fills_lay}
use Rattle.reference.proofs.Steps.{followed_followed, guarded_then, passed_then}

-- ---- what the parts share

pub count_reads : (w place : ℕ) → Reads 0 (read_count w place) (octets w) (λ n. n < 256 ^ w)
unfolding read_count
count_reads w place =
    reads_lay (octets w) (λ n. append-nil (octets w n))
    (reads_need w place
    (reads_number w (λ n. n) (le→leb w w (omega arith)) (λ n g. g) λ n hn.
    reads_more 0 (w - w) (le→leb 0 (w - w) (omega arith)) (λ m g. omega arith) (reads_done n (hn, refl) (λ m g. g.1))))

-- a run of octets behind its length
abbrev pub prefixed : ℕ → List ℕ → List ℕ
prefixed w l = joined (octets w (length l) ∷ l ∷ [])

pub record GoodRun (w : ℕ) (l : List ℕ) : Type 0 where
  pub size : length l < 256 ^ w
  pub octets : Octets l

pub run_reads : (w place : ℕ) → Reads 0 (read_run w place) (prefixed w) (GoodRun w)
unfolding read_run
run_reads w place =
    reads_need w place
    (reads_number w (λ l. length l) (le→leb w w (omega arith)) (λ l g. g.size) λ n hn.
    reads_more 0 (w - w) (le→leb 0 (w - w) (omega arith)) (λ l g. omega arith)
    (reads_run n (λ l. l) (λ l g. g.1) (λ l g. g.0.octets) λ s hs os.
    reads_done _ ((record { size = omega arith; octets = os }, hs), refl) (λ l g. g.1)))

pub name_path : {n : Name} {i k : List ℕ} → n.id ≡ i → n.kind ≡ k → n ≡ record { id = i; kind = k }
name_path p q = λ x. record { id = p x; kind = q x }

-- a name, over the width of its lengths
pub named_reads : (w id_place kind_place : ℕ) → Reads 0 (read_named w id_place kind_place) (layout_named w) (GoodNamed w)
unfolding read_named layout_named
named_reads w p q =
    reads_lay (layout_named w) (λ n. simp (append_assoc, append-nil))
    (reads_after (λ n. n.id) (run_reads w p) (λ n g. record { size = g.id; octets = g.id_octets }) λ i gi.
    reads_after (λ n. n.kind) (run_reads w q) (λ n g. record { size = g.0.kind; octets = g.0.kind_octets }) λ k gk.
    reads_done _ ((record { id = gi.size; id_octets = gi.octets; kind = gk.size; kind_octets = gk.octets }, refl), refl) (λ n g. search name_path))

-- a component, over the width of its length
pub component_reads : {A : Type 0} {r : Reader A} {lay : A → List ℕ} {good : A → Type 0} (w tag header wrong : ℕ) → tag < 256 ^ 4 → Fills r lay good
    → Reads 0 (component w tag header wrong r) (λ a. tagged w tag (lay a)) (λ a. (good a) × (length (lay a) < 256 ^ w))
unfolding component
component_reads {A} {r} {lay} {good} w tag header wrong ht h =
    reads_lay (λ a. tagged w tag (lay a)) (λ a. simp append-nil)
    (reads_need (4 + w) header
    (reads_equal 4 tag 3 wrong (le→leb 4 (4 + w) (omega arith)) ht λ t et.
    reads_number w (λ a. length (lay a)) (le→leb w (4 + w - 4) (omega arith)) (λ a g. g.0.1) λ n hn.
    reads_more 0 (4 + w - 4 - w) (le→leb 0 (4 + w - 4 - w) (omega arith)) (λ a g. omega arith)
    (reads_good (λ a g. (((g.0, omega arith), sym et), g.1)) (λ a g. (g.0.0.0, g.1)) (reads_within n h))))

-- order octet and component count
pub fixed_reads : (least place order range : ℕ) → Reads 0 (read_fixed least place order range) (λ c. joined (octets 1 0 ∷ octets 1 c ∷ [])) (λ c. (c < 256 ^ 1) × (least ≤ c))
unfolding read_fixed
fixed_reads least place order range =
    reads_need 2 place
    (reads_equal 1 0 3 order tt (lit< tt) λ o eo.
    reads_atleast 1 least 4 range (λ c. c) tt (λ c g. g.0.0) (λ c g. g.0.1) λ c hc tc.
    reads_done c ((((hc, tc), sym eo), refl)) (λ m g. g.1))

-- ---- two records are equal by their fields: what `search` needs to finish a part

tap_path : {t : Tap} {i u a : ℕ} {s : List ℕ} → t.id ≡ i → t.uses ≡ u → t.association ≡ a → t.selector ≡ s → t ≡ record { id = i; uses = u; association = a; selector = s }
tap_path p q r s = λ j. record { id = p j; uses = q j; association = r j; selector = s j }

location_path : {l : Location} {c m j i : ℕ} {k : List ℕ} → l.carousel ≡ c → l.module_id ≡ m → l.major ≡ j → l.minor ≡ i → l.key ≡ k
    → l ≡ record { carousel = c; module_id = m; major = j; minor = i; key = k }
location_path p q r s t = λ x. record { carousel = p x; module_id = q x; major = r x; minor = s x; key = t x }

extra_path : {e : Extra} {t : ℕ} {s : List ℕ} → e.tag ≡ t → e.bytes ≡ s → e ≡ record { tag = t; bytes = s }
extra_path p q = λ x. record { tag = p x; bytes = q x }

-- ---- BIOP data

pub tap_reads : Reads 0 read_tap layout_tap GoodTap
unfolding read_tap layout_tap
tap_reads =
    reads_need 7 place_tap_fixed
    (reads_number 2 (λ t. t.id) tt (λ t g. g.id) λ i hi.
    reads_number 2 (λ t. t.uses) tt (λ t g. g.0.uses) λ u hu.
    reads_number 2 (λ t. t.association) tt (λ t g. g.0.0.association) λ a ha.
    reads_number 1 (λ t. length t.selector) tt (λ t g. g.0.0.0.selector) λ n hn.
    reads_run n (λ t. t.selector) (λ t g. g.1) (λ t g. g.0.0.0.0.octets) λ s hs os.
    reads_done _ (search arith) (λ t g. search tap_path))

pub location_reads : Reads 0 read_location layout_location GoodLocation
unfolding read_location layout_location
location_reads =
    reads_need 9 place_location_fixed
    (reads_number 4 (λ l. l.carousel) tt (λ l g. g.carousel) λ c hc.
    reads_number 2 (λ l. l.module_id) tt (λ l g. g.0.module_id) λ m hm.
    reads_number 1 (λ l. l.major) tt (λ l g. g.0.0.major) λ j hj.
    reads_number 1 (λ l. l.minor) tt (λ l g. g.0.0.0.minor) λ i hi.
    reads_number 1 (λ l. length l.key) tt (λ l g. g.0.0.0.0.key) λ n hn.
    reads_run n (λ l. l.key) (λ l g. g.1) (λ l g. g.0.0.0.0.0.octets) λ k hk ok.
    reads_done _ (search arith) (λ l g. search location_path))

pub object_location_reads : Reads 0 read_object_location (λ l. tagged 1 tag_location (layout_location l)) (λ l. (GoodLocation l) × (length (layout_location l) < 256 ^ 1))
unfolding read_object_location
object_location_reads =
    component_reads 1 tag_location place_location_header place_location_tag (lit< tt) (fills_ending place_location_leftover location_reads)

pub extra_reads : (place : ℕ) → Reads 0 (read_extra place) layout_extra GoodExtra
unfolding read_extra layout_extra
extra_reads place =
    reads_need 5 place
    (reads_number 4 (λ e. e.tag) tt (λ e g. g.tag) λ t ht.
    reads_number 1 (λ e. length e.bytes) tt (λ e g. g.0.bytes) λ n hn.
    reads_run n (λ e. e.bytes) (λ e g. g.1) (λ e g. g.0.0.octets) λ s hs os.
    reads_done _ (search arith) (λ e g. search extra_path))

-- extras that end their data, in a body
extras_fill : (place left n : ℕ) → Fills (ending left (many n (read_extra place))) (λ l. joined (map layout_extra l)) (λ l. (Each GoodExtra l) × (length l ≡ n))
extras_fill place left n = fills_ending left (reads_many (extra_reads place) n)

binder_fills : Fills read_binder layout_binder GoodBinder
unfolding read_binder layout_binder
binder_fills =
    fills_lay layout_binder (λ l. simp append-nil)
    (fills_after (λ l. length l) (count_reads 1 place_tap_count) (λ l g. g.count) λ n hn.
    let h = fills_ending place_binder_leftover (reads_many tap_reads n) in
    record {
      sound = λ d pos end c a next e. let s = h.sound d pos end c a next e in (s.0, s.1, (record { count = omega arith; each = s.2.0 }, s.2.1));
      complete = λ d pos end c a f g. h.complete d pos end c a f (g.0.each, g.1);
    })

biop_path : {b : Biop} {l : Location} {t : List Tap} {e : List Extra} → b.location ≡ l → b.taps ≡ t → b.extras ≡ e → b ≡ record { location = l; taps = t; extras = e }
biop_path p q r = λ x. record { location = p x; taps = q x; extras = r x }

pub biop_fills : Fills read_biop layout_biop GoodBiop
unfolding read_biop layout_biop
biop_fills =
    fills_lay layout_biop (λ b. simp (append_assoc, append-nil))
    (fills_after (λ b. length b.extras + 2) (fixed_reads 2 place_biop_fixed place_biop_order place_biop_components) (λ b g. (g.count, omega arith)) λ c hc.
    fills_after (λ b. b.location) object_location_reads (λ b g. (g.0.location, g.0.location_length)) λ l hl.
    fills_after (λ b. b.taps) (component_reads 1 tag_binder place_binder_header place_binder_tag (lit< tt) binder_fills) (λ b g. (g.0.0.taps, g.0.0.taps_length)) λ t ht.
    fills_last _ (λ b. b.extras) (extras_fill place_biop_extra place_biop_leftover (c - 2)) (λ b g. (g.0.0.0.extras, omega arith)) (λ e he. search arith) (λ b g. search biop_path))

-- ---- LiteOptions data

address_path : {a : Address} {f k c p q q1 q2 t o s z : ℕ} → a.afi ≡ f → a.kind ≡ k → a.carousel ≡ c → a.specifier_type ≡ p → a.specifier0 ≡ q → a.specifier1 ≡ q1 → a.specifier2 ≡ q2 → a.transport ≡ t → a.network ≡ o → a.service ≡ s → a.reserved ≡ z
    → a ≡ record { afi = f; kind = k; carousel = c; specifier_type = p; specifier0 = q; specifier1 = q1; specifier2 = q2; transport = t; network = o; service = s; reserved = z }
address_path f k c p q q1 q2 t o s z =
    λ x. record { afi = f x; kind = k x; carousel = c x; specifier_type = p x; specifier0 = q x; specifier1 = q1 x; specifier2 = q2 x; transport = t x; network = o x; service = s x; reserved = z x }

pub address_reads : Reads 0 read_address layout_address GoodAddress
unfolding read_address layout_address
address_reads =
    reads_need 20 place_address
    (reads_number 1 (λ a. a.afi) tt (λ a g. g.afi) λ f hf.
    reads_number 1 (λ a. a.kind) tt (λ a g. g.0.kind) λ k hk.
    reads_number 4 (λ a. a.carousel) tt (λ a g. g.0.0.carousel) λ c hc.
    reads_number 1 (λ a. a.specifier_type) tt (λ a g. g.0.0.0.specifier_type) λ p hp.
    reads_number 1 (λ a. a.specifier0) tt (λ a g. g.0.0.0.0.specifier0) λ q hq.
    reads_number 1 (λ a. a.specifier1) tt (λ a g. g.0.0.0.0.0.specifier1) λ q1 hq1.
    reads_number 1 (λ a. a.specifier2) tt (λ a g. g.0.0.0.0.0.0.specifier2) λ q2 hq2.
    reads_number 2 (λ a. a.transport) tt (λ a g. g.0.0.0.0.0.0.0.transport) λ t ht.
    reads_number 2 (λ a. a.network) tt (λ a g. g.0.0.0.0.0.0.0.0.network) λ o ho.
    reads_number 2 (λ a. a.service) tt (λ a g. g.0.0.0.0.0.0.0.0.0.service) λ s hs.
    reads_number 4 (λ a. a.reserved) tt (λ a g. g.0.0.0.0.0.0.0.0.0.0.reserved) λ z hz.
    reads_done _ (search arith) (λ a g. search address_path))

pub name_reads : Reads 0 read_name layout_name GoodName
unfolding read_name
name_reads = named_reads 4 place_id_length place_kind_length

pub record GoodServiceHead (h : ServiceHead) : Type 0 where
  pub address : GoodAddress h.address
  pub names : h.names < 256 ^ 4

service_head_path : {h : ServiceHead} {a : Address} {c : ℕ} → h.address ≡ a → h.names ≡ c → h ≡ record { address = a; names = c }
service_head_path p q = λ x. record { address = p x; names = q x }

pub service_head_reads : Reads 0 read_service_head (λ h. joined (octets 1 0x14 ∷ layout_address h.address ∷ octets 4 h.names ∷ [])) GoodServiceHead
unfolding read_service_head
service_head_reads =
    reads_need 1 place_address_length
    (reads_equal 1 0x14 4 place_address_size tt (lit< tt) λ n en.
    reads_after (λ h. h.address) address_reads (λ h g. g.0.address) λ a ga.
    reads_after (λ h. h.names) (count_reads 4 place_name_count) (λ h g. g.0.0.names) λ c hc.
    reads_done _ (search arith) (λ h g. search service_head_path))

service_path : {s : Service} {a : Address} {n : List Name} {x : List ℕ} → s.address ≡ a → s.names ≡ n → s.context ≡ x → s ≡ record { address = a; names = n; context = x }
service_path p q r = λ x. record { address = p x; names = q x; context = r x }

context_fills : Fills read_context (prefixed 4) (GoodRun 4)
unfolding read_context
context_fills = fills_ending place_service_leftover (run_reads 4 place_context_length)

-- its head first: address and number of names
pub service_headed : (d : List ℕ) (pos end : ℕ)
    → read_service d pos end ≡ after read_service_head (λ h. after (many h.names read_name) λ n. after read_context λ x. done (record { address = h.address; names = n; context = x })) d pos end
unfolding read_service read_service_head need checked number after done
service_headed d pos end = simp (guarded_then, passed_then, followed_followed)

service_fills : Fills read_service layout_service GoodService
unfolding layout_service
service_fills =
    fills_same service_headed
    (fills_lay layout_service (λ s. simp (append_assoc, append-nil))
    (fills_after (λ s. record { address = s.address; names = length s.names }) service_head_reads (λ s g. record { address = g.address; names = g.count }) λ h gh.
    fills_after (λ s. s.names) (reads_many name_reads h.names) (λ s g. (g.0.names, ap (λ (x : ServiceHead). x.names) g.1)) λ n gn.
    fills_last (λ x. record { address = h.address; names = n; context = x }) (λ s. s.context) context_fills (λ s g. record { size = g.0.0.context; octets = g.0.0.octets })
    (λ x gx.
    (((record { address = gh.address; count = omega (arith, gn.1, gh.names); names = gn.0; context = gx.size; octets = gx.octets }, λ j. record { address = h.address; names = gn.1 j }), refl), refl))
    (λ s g. service_path (ap (λ (x : ServiceHead). x.address) g.0.1) g.1 refl)))

lite_path : {l : Lite} {s : Service} {e : List Extra} → l.service ≡ s → l.extras ≡ e → l ≡ record { service = s; extras = e }
lite_path p q = λ x. record { service = p x; extras = q x }

pub lite_fills : Fills read_lite layout_lite GoodLite
unfolding read_lite layout_lite
lite_fills =
    fills_lay layout_lite (λ l. simp (append_assoc, append-nil))
    (fills_after (λ l. length l.extras + 1) (fixed_reads 1 place_lite_fixed place_lite_order place_lite_components) (λ l g. (g.count, omega arith)) λ c hc.
    fills_after (λ l. l.service) (component_reads 4 tag_service place_service_header place_service_tag (lit< tt) service_fills) (λ l g. (g.0.service, g.0.service_length)) λ s hs.
    fills_last _ (λ l. l.extras) (extras_fill place_lite_extra place_lite_leftover (c - 1)) (λ l g. (g.0.0.extras, omega arith)) (λ e he. search arith) (λ l g. search lite_path))

-- ---- a profile: the tag says which kind

tag_small : (p : Profile) → GoodProfile p → tag_of p < 256 ^ 4
unfolding tag_of
tag_small (biop b) g = lit< tt
tag_small (lite l) g = lit< tt
tag_small (opaque t s) g = g.body.tag

-- a profile that bears the tag
abbrev Tagged : ℕ → Profile → Type 0
Tagged t p = (GoodData p) × (tag_of p ≡ t)

is_biop_lem : (t : ℕ) → t ≡ tag_biop → (p : Profile) → Tagged t p → (b : Biop) × (p ≡ biop b) × (GoodBiop b)
unfolding tag_of
is_biop_lem t e (biop b) g = (b, refl, g.0)
is_biop_lem t e (lite l) g = absurd (omega (arith, g.1))
is_biop_lem t e (opaque u s) g = absurd (g.0.not_biop (g.1 ∙ e))

is_lite : (t : ℕ) → t ≡ tag_lite → (p : Profile) → Tagged t p → (l : Lite) × (p ≡ lite l) × (GoodLite l)
unfolding tag_of
is_lite t e (biop b) g = absurd (omega (arith, g.1))
is_lite t e (lite l) g = (l, refl, g.0)
is_lite t e (opaque u s) g = absurd (g.0.not_lite (g.1 ∙ e))

is_opaque : (t : ℕ) → t ≢ tag_biop → t ≢ tag_lite → (p : Profile) → Tagged t p → (p ≡ opaque t (data_of p)) × (Octets (data_of p))
unfolding tag_of data_of
is_opaque t e e' (biop b) g = absurd (e (sym g.1))
is_opaque t e e' (lite l) g = absurd (e' (sym g.1))
is_opaque t e e' (opaque u s) g = (ap (λ (x : ℕ). opaque x s) g.1, g.0.octets)

ne_test : (m n : ℕ) → T (not (eqb m n)) → m ≢ n
ne_test m n t e = T_not (eqb m n) t (rw e (eqb_refl n))

pub body_fills : (t : ℕ) → t < 256 ^ 4 → Fills (read_body t) data_of (Tagged t)
unfolding read_body tag_of data_of
body_fills t ht =
    fills_choose (eqb t tag_biop)
    (λ e. fills_as biop biop_fills (λ b g. (g, sym (eqb→eq t tag_biop e))) (λ b g. refl) (is_biop_lem t (eqb→eq t tag_biop e)))
    (λ nb. fills_choose (eqb t tag_lite)
    (λ e. fills_as lite lite_fills (λ l g. (g, sym (eqb→eq t tag_lite e))) (λ l g. refl) (is_lite t (eqb→eq t tag_lite e)))
    (λ nl.
    let nb' = ne_test t tag_biop nb in
    let nl' = ne_test t tag_lite nl in
    fills_rest (opaque t) (λ s o. (record { tag = ht; not_biop = nb'; not_lite = nl'; octets = o }, refl)) (λ s. refl) (λ p g. (is_opaque t nb' nl' p g).0)))

pub profile_reads : Reads 0 read_profile layout_profile GoodProfile
unfolding read_profile layout_profile
profile_reads =
    reads_lay layout_profile (λ p. simp append-nil)
    (reads_need 8 place_profile_header
    (reads_number 4 (λ p. tag_of p) tt tag_small λ t ht.
    reads_number 4 (λ p. length (data_of p)) tt (λ p g. g.0.fits) λ n hn.
    reads_good (λ p g. ((record { fits = omega (arith, g.1); body = g.0.0 }, g.0.1), g.1)) (λ p g. ((g.0.0.body, g.0.1), g.1)) (reads_inside n (body_fills t ht))))

-- ---- a reference

pub reference_path : {r : Reference} {i : List ℕ} {l : List Profile} → r.type_id ≡ i → r.profiles ≡ l → r ≡ record { type_id = i; profiles = l }
reference_path p q = λ x. record { type_id = p x; profiles = q x }

-- the gap, told by the number that it holds
gap_reads : (rule : TypeIdRule) (n : ℕ) → Reads 0 (read_gap rule n) (λ v. gap rule n) (λ v. v ≡ be (gap rule n))
unfolding read_gap
gap_reads rule n =
    let k = gap_length rule n in
    reads_lay (λ v. gap rule n) (λ v. append-nil (octets k (be (gap rule n))) ∙ gap_written rule n)
    (reads_need k place_gap
    (reads_equal k (be (gap rule n)) 3 place_gap_value (le→leb k k (omega arith)) (gap_small rule n) λ v e.
    reads_more 0 (k - k) (le→leb 0 (k - k) (omega arith)) (λ m g. omega arith) (reads_done v (e, sym e) (λ m g. g.0 ∙ g.1))))

pub reference_reads : (rule : TypeIdRule) → Reads 0 (read_reference rule) (layout_of rule) (WellFormed rule)
unfolding read_reference layout_of
reference_reads rule =
    reads_lay (layout_of rule) (λ r. simp append-nil)
    (reads_need 8 place_reference_fixed
    (reads_checked 4 (allowed rule) 4 place_type_id_length (λ r. length r.type_id) tt (λ r g. g.type_id) (λ r g. allowed_test rule (length r.type_id) g.allowed) λ n hn t.
    let al : Allowed rule n = test_allowed rule n t in
    reads_more 0 4 tt (λ r _. simp (length-append, length_octets) (omega arith))
    (reads_run n (λ r. r.type_id) (λ r g. g.1) (λ r g. g.0.octets) λ i hi oi.
    let al' : Allowed rule (length i) = subst (Allowed rule) (sym hi) al in
    reads_laid _ (λ r g. ap (λ (k : ℕ). gap rule k ++ (octets 4 (length r.profiles) ++ (joined (map layout_profile r.profiles) ++ []))) (sym g.0.1))
    (reads_after (λ r. be (gap rule n)) (gap_reads rule n) (λ r g. refl) λ v hv.
    reads_after (λ r. length r.profiles) (count_reads 4 place_profile_count) (λ r g. g.0.0.0.count) λ c hc.
    reads_after (λ r. r.profiles) (reads_many profile_reads c) (λ r g. (g.0.0.0.0.profiles, g.1)) λ l hl.
    reads_done _ (search arith) (λ r g. search reference_path)))))
