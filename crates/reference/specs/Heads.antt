-- The readers cut where code that stores what it meets must stop: what stands before the first tap, name or profile, and what follows it. Nobody has to
-- believe them: `proofs/Heads` shows that head and rest together are the reader of the part. Assumes nothing.
use Rattle.std.specs.Prelude.{ℕ, ◌+◌, ◌-◌, List, eqb}
use Rattle.reference.specs.declared.TypeIdRule.{TypeIdRule}
use Rattle.reference.specs.Meaning.{Location, Biop, Address, Lite}
use Rattle.reference.specs.Layout.{allowed, tag_binder, tag_service}
use Rattle.reference.specs.Places.{place_reference_fixed, place_profile_count, place_profile_header, place_binder_header, place_tap_count, place_service_header, place_address_length, place_name_count, place_binder_tag, place_service_tag, place_type_id_length, place_address_size}
use Rattle.reference.specs.Steps.{ok, Reader, done, need, number, checked, run, within, fits, many, after}
use Rattle.reference.specs.Reader.{read_gap, read_count, read_taps, read_object_location, read_biop_fixed, read_biop_extras, read_address, read_name, read_context, read_lite_fixed, read_lite_extras}

-- ---- a component that is left open

-- where a reading must end
unfoldable pub edge : Reader ℕ
edge d pos end = ok end pos

-- before another end
unfoldable pub before : {A : Type 0} → ℕ → Reader A → Reader A
before stop r d pos end = r d pos stop

-- a component's header: where its data ends
unfoldable pub read_part : ℕ → ℕ → ℕ → ℕ → Reader ℕ
read_part w tag header wrong = need (4 + w) header (checked 4 (λ t. eqb t tag) 3 wrong λ t. number w λ n. within n edge)

-- what its data begins with, and where the data ends
pub record Opened (A : Type 0) : Type 0 where
  pub head : A
  pub stop : ℕ

unfoldable pub opened : {A : Type 0} → ℕ → ℕ → ℕ → ℕ → Reader A → Reader (Opened A)
opened w tag header wrong r = after (read_part w tag header wrong) λ stop. before stop (after r λ a. done (record { head = a; stop = stop }))

-- ---- BIOP data: all that stands before the first tap; the ConnBinder ends at stop

unfoldable pub read_binder_head : Reader (Opened ℕ)
read_binder_head = opened 1 tag_binder place_binder_header place_binder_tag (read_count 1 place_tap_count)

pub record BiopHead : Type 0 where
  pub location : Location
  pub taps : ℕ
  pub extras : ℕ
  pub stop : ℕ

unfoldable pub read_biop_head : Reader BiopHead
read_biop_head =
    after read_biop_fixed λ c.
    after read_object_location λ l.
    after read_binder_head λ b.
    done (record { location = l; taps = b.head; extras = c - 2; stop = b.stop })

abbrev pub read_biop_rest : BiopHead → Reader Biop
read_biop_rest h =
    after (before h.stop (read_taps h.taps)) λ t.
    after (read_biop_extras h.extras) λ e.
    done (record { location = h.location; taps = t; extras = e })

-- ---- LiteOptions data: all that stands before the first name; the ServiceLocation ends at stop

pub record ServiceHead : Type 0 where
  pub address : Address
  pub names : ℕ

unfoldable pub read_service_head : Reader ServiceHead
read_service_head =
    need 1 place_address_length
    (checked 1 (λ n. eqb n 0x14) 4 place_address_size λ n.
    after read_address λ a.
    after (read_count 4 place_name_count) λ c.
    done (record { address = a; names = c }))

unfoldable pub read_service_part : Reader (Opened ServiceHead)
read_service_part = opened 4 tag_service place_service_header place_service_tag read_service_head

pub record LiteHead : Type 0 where
  pub address : Address
  pub names : ℕ
  pub extras : ℕ
  pub stop : ℕ

unfoldable pub read_lite_head : Reader LiteHead
read_lite_head =
    after read_lite_fixed λ c.
    after read_service_part λ s.
    done (record { address = s.head.address; names = s.head.names; extras = c - 1; stop = s.stop })

abbrev pub read_lite_rest : LiteHead → Reader Lite
read_lite_rest h =
    after (before h.stop (many h.names read_name)) λ n.
    after (before h.stop read_context) λ x.
    after (read_lite_extras h.extras) λ e.
    done (record { service = record { address = h.address; names = n; context = x }; extras = e })

-- ---- a profile: its header, whose data is there

pub record Header : Type 0 where
  pub tag : ℕ
  pub size : ℕ

unfoldable pub read_header : Reader Header
read_header = need (4 + 4) place_profile_header (number 4 λ t. number 4 λ n. fits n (done (record { tag = t; size = n })))

-- ---- a reference: what stands before its profiles

pub record Head : Type 0 where
  pub type_id : List ℕ
  pub count : ℕ

unfoldable pub read_head : TypeIdRule → Reader Head
read_head rule =
    need (4 + 4) place_reference_fixed
    (checked 4 (allowed rule) 4 place_type_id_length λ n.
    run n λ i.
    after (read_gap rule n) λ g.
    after (read_count 4 place_profile_count) λ c.
    done (record { type_id = i; count = c }))
