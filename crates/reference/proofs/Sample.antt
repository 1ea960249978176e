-- A reference with every sort of entry, each number another: which declared field holds which number, where each view stands, and which sort a
-- tag names. Layout and reader share the tags, so only such a case pins them. Assumes nothing.
use Prim.Native.Nat.{ℕ}
use mathlib.Core.Path.{◌≡◌, refl}
use mathlib.Core.List.{List, [], ◌∷◌, ◌++◌}
use lib.ListN.{replicate}
use Rattle.reference.specs.declared.TypeIdRule.TheVariants.{Multiple}
use Rattle.reference.specs.declared.AddressWay.TheVariants.{Constants}
use Rattle.reference.specs.declared.View.{View}
use Rattle.reference.specs.declared.TaggedProfile.TheVariants as Sort
use Rattle.reference.specs.declared.Tables.{Tables}
use Rattle.std.specs.Prelude.{Ok}
use Rattle.octets.specs.Octets.{be, octets, splice}
use Rattle.reference.specs.Layout.{layout_tap, layout_location, layout_binder, layout_extra, layout_biop, layout_address, layout_service, layout_lite, tag_of, data_of, layout_profile, layout_of, layout_named}
use Rattle.reference.specs.Steps.{done, need, number, checked, run, rest, choose, ending, within, fits, apart, many, after}
use Rattle.reference.specs.Reader.{read_count, read_run, read_named, component, read_fixed, read_extra, read_tap, read_location, read_object_location, read_binder, read_biop, read_address, read_name, read_context, read_service, read_lite, read_body, read_profile, read_gap, read_reference, read_leading, answered}
use Rattle.reference.specs.Tabled.{filled, tabled, no_tables}
use Rattle.reference.specs.Checks.{test, both, each}
use Rattle.reference.specs.Writer.{image_of, size_of, counts_check, views_check, measure_check, write_check, leaves}

abbrev v : ℕ → ℕ → View
v at len = record { at = at; len = len }

abbrev sample : List ℕ
sample =
    0x00 ∷ 0x00 ∷ 0x00 ∷ 0x04 ∷ 0x73 ∷ 0x72 ∷ 0x67 ∷ 0x00 ∷ 0x00 ∷ 0x00 ∷ 0x00 ∷ 0x03 ∷ 0x49 ∷ 0x53 ∷ 0x4F ∷ 0x06 ∷ 0x00 ∷ 0x00 ∷ 0x00 ∷ 0x28
    ∷ 0x00 ∷ 0x03 ∷ 0x49 ∷ 0x53 ∷ 0x4F ∷ 0x50 ∷ 0x0B ∷ 0x01 ∷ 0x02 ∷ 0x03 ∷ 0x04 ∷ 0x05 ∷ 0x06 ∷ 0x07 ∷ 0x08 ∷ 0x02 ∷ 0xA1 ∷ 0xA2 ∷ 0x49 ∷ 0x53
    ∷ 0x4F ∷ 0x40 ∷ 0x0B ∷ 0x01 ∷ 0x11 ∷ 0x12 ∷ 0x13 ∷ 0x14 ∷ 0x15 ∷ 0x16 ∷ 0x03 ∷ 0xB1 ∷ 0xB2 ∷ 0xB3 ∷ 0x21 ∷ 0x22 ∷ 0x23 ∷ 0x24 ∷ 0x01 ∷ 0xC1
    ∷ 0x49 ∷ 0x53 ∷ 0x4F ∷ 0x05 ∷ 0x00 ∷ 0x00 ∷ 0x00 ∷ 0x3C ∷ 0x00 ∷ 0x02 ∷ 0x49 ∷ 0x53 ∷ 0x4F ∷ 0x46 ∷ 0x00 ∷ 0x00 ∷ 0x00 ∷ 0x2B ∷ 0x14 ∷ 0x00
    ∷ 0x00 ∷ 0x31 ∷ 0x32 ∷ 0x33 ∷ 0x34 ∷ 0x01 ∷ 0x35 ∷ 0x36 ∷ 0x37 ∷ 0x38 ∷ 0x39 ∷ 0x3A ∷ 0x3B ∷ 0x3C ∷ 0x3D ∷ 0xFF ∷ 0xFF ∷ 0xFF ∷ 0xFF ∷ 0x00
    ∷ 0x00 ∷ 0x00 ∷ 0x01 ∷ 0x00 ∷ 0x00 ∷ 0x00 ∷ 0x02 ∷ 0xD1 ∷ 0xD2 ∷ 0x00 ∷ 0x00 ∷ 0x00 ∷ 0x03 ∷ 0xE1 ∷ 0xE2 ∷ 0xE3 ∷ 0x00 ∷ 0x00 ∷ 0x00 ∷ 0x01
    ∷ 0xF1 ∷ 0x41 ∷ 0x42 ∷ 0x43 ∷ 0x44 ∷ 0x02 ∷ 0xC2 ∷ 0xC3 ∷ 0x51 ∷ 0x52 ∷ 0x53 ∷ 0x54 ∷ 0x00 ∷ 0x00 ∷ 0x00 ∷ 0x01 ∷ 0xA9 ∷ []

abbrev seen : Tables
seen =
    tabled (record {
      type_id = v 4 4;
      profiles =
          record { body = Sort.Biop (record { carousel = 0x01020304; «module» = 0x0506; version_major = 7; version_minor = 8; key = v 36 2 }) 1 1 }
          ∷ record {
            body = Sort.LiteOptions
                (record { carousel = 0x31323334; specifier0 = 0x35; specifier1 = 0x36; specifier2 = 0x37; transport_stream = 0x3839; original_network = 0x3A3B; service = 0x3C3D })
                1 (v 120 1) 1;
          }
          ∷ record { body = Sort.Opaque 0x51525354 (v 136 1) }
          ∷ [];
      taps = record { id = 0x1112; use_ = 0x1314; association = 0x1516; selector = v 51 3 } ∷ [];
      names = record { id = v 107 2; kind = v 113 3 } ∷ [];
      extras = record { tag = 0x21222324; «data» = v 59 1 } ∷ record { tag = 0x41424344; «data» = v 126 2 } ∷ [];
    })

pub sample_seen : answered Multiple (read_leading Multiple sample) ≡ record { answer = Ok 137; tables = seen }
unfolding filled be done need number checked run rest choose ending within fits apart many after read_count read_run read_named component read_fixed read_extra read_tap read_location read_object_location read_binder read_biop read_address read_name read_context read_service read_lite read_body read_profile read_gap read_reference read_leading layout_profile layout_location octets data_of layout_binder layout_biop layout_tap layout_extra layout_named layout_lite layout_service layout_address
sample_seen = refl

pub sample_back : leaves Multiple Constants seen sample (replicate 138 0xA5) ≡ sample ++ (0xA5 ∷ [])
unfolding octets splice filled layout_tap layout_location layout_binder layout_extra layout_biop layout_address layout_named layout_service layout_lite tag_of data_of layout_profile layout_of image_of leaves test both each counts_check views_check size_of measure_check write_check
sample_back = refl

-- what is unused is zero throughout
pub nothing : no_tables ≡ record { type_id = v 0 0; profiles_used = 0; taps_used = 0; names_used = 0; extras_used = 0; profiles = replicate 8 (record { body = Sort.Opaque 0 (v 0 0) }); taps = replicate 36 (record { id = 0; use_ = 0; association = 0; selector = v 0 0 }); names = replicate 32 (record { id = v 0 0; kind = v 0 0 }); extras = replicate 32 (record { tag = 0; «data» = v 0 0 }) }
unfolding filled
nothing = refl
