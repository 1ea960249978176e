-- P1 to P11 of document 01: the definitions answer each question of the table as 01 says. Assumes nothing.
use mathlib.Core.Path.{◌≡◌, refl}
use mathlib.Core.List.{map}
use Rattle.octets.specs.Octets.{be}
use Rattle.reference.specs.Steps.{done, need, number, checked, run, rest, choose, ending, within, fits, apart, many, after}
use Rattle.reference.specs.Reader.{read_count, read_run, read_named, component, read_fixed, read_extra, read_tap, read_location, read_object_location, read_binder, read_biop, read_address, read_name, read_context, read_service, read_lite, read_body, read_profile, read_gap, read_reference, read_leading}
use Rattle.reference.specs.Questions.{kind_numbered, kind_of, tap_numbers_of}
use Rattle.reference.specs.Worked.{reply, cases}

pub worked : map (λ q. reply q.0) cases ≡ map (λ q. q.1) cases
unfolding be done need number checked run rest choose ending within fits apart many after read_count read_run read_named component read_fixed read_extra read_tap read_location read_object_location read_binder read_biop read_address read_name read_context read_service read_lite read_body read_profile read_gap read_reference read_leading kind_numbered kind_of tap_numbers_of
worked = refl
