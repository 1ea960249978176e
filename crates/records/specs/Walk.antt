-- The walk over a cache (document 01, "Cache listing"): its records in order, up to the end of the cache or to the first wrong mark or cut record.
-- Assumes nothing.
use Rattle.std.specs.Prelude.{ℕ, zero, suc, ◌+◌, ◌-◌, List, [], ◌∷◌, ◌++◌, map, length}
use Rattle.octets.specs.Octets.{part, joined}
use Rattle.records.specs.declared.Record.{Record}
use Rattle.records.specs.declared.Record.TheVariants.{Got, Broken, End}
use Rattle.records.specs.Records.{layout_record, record_at}

-- a record of a cache: the offset of its mark, and where its reference starts and stops
pub record Piece : Type 0 where
  pub mark : ℕ
  pub start : ℕ
  pub stop : ℕ

-- how a walk ended: where the cache ends, or at a wrong mark or a cut record, with the mark's offset
pub data Ending : Type 0 where
  whole : Ending
  broken : ℕ → Ending

pub record Walked : Type 0 where
  pub pieces : List Piece
  pub ending : Ending

abbrev pub over : Ending → Walked
over e = record { pieces = []; ending = e }

abbrev pub before : Piece → Walked → Walked
before p w = record { pieces = p ∷ w.pieces; ending = w.ending }

-- by what stands at `at`: a record, and the walk from its stop on; or the walk is over
abbrev pub onward : ℕ → Record → (ℕ → Walked) → Walked
onward at (Got start stop) more = before (record { mark = at; start = start; stop = stop }) (more stop)
onward at Broken more = over (broken at)
onward at End more = over whole

-- the walk from `at` on, in at most n steps; where none is left it counts as broken
unfoldable pub walk_from : ℕ → List ℕ → ℕ → Walked
walk_from zero l at = over (broken at)
walk_from (suc n) l at = onward at (record_at l at) (walk_from n l)

-- the walk from `at` on, and that over the cache: it has fewer records than octets, so that the steps suffice
unfoldable pub walk_on : List ℕ → ℕ → Walked
walk_on l at = walk_from (suc (length l)) l at

abbrev pub walk : List ℕ → Walked
walk l = walk_on l 0

-- the octets of a record, and those of each record of a walk
abbrev pub content : List ℕ → Piece → List ℕ
content l p = part l p.start (p.stop - p.start)

abbrev pub contents : List ℕ → Walked → List (List ℕ)
contents l w = map (content l) w.pieces

-- the cache whose records have these contents
abbrev pub layout_cache : List (List ℕ) → List ℕ
layout_cache xs = joined (map layout_record xs)

-- a walk over octets that come behind k others, and one that goes on where another ended
abbrev pub moved_piece : ℕ → Piece → Piece
moved_piece k p = record { mark = k + p.mark; start = k + p.start; stop = k + p.stop }

abbrev pub moved_ending : ℕ → Ending → Ending
moved_ending k whole = whole
moved_ending k (broken at) = broken (k + at)

abbrev pub moved : ℕ → Walked → Walked
moved k w = record { pieces = map (moved_piece k) w.pieces; ending = moved_ending k w.ending }

abbrev pub goes_on : Walked → Walked → Walked
goes_on v w = record { pieces = v.pieces ++ w.pieces; ending = w.ending }
