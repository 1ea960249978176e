use Rattle.reading.proofs.Filing.{Files}
use Rattle.reading.proofs.read_profiles.Given as goal

-- `reading::read_profiles` meets its contract. Each turn files one profile more; what is left to read does what was to be read, and counts stay below the position. Assumes nothing.
abbrev pub invariant-loop-i : goal.invariant-loop-i
invariant-loop-i l = Files l.d l.n l.pos l.initial.table l.table l.used l.cur l.i
