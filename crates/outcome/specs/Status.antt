-- The status that a program ends with, by whether its input has a name and how the run ended. Assumes nothing.
use Rattle.std.specs.Prelude.{ℕ, ⊤, Bool, true, false, cond, Result, Ok, Err}
use Rattle.std.specs.IoError.{error_kind}
use Rattle.std.specs.declared.io.ErrorKind.{ErrorKind}
use Rattle.std.specs.declared.io.ErrorKind.TheVariants.{BrokenPipe}
use Rattle.outcome.specs.declared.Failure.{Failure}
use Rattle.outcome.specs.declared.Failure.TheVariants.{Broken, NotRead, NotWritten}

-- nobody reads the output any more
abbrev pub is_unread : ErrorKind → Bool
is_unread BrokenPipe = true
is_unread _ = false

abbrev pub status_of : Bool → Result ⊤ Failure → ℕ
status_of named (Ok _) = 0
status_of named (Err Broken) = cond named 1 0
status_of named (Err (NotRead e)) = cond named 2 0
status_of named (Err (NotWritten e)) = cond (is_unread (error_kind e)) 141 (cond named 2 0)
