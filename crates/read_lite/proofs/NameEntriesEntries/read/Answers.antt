use Rattle.reference.specs.Reader.{read_name}
use Rattle.reference.proofs.Parts.{name_reads}
use Rattle.read_parts.proofs.Moves.{octets_of_slice, moved}
use Rattle.read_lite.proofs.NameEntriesEntries.read.Goals as goal

pub returns-clause-moves : goal.returns-clause-moves
returns-clause-moves c a next e =
    let d = c.args.d.now in
    moved name_reads d c.args.pos c.args.end (octets_of_slice d (λ k. (c.type_inv.d k).fits)) c.requires.0 c.requires.1 e

pub returns-clause-told : goal.returns-clause-told
unfolding read_name
returns-clause-told c = c.read_named.ensures
