-- What the readers of LiteOptions data tell, in the definition's words: an address, the head up to the first name, and what is left behind
-- it. Assumes nothing.
use Rattle.std.specs.Prelude.{ℕ, ◌+◌, ◌≡◌, List, length, Result, Ok, Err}
use Rattle.octets.specs.Octets.{be, part}
use Rattle.reference.specs.declared.NsapAddress.{NsapAddress}
use Rattle.reference.specs.declared.Refusal.{Refusal}
use Rattle.reference.specs.Meaning.{Address, lite}
use Rattle.reference.specs.Steps.{Answer, ok, refused, seen}
use Rattle.reference.specs.Heads.{ServiceHead, LiteHead, read_lite_rest}
use Rattle.reference.specs.Placed.{address_at}
use Rattle.table.specs.declared.Counts.{Counts}
use Rattle.read_parts.specs.Told.{StoresBody}
use Rattle.read_lite.specs.declared.Head.{Head}

-- what varies in the address whose twenty octets stand at pos
pub record AddressIn (d : List ℕ) (pos : ℕ) (a : NsapAddress) : Type 0 where
  pub carousel : a.carousel ≡ be (part d (pos + 2) 4)
  pub specifier0 : a.specifier0 ≡ be (part d (pos + 7) 1)
  pub specifier1 : a.specifier1 ≡ be (part d (pos + 8) 1)
  pub specifier2 : a.specifier2 ≡ be (part d (pos + 9) 1)
  pub transport : a.transport_stream ≡ be (part d (pos + 10) 2)
  pub network : a.original_network ≡ be (part d (pos + 12) 2)
  pub service : a.service ≡ be (part d (pos + 14) 2)

-- ---- the head: what is known before the first name, which stands at 35

abbrev pub head_told : Result Head Refusal → Answer Head
head_told (Ok h) = ok h 35
head_told (Err x) = refused x

-- of a ServiceLocation that ends at stop, with so many extras behind it
abbrev pub head_of : ℕ → ℕ → ServiceHead → Head
head_of extras stop h = record { address = address_at h.address; names = h.names; extras = extras; stop = stop }

abbrev pub head_at : LiteHead → Head
head_at h = record { address = address_at h.address; names = h.names; extras = h.extras; stop = h.stop }

-- ---- what is left behind the head

-- the head that had this address
abbrev pub headed : Head → Address → LiteHead
headed h a = record { address = a; names = h.names; extras = h.extras; stop = h.stop }

-- it was stored into t as profile i, whose header stands at offset at, for any address that the head shows: that left e, and ended as v
abbrev pub StoresRest : ℕ → List ℕ → ℕ → Counts → Head → List ℕ → List ℕ → Result Counts Refusal → Type 0
StoresRest at t i u h d e v =
    (a : Address) → address_at a ≡ h.address → StoresBody at t i u (seen (λ l. lite l) (read_lite_rest (headed h a) d 35 (length d))) (length d) e v
