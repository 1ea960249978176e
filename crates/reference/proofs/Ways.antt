-- How an address is written: what each way puts of the address that tables hold. Assumes nothing.
use mathlib.Core.Path.{◌≡◌, refl, ap}
use lib.Dec.{lit<}
use Rattle.reference.specs.declared.AddressWay.{AddressWay}
use Rattle.reference.specs.declared.AddressWay.TheVariants.{Constants}
use Rattle.reference.specs.declared.NsapAddress.{NsapAddress}
use Rattle.reference.specs.Meaning.{Address}
use Rattle.reference.specs.Layout.{GoodAddress}
use Rattle.reference.specs.Contents.{address_of}
use Rattle.reference.specs.Placed.{address_at}
use Rattle.reference.specs.Standard.{canon_address}
use Rattle.reference.specs.Typed.{AddressFits}

pub address_good : (way : AddressWay) (a : NsapAddress) → AddressFits a → GoodAddress (address_of way a)
address_good Constants a f =
    record {
      afi = lit< tt;
      kind = lit< tt;
      carousel = f.carousel;
      specifier_type = lit< tt;
      specifier0 = f.specifier0;
      specifier1 = f.specifier1;
      specifier2 = f.specifier2;
      transport = f.transport;
      network = f.network;
      service = f.service;
      reserved = lit< tt;
    }

pub fits_good : (a : Address) → GoodAddress a → AddressFits (address_at a)
fits_good a g =
    record {
      carousel = g.carousel;
      specifier0 = g.specifier0;
      specifier1 = g.specifier1;
      specifier2 = g.specifier2;
      transport = g.transport;
      network = g.network;
      service = g.service;
    }

-- what was written is held as it was
pub written_held : (way : AddressWay) (a : NsapAddress) → address_at (address_of way a) ≡ a
written_held Constants a = refl

pub written_twice : (way : AddressWay) (a : NsapAddress) → canon_address way (address_of way a) ≡ address_of way a
written_twice way a = ap (address_of way) (written_held way a)
