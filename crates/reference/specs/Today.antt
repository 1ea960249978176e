-- What the calls that name neither a rule nor a way answer: rule 1, and an address with its constants (document 02, No. 11: rule 1 is today's). Each stands
-- under the name that it has over both. Assumes nothing.
use Rattle.std.specs.Prelude.{ℕ, List}
use Rattle.reference.specs.declared.TypeIdRule.TheVariants.{Multiple}
use Rattle.reference.specs.declared.AddressWay.TheVariants.{Constants}
use Rattle.reference.specs.Refusals.{Told}
use Rattle.reference.specs.declared.Reading.{Reading}
use Rattle.reference.specs.declared.Refusal.{Refusal}
use Rattle.reference.specs.declared.Tables.{Tables}
use Rattle.reference.specs.declared.NsapAddress.{NsapAddress}
use Rattle.reference.specs.Meaning.{Address, Profile, Reference}
use Rattle.reference.specs.Used.{Used, Own}
use Rattle.reference.specs.Steps.{Answer}
use Rattle.reference.specs.Layout as Layout
use Rattle.reference.specs.Reader as Reader
use Rattle.reference.specs.Contents as Contents
use Rattle.reference.specs.Placed as Placed
use Rattle.reference.specs.Writer as Writer
use Rattle.reference.specs.Where as Where
use Rattle.reference.specs.Promises as Promises

-- ---- the layout

abbrev pub Leads : List ℕ → Reference → ℕ → Type 0
Leads = Layout.Leads Multiple

abbrev pub tables_of : Reference → Used
tables_of = Placed.tables_of Multiple

-- ---- reading

abbrev pub read_leading : List ℕ → Answer Reference
read_leading = Reader.read_leading Multiple

abbrev pub read_whole : List ℕ → Answer Reference
read_whole = Reader.read_whole Multiple

abbrev pub answered : Answer Reference → Reading
answered = Reader.answered Multiple

-- ---- what tables say, as it is written

abbrev pub address_of : NsapAddress → Address
address_of = Contents.address_of Constants

abbrev pub profile_of : List ℕ → Own → Profile
profile_of = Contents.profile_of Constants

-- ---- measuring and writing

abbrev pub measured : Tables → List ℕ → Told
measured = Writer.measured Multiple

abbrev pub image_of : List ℕ → Tables → List ℕ
image_of = Writer.image_of Multiple Constants

-- ---- the statements of the promises

abbrev pub ShowsFields : List ℕ → Reference → Tables → Type 0
ShowsFields = Promises.ShowsFields Multiple

abbrev pub GivesBack : List ℕ → Reference → ℕ → List ℕ → List ℕ → Type 0
GivesBack = Promises.GivesBack Multiple Constants

abbrev pub ReadsBack : Tables → List ℕ → ℕ → List ℕ → Reading → Type 0
ReadsBack = Promises.ReadsBack Constants

abbrev pub Points : List ℕ → Refusal → Type 0
Points = Where.Points Multiple

abbrev pub Alike : List ℕ → List ℕ → Refusal → Type 0
Alike = Where.Alike Multiple
