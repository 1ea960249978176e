use Rattle.questions.proofs.Cases.{dvb_fields}
use Rattle.questions.proofs.is_dvb.Goals as goal

pub returns : goal.returns
returns c = search dvb_fields
