use mathlib.Core.Path.{sym, ap}
use native.Mathlib.Omega.{arith}
use Rattle.text.proofs.Texts.{sized, loose}
use Rattle.lines.specs.Lines.{kind_text}
use Rattle.lines.proofs.put_kind.Goals as goal

pub returns-in-Directory : goal.returns-in-Directory
unfolding kind_text
returns-in-Directory c = loose (sized c.put_word.ensures) 8 (omega arith) (sym (ap kind_text c.in-Directory.is))

pub returns-in-File : goal.returns-in-File
unfolding kind_text
returns-in-File c = loose (sized c.put_word-in-File.ensures) 8 (omega arith) (sym (ap kind_text c.in-File.is))

pub returns-in-Stream : goal.returns-in-Stream
unfolding kind_text
returns-in-Stream c = loose (sized c.put_word-in-Stream.ensures) 8 (omega arith) (sym (ap kind_text c.in-Stream.is))

pub returns-in-ServiceGateway : goal.returns-in-ServiceGateway
unfolding kind_text
returns-in-ServiceGateway c = loose (sized c.put_word-in-ServiceGateway.ensures) 8 (omega arith) (sym (ap kind_text c.in-ServiceGateway.is))

pub returns-in-StreamEvent : goal.returns-in-StreamEvent
unfolding kind_text
returns-in-StreamEvent c = loose (sized c.put_word-in-StreamEvent.ensures) 8 (omega arith) (sym (ap kind_text c.in-StreamEvent.is))

pub returns-in-Unknown : goal.returns-in-Unknown
unfolding kind_text
returns-in-Unknown c = loose (sized c.put_hex32.ensures) 8 (omega arith) (sym (ap kind_text c.in-Unknown.is))
