use Rattle.text.proofs.+put_digits.Given as goal

-- `text::put_digits` meets its contract: the last digit behind those of the tenth, which is the measure that falls. Assumes nothing.
abbrev pub decreases-put_digits : goal.decreases-put_digits
decreases-put_digits l = l.v
