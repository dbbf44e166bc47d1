use Rattle.jsonb_core.proofs.number.sort_key.+append_digits.Given as goal

abbrev pub decreases-append_digits : goal.decreases-append_digits
decreases-append_digits l = l.count
