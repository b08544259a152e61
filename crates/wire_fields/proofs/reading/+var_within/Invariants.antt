use Rattle.wire_fields.proofs.reading.+var_within.Given as goal

abbrev pub decreases-var_within : goal.decreases-var_within
decreases-var_within l = l.places
