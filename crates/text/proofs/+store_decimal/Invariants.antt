use Rattle.text.proofs.+store_decimal.Given as goal

abbrev pub decreases-store_decimal : goal.decreases-store_decimal
decreases-store_decimal l = l.v
