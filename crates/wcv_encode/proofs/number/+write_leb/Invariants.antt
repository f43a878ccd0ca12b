use Rattle.wcv_encode.proofs.number.+write_leb.Given as goal

abbrev pub decreases-write_leb : goal.decreases-write_leb
decreases-write_leb l = l.more
