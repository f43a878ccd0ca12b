use Rattle.wcv_subtype.proofs.openings.read_as.Goals as goal
