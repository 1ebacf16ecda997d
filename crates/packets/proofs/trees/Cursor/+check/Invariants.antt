use Rattle.packets.proofs.trees.Cursor.+check.Given as goal

abbrev pub decreases-check : goal.decreases-check
decreases-check l = l.depth
