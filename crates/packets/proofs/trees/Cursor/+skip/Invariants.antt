use Rattle.packets.proofs.trees.Cursor.+skip.Given as goal

abbrev pub decreases-skip : goal.decreases-skip
decreases-skip l = l.depth
