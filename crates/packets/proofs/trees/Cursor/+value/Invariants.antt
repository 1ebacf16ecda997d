use Rattle.packets.proofs.trees.Cursor.+value.Given as goal

abbrev pub decreases-value : goal.decreases-value
decreases-value l = l.depth
