use Rattle.packets.specs.NamesTest.{label_at, label_key}
use Rattle.packets.proofs.unique.gather.Goals as goal

pub returns-clause-keys : goal.returns-clause-keys
unfolding label_at label_key
returns-clause-keys g c = rw (c.label_key.ensures, c.requires.record.1)

pub returns-clause-words : goal.returns-clause-words
unfolding label_at
returns-clause-words g c = rw (c.held_label.ensures, c.requires.record.1)
