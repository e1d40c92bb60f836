use Rattle.entry.proofs.entry.settings_in.Goals as goal

pub returns : goal.returns
returns c = rw (c.number8.ensures, c.requires)
