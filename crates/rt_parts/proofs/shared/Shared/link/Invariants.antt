use Rattle.rt_parts.proofs.shared.Shared.link.Given as goal

abbrev pub ghosts-link : goal.ghosts-link
ghosts-link a = record { name = a.blank.name; parts = a.blank.parts }
