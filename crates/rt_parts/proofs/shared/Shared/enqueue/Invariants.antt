use Rattle.rt_parts.proofs.shared.Shared.enqueue.Given as goal

abbrev pub ghosts-enqueue : goal.ghosts-enqueue
ghosts-enqueue a = record { name = a.blank.name; parts = a.blank.parts }
