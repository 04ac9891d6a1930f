use Rattle.rt_locks.proofs.stealing_tests.an_equal_normal_task_steals_a_spinlock.Given as goal

abbrev pub ghosts-asks_for : goal.ghosts-asks_for
ghosts-asks_for g a = record { name = a.blank.name; parts = a.blank.parts }
