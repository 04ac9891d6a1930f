use Rattle.rt_locks.proofs.lock_cell_tests.a_lock_is_waited_for_and_given_up.Given as goal

abbrev pub ghosts-two_wait : goal.ghosts-two_wait
ghosts-two_wait g a = record { name = a.blank.name; parts = a.blank.parts }
