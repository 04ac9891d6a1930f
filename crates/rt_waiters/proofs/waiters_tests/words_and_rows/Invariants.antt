use Rattle.rt_waiters.proofs.waiters_tests.words_and_rows.Given as goal

abbrev pub ghosts-three_wait : goal.ghosts-three_wait
ghosts-three_wait g a = record { name = a.blank.name; parts = a.blank.parts }
