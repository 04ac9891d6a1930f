use Rattle.rt_walk.proofs.walk_tests.a_link_is_made.Given as goal

abbrev pub ghosts-make_link : goal.ghosts-make_link
ghosts-make_link g a = record { name = a.blank.name; parts = a.blank.parts }
