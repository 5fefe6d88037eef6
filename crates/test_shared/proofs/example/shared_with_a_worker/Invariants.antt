use Rattle.test_shared.proofs.example.shared_with_a_worker.Given as goal

-- the session that was just prepared
abbrev pub ghosts-in_three_threads : goal.ghosts-in_three_threads
ghosts-in_three_threads g a = record { id = a.opened }
