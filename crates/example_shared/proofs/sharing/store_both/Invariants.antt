use Rattle.example_shared.proofs.sharing.store_both.Given as goal

-- the session that was just prepared
abbrev pub ghosts-in_threads : goal.ghosts-in_threads
ghosts-in_threads g a = record { id = a.opened }
