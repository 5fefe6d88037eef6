use Rattle.bench_store.proofs.clients.shared_by.Given as goal

-- the session that was just prepared
abbrev pub ghosts-run : goal.ghosts-run
ghosts-run g a = record { id = a.opened }
