use Rattle.lsm_storm.proofs.storming.shared_by_all.Given as goal

-- the session that was just prepared
abbrev pub ghosts-run : goal.ghosts-run
ghosts-run g a = record { id = a.opened }
