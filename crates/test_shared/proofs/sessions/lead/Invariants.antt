use Rattle.test_shared.proofs.sessions.lead.Given as goal

-- the session that was just prepared
abbrev pub ghosts-begin_and_end : goal.ghosts-begin_and_end
ghosts-begin_and_end g a = record { id = a.opened }
