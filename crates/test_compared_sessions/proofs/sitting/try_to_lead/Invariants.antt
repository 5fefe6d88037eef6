use Rattle.test_compared_sessions.proofs.sitting.try_to_lead.Given as goal

-- the session that was just prepared
abbrev pub ghosts-begin : goal.ghosts-begin
ghosts-begin g a = record { id = a.opened }
