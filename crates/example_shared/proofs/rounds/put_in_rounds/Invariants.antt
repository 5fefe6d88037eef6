use Rattle.example_shared.proofs.rounds.put_in_rounds.Given as goal

-- the session that was just prepared
abbrev pub ghosts-play : goal.ghosts-play
ghosts-play g a = record { id = a.opened }
