use Rattle.scrub_pool.proofs.scanning.scan_all.Given as goal

-- the ledger is the one that was opened for this call
abbrev pub ghosts-scan_with_crew : goal.ghosts-scan_with_crew
ghosts-scan_with_crew g a = record { name = a.blank.name; parts = a.blank.parts }
