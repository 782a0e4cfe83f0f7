use Rattle.blob_server.proofs.serving.serve_all.Given as goal

abbrev pub ghosts-serve_settled-J-Connections : goal.ghosts-serve_settled-J-Connections
ghosts-serve_settled-J-Connections g a = record { all = a.connections; dry_name = a.dry.name }

abbrev pub ghosts-serve_settled-J-Ledger : goal.ghosts-serve_settled-J-Ledger
ghosts-serve_settled-J-Ledger g a = record { name = a.taken.name; parts = a.taken.parts }
