use Rattle.xg_io.proofs.text.write_paged.Given as goal

abbrev pub ghosts-write_by : goal.ghosts-write_by
ghosts-write_by g a = record { reference = a.page.sink.ghost_name; before = g.O.Sink.written a.page.sink.now }
