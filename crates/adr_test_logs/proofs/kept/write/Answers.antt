use Rattle.adr_test_logs.proofs.kept.write.Goals as goal

pub write-requires : goal.write-requires
write-requires g c = record { follows = c.requires.follows c.in_ok-what.what c.in_ok-what.ensures }
