use Rattle.adr_test_killed.proofs.adding.add.Goals as goal

pub write-requires : goal.write-requires
write-requires g c = record { follows = c.requires.follows c.args.number c.in_ok-what.what c.in_ok-what.ensures }
