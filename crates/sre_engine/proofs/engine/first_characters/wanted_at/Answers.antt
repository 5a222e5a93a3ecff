use Rattle.sre_engine.proofs.engine.first_characters.wanted_at.Goals as goal

pub returns-in-Some-clause-wants : goal.returns-in-Some-clause-wants
returns-in-Some-clause-wants c = λ t test stands first past.
    c.wanted_by.ensures.wants test (c.in-Some.ensures.own t test stands first past)
