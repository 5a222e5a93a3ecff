use Rattle.sre_laws.proofs.laws.checked.Goals as goal

pub returns-clause-one : goal.returns-clause-one
returns-clause-one c t whole =
    let same = c.words-words.ensures.same in
    c.words-words.ensures.one t _ (rw same whole) (rw (same, c.in_ok-code.ensures.words) c.requires.emits.tree)
