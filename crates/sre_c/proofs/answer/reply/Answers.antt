use Rattle.sre_c.proofs.answer.reply.Goals as goal

pub ask-told-requires : goal.ask-told-requires
ask-told-requires g c =
    let own = c.with_admitted-request.ensures (rw c.list.ensures c.note_step.ensures.admitted) in
    record { suits = rw own c.requires.suits }

pub returns-clause-suits : goal.returns-clause-suits
returns-clause-suits g c =
    let own = c.with_admitted-request.ensures (rw c.list.ensures c.note_step.ensures.admitted) in
    rw own at c.ask-told.ensures.suits

pub returns-clause-replies : goal.returns-clause-replies
returns-clause-replies g c =
    let own = c.with_admitted-request.ensures (rw c.list.ensures c.note_step.ensures.admitted) in
    record {
      told = c.ask-told.result;
      shown = c.ask-told.new.state;
      finds = rw c.tell.ensures.steps (rw own at c.ask-told.ensures.finds);
      reply = c.tell.ensures.reply;
    }
