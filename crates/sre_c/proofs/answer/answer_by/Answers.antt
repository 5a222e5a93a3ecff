use Rattle.sre_c.proofs.Terms.{◌∙◌, ap, length, words_of, code_of}
use Rattle.sre_c.proofs.Codes.{items_in}
use Rattle.sre_c.proofs.Matches.{answers_in}
use Rattle.sre_c.proofs.answer.answer_by.Goals as goal

pub returns-clause-answers : goal.returns-clause-answers
returns-clause-answers g c =
    answers_in c.args.code.now (g.S.StrDrive.text c.args.text) c.args.asked.now (length c.args.marks.now)
    c.reply.new.found c.reply.new.marks c.in-Ok.ensures.tree c.reply.result
    (ap words_of c.request-request.ensures.code ∙ c.in-Ok.ensures.words) c.in-Ok.ensures.uni
    c.request-request.ensures.asked c.reply.ensures.replies

pub reply-requires-clause-sets : goal.reply-requires-clause-sets
reply-requires-clause-sets g c =
    let own = ap words_of c.request-request.ensures.code ∙ c.in-Ok.ensures.words in
    rw (items_in (code_of c.request-request.result) own) c.requires.sets

pub returns-clause-sets : goal.returns-clause-sets
returns-clause-sets g c =
    let own = ap words_of c.request-request.ensures.code ∙ c.in-Ok.ensures.words in
    rw (items_in (code_of c.request-request.result) own) at c.reply.ensures.sets
