use Rattle.sre_machine.proofs.Terms.{◌+◌, sym, subst, HasRun, Alternatives, run_of, branch_run}
use Rattle.sre_machine.proofs.Terms.{body_reached, strides_before}
use Rattle.sre_machine.proofs.strides.next_body.Goals as goal

pub read-character-requires-clause-stands : goal.read-character-requires-clause-stands
read-character-requires-clause-stands g c = c.requires.ends.at.stands

pub returns-then-contains-clause-strides : goal.returns-then-contains-clause-strides
returns-then-contains-clause-strides g c =
    let r = run_of c.args.req.now in
    let after = c.read-character.result.1 in
    strides_before r c.args.place c.args.alternatives c.args.wanted c.read-character.result.0 c.args.cursor after
    c.args.frame c.requires.opcode c.requires.branch c.requires.alternatives c.requires.wanted c.requires.more
    c.requires.inside c.read-character.ensures.character (λ same. c.if-character-wanted.false same)
    (c.requires.told.each c.args.cursor c.read-character.result.0 after (record {
      stands = c.requires.ends.at.stands;
      read = record {
        inside = c.requires.inside;
        character = c.read-character.ensures.character;
        position = c.read-character.ensures.position;
        stands = subst (λ p. r.stands after p) (sym c.read-character.ensures.position) c.read-character.ensures.stands;
      };
      ascii = c.if-character-lt128.true;
    }) (sym c.if-contains.ensures))

pub only_alternative-requires-clause-stands : goal.only_alternative-requires-clause-stands
only_alternative-requires-clause-stands g c =
    let r = run_of c.args.req.now in
    subst (λ q. HasRun r (Alternatives q) c.args.cursor) (sym c.requires.alternatives)
    (branch_run r (c.args.frame.repeat + 4) c.args.cursor c.requires.branch
    (body_reached r c.args.place c.args.cursor c.args.frame c.requires.opcode c.requires.more c.requires.ends).0)

pub returns-clause-strides : goal.returns-clause-strides
returns-clause-strides g c =
    strides_before (run_of c.args.req.now) c.args.place c.args.alternatives c.args.wanted c.read-character.result.0
    c.args.cursor c.in_ok-behind.behind c.args.frame c.requires.opcode c.requires.branch c.requires.alternatives
    c.requires.wanted c.requires.more c.requires.inside c.read-character.ensures.character
    (λ same. c.if-character-wanted.false same) c.in_ok-behind.ensures
