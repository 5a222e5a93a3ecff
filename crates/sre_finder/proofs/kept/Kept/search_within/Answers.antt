use Rattle.sre_finder.proofs.Terms.{sym, subst, words_of, uni_of, string_of, code_of, EndStands, rules}
use Rattle.sre_finder.proofs.kept.Kept.search_within.Goals as goal

pub search_within_by-requires : goal.search_within_by-requires
search_within_by-requires g c =
    let code = code_of c.args.req in
    record {
      suits = (
        c.begin.ensures.suits (words_of code) (uni_of code) c.requires,
        subst (EndStands (g.S.StrDrive.stands (string_of c.args.req))) (sym c.begin.ensures.end) tt,
      );
    }

pub returns-clause-steps : goal.returns-clause-steps
returns-clause-steps g c = search rules
