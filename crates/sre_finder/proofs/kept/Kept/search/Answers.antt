use Rattle.sre_finder.proofs.Terms.{refl, sym, subst, words_of, uni_of, string_of, code_of, EndStands, rules}
use Rattle.sre_finder.proofs.Covered.{suits_same}
use Rattle.sre_finder.proofs.kept.Kept.search.Goals as goal

pub returns-then-is_alone-clause-suits : goal.returns-then-is_alone-clause-suits
returns-then-is_alone-clause-suits g c =
    let code = code_of c.args.req in
    c.note_alone.ensures.suits (words_of code) (uni_of code)
    (c.is_alone.ensures.suits (words_of code) (uni_of code) c.requires)

pub search_by-found-requires-2 : goal.search_by-found-requires-2
search_by-found-requires-2 g c =
    let code = code_of c.args.req in
    record {
      suits = (
        c.begin.ensures.suits (words_of code) (uni_of code)
            (c.is_alone.ensures.suits (words_of code) (uni_of code) c.requires),
        subst (EndStands (g.S.StrDrive.stands (string_of c.args.req))) (sym c.begin.ensures.end) tt,
      );
    }

pub returns-clause-suits : goal.returns-clause-suits
returns-clause-suits g c =
    let code = code_of c.args.req in
    suits_same (words_of code) (uni_of code) _ _ (record { encoding = refl; seeker = refl; whole = refl })
    c.note_search.ensures.encoding c.note_search.ensures.exact refl c.search_by-found-2.ensures.suits.0

pub returns-clause-answer : goal.returns-clause-answer
returns-clause-answer g c = search rules
