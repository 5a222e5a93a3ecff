use Rattle.sre_machine.proofs.Terms.{◌≡◌, List, Bool, subst, sym, rules, AreIdle, AskedPlace, asks_of, HaveAll}
use Rattle.sre_machine.proofs.Analyses.{idle_told, says_nothing, says_more}
use Rattle.sre_machine.proofs.asked_places.list_idle.Goals as goal

pub place-init : goal.place-init
place-init g c = record {
  long = search rules;
  asked = search rules;
  none = says_nothing _ _ (search rules);
}

pub place-preserved : goal.place-preserved
place-preserved g c =
    let items : List AskedPlace = c.ask_places.new.list.items in
    let marks = c.instruction_at-marks in
    record {
      long = search rules;
      asked = c.place.invariant.asked;
      none =
          says_more items c.place.idle.items c.push.new.list.items c.place.place c.is_empty.result marks.result
          c.place.invariant.long (search rules)
          (subst (λ (xs : List AskedPlace). HaveAll marks.result ((asks_of xs).instruction c.place.place))
          c.as_slice.ensures.value marks.ensures) c.is_empty.ensures c.place.invariant.none;
    }

pub returns : goal.returns
returns g c = idle_told _ _ _ c.place.invariant.asked c.place.invariant.none

pub returns-in_err-push : goal.returns-in_err-push
returns-in_err-push g c =
    let same : c.push.new.list.items ≡ c.place.idle.items = search rules in
    subst (λ (list : List Bool). AreIdle c.args.words.now list) (sym same)
    (idle_told _ _ _ c.place.invariant.asked c.place.invariant.none)
