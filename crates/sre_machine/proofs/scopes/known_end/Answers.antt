use Rattle.sre_machine.proofs.Terms.{◌≡◌, ap, ◌∙◌, true, rules, Option, Some, None, IfNone, items_of, is_inside}
use Rattle.sre_machine.proofs.Terms.{Unmarked, ℕ, List, IfSome, Ghosts, StringCursor, BoardValue, spot, spot_at, Point}
use Rattle.sre_machine.proofs.Terms.{TellsEnd, Request, run_of, MemoValue, Recalls, EndsThere, NoEndTold, Laid}
use Rattle.sre_machine.proofs.Terms.{end_told, UnaskedMarks}
use Rattle.sre_machine.proofs.Opening.{forks_not}
use Rattle.sre_machine.proofs.scopes.known_end.Goals as goal

-- an end that a memo returns for a point is where the body ends from there
known_there : {S : Type 0} {text : Ghosts S} (r : Request S text) (point : Point) (position : ℕ)
    (cursor : StringCursor) (b : BoardValue) (m : MemoValue) (ws : List ℕ) → ws ≡ (run_of r).words
    → position ≡ cursor.position
    → is_inside b.choices ≡ true → UnaskedMarks r b.marks → Recalls (run_of r) m → Laid m.kept
    → (told : Option StringCursor)
    → IfSome told (λ end. TellsEnd m.kept m.ends ws (is_inside b.choices) (spot_at point b.frames position b.marks) end)
    → IfSome told (λ end. EndsThere r point cursor b end)
known_there r point position cursor b m ws same at inside unmarked recalls laid None tells = tt
known_there r point position cursor b m ws same at inside unmarked recalls laid (Some end) tells =
    let there : TellsEnd m.kept m.ends (run_of r).words true (spot point cursor b) end =
    rw (same, at, inside) at tells in
    let is = end_told (run_of r) m.kept m.ends (spot point cursor b) end recalls.ends laid there in
    record { inside = inside; unmarked = unmarked; stands = is.1; ends = is.0 }

-- and where it tells none, none is told
none_there : {S : Type 0} {text : Ghosts S} (r : Request S text) (point : Point) (position : ℕ)
    (cursor : StringCursor) (b : BoardValue) (m : MemoValue) (ws : List ℕ) → ws ≡ (run_of r).words
    → position ≡ cursor.position → ((end : StringCursor) → TellsEnd m.kept m.ends ws (is_inside b.choices)
    (spot_at point b.frames position b.marks) end → ⊥) → NoEndTold r point cursor b m
none_there r point position cursor b m ws same at none inside keeps end tells =
    none end (rw (same, at, inside) tells)

pub returns-clause-told : goal.returns-clause-told
returns-clause-told g c =
    let b = c.args.board.now in
    let inside : is_inside b.choices ≡ true = search rules in
    let plain : c.args.keeping ≡ Unmarked = search rules in
    known_there c.args.req.now c.args.point c.position.result c.args.cursor b c.args.memo.now c.items.result.now
    (c.items.ensures.same ∙ ap items_of c.pattern_codes.ensures) c.position.ensures inside
    (c.requires.keeping.unmarked plain) c.requires.remembers c.end.ensures.laid c.end.result c.end.ensures.told

pub returns-clause-none : goal.returns-clause-none
returns-clause-none g c =
    untold c.end.result (λ none _ _.
    none_there c.args.req.now c.args.point c.position.result c.args.cursor c.args.board.now c.args.memo.now
    c.items.result.now (c.items.ensures.same ∙ ap items_of c.pattern_codes.ensures) c.position.ensures none)
    c.end.ensures.none
  where
    untold : {T : Type 0} {A B : Type 0} (x : Option T) → (A → B) → IfNone x A → IfNone x B
    untold None f h = f h
    untold (Some t) f h = tt

pub returns-then-not-may_branch_at-clause-none : goal.returns-then-not-may_branch_at-clause-none
returns-then-not-may_branch_at-clause-none g c = λ _ forks.
    absurd (forks_not c.args.req.now c.args.point forks (c.may_branch_at.ensures.free c.if-not-may_branch_at.true))
