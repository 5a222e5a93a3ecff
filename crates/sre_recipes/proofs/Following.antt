-- What bounds leave of an iteration, and what it takes of them, match by match.
use Rattle.sre_recipes.proofs.Terms.{◌≡◌, ◌<◌, ◌+◌, ◌-◌, ℕ, zero, suc, List, [], ◌∷◌, Bool, false, take, Option, Some}
use Rattle.sre_recipes.proofs.Terms.{None, refl, sym, ap, ◌∙◌, subst, arith, cond, inl, inr, Ghosts, Tree, Asked, Match}
use Rattle.sre_recipes.proofs.Terms.{found, asked_after, walk, most_matches, either, walk-end, walk-next}
use Rattle.sre_recipes.proofs.Terms.{most_matches-falls, words_of, hints_of, code_tree, code_of, asked_of, match_shown}
use Rattle.sre_recipes.proofs.Terms.{request_of, shown_of, left_of, most_items, Gives, SearchIter, Bounds, first_of}
use Rattle.sre_recipes.proofs.Terms.{AreLeft, is_spent, one_less, Takes, Goes, SpendsOn, length, true, ◌*◌, ◌≤◌, ◌⊎◌}
use Rattle.sre_recipes.proofs.Terms.{add-mul, mul-le-mul_right, Code, Whole, has_ended, Spends, Followed, FollowedRest}
use Rattle.sre_recipes.proofs.Terms.{IfSome, one-mul, less_by, most_searches, IsAmple, Stops}
use Rattle.sre_growth.specs.Refusal.{Refused}
use Rattle.sre_recipes.proofs.Steps.{all_left}

-- where no step is taken, all are left
pub left_all : (steps : Option ℕ) → AreLeft steps steps
left_all steps = grind arith

-- and what is left of those that are left is left of the first
pub left_on : (given between left : Option ℕ) → AreLeft given between → AreLeft between left → AreLeft given left
left_on given between left first then = grind arith

-- one is taken, and one less is wanted
pub one_taken : (most : Option ℕ) (m : Match) (ms : List Match) → is_spent most ≡ false
    → first_of most (m ∷ ms) ≡ m ∷ first_of (one_less most) ms
one_taken None m ms e = refl
one_taken (Some zero) m ms e = absurd (cc)
one_taken (Some (suc n)) m ms e = ap (λ (k : ℕ). m ∷ take k ms) (omega arith)

-- of the first matches the first is the first of all, and the others are the first behind it
first_parts : (most : Option ℕ) (x m : Match) (xs ms : List Match) → first_of most (x ∷ xs) ≡ m ∷ ms
    → (x ≡ m) × (first_of (one_less most) xs ≡ ms)
first_parts None x m xs ms e = (cc, cc)
first_parts (Some zero) x m xs ms e = absurd (cc)
first_parts (Some (suc n)) x m xs ms e =
    let less : suc n - 1 ≡ n = omega arith in (cc, cc (ap (λ (k : ℕ). take k xs) less))

-- of none there is no first
none_first : (most : Option ℕ) → first_of most [] ≡ []
none_first None = refl
none_first (Some zero) = refl
none_first (Some (suc n)) = refl

-- the first of the first matches of a walk is found; the others are the first of the walk behind it
pub first_step : (most : Option ℕ) (a : Asked) (t : Tree) (m : Match) (ms : List Match)
    → first_of most (walk a t) ≡ m ∷ ms
    → (found a t ≡ Some m) × (first_of (one_less most) (walk (asked_after a m) t) ≡ ms)
first_step most a t m ms e = elim (either (found a t)) [
  | (inl none) ↦ absurd (cc (none_first most, walk-end a t none, e))
  | (inr (x, some)) ↦
      let parts = first_parts most x m (walk (asked_after a x) t) ms
      (sym (ap (first_of most) (walk-next a t x some)) ∙ e) in (
        some ∙ ap Some parts.0,
        ap (λ (y : Match). first_of (one_less most) (walk (asked_after a y) t)) (sym parts.0) ∙ parts.1,
      )
]

-- fewer can be left behind a match
pub falls_by : {S A : Type 0} {text : Ghosts S} (it next : SearchIter S A text) → Gives it next
    → most_matches (asked_after (asked_of (request_of it)) (match_shown (shown_of next)))
    < most_matches (asked_of (request_of it))
falls_by it next gives =
    let code = code_of (request_of it) in
    let tree = code_tree (words_of code) (hints_of code) code.checked in
    let asked = asked_of (request_of it) in
    let m = match_shown (shown_of next) in
    let left : walk asked tree.0 ≡ m ∷ left_of next tree.0 =
    ap (λ (b : Bool). cond b [] (walk asked tree.0)) (sym gives.before) ∙ gives.first tree.0 tree.1 in
    most_matches-falls asked tree.0 m (first_step None asked tree.0 m (left_of next tree.0) left).0

-- so fewer items can come
pub gives_falls : {S A : Type 0} {text : Ghosts S} (it next : SearchIter S A text) → Gives it next
    → most_items next < most_items it
gives_falls it next gives =
    let asked = asked_of (request_of it) in
    let falls = falls_by it next gives in
    let fewer : most_matches (asked_of (request_of next)) < most_matches asked =
    subst (λ (a : Asked). most_matches a < most_matches asked) (sym gives.request.asked) falls in
    let before : most_items it ≡ most_matches asked + 1 =
    ap (λ (b : Bool). cond b 0 (most_matches asked + 1)) gives.before in
    let after : most_items next ≡ most_matches (asked_of (request_of next)) + 1 =
    ap (λ (b : Bool). cond b 0 (most_matches (asked_of (request_of next)) + 1)) gives.after in
    omega (arith, before, after, fewer)

-- and a match that comes is taken
pub takes_one : {S A : Type 0} {text : Ghosts S} (it next : SearchIter S A text) (before between after : Bounds)
    → is_spent before.most ≡ false → Goes it next before between
    → after.most ≡ one_less between.most → after.limit_exceeded ≡ between.limit_exceeded → after.steps ≡ between.steps
    → Takes it next before after
takes_one it next before between after wanted goes most used steps = record {
  wanted = wanted;
  most = most ∙ ap one_less goes.most;
  going = used ∙ goes.going;
  spends = subst (SpendsOn it next before.steps) (sym steps) goes.spends;
}

-- the limit on matches after one more, and after none
less_more : (most : Option ℕ) (n : ℕ) → less_by (one_less most) n ≡ less_by most (suc n)
less_more most n = grind arith

less_none : (most : Option ℕ) → less_by most 0 ≡ most
less_none most = grind arith

-- a limit on matches that is not used up wants at least one search, and one less is wanted behind a match
some_search : (most : Option ℕ) (a : Asked) → is_spent most ≡ false → 1 ≤ most_searches most a
some_search most a wanted = grind arith

fewer_searches : (most : Option ℕ) (a b : Asked) → is_spent most ≡ false → most_matches b < most_matches a
    → most_searches (one_less most) b + 1 ≤ most_searches most a
fewer_searches most a b wanted falls = grind arith

-- the last search of an ample budget exceeds it only if an allocation failed
last_ample : (M : Type 0) (a : Asked) (code : Code) (most steps left : Option ℕ) → is_spent most ≡ false
    → Spends M a code (a.end + 1) a.end None steps left → IsAmple a code most steps → Refused M
last_ample M a code most None left wanted spends ample = absurd (cc (spends.0))
last_ample M a code most (Some given) None wanted spends ample = absurd spends
last_ample M a code most (Some given) (Some left) wanted spends ample =
    let tree = code_tree (words_of code) (hints_of code) code.checked in
    let is = ample.is tree.0 tree.1 in
    let one : ample.bound ≤ most_searches most a * ample.bound =
    omega (arith, mul-le-mul_right ample.bound (some_search most a wanted), one-mul ample.bound) in
    spends.keeps.enough (record {
      tree = tree.0;
      whole = tree.1;
      remembered = is.remembered a ample.window;
      more = omega (arith, is.more a ample.window, one, ample.more);
    }) refl

-- behind a match what is left of an ample budget is ample, unless an allocation failed
ample_after : (M : Type 0) (a : Asked) (code : Code) (m : Match) (to seen : ℕ) (most steps left : Option ℕ)
    → is_spent most ≡ false → m.end ≤ a.end → most_matches (asked_after a m) < most_matches a
    → Spends M a code to seen (Some true) steps left → IsAmple a code most steps
    → Refused M ⊎ IsAmple (asked_after a m) code (one_less most) left
ample_after M a code m to seen most None left wanted inside falls spends ample = inr (record {
  characters = ample.characters;
  bound = ample.bound;
  is = ample.is;
  window = record { order = inside; within = ample.window.within };
  more = subst (λ (n : Option ℕ). IfSome n
      (λ given. most_searches (one_less most) (asked_after a m) * ample.bound ≤ given)) (sym spends.1) tt;
})
ample_after M a code m to seen most (Some given) None wanted inside falls spends ample = absurd spends
ample_after M a code m to seen most (Some given) (Some left) wanted inside falls spends ample =
    let tree = code_tree (words_of code) (hints_of code) code.checked in
    let is = ample.is tree.0 tree.1 in
    let after : ℕ = most_searches (one_less most) (asked_after a m) in
    let all : (after + 1) * ample.bound ≤ most_searches most a * ample.bound =
    mul-le-mul_right ample.bound (fewer_searches most a (asked_after a m) wanted falls) in
    elim (spends.keeps.bounded tree.0 tree.1 (is.remembered a ample.window)) [
      | inl refused ↦ inl refused
      | inr few ↦ inr (record {
        characters = ample.characters;
        bound = ample.bound;
        is = ample.is;
        window = record { order = inside; within = ample.window.within };
        more = omega (
          arith,
          few,
          is.more a ample.window,
          all,
          add-mul after 1 ample.bound,
          one-mul ample.bound,
          ample.more,
        );
      })
    ]

-- one more match was taken
followed_more : {A : Type 0} (a : Asked) (code : Code) (m : Match) (most steps between : Option ℕ) (after : Bounds)
    → is_spent most ≡ false → m.end ≤ a.end → most_matches (asked_after a m) < most_matches a
    → ((t : Tree) → Whole (words_of code) t → walk a t ≡ m ∷ walk (asked_after a m) t)
    → Spends A a code (m.start + 1) m.end (Some true) steps between
    → (rest : Followed A (asked_after a m) code (one_less most) between after)
    → (all : Followed A a code most steps after) × (all.taken ≡ m ∷ rest.taken)
followed_more {A} a code m most steps between after wanted inside falls step spends rest =
    let all : Followed A a code most steps after = record {
      taken = m ∷ rest.taken;
      first = λ t whole.
          let told = rest.first t whole in (
            told.0,
            ap (first_of most) (step t whole)
                ∙ one_taken most m (walk (asked_after a m) t) wanted
                ∙ ap (λ (ms : List Match). m ∷ ms) told.1,
            told.2,
          );
      fewer = rest.fewer ∙ less_more most (length rest.taken);
      spent = (between, spends, rest.spent);
      enough = λ ample exceeded.
          elim (ample_after _ a code m (m.start + 1) m.end most steps between wanted inside falls spends ample) [
            | inl refused ↦ refused
            | inr left ↦ rest.enough left exceeded
          ];
    } in (all, refl)

-- so a walk that goes on behind a match has been followed from before it
pub follow_on : {S A : Type 0} {text : Ghosts S} (it next : SearchIter S A text) (before between after : Bounds)
    → Gives it next → Takes it next before between → (rest : FollowedRest next between after)
    → (all : FollowedRest it before after) × (all.taken ≡ match_shown (shown_of next) ∷ rest.taken)
follow_on {A = A} it next before between after gives takes rest =
    let a = asked_of (request_of it) in
    let code = code_of (request_of it) in
    let m = match_shown (shown_of next) in
    let Here = λ (b : Asked) (d : Code) (n : Option ℕ).
    (r : Followed A b d n between.steps after) × (r.taken ≡ rest.taken) in
    let here : Here (asked_after a m) code (one_less before.most) =
    subst (Here (asked_after a m) code) takes.most
    (subst (λ (b : Asked). Here b code between.most) gives.request.asked
    (subst (λ (d : Code). Here (asked_of (request_of next)) d between.most) gives.request.pattern_codes
    (rest, refl))) in
    let all =
    followed_more a code m before.most before.steps between.steps after takes.wanted gives.request.span.inside
    (falls_by it next gives)
    (λ t whole.
    sym (all_left it t gives.before)
    ∙ gives.first t whole
    ∙ ap (λ (ms : List Match). m ∷ ms)
    (all_left next t gives.after ∙ ap (λ (b : Asked). walk b t) gives.request.asked))
    takes.spends here.0 in (all.0, all.1 ∙ ap (λ (ms : List Match). m ∷ ms) here.1)

-- and a walk that stops is followed to its end
pub follow_end : {S A : Type 0} {text : Ghosts S} (it : SearchIter S A text) (before after : Bounds)
    → Stops it before after → has_ended it ≡ false → (all : FollowedRest it before after) × (all.taken ≡ [])
follow_end {A = A} it before after stops begun =
    let all : FollowedRest it before after = record {
      taken = [];
      first = λ t whole. (
        first_of before.most (walk (asked_of (request_of it)) t),
        refl,
        λ going. ap (first_of before.most) (sym (all_left it t begun)) ∙ stops.none going t whole,
      );
      fewer = stops.most ∙ sym (less_none before.most);
      spent = stops.spends begun;
      enough = λ ample exceeded.
          let spends = rw exceeded at stops.spends begun in
          last_ample _ (asked_of (request_of it)) (code_of (request_of it)) before.most before.steps after.steps
          (stops.wanted exceeded) spends ample;
    } in (all, refl)
