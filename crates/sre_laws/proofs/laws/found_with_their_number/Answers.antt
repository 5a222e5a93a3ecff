use Rattle.sre_laws.proofs.Terms.{Whole, Asked, words_of, items_of, IsStepBound, asked_of, code_of}
use Rattle.std.proofs.Common.{◌≡◌, ◌≤◌, ◌+◌, ◌-◌, ◌*◌, ℕ, Bool, true, false, cond, length, is_none, Option, Some, None}
use Rattle.std.proofs.Common.{Result, Ok, IfOk, IfSome, sym, subst, arith}
use Rattle.std.proofs.Math.Nat.{mul-le-mul_right}
use Rattle.sre_engine.specs.WalkBounds.{most_matches}
use Rattle.sre_recipes.specs.Followed.{IsAmple, most_searches}
use Rattle.sre_laws.proofs.laws.found_with_their_number.Goals as goal

-- what follows of an exceeded limit follows of a call that was given up
given_up : {T E : Type 0} (F R : Type 0) (told : Result (Option T) E) (exceeded : Bool) → (F → exceeded ≡ true → R)
    → IfOk told (λ t. exceeded ≡ is_none t) → IfOk told (λ _. F) → Some told ≡ Some (Ok None) → R
given_up F R told exceeded f says followed is =
    let same : told ≡ Ok None = cc in
    f (subst (λ r. IfOk r (λ _. F)) same followed) (subst (λ r. IfOk r (λ t. exceeded ≡ is_none t)) same says)

-- an iteration over so many characters makes so many searches at most
few : (a : Asked) (n : ℕ) → a.end ≤ n → most_matches a + 1 ≤ 2 * n + 2
few a n l = by a.must_advance
  where
    by : (b : Bool) → 2 * (a.end - a.start) + cond b 0 1 + 1 ≤ 2 * n + 2
    by true = omega (arith, l)
    by false = omega (arith, l)

pub returns : goal.returns
returns g c =
    let a = asked_of c.args.req.now in
    let code = code_of c.args.req.now in
    let same = c.pattern_codes-code.ensures in
    let bound = c.in_ok-bound.bound in
    let n = c.in_ok-checked_mul-2.field-0 in
    let searches : most_matches a + 1 ≤ c.in_ok-searches.searches =
    omega (arith, few a c.args.characters c.requires, c.in_ok-checked_mul.ensures, c.in_ok-searches.ensures) in
    let enough : (most_matches a + 1) * bound ≤ n =
    omega (arith, mul-le-mul_right bound searches, c.in_ok-checked_mul-2.ensures) in
    let ample : IsAmple a code c.within-bounds.result.most c.within-bounds.result.steps = record {
      characters = c.args.characters;
      bound = bound;
      is = λ t whole.
          subst (λ k. IsStepBound (length (items_of k)) t c.args.characters bound) same
          (c.in_ok-bound.ensures.enough t (subst (λ k. Whole (words_of k) t) (sym same) whole));
      window = record {
        order = omega (arith, c.start-start.ensures.value, c.start-start.ensures.in_window);
        within = c.requires;
      };
      more = subst (λ (s : Option ℕ). IfSome s
          (λ given. most_searches c.within-bounds.result.most a * bound ≤ given)) (sym c.within-bounds.ensures.steps)
          (subst (λ m. most_searches m a * bound ≤ n) (sym c.within-bounds.ensures.most) enough);
    } in
    given_up _ _ c.find_bounded.result c.find_bounded.new.bounds.limit_exceeded (λ x. x.enough ample)
    c.find_bounded.ensures.exceeded c.find_bounded.ensures.followed
