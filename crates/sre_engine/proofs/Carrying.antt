-- What a search says in one form, said in another.
use Rattle.sre_engine.proofs.Terms.{ℕ, Bool, List, Result, Ok, Ghosts, items_of, AllAdmitted, carrying, Admitted}
use Rattle.sre_engine.proofs.Terms.{Request, Allowance, Halt, Shown, Charged, Answered, Bor, AnsweredAtOnce, ◌≡◌, ◌≢◌}
use Rattle.sre_engine.proofs.Terms.{true, false, Some, None, Err, refl, no_marks, code_of, MayTakeMemory}
use Rattle.sre_engine.proofs.Terms.{RunsOnceAnchored, BeginsAgain, AnsweredWithin}
use Rattle.std.specs.declared.alloc.Allocator.{Ghosts as Memory}

-- A request asks the same with and without a list of its code's FIRST sets: what a search says of one holds of the
-- other.

module _ {S : Type 0} {text : Ghosts S} (r : Request S text) (list : Bor (List Admitted))
    (all : AllAdmitted (items_of r.pattern_codes) list.now) where
  pub answered_alike : {E : Type 0} (told : Result Bool E) (s : Shown) → Answered (carrying r list all) told s
      → Answered r told s
  answered_alike told s x = record {
    answer = x.answer;
    cursor = x.cursor;
    span = x.span;
    no = x.no;
    err = x.err;
    counts = x.counts;
    up_to_match = x.up_to_match;
  }

  pub charged_alike : {M : Type 0} {memory : Memory M} (told : Result Bool (Halt M memory)) (started runs : ℕ)
      (a a' : Allowance)
      → Charged (carrying r list all) told started runs a a' → Charged r told started runs a a'
  charged_alike told started runs a a' x = record {
    limited = x.limited;
    fewer = x.fewer;
    spent = x.spent;
    halted = x.halted;
    cost = λ limited. record {
      cost = λ pl.
          (x.cost limited).cost
          (record { plain = pl.plain; unmarked = pl.unmarked; room = pl.room; order = pl.order });
    };
  }

-- the answer of a search without a run of the machine, which nothing can end early
pub at_once : {S E : Type 0} {text : Ghosts S} (r : Request S text) (b : Bool) (s : Shown) → AnsweredAtOnce r b s
    → Answered {E = E} r (Ok b) s
at_once r b s x = record {
  answer = x.answer;
  cursor = x.cursor;
  span = x.span;
  no = x.no;
  err = tt;
  counts = x.counts;
  up_to_match = x.up_to_match;
}

-- What a search says within a budget of steps, by what it says of its answer.

module _ {S E F : Type 0} {text : Ghosts S} (r : Request S text) (s : Shown) (anchored : RunsOnceAnchored r s)
    (again : BeginsAgain true s) where
  -- an answer
  pub within_found : (b : Bool) → Answered {E = E} r (Ok b) s → AnsweredWithin {E = F} r (Ok (Some b)) s
  within_found b x = record {
    answer = x.answer;
    cursor = λ e. x.cursor (cc);
    span = λ e. x.span (cc);
    no = no b x.no;
    err = tt;
    counts = record { inside = x.counts; up_to_match = x.up_to_match; anchored = anchored };
    again = again;
    literal = (tt, λ e. absurd (cc));
  }
    where
      no : (b : Bool) → (b ≡ false → s.marks ≡ no_marks) → Some b ≢ Some true → s.marks ≡ no_marks
      no true f other = absurd (other refl)
      no false f other = f refl

  -- an allocation failed
  pub within_refused : (e : E) (f : F) → Answered {E = E} r (Err e) s → MayTakeMemory (code_of r)
      → AnsweredWithin {E = F} r (Err f) s
  within_refused e f x takes = record {
    answer = λ t whole. tt;
    cursor = tt;
    span = tt;
    no = tt;
    err = x.err;
    counts = record { inside = x.counts; up_to_match = λ never. absurd (cc); anchored = anchored };
    again = again;
    literal = (takes, tt);
  }

  -- the step limit was exceeded
  pub within_exceeded : (e : E) → Answered {E = E} r (Err e) s → MayTakeMemory (code_of r)
      → AnsweredWithin {E = F} r (Ok None) s
  within_exceeded e x takes = record {
    answer = λ t whole. tt;
    cursor = λ never. absurd (cc);
    span = λ never. absurd (cc);
    no = λ other. x.err;
    err = tt;
    counts = record { inside = x.counts; up_to_match = λ never. absurd (cc); anchored = anchored };
    again = again;
    literal = (tt, λ none. takes);
  }

-- what `search_within_by` answers
pub ruleset within_laws = (within_found, within_refused, within_exceeded)
