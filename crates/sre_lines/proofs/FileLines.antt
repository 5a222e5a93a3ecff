-- The lines of a file, one after the other: the line of a number, and lines that are answered.
use Rattle.sre_lines.proofs.Terms.{◌≡◌, ◌+◌, ◌≤◌, ◌<◌, ℕ, List, [], ◌∷◌, ◌++◌, Option, Some, None, Result, Ok, Err}
use Rattle.sre_lines.proofs.Terms.{length, refl, sym, ap, ◌∙◌, arith, inl, inr, append_assoc, length-append, append-nil}
use Rattle.sre_lines.proofs.Terms.{OnOk, OnErr, IfErr, Appends, AppendsPart, Appends-kept, Appends-trans, Table, Case}
use Rattle.sre_lines.proofs.Terms.{CaseFault, Detail, NotATable, NotACase, NoMemory, OutputFailed, case_text, IsCase}
use Rattle.sre_lines.proofs.Terms.{lines_of, IsLineAt, IsAnswered, AreAnswered, Answered, IsNoCase, IsBegun, StopsAt}
use Rattle.std.proofs.KnownBytes.{Appends-nil}
use Rattle.std.specs.Io.KnownBytes.{Keeps}
use Rattle.sre_lines.specs.Cases.{IsAnswer}
use Rattle.sre_lines.specs.declared.cases.CaseFault.TheVariants.{Usage, CannotRead}
use Rattle.sre_lines.proofs.Cuts.{Lacks, first_part_at, only_part_at}

-- the line of a number begins what is left
pub record Reached (file left : List ℕ) (number : ℕ) : Type 0 where
  pub before : List (List ℕ)
  pub lines : lines_of file ≡ before ++ lines_of left
  pub counted : number ≡ length before + 1

abbrev pub first_reached : (file : List ℕ) → Reached file file 1
first_reached file = record { before = []; lines = refl; counted = refl }

module _ {file left : List ℕ} {number : ℕ} (at : Reached file left number) where
  -- it is the last line
  pub last_split : Lacks left 10 → lines_of file ≡ at.before ++ left ∷ []
  last_split none = at.lines ∙ ap (λ ls. at.before ++ ls) (only_part_at 10 left none)

  pub last_reached : Lacks left 10 → IsLineAt file number left
  last_reached none =
      record { before = at.before; after = []; split = last_split none; counted = at.counted }

  -- a line behind it is asked for
  pub no_more : (line : List ℕ) (wanted : ℕ) → Lacks left 10 → IsLineAt file wanted line → wanted ≤ number
  no_more line wanted none is =
      let both : at.before ++ left ∷ [] ≡ is.before ++ line ∷ is.after = sym (last_split none) ∙ is.split in
      omega (arith, at.counted, is.counted, ap length both, length-append {A = List ℕ})

  -- or others follow
  module _ (line others : List ℕ) (cut : line ++ 10 ∷ others ≡ left) (none : Lacks line 10) where
    pub next_split : lines_of file ≡ at.before ++ line ∷ lines_of others
    next_split = at.lines ∙ ap (λ ls. at.before ++ ls) (first_part_at 10 left line others cut none)

    pub line_reached : IsLineAt file number line
    line_reached =
        record { before = at.before; after = lines_of others; split = next_split; counted = at.counted }

    abbrev pub next_reached : Reached file others (number + 1)
    next_reached = record {
      before = at.before ++ line ∷ [];
      lines = next_split ∙ sym (append_assoc at.before (line ∷ []) (lines_of others));
      counted = omega (arith, at.counted, length-append at.before (line ∷ []));
    }

-- there is one line of a number
same_element : (xs ys : List (List ℕ)) (x y : List ℕ) (us vs : List (List ℕ)) → xs ++ x ∷ us ≡ ys ++ y ∷ vs
    → length xs ≡ length ys → x ≡ y
same_element [] [] x y us vs is long = cc
same_element [] (b ∷ ys) x y us vs is long = absurd (omega arith)
same_element (a ∷ xs) [] x y us vs is long = absurd (omega arith)
same_element (a ∷ xs) (b ∷ ys) x y us vs is long = same_element xs ys x y us vs (cc) (omega arith)

pub one_line : (file : List ℕ) (number : ℕ) (line other : List ℕ) → IsLineAt file number line
    → IsLineAt file number other → line ≡ other
one_line file number line other is is' =
    same_element is.before is'.before line other is.after is'.after (sym is.split ∙ is'.split)
    (omega (arith, is.counted, is'.counted))

-- what follows of two facts on a fault
pub where_err : {U E : Type 0} (r : Result U E) (P Q R : E → Type 0) → ((e : E) → P e → Q e → R e) → IfErr r P
    → IfErr r Q → IfErr r R
where_err (Ok u) P Q R f p q = tt
where_err (Err e) P Q R f p q = f e p q

-- a write that failed within an answer
pub answer_begun : {U E : Type 0} (a b : Option (List ℕ)) (Says : List ℕ → Type 0) (said bytes : List ℕ)
    (r : Result U E) → Says said → bytes ≡ said ++ 10 ∷ [] → OnErr r (AppendsPart a b bytes)
    → OnErr r ((said part rest : List ℕ) × Says said × (part ++ rest ≡ said ++ 10 ∷ []) × Appends a b part)
answer_begun a b Says said bytes (Ok u) answer is part = tt
answer_begun a b Says said bytes (Err e) answer is (part, rest, split, appended) =
    (said, part, rest, answer, split ∙ is, appended)

module _ (detail : Detail) (table : Table) where
  -- the answer to a line
  pub case_answered : (line : List ℕ) (case : Case) (words text said : List ℕ) → case_text case words text ≡ line
      → IsCase case words text → IsAnswer detail table case words text said
      → IsAnswered detail table line (said ++ 10 ∷ [])
  case_answered line case words text said written lawful says = inr (
    said,
    record { case = case; words = words; text = text; lawful = lawful; written = written; answered = says },
    refl,
  )

  pub one_answered : (a b : Option (List ℕ)) (line out : List ℕ) → IsAnswered detail table line out → Appends a b out
      → Answered detail table a b (line ∷ [])
  one_answered a b line out is appended =
      record { out = out; answers = (out, [], is, refl, sym (append-nil out)); appended = appended }

  answered_both : (lines more : List (List ℕ)) (xs ys : List ℕ) → AreAnswered detail table lines xs
      → AreAnswered detail table more ys → AreAnswered detail table (lines ++ more) (xs ++ ys)
  answered_both [] more xs ys first second = rw first second
  answered_both (line ∷ lines) more xs ys (out, outs, is, are, both) second =
      (out, outs ++ ys, is, answered_both lines more outs ys are second, rw both (append_assoc out outs ys))

  -- nothing is written, and nothing more
  none_answered : (known : Option (List ℕ)) → Answered detail table known known []
  none_answered known = record { out = []; answers = refl; appended = Appends-nil known }

  all_answered : (a b c : Option (List ℕ)) (lines more : List (List ℕ)) → Answered detail table a b lines
      → Answered detail table b c more → Answered detail table a c (lines ++ more)
  all_answered a b c lines more first second = record {
    out = first.out ++ second.out;
    answers = answered_both lines more first.out second.out first.answers second.answers;
    appended = Appends-trans a b c first.out second.out first.appended second.appended;
  }

-- lines up to a place of the file are answered, and the others are left
pub record SoFar (detail : Detail) (table : Table) (file left : List ℕ) (number : ℕ) (old new : Option (List ℕ))
    : Type 0 where
  pub at : Reached file left (number + 1)
  pub answered : Answered detail table old new at.before
  pub room : number + length left ≤ length file

pub at_first : (detail : Detail) (table : Table) (file : List ℕ) (known : Option (List ℕ))
    → SoFar detail table file file 0 known known
at_first detail table file known =
    record { at = first_reached file; answered = none_answered detail table known; room = omega arith }

module _ {detail : Detail} {table : Table} {file left : List ℕ} {number : ℕ} {a b : Option (List ℕ)}
    (so_far : SoFar detail table file left number a b) where
  -- the next line is not answered
  pub stops_at : (line : List ℕ) (after : List (List ℕ)) (c : Option (List ℕ))
      → lines_of file ≡ so_far.at.before ++ line ∷ after → (fault : CaseFault)
      → (part : List ℕ) × IsBegun detail table fault line part × Appends b c part
      → ((m : ℕ) → fault ≡ NotACase m → (m ≡ number + 1) × IsNoCase line)
      → StopsAt detail table a c (lines_of file) fault
  stops_at line after c split fault begun no_case = record {
    before = so_far.at.before;
    line = line;
    after = after;
    split = split;
    reached = b;
    answered = so_far.answered;
    part = begun.0;
    begun = begun.1;
    appended = begun.2;
    no_case = λ m is. let found = no_case m is in (found.0 ∙ so_far.at.counted, found.1);
  }

  -- what is left begins with a line
  pub one_line_more : (line others : List ℕ) → line ++ 10 ∷ others ≡ left → Lacks line 10
      → (c : Option (List ℕ)) → Answered detail table b c (line ∷ []) → SoFar detail table file others (number + 1) a c
  one_line_more line others cut none c answered = record {
    at = next_reached so_far.at line others cut none;
    answered = all_answered detail table a b c so_far.at.before (line ∷ []) so_far.answered answered;
    room = omega (arith, so_far.room, sym (ap length cut) ∙ length-append line (10 ∷ others));
  }

  -- what is left is the last line
  pub all_lines : Lacks left 10 → (c : Option (List ℕ)) → Answered detail table b c (left ∷ [])
      → Answered detail table a c (lines_of file)
  all_lines none c answered =
      rw (last_split so_far.at none)
      (all_answered detail table a b c so_far.at.before (left ∷ []) so_far.answered answered)

-- Where a flush fails after the answers, the last line is the one at which it stops.

-- bytes that are appended in two steps
in_two : (old new : Option (List ℕ)) (first others : List ℕ) → Appends old new (first ++ others)
    → (between : Option (List ℕ)) × Appends old between first × Appends between new others
in_two None new first others appended = (None, tt, tt)
in_two (Some known) None first others appended = absurd appended
in_two (Some known) (Some all) first others appended =
    (Some (known ++ first), refl, appended ∙ sym (append_assoc known first others))

module _ (detail : Detail) (table : Table) where
  stops_behind : (line : List ℕ) (lines : List (List ℕ)) (old new : Option (List ℕ)) (out : List ℕ)
      → AreAnswered detail table (line ∷ lines) out → Appends old new out
      → StopsAt detail table old new (line ∷ lines) OutputFailed
  stops_behind line [] old new out (first, others, is, none, both) appended = record {
    before = [];
    line = line;
    after = [];
    split = refl;
    reached = old;
    answered = none_answered detail table old;
    part = first;
    begun = inr ([], rw append-nil is);
    appended = rw (both ∙ ap (λ more. first ++ more) none ∙ append-nil first) at appended;
    no_case = λ n is. absurd (cc);
  }
  stops_behind line (next ∷ lines) old new out (first, others, is, more, both) appended =
      let steps = in_two old new first others (rw both at appended) in
      let behind = stops_behind next lines steps.0 new others more steps.2 in
      let one = one_answered detail table old steps.0 line first is steps.1 in record {
        before = line ∷ behind.before;
        line = behind.line;
        after = behind.after;
        split = ap (λ ls. line ∷ ls) behind.split;
        reached = behind.reached;
        answered = all_answered detail table old steps.0 behind.reached (line ∷ []) behind.before one behind.answered;
        part = behind.part;
        begun = behind.begun;
        appended = behind.appended;
        no_case = λ n is. absurd (cc);
      }

  begun_too : (fault : CaseFault) (line part : List ℕ) → IsBegun detail table fault line part
      → IsBegun detail table OutputFailed line part
  begun_too Usage line part begun = inl begun
  begun_too CannotRead line part begun = inl begun
  begun_too NotATable line part begun = inl begun
  begun_too (NotACase n) line part begun = inl begun
  begun_too NoMemory line part begun = inl begun
  begun_too OutputFailed line part begun = begun

  pub failed_flush : (old reached new : Option (List ℕ)) (lines : List (List ℕ)) (ran : Result (Unit {0}) CaseFault)
      → 0 < length lines → OnOk ran (Answered detail table old reached lines)
      → IfErr ran (StopsAt detail table old reached lines) → Keeps reached new
      → StopsAt detail table old new lines OutputFailed
  failed_flush old reached new [] (Ok done) some answered stops keeps = absurd (omega arith)
  failed_flush old reached new (line ∷ lines) (Ok done) some answered stops keeps =
      stops_behind line lines old new answered.out answered.answers (Appends-kept _ _ _ _ answered.appended keeps)
  failed_flush old reached new lines (Err fault) some answered stops keeps = record {
    before = stops.before;
    line = stops.line;
    after = stops.after;
    split = stops.split;
    reached = stops.reached;
    answered = stops.answered;
    part = stops.part;
    begun = begun_too fault stops.line stops.part stops.begun;
    appended = Appends-kept _ _ _ _ stops.appended keeps;
    no_case = λ n is. absurd (cc);
  }
