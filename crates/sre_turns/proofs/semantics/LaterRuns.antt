-- The ends that are left of a lazy repeat without a greatest count are those of the same repeat from later on. So what
-- was saved of it before failures were memoized goes on as that repeat, which is looked up and tried like any other
-- instruction.
use Rattle.sre_turns.proofs.Terms.{◌≡◌, ℕ, ◌+◌, ◌<◌, ◌≤◌, inl, inr, true, List, [], refl, arith, Tree, Item, LazyRun}
use Rattle.sre_turns.proofs.Terms.{Way, unlimited, first, Word, Opcode, Reads, Operands, HasTest, passes-below, Limit}
use Rattle.sre_turns.proofs.Terms.{HereIn, FaresBoth, Frame, Instruction, spot_at, StringCursor, GoesBoth, IsConfined}
use Rattle.sre_turns.proofs.Terms.{IsAt, LiesIn, repeats, price_of, AllPass, Point, Longer, Spot, Choice, Counted}
use Rattle.sre_turns.proofs.Terms.{Marks, passes, Run}
use Rattle.sre_chars.specs.declared.constants.SreOpcode.TheVariants as opcode
use Rattle.sre_model.specs.Runs as runs
use Rattle.sre_turns.proofs.bound.Prices.{later_run_covered}
use Rattle.sre_turns.proofs.bound.Faring.{fares_less}
use Rattle.sre_turns.proofs.bound.HereMoves.{here_reached}
use Rattle.sre_turns.proofs.semantics.LazyRunEnds.{longer_run}
use Rattle.sre_turns.proofs.semantics.Onward.{all_later}
use Rattle.sre_turns.proofs.semantics.Parts.{Own, Law, lies_law, longer}
use Rattle.sre_turns.proofs.semantics.Moving.{both_standing}

-- where the longer counts of a repeat lie in the words of a tree, its instruction does
module _ (ws : List ℕ) where
  abbrev Anew : (i j : ℕ) (t : Tree) → Reads ws i j t → List ℕ → Point → List ℕ → Type 0
  Anew i j t r js pt ks = (at n : ℕ) → pt ≡ Longer at n → LiesIn ws i j t r js (Instruction at) ks

  own_anew : {i j : ℕ} {js : List ℕ} {x : Item} {r : Operands ws i j x} {pt : Point} {ks : List ℕ} (at n : ℕ)
      → Own ws i j js x r pt ks → pt ≡ Longer at n → IsAt (Instruction i) js (Instruction at) ks
  own_anew at n (longer m) e = (cc, refl)
  own_anew at n o e = absurd (cc e)

  later_lies : Law ws Anew
  later_lies = record {
    end = λ i j r js at n e. absurd (cc e);
    first = λ i j x rest r js at n e. absurd (cc e);
    own = λ i j x rest r js pt ks o at n e. inl (own_anew at n o e);
    rest = λ i j x rest r js pt ks y h at n e. inr (inr (h at n e));
    part = λ i j x rest r js a b t s ls p pt ks y h at n e. inr (inl (p.2 (Instruction at) ks (h at n e)));
  }

  lies : (i j : ℕ) (t : Tree) (r : Reads ws i j t) (js : List ℕ) (at n : ℕ) (ks : List ℕ)
      → LiesIn ws i j t r js (Longer at n) ks → LiesIn ws i j t r js (Instruction at) ks
  lies i j t r js at n ks y = lies_law ws Anew later_lies i j t r js (Longer at n) ks y at n refl

-- a lazy repeat without a greatest count, of which the longer counts behind n characters wait at a position, where one
-- more character passes; and the same repeat from a later position, where its first end is theirs
module _ (r : runs.Run) (i low v : ℕ) (fs : List Frame) (m : Marks) (w : Opcode r.words i opcode.MIN_REPEAT_ONE)
    (there : HasTest r.words (i + 4)) (wv : Word r.words (i + 1) v) (wl : Word r.words (i + 2) low)
    (wh : Word r.words (i + 3) unlimited) (n p q : ℕ) (e : q + low ≡ p + 1) (later : p ≤ q)
    (all_pass : AllPass r.subject there.test q (p + 1)) (taken : passes r.subject there.test p ≡ true) where
  abbrev counts : Spot
  counts = spot_at (Longer i n) fs p m

  abbrev anew : Spot
  anew = spot_at (Instruction i) fs q m

  near : p < r.subject.end
  near = passes-below r.subject there.test p taken

  here : (pl : Counted r) (start : ℕ) (cs : List Choice) → HereIn r pl start cs counts → HereIn r pl start cs anew
  here pl start cs h =
      here_reached r pl start cs counts anew (λ a b t reads y. lies r.words a b t reads [] i n (repeats fs) y)
      (record {
        onward = later;
        inside = λ _. omega (arith, near, e);
        begun = λ past. all_later p q fs later past;
      })
      h

  later_confined : (ks : List ℕ) → IsConfined r.words (Longer i n) ks → IsConfined r.words (Instruction i) ks
  later_confined ks l = let b = l.0 in (b, lies r.words b.start b.end b.tree b.reads [] i n ks l.1)

  -- what waits has enough left for it
  enough : price_of r.words r.subject.end anew ≤ price_of r.words r.subject.end counts
  enough = later_run_covered r.words r.subject.end i n p opcode.MIN_REPEAT_ONE LazyRun w refl

  -- the second of two configurations may be that repeat instead of what waited
  pub later_goes : (all : List Way) (limit : Limit) (first : Spot) (c : StringCursor) (cs : List Choice)
      → GoesBoth r all limit first counts c cs → GoesBoth r all limit first anew c cs
  later_goes all limit first c cs g =
      both_standing g.waits refl g.runs
      (longer_run r i low v fs m w there wv wl wh n p q g.next g.further e all_pass taken g.others) (omega arith)
      g.within g.stands g.placed g.others_placed
      (λ pl.
      let f : FaresBoth r pl limit first counts cs = g.fares pl in
      record {
        first = f.first;
        second = here pl limit.start cs f.second;
        fares = fares_less r pl limit cs _ _ (omega (arith, enough)) f.fares;
      })
      (λ none.
      let f = g.confined none in
      record { first = f.first; second = λ inside. later_confined (repeats fs) (f.second inside); others = f.others })
