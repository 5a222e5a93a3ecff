-- What is memoized of the configurations that failed.
use Rattle.sre_board.proofs.Terms.{◌≡◌, ℕ, ◌+◌, inl, inr, Bool, List, [], ◌∷◌, sym, ap, ◌∙◌, subst, Word, Marks, Run}
use Rattle.sre_board.proofs.Terms.{FramesAlike, LoopsAlike, Alike, least_from, Spot, Frame, Point, Kept, HoldsNoMore}
use Rattle.sre_board.proofs.Terms.{HoldsOneMore, HoldsNone, Remembers}
use Rattle.sre_turns.specs.Hopeless.{Hopeless}

frames_onward : (ws : List ℕ) (p : ℕ) (f g h : Frame) → FramesAlike ws p f g → FramesAlike ws p g h
    → FramesAlike ws p f h
frames_onward ws p f g h a b = record {
  repeat = a.repeat ∙ b.repeat;
  count = λ low high el eh.
      a.count low high el eh
      ∙ b.count low high (subst (λ q. Word ws (q + 2) low) a.repeat el) (subst (λ q. Word ws (q + 3) high) a.repeat eh);
  last = λ q le. a.last q le ∙ b.last q le;
}

loops_onward : (ws : List ℕ) (p : ℕ) (fs gs hs : List Frame) → LoopsAlike ws p fs gs → LoopsAlike ws p gs hs
    → LoopsAlike ws p fs hs
loops_onward ws p [] [] hs a b = b
loops_onward ws p (f ∷ fs) (g ∷ gs) (h ∷ hs) a b =
    (frames_onward ws p f g h a.0 b.0, loops_onward ws p fs gs hs a.1 b.1)
loops_onward ws p (f ∷ fs) (g ∷ gs) [] a b = absurd b
loops_onward ws p fs gs hs a b = absurd a

-- alike to one that is alike
pub alike_onward : (ws : List ℕ) (x y z : Spot) → Alike ws x y → Alike ws y z → Alike ws x z
alike_onward ws x y z a b =
    let from : least_from y.point y.position ≡ least_from x.point x.position =
    ap (λ (pt : Point). least_from pt y.position) (sym a.point)
    ∙ ap (λ p. least_from x.point p) (sym a.position) in
    record {
      point = a.point ∙ b.point;
      position = a.position ∙ b.position;
      loops =
          loops_onward ws (least_from x.point x.position) x.frames y.frames z.frames a.loops
          (subst (λ p. LoopsAlike ws p y.frames z.frames) from b.loops);
    }

-- nothing comes of what is alike to a hopeless spot
pub hopeless_alike : (r : Run) (inside : Bool) (m : Marks) (x y : Spot) → Alike r.words x y → Hopeless r inside m x
    → Hopeless r inside m y
hopeless_alike r inside m x y a h = record {
  none = λ z os n b marks d. h.none z os n (alike_onward r.words x y z a b) marks d;
}

-- where no spot is kept, none is kept that is not hopeless
pub remembers_none : (r : Run) (m : Marks) (k : Kept) → HoldsNone k → Remembers r m k
remembers_none r m k none = λ inside x held. absurd (none r.words inside x held)

-- where no more are kept, all are still hopeless
pub remembers_still : (r : Run) (m : Marks) (old new : Kept) → HoldsNoMore old new → Remembers r m old
    → Remembers r m new
remembers_still r m old new fewer was = λ inside x held. was inside x (fewer r.words inside x held)

-- a hopeless spot may be kept
pub remembers_more : (r : Run) (inside : Bool) (m : Marks) (x : Spot) (old new : Kept)
    → HoldsOneMore r.words inside x old new → Hopeless r inside m x → Remembers r m old → Remembers r m new
remembers_more r inside m x old new more hopeless was = λ other y held.
    elim (more other y held) [
      | inl before ↦ was other y before
      | inr one ↦
          subst (λ (b : Bool). Hopeless r b m y) (sym one.0) (hopeless_alike r inside m x y one.1 hopeless)
    ]
