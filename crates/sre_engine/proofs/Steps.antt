-- One scan for a prefix, with overlap words.
use Rattle.sre_engine.proofs.Terms.{ℕ, ◌+◌, ◌-◌, ◌*◌, ◌≡◌, ◌≢◌, ◌<◌, ◌≤◌, ◌⊎◌, List, length, slice_index, ⊎_elim, Bool}
use Rattle.sre_engine.proofs.Terms.{true, false, sym, ◌∙◌, ap, subst, arith, cases_lt, Sought, StringCursor, Run}
use Rattle.sre_engine.proofs.Terms.{Overlapping, Fits, Stands, NoPlace, Front, Here, FirstSame, Right, Border, Longest}
use Rattle.sre_engine.proofs.Terms.{refl, GoesTo, MovesOn}

-- a scan inside one character: i matched words end at q, and none of the places passed since b counts
pub record Inside (t p : List ℕ) (a e q b i c : ℕ) : Type 0 where
  pub front : Front t p a e q i
  pub cost : c + i + 2 * a ≤ 2 * q + 1
  pub short : i < length p
  pub passed : NoPlace t p e b (q - i)

below_or : (i k : ℕ) → i < k + 1 → (i < k) ⊎ (i ≡ k)
below_or i k lt = grind arith

-- the overlap words as lemmas take them
overlap : (p o : List ℕ) (i : ℕ) → Overlapping p o → 0 < i → i ≤ length p → Longest p i (slice_index o (i - 1))
overlap p o i ok some short = subst (λ (n : ℕ). Longest p n (slice_index o (i - 1))) (omega arith)
    (ok.each (i - 1) (omega arith))

falls : (p o : List ℕ) (i : ℕ) → Overlapping p o → 0 < i → i ≤ length p → slice_index o (i - 1) < i
falls p o i ok some short = (overlap p o i ok some short).border.below

module _ (t p : List ℕ) (e : ℕ) where
  pub no_place : (a : ℕ) → NoPlace t p e a a
  no_place a = record { forward = omega arith; none = λ s x y z. absurd (omega arith) }

  pub join_places : (a b c : ℕ) → NoPlace t p e a b → NoPlace t p e b c → NoPlace t p e a c
  join_places a b c x y = record {
    forward = omega (arith, x.forward, y.forward);
    none = λ s from to stands. ⊎_elim
        (λ (lt : s < b). x.none s from lt stands)
        (λ (le : b ≤ s). y.none s le to stands)
        (cases_lt s b);
  }

  -- one matched word more
  longer : (b i : ℕ) → Fits t p b i → slice_index t (b + i) ≡ slice_index p i → Fits t p b (i + 1)
  longer b i fits same = record {
    same = λ j lt. ⊎_elim
        (λ (less : j < i). fits.same j less)
        (λ (e : j ≡ i). ap (λ x. slice_index t (b + x)) e ∙ same ∙ ap (slice_index p) (sym e))
        (below_or j i lt);
  }

  -- what remains matched when the candidate moves to the overlap
  slide : (b i k : ℕ) → Fits t p b i → Border p i k → Fits t p (b + i - k) k
  slide b i k fits border = record {
    same = λ j lt.
        let at : b + i - k + j ≡ b + (i - k + j) = omega (arith, border.below) in
        ap (slice_index t) at ∙ fits.same (i - k + j) (omega (arith, border.below)) ∙ sym (border.same j lt);
  }

  -- a place between two candidates makes a longer border
  between : (b i s : ℕ) → Fits t p b i → i ≤ length p → b < s → s ≤ b + i → Stands t p e s → Border p i (b + i - s)
  between b i s fits short from to stands = record {
    below = omega arith;
    same = λ j lt.
        let at : s + j ≡ b + (i - (b + i - s) + j) = omega arith in
        sym (stands.fits.same j (omega arith)) ∙ ap (slice_index t) at ∙ fits.same (i - (b + i - s) + j) (omega arith);
  }

  -- so none is there
  skips : (b i k : ℕ) → Fits t p b i → i ≤ length p → Longest p i k → NoPlace t p e (b + 1) (b + i - k)
  skips b i k fits short longest = record {
    forward = omega (arith, longest.border.below);
    none = λ s from to stands.
        let border = between b i s fits short (omega (arith, from)) (omega (arith, to)) stands in
        absurd (omega (arith, longest.most (b + i - s) border));
  }

module _ (t p : List ℕ) (a e : ℕ) where
  -- no words end somewhere in the window
  none_matched : (q : ℕ) → a ≤ q → q ≤ e → Front t p a e q 0
  none_matched q from inside = record {
    from = omega (arith, from);
    within = inside;
    short = omega arith;
    fits = record { same = λ i less. absurd (omega arith) };
  }

  pub enter : (q i c : ℕ) → Here t p a e q i c → i < length p → Inside t p a e q (q - i) i c
  enter q i c here short = record {
    front = here.front;
    cost = omega (arith, here.cost);
    short = short;
    passed = no_place t p e (q - i);
  }

  -- the shorter front that an overlap leaves
  slid : (o : List ℕ) (q i : ℕ) → Front t p a e q i → Overlapping p o → 0 < i
      → Front t p a e q (slice_index o (i - 1))
  slid o q i front ok some =
      let k : ℕ = slice_index o (i - 1) in
      let longest : Longest p i k = overlap p o i ok some front.short in
      let less : k < i = longest.border.below in
      let goes : q - i + i - k ≡ q - k = omega (arith, front.from) in
      record {
        from = omega (arith, front.from);
        within = front.within;
        short = omega (arith, front.short);
        fits = subst (λ (s : ℕ). Fits t p s k) goes (slide t p e (q - i) i k front.fits longest.border);
      }

  -- and the places that it passes over
  slid_past : (o : List ℕ) (q i : ℕ) → Front t p a e q i → Overlapping p o → 0 < i
      → NoPlace t p e (q - i + 1) (q - slice_index o (i - 1))
  slid_past o q i front ok some =
      let k : ℕ = slice_index o (i - 1) in
      let goes : q - i + i - k ≡ q - k = omega (arith, front.from) in
      subst (NoPlace t p e (q - i + 1)) goes
      (skips t p e (q - i) i k front.fits front.short (overlap p o i ok some front.short))

  module _ (q b i c : ℕ) (x : Inside t p a e q b i c) where
    ends : q - i + i ≡ q
    ends = omega (arith, x.front.from)

    -- the character is the next word
    pub more : q < e → slice_index t q ≡ slice_index p i → Here t p a e (q + 1) (i + 1) (c + 1)
    more lt same =
        let back : q - i ≡ q + 1 - (i + 1) = omega arith in
        record {
          front = record {
            from = omega (arith, x.front.from);
            within = omega arith;
            short = omega (arith, x.short);
            fits = subst (λ (s : ℕ). Fits t p s (i + 1)) back
                (longer t p e (q - i) i x.front.fits (ap (slice_index t) ends ∙ same));
          };
          cost = omega (arith, x.cost);
        }

    -- it is not: the candidate does not count either
    passed_by : slice_index t q ≢ slice_index p i → NoPlace t p e b (q - i + 1)
    passed_by ne = join_places t p e b (q - i) (q - i + 1) x.passed (record {
      forward = omega arith;
      none = λ s from to stands.
          let same : s ≡ q - i = omega (arith, from, to) in
          ne (ap (slice_index t) (sym ends) ∙ (subst (Stands t p e) same stands).fits.same i x.short);
    })

    -- and a shorter front is tried
    pub fall : (o : List ℕ) (d : ℕ) → Overlapping p o → 0 < i → slice_index t q ≢ slice_index p i → d ≡ c + 1
        → Inside t p a e q b (slice_index o (i - 1)) d
    fall o d ok some ne more =
        let less = falls p o i ok some x.front.short in
        record {
          front = slid o q i x.front ok some;
          cost = omega (arith, x.cost);
          short = omega (arith, x.short);
          passed = join_places t p e b _ _ (passed_by ne) (slid_past o q i x.front ok some);
        }

    -- or no front ends behind the character
    pub fresh : (d : ℕ) → q < e → i ≡ 0 → slice_index t q ≢ slice_index p i → d ≡ c + 1
        → Here t p a e (q + 1) 0 d × NoPlace t p e b (q + 1)
    fresh d lt z ne more =
        let up : q - i + 1 ≡ q + 1 = omega (arith, z) in (
          record {
            front = none_matched (q + 1) (omega (arith, x.front.from)) (omega arith);
            cost = omega (arith, x.cost);
          },
          subst (NoPlace t p e b) up (passed_by ne),
        )

  module _ (q i c : ℕ) (here : Here t p a e q i c) where
    -- at the window's end no further place is left
    pub over : (b f : ℕ) → NoPlace t p e b (q - i) → i < length p → q ≡ e → f ≡ e + 1 → NoPlace t p e b f
    over b f none short end next = record {
      forward = omega (arith, none.forward, here.front.within);
      none = λ s from to stands. ⊎_elim
          (λ (lt : s < q - i). none.none s from lt stands)
          (λ (le : q - i ≤ s). absurd (omega (arith, stands.within, here.front.from)))
          (cases_lt s (q - i));
    }

    -- with all words matched the prefix stands
    pub complete : i ≡ length p → Stands t p e (q - i)
    complete all = record {
      within = omega (arith, here.front.from, here.front.within);
      fits = subst (Fits t p (q - i)) all here.front.fits;
    }

    -- behind a place
    pub onward : (o : List ℕ) → Overlapping p o → i ≡ length p → Here t p a e q (slice_index o (i - 1)) c
    onward o ok all =
        let some : 0 < i = omega (arith, ok.some) in
        let less = falls p o i ok some here.front.short in
        record { front = slid o q i here.front ok some; cost = omega (arith, here.cost, less) }

    pub onward_skips : (o : List ℕ) → Overlapping p o → i ≡ length p
        → NoPlace t p e (q - i + 1) (q - slice_index o (i - 1))
    onward_skips o ok all = slid_past o q i here.front ok (omega (arith, ok.some))

    -- a scan that moves on has compared no more than it may up to there
    pub here_on : (r j : ℕ) → MovesOn q i r j → r ≤ e → Here t p a e r j c
    here_on r j on inside = ⊎_elim
        (λ (none : j ≡ 0). subst (λ n. Here t p a e r n c) (sym none) (record {
          front = none_matched r (omega (arith, here.front.from, on.from)) inside;
          cost = omega (arith, here.cost, on.from);
        }))
        (λ (same : (j ≡ i) × (r ≡ q)).
        subst (λ x. Here t p a e r x c) (sym same.0) (subst (λ x. Here t p a e x i c) (sym same.1) here))
        on.fewer

pub onward_less : (p o : List ℕ) (i : ℕ) → Overlapping p o → i ≡ length p → slice_index o (i - 1) < i
onward_less p o i ok all = falls p o i ok (omega (arith, ok.some)) (omega arith)

-- overlap words as a scan takes them
pub overlapping : (p o : List ℕ) → 0 < length p → length o ≡ length p → Right p o → Overlapping p o
overlapping p o some long right = record {
  some = some;
  long = long;
  each = λ j less.
      let is = right.each j less in
      record {
        border = record { below = is.border.below; same = is.border.same };
        most = λ m border. is.most m (record { below = border.below; same = border.same });
      };
}

-- what passing a character takes, and what finding a place does
pub ruleset pass_laws = (enter, more, fall, fresh)

pub ruleset find_laws = (no_place, join_places, complete, over)

-- a text's own search for a character is the scan's for the first word
pub first_sought : (r : Run) (word : ℕ) (start cursor : StringCursor) (found : Bool) → start.position ≤ r.subject.end
    → r.stands cursor cursor.position
    → Sought r.subject.text word start.position r.subject.end found cursor.position
    → FirstSame r word start found cursor
first_sought r word start cursor true h at s = record {
  stands = at;
  from = omega (arith, s.0);
  inside = s.1;
  others = λ q from to. s.3 q from (omega (arith, to));
  is = λ _. (s.0, s.2);
  none = λ e. absurd (cc);
}
first_sought r word start cursor false h at s = record {
  stands = at;
  from = omega (arith, s.0, h);
  inside = omega (arith, s.0);
  others = λ q from to. s.1 q from (omega (arith, s.0, to));
  is = λ e. absurd (cc);
  none = λ _. (s.0, λ q from to. s.1 q from (omega (arith, s.0, to)));
}

-- Where no word of a prefix is matched, the scan continues after the next first word, or after the next position of
-- another one.

-- where a word stands nowhere from its own place on, the prefix stands nowhere
unplaced : (t p : List ℕ) (e k a b : ℕ) → k < length p → a ≤ b
    → ((q : ℕ) → a + k ≤ q → q < b + k → slice_index t q ≢ slice_index p k) → NoPlace t p e a b
unplaced t p e k a b short forward others = record {
  forward = forward;
  none = λ s from to stands. others (s + k) (omega arith) (omega arith) (stands.fits.same k short);
}

-- at less than its width from the window's end the prefix stands nowhere
no_room : (t p : List ℕ) (e k q : ℕ) → k < length p → e - q ≤ k → q ≤ e → NoPlace t p e q (e + 1)
no_room t p e k q short near inside = record {
  forward = omega arith;
  none = λ s from to stands. absurd (omega (arith, stands.within));
}

module _ (r : Run) (p : List ℕ) (a c k : ℕ) (start : StringCursor)
    (here : Here r.subject.text p a r.subject.end start.position 0 c) (short : k < length p) where
  pub sought_near : r.subject.end - start.position ≤ k
      → GoesTo r.subject.text p a r.subject.end start.position false start.position 0 c
  sought_near near = record {
    here = here;
    further = λ yes. absurd (cc);
    none = λ _. no_room r.subject.text p r.subject.end k start.position short near here.front.within;
  }

  module _ (d : ℕ) (ahead behind : StringCursor) (on : ahead.position ≡ start.position + k) where
    pub sought_nowhere : FirstSame r (slice_index p k) ahead false behind
        → d ≡ c + (behind.position - ahead.position)
        → GoesTo r.subject.text p a r.subject.end start.position false behind.position 0 d
    sought_nowhere first count =
        let t = r.subject.text in
        let e = r.subject.end in
        let no = first.none refl in
        let last : ℕ = e - k in
        let forward : start.position ≤ last = omega (arith, on, first.from, first.inside) in
        record {
          here = record {
            front = none_matched t p a e behind.position (omega (arith, here.front.from, on, first.from)) first.inside;
            cost = omega (arith, here.cost, count, on, first.from);
          };
          further = λ yes. absurd (cc);
          none = λ _. join_places t p e start.position last (e + 1)
              (unplaced t p e k start.position last short forward
              (λ q from to. no.1 q (omega (arith, on)) (omega (arith, no.0))))
              (no_room t p e k last short (omega arith) (omega arith));
        }

    -- at a place at which the word that is sought stands, behind which its character was read; none is before it
    pub sought_inside : (q : ℕ) → FirstSame r (slice_index p k) ahead true behind
        → d ≡ c + (behind.position - ahead.position) → q ≡ behind.position - (k + 1)
        → Inside r.subject.text p a r.subject.end q start.position 0 d × q < r.subject.end
    sought_inside q first count back =
        let is = (first.is refl).0 in (
          record {
            front = none_matched r.subject.text p a r.subject.end q (omega (arith, here.front.from, on, is, back))
                (omega (arith, first.inside, back));
            cost = omega (arith, here.cost, on, is, count, back);
            short = omega (arith, short);
            passed = unplaced _ _ _ k start.position (q - 0) short (omega (arith, on, is, back))
                (λ s from to. first.others s (omega (arith, on, from)) (omega (arith, to, back, is)));
          },
          omega (arith, first.inside, back, is),
        )

-- behind the place's first character
module _ (t p : List ℕ) (a e d f q : ℕ) (start cursor : StringCursor)
    (own : Inside t p a e q start.position 0 d × q < e) (next : cursor.position ≡ q + 1) where
  -- it is the first word, and was compared with it by now
  pub sought_there : slice_index t q ≡ slice_index p 0 → f ≤ d + 1
      → GoesTo t p a e start.position true cursor.position 1 f
  sought_there same few =
      let word = more t p a e q start.position 0 d own.0 own.1 same in
      let at : q - 0 ≡ cursor.position - 1 = omega (arith, next) in
      record {
        here = record {
          front = subst (λ n. Front t p a e n 1) (sym next) word.front;
          cost = omega (arith, word.cost, next, few);
        };
        further = λ _. (
          omega (arith, own.0.passed.forward, next),
          subst (NoPlace t p e start.position) at own.0.passed,
        );
        none = λ no. absurd (cc);
      }

  -- it is another one, and was compared with the first word
  pub sought_other : slice_index t q ≢ slice_index p 0 → f ≡ d + 1
      → GoesTo t p a e start.position true cursor.position 0 f
  sought_other other counted =
      let passed = fresh t p a e q start.position 0 d own.0 f own.1 refl other counted in
      let at : q + 1 ≡ cursor.position - 0 = omega (arith, next) in
      record {
        here = subst (λ n. Here t p a e n 0 f) (sym next) passed.0;
        further = λ _. (omega (arith, own.0.passed.forward, next), subst (NoPlace t p e start.position) at passed.1);
        none = λ no. absurd (cc);
      }

-- the first word is the one that is sought
module _ (r : Run) (p : List ℕ) (a c d : ℕ) (start cursor : StringCursor)
    (here : Here r.subject.text p a r.subject.end start.position 0 c) (some : 0 < length p)
    (count : d ≡ c + (cursor.position - start.position)) where
  pub first_there : FirstSame r (slice_index p 0) start true cursor
      → GoesTo r.subject.text p a r.subject.end start.position true cursor.position 1 d
  first_there first =
      let is = first.is refl in
      let q : ℕ = cursor.position - 1 in
      sought_there r.subject.text p a r.subject.end d d q start cursor
      (sought_inside r p a c 0 start here some d start cursor (omega arith) q first count (omega arith))
      (omega (arith, is.0)) is.1 (omega arith)

  pub first_nowhere : FirstSame r (slice_index p 0) start false cursor
      → GoesTo r.subject.text p a r.subject.end start.position false cursor.position 0 d
  first_nowhere first = sought_nowhere r p a c 0 start here some d start cursor (omega arith) first count

-- what seeking the first word does, and what seeking another
pub ruleset first_laws = (first_there, first_nowhere)

pub ruleset sought_laws = (sought_near, sought_nowhere)
