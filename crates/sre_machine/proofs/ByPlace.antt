-- Lists by address: what an entry says of sets, and which characters of two sets a third one takes away.
-- The list by which branches skip alternatives rests on this; nothing else here does.
use Rattle.std.proofs.Common.{◌≡◌, ◌⊎◌, inl, inr, Bool, true, false, not, ◌&&◌, ◌||◌, refl}
use Rattle.sre_machine.proofs.Terms.{◌≡◌, ℕ, ◌+◌, Bool, true, false, not, ◌&&◌, ◌||◌, nat_lt, List, [], ◌∷◌, Some, refl}
use Rattle.sre_machine.proofs.Terms.{sym, ap, ◌∙◌, arith, nat_tests, Opcode, contains, cond, Table, SetItem}
use Rattle.sre_machine.proofs.Terms.{Negate, item_holds, verdict}
use Rattle.sre_machine.proofs.Terms.{is_member, negated, nothing_left, AsciiSet, HoldsFor, AreTold}
use Rattle.sre_chars.specs.declared.constants.SreOpcode.TheVariants as opcode

pub left_over : (a b x : Bool) → x ≡ (a && not b) → x ≡ true → (a ≡ true) × (b ≡ false)
left_over true false x e y = (refl, refl)
left_over true true x e y = absurd (cc (e, y))
left_over false b x e y = absurd (cc (e, y))

-- of those that one set left over, or that two sets have in common
pub left_or_common : {P : Type 0} → P → (only none taken x rest own other : Bool) → x ≡ (rest || own)
    → rest ≡ (only && not taken) → own ≡ (none && not other) → other ≡ (none && not taken) → x ≡ true
    → ((only ≡ true) × (taken ≡ false)) ⊎ ((none ≡ true) × ((taken ≡ true) × P))
left_or_common p true none false x rest own other e f g h y = inl (refl, refl)
left_or_common p only true true x rest own other e f g h y = inr (refl, (refl, p))
left_or_common p only false taken x true own other e f g h y = inl (left_over only taken true f refl)
left_or_common p only false taken x false own other e f g h y = absurd (cc (e, g, y))
left_or_common p false true false x true own other e f g h y = absurd (cc f)
left_or_common p false true false x false own true e f g h y = absurd (cc (e, g, y))
left_or_common p false true false x false own false e f g h y = absurd (cc h)

-- a set at its end, behind NEGATE, and behind an item
pub none_told : (ws : List ℕ) (i : ℕ) (members : AsciiSet) → Opcode ws i opcode.FAILURE
    → ((c : ℕ) → contains members c ≡ false) → AreTold ws i (Some members)
none_told ws i members w empty = record {
  each = λ table j set s c l.
      let none = nothing_left ws i j set w s in
      empty c ∙ sym (ap (λ rest. is_member table rest c) none);
}

cond_not : (b x y z : Bool) → y ≡ not z → cond b (not x) y ≡ not (cond b x z)
cond_not true x y z e = refl
cond_not false x y z e = e

-- the opposite verdict where it begins with the opposite
turned : (table : Table) (taken : Bool) (set : List SetItem) (c : ℕ)
    → verdict table (not taken) set c ≡ not (verdict table taken set c)
turned table taken [] c = refl
turned table taken (Negate ∷ rest) c = turned table (not taken) rest c
turned table taken (x ∷ rest) c = cond_not (item_holds table x c) taken _ _ (turned table taken rest c)

pub negated_told : (ws : List ℕ) (i : ℕ) (others members : AsciiSet) → Opcode ws i opcode.NEGATE
    → AreTold ws (i + 1) (Some others)
    → ((c : ℕ) → contains members c ≡ (nat_lt c 128 && not (contains others c))) → AreTold ws i (Some members)
negated_told ws i others members w told is = record {
  each = λ table j set s c l.
      let behind = negated ws i j set w s in
      let rest : contains others c ≡ is_member table behind.0 c = told.each table j behind.0 behind.1 c l in
      let low : nat_lt c 128 ≡ true = grind (arith, nat_tests) in
      is c ∙ rw low (ap (λ b. not b) rest) ∙ sym (turned table true behind.0 c)
      ∙ sym (ap (λ x. is_member table x c) behind.2);
}

cond_or : (a b : Bool) → cond a true b ≡ (a || b)
cond_or true b = refl
cond_or false b = refl

pub item_told : (ws : List ℕ) (i next : ℕ) (item others members : AsciiSet) → HoldsFor ws i item next
    → AreTold ws next (Some others) → ((c : ℕ) → contains members c ≡ (contains item c || contains others c))
    → AreTold ws i (Some members)
item_told ws i next item others members holds told is = record {
  each = λ table j set s c l.
      let behind = (holds.each table c l).each j set s in
      let rest : contains others c ≡ is_member table behind.0 c = told.each table j behind.0 behind.1 c l in
      is c ∙ ap (λ b. contains item c || b) rest ∙ sym (cond_or (contains item c) (is_member table behind.0 c))
      ∙ sym (behind.2 true);
}

-- what `members` answers
pub ruleset members_laws = (none_told, negated_told, item_told)
