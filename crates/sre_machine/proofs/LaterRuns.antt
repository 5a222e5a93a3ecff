-- The ends that are left of a lazy repeat once failures are memoized: the next of them, and the same repeat later on.
use Rattle.sre_machine.proofs.Terms.{◌≡◌, ℕ, ◌+◌, ◌≤◌, true, List, ◌∷◌, refl, sym, subst, arith, Ghosts, StringCursor}
use Rattle.sre_machine.proofs.Terms.{Word, word, HasTest, passes, Way, unlimited, word_there, BoardValue, Else, Limit}
use Rattle.sre_machine.proofs.Terms.{Goes, Later, SkipsBoth, spot, Instruction, Longer, both_first, run_nothing}
use Rattle.sre_machine.proofs.Terms.{both_wait_there, longer_past, operands_within, Request, run_of, OpcodeAt}
use Rattle.sre_machine.proofs.Terms.{AreOperands, NotTakenAt, RunOperands, later_goes, longer_stops, BeginsLater}
use Rattle.sre_chars.specs.declared.constants.SreOpcode.TheVariants as opcode
use Rattle.sre_turns.specs.declared.Next.TheVariants as next

module _ {S : Type 0} {text : Ghosts S} (r : Request S text) (place count : ℕ) (o : RunOperands)
    (read : AreOperands r place o) (w : OpcodeAt r place opcode.MIN_REPEAT_ONE)
    (wh : Word (run_of r).words (place + 3) unlimited) (start end : StringCursor)
    (skips : SkipsBoth (run_of r) (Longer place count) start (Instruction o.tail) (Longer place (count + 1)) end)
  where
    abbrev there : HasTest (run_of r).words (place + 4)
    there = read.operands.test

    wv : Word (run_of r).words (place + 1) (word (run_of r).words (place + 1))
    wv = word_there (run_of r).words (place + 1) (omega (arith, operands_within (run_of r).words place there))

    -- none is left
    pub last_end : (b : BoardValue) → NotTakenAt r (place + 4) end.position → (all : List Way) (limit : Limit)
        → Goes (run_of r) all limit (Longer place count) start b
        → Later (run_of r) all limit (next.At o.tail end) b
    last_end b stopped all limit g =
        both_first (run_of r) (spot (Longer place (count + 1)) end b) o.tail end b b.choices
        (λ os n x. run_nothing (longer_stops (run_of r) place o.least (word (run_of r).words (place + 1)) b.frames
        b.marks w there wv read.operands.lowest wh (count + 1) end.position
        (longer_past (run_of r) place (count + 1) end skips.others) (stopped there.end there.test there.stands)) x) refl
        all limit (skips.skips b all limit g)

    -- the others wait
    pub others_wait : (b b' : BoardValue) (later : StringCursor) → o.least ≤ 1
        → BeginsLater r place o.least end.position later
        → b' ≡ record b { choices = Else (Instruction place) b.frames later b.marks ∷ b.choices }
        → (all : List Way) (limit : Limit) → Goes (run_of r) all limit (Longer place count) start b
        → Later (run_of r) all limit (next.At o.tail end) b'
    others_wait b b' later few e saved all limit g =
        let taken = e.taken there.end there.test there.stands in
        subst (λ d. Later (run_of r) all limit (next.At o.tail end) d) (sym saved)
        (both_wait_there (run_of r) o.tail (spot (Instruction place) later b) end later b
        (record b { choices = Else (Instruction place) b.frames later b.marks ∷ b.choices }) b.choices refl e.stands
        refl all limit
        (later_goes (run_of r) place o.least (word (run_of r).words (place + 1)) b.frames b.marks w there wv
        read.operands.lowest wh (count + 1) end.position later.position e.position (omega (arith, e.position, few))
        (λ c from to. subst (λ z. passes (run_of r).subject there.test z ≡ true)
        (omega (arith, from, to, e.position, few)) taken) taken all limit (spot (Instruction o.tail) end b) end
        b.choices (skips.skips b all limit g)))
