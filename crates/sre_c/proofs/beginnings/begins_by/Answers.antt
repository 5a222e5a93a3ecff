use Rattle.sre_c.proofs.Terms.{rules, arith, ◌≡◌, ◌<◌, ◌||◌, ◌∙◌, ℕ, nat_le, false, List, Bool, length, slice_index_or}
use Rattle.sre_c.proofs.Terms.{Some, contains, KnowsTest, nat_tests, AsciiSet, KnowsFlags}
use Rattle.sre_c.proofs.beginnings.begins_by.Goals as goal

-- flags of the ASCII characters that a first test takes
knows_flags : (ws : List ℕ) (set : AsciiSet) (flags : List Bool) → KnowsTest ws (Some set)
    → ((c : ℕ) → c < length flags → slice_index_or flags c false ≡ (nat_le 128 c || contains set c))
    → KnowsFlags ws flags
knows_flags ws set flags knows written = record {
  known = λ t w test e has table c low there.
      let near : nat_le 128 c ≡ false = grind (arith, nat_tests) in
      let is : slice_index_or flags c false ≡ contains set c = rw near at (written c there) in
      is ∙ (knows.known t w test e has).agrees table c low;
}

pub returns-in-Some : goal.returns-in-Some
returns-in-Some c =
    let known : KnowsTest c.args.code.now.words.now (Some c.in-Some.characters) = search rules in
    let flags = knows_flags _ _ _ known c.write_flags.ensures in
    record { begins = (c.in-Ok.ensures.tree, search rules, search rules, flags) }
