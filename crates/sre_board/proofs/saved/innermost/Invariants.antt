use Rattle.sre_board.proofs.Terms.{◌≡◌, reverse, length, down_to_region}
use Rattle.sre_board.proofs.saved.innermost.Given as goal

abbrev pub invariant-choice : goal.invariant-choice
invariant-choice g l = down_to_region (reverse l.choices.items) ≡ down_to_region (reverse l.initial.choices.items)

abbrev pub decreases-choice : goal.decreases-choice
decreases-choice g l = length l.choices.items
