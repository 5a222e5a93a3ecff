use Rattle.sre_code.proofs.Terms.{length, ◌-◌, ◌+◌, ◌*◌}
use Rattle.sre_code.proofs.PriceScans.{Onto, BranchOnto}
use Rattle.sre_code.proofs.code.prices.+prices.Given as goal

-- a scan stands above the item that it passes, that above what the item is, and that above the body's scan
abbrev pub decreases-body_price : goal.decreases-body_price
decreases-body_price l = l.depth * 4

abbrev pub decreases-looped : goal.decreases-looped
decreases-looped l = l.depth * 4 + 1

abbrev pub decreases-possessive : goal.decreases-possessive
decreases-possessive l = l.depth * 4 + 1

abbrev pub decreases-scope : goal.decreases-scope
decreases-scope l = l.depth * 4 + 1

abbrev pub decreases-branch : goal.decreases-branch
decreases-branch l = l.depth * 4 + 1

abbrev pub decreases-part : goal.decreases-part
decreases-part l = l.depth * 4 + 2

abbrev pub decreases-prices_of : goal.decreases-prices_of
decreases-prices_of l = l.depth * 4 + 3

abbrev pub decreases-prices_of-part : goal.decreases-prices_of-part
decreases-prices_of-part l = l.end - l.place

abbrev pub decreases-branch-alternative : goal.decreases-branch-alternative
decreases-branch-alternative l = length l.words - l.place

abbrev pub invariant-prices_of-part : goal.invariant-prices_of-part
invariant-prices_of-part l = Onto l.characters l.words l.start l.end l.place l.prices

abbrev pub invariant-branch-alternative : goal.invariant-branch-alternative
invariant-branch-alternative l = BranchOnto l.characters l.words l.first l.place l.price
