use Rattle.sre_recipes.proofs.Terms.{◌≡◌, ◌++◌, refl, slice_range, captured}
use Rattle.sre_recipes.specs.Captured.{captures_shown}
use Rattle.sre_recipes.proofs.Written.{two_more}
use Rattle.sre_recipes.proofs.compute.ReplacingCollectsGlobal.add.Goals as goal

pub returns-clause-gathers : goal.returns-clause-gathers
returns-clause-gathers g c = λ m shows stop ms last then.
    let output = g.S.Text.characters c.args.self.now.output.items in
    let texts = g.S.StrDrive.text in
    let piece = slice_range (texts c.args.text) c.args.self.now.last.position m.start in
    let new = g.S.Rewritten.shown c.in-Ok.new in
    let added : g.S.Text.characters c.append_new.new.output.items ≡ (output ++ piece) ++ new =
    cc (c.in_ok-append_new.ensures.ok, c.in_ok-append_to.ensures.ok, c.between.ensures, shows.starts) in
    let shown : captures_shown texts c.in_ok-captures.captures ≡ captured (texts c.args.text) m =
    rw (shows.shown refl) c.in_ok-captures.ensures.ok in (
      piece ++ (new ++ then.0),
      two_more output _ piece new then.0 _ added then.1,
      (new, c.compute.new.self, then.0, (_, c.in-Ok.new, shown, c.in-Ok.ensures, refl), rw shows.ends then.2, refl),
    )
