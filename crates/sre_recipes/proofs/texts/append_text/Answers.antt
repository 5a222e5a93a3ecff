use Rattle.sre_recipes.proofs.Terms.{chars-append, IsUtf8-append}
use Rattle.sre_recipes.proofs.texts.append_text.Goals as goal

pub returns-clause-ok : goal.returns-clause-ok
returns-clause-ok g c =
    rw (c.in_ok-append_bytes.ensures.ok, c.as_bytes.ensures.value) (chars-append _ _ c.requires)

pub returns-clause-utf8 : goal.returns-clause-utf8
returns-clause-utf8 g c =
    rw (c.in_ok-append_bytes.ensures.ok, c.as_bytes.ensures.value) (IsUtf8-append _ _ c.requires c.utf8.text)
