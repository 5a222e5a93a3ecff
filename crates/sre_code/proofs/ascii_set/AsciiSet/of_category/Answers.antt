use Rattle.sre_code.proofs.Terms.{refl, ◌∙◌, inl, inr, category}
use Rattle.sre_code.proofs.Halves.{by_each, by_none}
use Rattle.sre_code.specs.AsciiSet.{contains}
use Rattle.sre_code.proofs.ascii_set.AsciiSet.of_category.Goals as goal

pub returns-in-DIGIT : goal.returns-in-DIGIT
unfolding contains
returns-in-DIGIT c t = elim c.in-DIGIT.is [
  | inl e ↦ rw e (by_each _ (category t 0) refl)
  | inr e ↦ rw e (by_each _ (category t 10) refl)
]

pub returns-in-NOT_DIGIT : goal.returns-in-NOT_DIGIT
unfolding contains
returns-in-NOT_DIGIT c t ch = c.complement.ensures ch ∙ elim c.in-NOT_DIGIT.is [
  | inl e ↦ rw e (by_none _ (category t 0) refl ch)
  | inr e ↦ rw e (by_none _ (category t 10) refl ch)
]

pub returns-in-SPACE : goal.returns-in-SPACE
unfolding contains
returns-in-SPACE c t = rw c.in-SPACE.is (by_each _ (category t 2) refl)

pub returns-in-NOT_SPACE : goal.returns-in-NOT_SPACE
unfolding contains
returns-in-NOT_SPACE c t ch =
    c.complement-in-NOT_SPACE.ensures ch
    ∙ rw c.in-NOT_SPACE.is (by_none _ (category t 2) refl ch)

pub returns-in-WORD : goal.returns-in-WORD
unfolding contains
returns-in-WORD c t = elim c.in-WORD.is [
  | inl e ↦ rw e (by_each _ (category t 4) refl)
  | inr f ↦ elim f [
    | inl e ↦ rw e (by_each _ (category t 8) refl)
    | inr e ↦ rw e (by_each _ (category t 14) refl)
  ]
]

pub returns-in-NOT_WORD : goal.returns-in-NOT_WORD
unfolding contains
returns-in-NOT_WORD c t ch = c.complement-in-NOT_WORD.ensures ch ∙ elim c.in-NOT_WORD.is [
  | inl e ↦ rw e (by_none _ (category t 4) refl ch)
  | inr f ↦ elim f [
    | inl e ↦ rw e (by_none _ (category t 8) refl ch)
    | inr e ↦ rw e (by_none _ (category t 14) refl ch)
  ]
]

pub returns-in-LINEBREAK : goal.returns-in-LINEBREAK
unfolding contains
returns-in-LINEBREAK c t = rw c.in-LINEBREAK.is (by_each _ (category t 6) refl)

pub returns-in-NOT_LINEBREAK : goal.returns-in-NOT_LINEBREAK
unfolding contains
returns-in-NOT_LINEBREAK c t ch =
    c.complement-in-NOT_LINEBREAK.ensures ch
    ∙ rw c.in-NOT_LINEBREAK.is (by_none _ (category t 6) refl ch)

pub returns-in-UNI_SPACE : goal.returns-in-UNI_SPACE
unfolding contains
returns-in-UNI_SPACE c t = rw c.in-UNI_SPACE.is (by_each _ (category t 12) refl)

pub returns-in-UNI_NOT_SPACE : goal.returns-in-UNI_NOT_SPACE
unfolding contains
returns-in-UNI_NOT_SPACE c t ch =
    c.complement-in-UNI_NOT_SPACE.ensures ch
    ∙ rw c.in-UNI_NOT_SPACE.is (by_none _ (category t 12) refl ch)

pub returns-in-UNI_LINEBREAK : goal.returns-in-UNI_LINEBREAK
unfolding contains
returns-in-UNI_LINEBREAK c t = rw c.in-UNI_LINEBREAK.is (by_each _ (category t 16) refl)

pub returns-in-UNI_NOT_LINEBREAK : goal.returns-in-UNI_NOT_LINEBREAK
unfolding contains
returns-in-UNI_NOT_LINEBREAK c t ch =
    c.complement-in-UNI_NOT_LINEBREAK.ensures ch
    ∙ rw c.in-UNI_NOT_LINEBREAK.is (by_none _ (category t 16) refl ch)
