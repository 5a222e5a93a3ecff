-- Words as numbers between commas, read one after the other.
use Rattle.sre_lines.proofs.Terms.{◌≡◌, ◌≢◌, ℕ, ◌<◌, ◌^◌, List, [], ◌∷◌, ◌++◌, map, arith, refl, sym, ap, ◌∙◌, length}
use Rattle.sre_lines.proofs.Terms.{append_assoc, append-nil, codes, decimal, decimal_injective, All-nil, All-head}
use Rattle.sre_lines.proofs.Terms.{All-tail, All-push, words_text, AreWords, parts_at, map-append}
use Rattle.sre_lines.proofs.Terms.{join_with_byte-slice_split, join_with_byte, IsWord, IsWordsFault, IsNumberFault}
use Rattle.sre_lines.specs.declared.cause.NumberFault.{NumberFault}
use Rattle.sre_lines.proofs.Cuts.{Lacks, first_part_at, only_part_at, some_part}
use Rattle.sre_lines.proofs.Numbers.{number_lacks}

-- the first of some words
pub fits_head : (w : ℕ) (ws : List ℕ) → AreWords (w ∷ ws) → w < 2 ^ 64
fits_head w ws all = let fits = All-head (λ w. w < 2 ^ 32) w ws all in omega (arith, fits)

pub tail_fits : (w : ℕ) (ws : List ℕ) → AreWords (w ∷ ws) → AreWords ws
tail_fits w ws all = All-tail (λ w. w < 2 ^ 32) w ws all

no_comma : (w : ℕ) (ws : List ℕ) → AreWords (w ∷ ws) → Lacks (decimal w) 44
no_comma w ws all = number_lacks w 44 (fits_head w ws all) (omega arith)

-- what they are written as is cut into them
parts_of_words : (w : ℕ) (ws : List ℕ) → AreWords (w ∷ ws) → parts_at 44 (words_text (w ∷ ws)) ≡ map decimal (w ∷ ws)
parts_of_words w [] all = only_part_at 44 (decimal w) (no_comma w [] all)
parts_of_words w (v ∷ ws) all =
    first_part_at 44 (words_text (w ∷ v ∷ ws)) (decimal w) (words_text (v ∷ ws)) refl (no_comma w (v ∷ ws) all)
    ∙ ap (λ ps. decimal w ∷ ps) (parts_of_words v ws (tail_fits w (v ∷ ws) all))

parts_of_field : (ws field : List ℕ) → field ≢ codes "-" → AreWords ws → words_text ws ≡ field
    → map decimal ws ≡ parts_at 44 field
parts_of_field [] field not_none all is = absurd (not_none (sym is))
parts_of_field (w ∷ ws) field not_none all is = sym (parts_of_words w ws all) ∙ ap (parts_at 44) is

-- and what is cut so is what they are written as
parts_are : (ws field : List ℕ) → parts_at 44 field ≡ map decimal ws → words_text ws ≡ field
parts_are [] field is = absurd (omega (arith, some_part 44 field, ap length is))
parts_are (w ∷ ws) field is = ap (join_with_byte 44) (sym is) ∙ join_with_byte-slice_split 44 field

-- so they have one text each
no_dash : (w : ℕ) (ws : List ℕ) → AreWords (w ∷ ws) → words_text (w ∷ ws) ≢ codes "-"
no_dash w ws all is =
    let first : decimal w ≡ codes "-" = cc (parts_of_words w ws all, ap (parts_at 44) is) in
    number_lacks w 45 (fits_head w ws all) (omega arith) (0, omega (arith, ap length first), rw first refl)

decimals_once : (ws vs : List ℕ) → AreWords ws → AreWords vs → map decimal ws ≡ map decimal vs → ws ≡ vs
decimals_once [] [] all all' is = refl
decimals_once [] (v ∷ vs) all all' is = absurd (cc)
decimals_once (w ∷ ws) [] all all' is = absurd (cc)
decimals_once (w ∷ ws) (v ∷ vs) all all' is =
    let first = decimal_injective w v (fits_head w ws all) (fits_head v vs all') (cc) in
    let others = decimals_once ws vs (tail_fits w ws all) (tail_fits v vs all') (cc) in cc (first, others)

pub words_once : (ws vs : List ℕ) → AreWords ws → AreWords vs → words_text ws ≡ words_text vs → ws ≡ vs
words_once [] [] all all' is = refl
words_once [] (v ∷ vs) all all' is = absurd (no_dash v vs all' (sym is))
words_once (w ∷ ws) [] all all' is = absurd (no_dash w ws all is)
words_once (w ∷ ws) (v ∷ vs) all all' is =
    decimals_once (w ∷ ws) (v ∷ vs) all all'
    (sym (parts_of_words w ws all) ∙ ap (parts_at 44) is ∙ parts_of_words v vs all')

-- the words in front of what is left are read
pub record ReadSoFar (words left field : List ℕ) : Type 0 where
  pub not_none : field ≢ codes "-"
  pub fit : AreWords words
  pub split : parts_at 44 field ≡ map decimal words ++ parts_at 44 left

pub none_read : (field : List ℕ) → field ≢ codes "-" → ReadSoFar [] field field
none_read field not_none = record { not_none = not_none; fit = All-nil (λ w. w < 2 ^ 32); split = refl }

word_at : (ws words digits : List ℕ) (others : List (List ℕ)) → AreWords ws
    → map decimal ws ≡ map decimal words ++ digits ∷ others → IsWord digits
word_at [] [] digits others all is = absurd (cc)
word_at [] (v ∷ words) digits others all is = absurd (cc)
word_at (w ∷ ws) [] digits others all is = (w, All-head (λ w. w < 2 ^ 32) w ws all, cc)
word_at (w ∷ ws) (v ∷ words) digits others all is = word_at ws words digits others (tail_fits w ws all) (cc)

-- the part behind them
module _ (words left field digits : List ℕ) (others : List (List ℕ)) (so_far : ReadSoFar words left field)
    (next : parts_at 44 left ≡ digits ∷ others) where
  reached : parts_at 44 field ≡ map decimal words ++ digits ∷ others
  reached = so_far.split ∙ ap (λ ps. map decimal words ++ ps) next

  -- it is no word
  pub no_words : ((w : ℕ) → w < 2 ^ 32 → decimal w ≢ digits) → (ws : List ℕ) → AreWords ws → words_text ws ≢ field
  no_words none ws all is =
      let (w, fits, written) =
      word_at ws words digits others all (parts_of_field ws field so_far.not_none all is ∙ reached) in
      none w fits written

  pub fault_at : (fault : NumberFault) → IsNumberFault (2 ^ 32) digits fault → IsWordsFault field fault
  fault_at fault is = record {
    words = words;
    digits = digits;
    others = others;
    not_none = so_far.not_none;
    fit = so_far.fit;
    split = reached;
    is = is;
  }

  -- or one more
  more_split : (n : ℕ) → decimal n ≡ digits → parts_at 44 field ≡ map decimal (words ++ n ∷ []) ++ others
  more_split n written = rw (map-append decimal words (n ∷ []), append_assoc, written) reached

pub one_read : (words left field digits others : List ℕ) (n : ℕ) → ReadSoFar words left field
    → digits ++ 44 ∷ others ≡ left → Lacks digits 44 → n < 2 ^ 32 → decimal n ≡ digits
    → ReadSoFar (words ++ n ∷ []) others field
one_read words left field digits others n so_far cut none fits written = record {
  not_none = so_far.not_none;
  fit = All-push (λ w. w < 2 ^ 32) words n so_far.fit fits;
  split = more_split words left field digits (parts_at 44 others) so_far
      (first_part_at 44 left digits others cut none) n written;
}

-- which is the last one
pub all_read : (words left field : List ℕ) (n : ℕ) → ReadSoFar words left field → Lacks left 44 → n < 2 ^ 32
    → decimal n ≡ left → AreWords (words ++ n ∷ []) × (words_text (words ++ n ∷ []) ≡ field)
all_read words left field n so_far none fits written = (
  All-push (λ w. w < 2 ^ 32) words n so_far.fit fits,
  parts_are (words ++ n ∷ []) field
      (more_split words left field left [] so_far (only_part_at 44 left none) n written ∙ append-nil _),
)

module _ {words left field new : List ℕ} (so_far : ReadSoFar words left field) (none : Lacks left 44) where
  pub last_word : (w : ℕ) × (decimal w ≡ left) × (new ≡ words ++ w ∷ []) × (w < 2 ^ 32) → words_text new ≡ field
  last_word (w, written, is, fits) = rw is (all_read words left field w so_far none fits written).1

  pub last_fits : (w : ℕ) × (decimal w ≡ left) × (new ≡ words ++ w ∷ []) × (w < 2 ^ 32) → AreWords new
  last_fits (w, written, is, fits) = rw is (all_read words left field w so_far none fits written).0
