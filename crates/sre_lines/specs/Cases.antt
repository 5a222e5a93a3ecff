-- What a case requests, and how it is answered.
use Rattle.std.specs.Prelude.{ℕ, ◌≡◌, ◌≢◌, ◌≤◌, ◌⊎◌, ◌++◌, Bool, true, false, List, [], ◌∷◌, length, Option, Some, None}
use Rattle.std.specs.Prelude.{codes, min}
use Rattle.sre_lines.specs.Terms.{decimal, signed_decimal, flat_map, Table, Tree, Whole, found, walk, place_of}
use Rattle.sre_lines.specs.Terms.{CodeError, Memory, chars, IsCode, Asked, Match, matched}
use Rattle.sre_engine.specs.Hinted.{Confirmed}
use Rattle.sre_engine.specs.Hints.{Hints}
use Rattle.sre_lines.specs.declared.cases.Detail.{Detail}
use Rattle.sre_lines.specs.declared.cases.Detail.TheVariants.{Plain, Explained}
use Rattle.sre_lines.specs.declared.line.Case.{Case}
use Rattle.sre_lines.specs.declared.line.Case.TheVariants.{Check, Find}
use Rattle.sre_lines.specs.declared.line.Finding.{Finding}
use Rattle.sre_lines.specs.declared.line.Finding.TheVariants.{Match as At, Search, Walk}
use Rattle.sre_lines.specs.declared.line.Subject.{Subject}
use Rattle.sre_lines.specs.declared.line.TextForm.{TextForm}
use Rattle.sre_lines.specs.declared.line.TextForm.TheVariants.{Bytes, Utf8}
use Rattle.sre_lines.specs.declared.line.Window.{Window}
use Rattle.sre_lines.specs.declared.line.Window.TheVariants.{Whole as Whole-Text, Span}
use Rattle.sre_lines.specs.Answers.{hints_text, marks_text, refusal_text}

-- the characters that the bytes of a text stand for
abbrev pub characters : TextForm → List ℕ → List ℕ
characters Bytes bytes = bytes
characters Utf8 bytes = chars bytes

-- where a window of n characters ends, and where it starts
abbrev pub window_end : Window → ℕ → ℕ
window_end Whole-Text n = n
window_end (Span start end) n = min end n

abbrev pub window_start : Window → ℕ → ℕ
window_start Whole-Text n = 0
window_start (Span start end) n = min start (min end n)

-- what a case asks of a table and the characters of its text
abbrev pub asked : Subject → Table → List ℕ → Asked
asked subject table text = record {
  text = text;
  table = table;
  start = window_start subject.window (length text);
  end = window_end subject.window (length text);
  match_all = subject.flags.match_all;
  must_advance = subject.flags.must_advance;
  empty_rule = subject.flags.empty_rule;
}

-- a match, or that there is none
abbrev pub match_text : Option Match → List ℕ
match_text None = codes "no"
match_text (Some m) =
    codes "yes " ++ decimal m.start ++ codes ".." ++ decimal m.end ++ codes " last " ++ signed_decimal m.marks.last
    ++ codes " marks " ++ marks_text m.marks.raw

-- where a match starts and ends
abbrev pub span_text : Match → List ℕ
span_text m = decimal m.start ++ codes ".." ++ decimal m.end

-- what stands before a span: nothing before the first one, else a space
abbrev pub gap_text : Bool → List ℕ
gap_text true = []
gap_text false = codes " "

-- spans behind another one
abbrev pub others_text : List Match → List ℕ
others_text ms = flat_map (λ m. gap_text false ++ span_text m) ms

-- the spans of a walk's matches divided by spaces, or that there is none
abbrev pub walk_text : List Match → List ℕ
walk_text [] = codes "none"
walk_text (m ∷ ms) = span_text m ++ others_text ms

-- what is found
abbrev pub found_text : Finding → Asked → Tree → List ℕ
found_text At a t = match_text (matched a t)
found_text Search a t = match_text (found a t)
found_text Walk a t = walk_text (walk a t)

-- the answer to a case whose words are a tree's
abbrev pub IsAnswerOf : Tree → Table → Case → List ℕ → List ℕ → List ℕ → Type 0
IsAnswerOf t table Check words text answer =
    (hints : Hints) × Confirmed words table t hints
    × (answer ≡ hints_text hints.width hints.prefix hints.literal hints.first_set)
IsAnswerOf t table (Find finding subject) words text answer =
    answer ≡ found_text finding (asked subject table (characters subject.text text)) t

-- what is answered to words that are no code: where causes are told, a `check` tells a cause and its place as well
abbrev pub IsRefusal : Detail → Case → List ℕ → List ℕ → Type 0
IsRefusal Plain case words answer = answer ≡ codes "refused"
IsRefusal Explained Check words answer =
    (error : CodeError) × (error ≢ Memory) × (place_of error ≤ length words) × (answer ≡ refusal_text error)
IsRefusal Explained (Find finding subject) words answer = answer ≡ codes "refused"

-- the answer to a case: that of its words' tree, a refusal where they have none, or `memory`
abbrev pub IsAnswer : Detail → Table → Case → List ℕ → List ℕ → List ℕ → Type 0
IsAnswer detail table case words text answer =
    ((t : Tree) × Whole words t × IsAnswerOf t table case words text answer)
    ⊎ ((¬ (IsCode words)) × IsRefusal detail case words answer)
    ⊎ (answer ≡ codes "memory")
