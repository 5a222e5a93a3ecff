-- What a request asks.
-- Public clauses rest on it.
use Rattle.std.specs.Prelude.{ℕ, Bool, List}
use Rattle.sre_request.specs.Terms.{Ghosts, StringCursor, Asked, items_of, uni_of}
use Rattle.std.specs.Borrow.{Bor}
use Rattle.sre_chars.specs.declared.constants.EmptyRule.{EmptyRule}
use Rattle.sre_code.specs.declared.code.Code.{Code}
use Rattle.sre_request.specs.declared.admitted.Admitted.{Admitted}
use Rattle.sre_request.specs.declared.request.Request.{Request}
use Rattle.sre_request.specs.Admitting.{AllAdmitted}

-- the parts of a request
abbrev pub string_of : {S : Type 0} {text : Ghosts S} → Request S text → S
string_of r = r.string

abbrev pub start_of : {S : Type 0} {text : Ghosts S} → Request S text → ℕ
start_of r = r.start

abbrev pub end_of : {S : Type 0} {text : Ghosts S} → Request S text → ℕ
end_of r = r.end

abbrev pub code_of : {S : Type 0} {text : Ghosts S} → Request S text → Code
code_of r = r.pattern_codes

abbrev pub match_all_of : {S : Type 0} {text : Ghosts S} → Request S text → Bool
match_all_of r = r.match_all

abbrev pub must_advance_of : {S : Type 0} {text : Ghosts S} → Request S text → Bool
must_advance_of r = r.must_advance

abbrev pub empty_rule_of : {S : Type 0} {text : Ghosts S} → Request S text → EmptyRule
empty_rule_of r = r.empty_rule

-- the text, table, window, flags and rule of a request
abbrev pub asked_of : {S : Type 0} {text : Ghosts S} → Request S text → Asked
asked_of {S} {text} r = record {
  text = text.text r.string;
  table = uni_of r.pattern_codes;
  start = r.start;
  end = r.end;
  match_all = r.match_all;
  must_advance = r.must_advance;
  empty_rule = r.empty_rule;
}

-- which cursors stand at which position of a request's text
abbrev pub stands_in : {S : Type 0} {text : Ghosts S} → Request S text → StringCursor → ℕ → Type 0
stands_in {S} {text} r = text.stands r.string

-- the list of what its code's places admit that a request carries
abbrev pub admitted_of : {S : Type 0} {text : Ghosts S} → Request S text → List Admitted
admitted_of r = r.admitted.now

-- the same request with another list of what its code's places admit; the model asks of no list
abbrev pub carrying : {S : Type 0} {text : Ghosts S} (r : Request S text) (list : Bor (List Admitted))
    → AllAdmitted (items_of r.pattern_codes) list.now → Request S text
carrying r list all = record {
  string = r.string;
  start = r.start;
  end = r.end;
  pattern_codes = r.pattern_codes;
  match_all = r.match_all;
  must_advance = r.must_advance;
  empty_rule = r.empty_rule;
  admitted = list;
  in_window = r.in_window;
  all_admitted = all;
}
