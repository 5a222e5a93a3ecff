-- The run of the machine for a request.
-- Definitions for the machine's contracts. What sre_engine makes public rests on them by `Starts::beyond` alone.
use Rattle.std.specs.Prelude.{ℕ}
use Rattle.sre_request.specs.Terms.{SreOpcode, Ghosts, StringCursor, subject_of, is_accepted, Opcode, items_of}
use Rattle.sre_model.specs.Standing.{HasTest}
use Rattle.sre_model.specs.Runs.{Run}
use Rattle.sre_request.specs.declared.request.Request.{Request}
use Rattle.sre_request.specs.Requests.{asked_of, stands_in}

-- a run of the machine for a request: over the words behind the block
abbrev pub run_of : {S : Type 0} {text : Ghosts S} → Request S text → Run
run_of r = record {
  words = items_of r.pattern_codes;
  subject = subject_of (asked_of r);
  stands = stands_in r;
  accepts = is_accepted (asked_of r);
}

-- a cursor stands at its own position of the text
abbrev pub Standing : {S : Type 0} {text : Ghosts S} → Request S text → StringCursor → Type 0
Standing r cursor = (run_of r).stands cursor cursor.position

-- an opcode is at a place of the words; a test is
abbrev pub OpcodeAt : {S : Type 0} {text : Ghosts S} → Request S text → ℕ → SreOpcode → Type 0
OpcodeAt r place code = Opcode (run_of r).words place code

abbrev pub TestAt : {S : Type 0} {text : Ghosts S} → Request S text → ℕ → Type 0
TestAt r place = HasTest (run_of r).words place
