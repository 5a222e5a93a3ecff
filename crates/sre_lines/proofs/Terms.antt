-- The words and the laws from elsewhere, and the words of specs/, which proofs of this crate name.
pub use Rattle.std.specs.Prelude.{All, Contains, IfErr, IfNone, IfSome, OnErr, OnOk, codes}
pub use Rattle.std.proofs.Common.{Bool, Bor, Err, List, None, Ok, Option, Result, Some, [], add-one, ap, append_assoc}
pub use Rattle.std.proofs.Common.{arith, drop, false, get_or, inl, inr, length, length-append, lit<, map, refl, rules}
pub use Rattle.std.proofs.Common.{string_bytes, subst, suc, sym, take, take-append-drop, true, zero, ℕ, ◌%◌, ◌*◌, ◌++◌}
pub use Rattle.std.proofs.Common.{◌+◌, ◌/◌, ◌<◌, ◌==◌, ◌^◌, ◌∙◌, ◌∷◌, ◌≡◌, ◌≢◌, ◌≤◌, ◌⊎◌}
pub use Rattle.std.proofs.KnownBytes.{Appends-kept, Appends-trans}
pub use Rattle.std.proofs.Math.Seq.{take-suc}
pub use Rattle.std.proofs.lemmas.Bool.{cases_lt, eqb-true}
pub use Rattle.std.proofs.lemmas.Bool.Decides.{Decides-eqb, nat_tests}
pub use Rattle.std.proofs.lemmas.Fmt.{IsAscii-decimal, decimal-digits_value, decimal_injective}
pub use Rattle.std.proofs.lemmas.List.{append-nil, append_cancel_left, get_or_default, length-map, map-append, take_all}
pub use Rattle.std.proofs.lemmas.List.Elements.{All-cons, All-contains, All-from_recursion, All-get_or, All-head}
pub use Rattle.std.proofs.lemmas.List.Elements.{All-more, All-nil, All-push, All-tail, Contains-append_cases}
pub use Rattle.std.proofs.lemmas.List.Elements.{Contains-append_right}
pub use Rattle.std.proofs.lemmas.List.Splits.{join_with_byte-slice_split, length-slice_split}
pub use Rattle.std.proofs.lemmas.Result.{IfOk-weaker, on_ok_weaker}
pub use Rattle.std.proofs.lemmas.Str.Parse.{IsNumeralModel, numerals_by_value}
pub use Rattle.std.specs.Fn.{FnReturnsAt}
pub use Rattle.std.specs.Int.{IsInRange}
pub use Rattle.std.specs.List.{AllByRecursion, flat_map, join_with_byte}
pub use Rattle.std.specs.Str.Parse.{AllDigits, ParsesUnsigned, digits_value}
pub use Rattle.sre_chars.specs.Errors.{table_fault}
pub use Rattle.sre_chars.specs.Lists.{table_with}
pub use Rattle.sre_finder.specs.SpanIters.{left_of, request_of}
pub use Rattle.sre_lines.specs.Answers.{fault_text, number_text}
pub use Rattle.sre_lines.specs.Causes.{HasEnds, IsBytes, IsCause, IsCauseOf, IsFlag, IsFlagsField, IsHexDigit}
pub use Rattle.sre_lines.specs.Causes.{IsNoSubject, IsNumberFault, IsPlace, IsWindowField, IsWord, IsWords}
pub use Rattle.sre_lines.specs.Causes.{IsWordsFault, fields_of, parts_at}
pub use Rattle.sre_lines.specs.Fields.{AreWords, BeginsAsNumber, IsCase, IsSubject, IsText, IsWindow, bytes_text}
pub use Rattle.sre_lines.specs.Fields.{case_text, fields_text, flags_text, form_text, hex_text, subject_text, verb}
pub use Rattle.sre_lines.specs.Fields.{verb_text, window_text, words_text}
pub use Rattle.sre_lines.specs.Lines.{Answered, AreAnswered, IsAnswered, IsBegun, IsLineAt, IsNoCase, StopsAt, lines_of}
pub use Rattle.sre_lines.specs.Output.{AppendsPart}
pub use Rattle.sre_lines.specs.TableFiles.{numbers_of}
pub use Rattle.sre_lines.specs.Terms.{Appends, IsNumeral, Table}
pub use Rattle.sre_lines.specs.Terms.{Tree, Whole, code_of, decimal, digit_glyph, lists_fault, words_of}
pub use Rattle.sre_lines.specs.declared.cases.CaseFault.{CaseFault}
pub use Rattle.sre_lines.specs.declared.cases.CaseFault.TheVariants.{NoMemory, NotACase, NotATable, OutputFailed}
pub use Rattle.sre_lines.specs.declared.cases.Detail.{Detail}
pub use Rattle.sre_lines.specs.declared.line.Case.{Case}
pub use Rattle.sre_lines.specs.declared.line.Case.TheVariants.{Check}
pub use Rattle.sre_lines.specs.declared.line.Finding.{Finding}
pub use Rattle.sre_lines.specs.declared.line.Subject.{Subject}
pub use Rattle.sre_lines.specs.declared.line.TextForm.{TextForm}
pub use Rattle.sre_lines.specs.declared.line.TextForm.TheVariants.{Bytes, Utf8}
pub use Rattle.sre_lines.specs.declared.line.Verb.{Verb}
pub use Rattle.sre_lines.specs.declared.line.Verb.TheVariants.{Find}
pub use Rattle.sre_lines.specs.declared.line.Window.TheVariants.{Span}
