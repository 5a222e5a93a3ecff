-- Positions, as assertions of the pattern.
use Rattle.std.specs.Prelude.{Option, Some, None}
use Rattle.sre_patterns.specs.Terms.{Look, SreAtCode}
use Rattle.regex_hir.specs.declared.look.Look.TheVariants.{Start, End, StartLf, EndLf, WordAscii, WordAsciiNegate}
use Rattle.sre_chars.specs.declared.constants.SreAtCode.TheVariants.{BEGINNING, BEGINNING_LINE, BEGINNING_STRING}
use Rattle.sre_chars.specs.declared.constants.SreAtCode.TheVariants.{BOUNDARY, NON_BOUNDARY, END, END_LINE, END_STRING}
use Rattle.sre_chars.specs.declared.constants.SreAtCode.TheVariants.{LOC_BOUNDARY, LOC_NON_BOUNDARY, UNI_BOUNDARY}
use Rattle.sre_chars.specs.declared.constants.SreAtCode.TheVariants.{UNI_NON_BOUNDARY}

-- the assertion that holds wherever a position's condition does; none where a table says what a word is
abbrev pub look_of : SreAtCode → Option Look
look_of BEGINNING = Some Start
look_of BEGINNING_LINE = Some StartLf
look_of BEGINNING_STRING = Some Start
look_of BOUNDARY = Some WordAscii
look_of NON_BOUNDARY = Some WordAsciiNegate
look_of END = Some EndLf
look_of END_LINE = Some EndLf
look_of END_STRING = Some End
look_of LOC_BOUNDARY = Some WordAscii
look_of LOC_NON_BOUNDARY = Some WordAsciiNegate
look_of a = None

-- the assertion that holds just where a position's condition does; none where no assertion does, or a table decides
abbrev pub exact_look : SreAtCode → Option Look
exact_look BEGINNING = Some Start
exact_look BEGINNING_LINE = Some StartLf
exact_look BEGINNING_STRING = Some Start
exact_look BOUNDARY = Some WordAscii
exact_look END_LINE = Some EndLf
exact_look END_STRING = Some End
exact_look LOC_BOUNDARY = Some WordAscii
exact_look a = None

-- the position that holds at the same places of a text of ASCII, where each table has the same words
abbrev pub in_ascii : SreAtCode → SreAtCode
in_ascii UNI_BOUNDARY = BOUNDARY
in_ascii UNI_NON_BOUNDARY = NON_BOUNDARY
in_ascii a = a
