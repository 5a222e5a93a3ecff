use Rattle.sre_finder.proofs.haystack.RefStrHaystack.hay.Goals as goal

pub returns-in-Ascii : goal.returns-in-Ascii
returns-in-Ascii c = rw c.in-Ascii.is c.ascii_up_to.ensures

pub returns-in-Utf8 : goal.returns-in-Utf8
returns-in-Utf8 c = rw c.in-Utf8.is c.text_up_to.ensures
